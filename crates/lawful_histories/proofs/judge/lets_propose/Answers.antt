use Rattle.std.proofs.Common.{rules}
use Rattle.lawful_histories.proofs.judge.lets_propose.Goals as goal

pub returns-then-reports : goal.returns-then-reports
returns-then-reports c = search rules steps 300000

pub returns-else-reports : goal.returns-else-reports
returns-else-reports c = search rules steps 300000

pub returns-in_default : goal.returns-in_default
returns-in_default c = search rules steps 300000
