use Rattle.std.proofs.Common.{rules}
use Rattle.lawful_histories.proofs.judge.may_report.Goals as goal

pub returns-then-is_below : goal.returns-then-is_below
returns-then-is_below c = search rules steps 300000

pub returns-else-is_below : goal.returns-else-is_below
returns-else-is_below c = search rules steps 300000

pub returns-in-None : goal.returns-in-None
returns-in-None c = search rules steps 300000
