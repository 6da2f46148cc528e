use Rattle.std.proofs.Common.{rules}
use Rattle.lawful_histories.proofs.judge.may_promise.Goals as goal

pub returns-then-may_report : goal.returns-then-may_report
returns-then-may_report c = search rules steps 300000

pub returns-else-may_report : goal.returns-else-may_report
returns-else-may_report c = search rules steps 300000
