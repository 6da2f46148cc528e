use Rattle.std.proofs.Common.{Some}
use Rattle.proposer.proofs.Highest.{best_changes, best_is_chosen}
use Rattle.proposer.proofs.choice.higher_value.Goals as goal

pub returns-in-Some : goal.returns-in-Some
returns-in-Some c = λ candidate reports is_best. rw c.in-Some.is
    (best_is_chosen candidate _ (Some c.in-Some.report.now.ballot) c.in-Some.report.now.value (best_changes candidate reports c.args.choice.now.reported_at c.args.choice.now.value c.in-Some.report.now (c.is_better.ensures.0 c.if-is_better.true) is_best))
