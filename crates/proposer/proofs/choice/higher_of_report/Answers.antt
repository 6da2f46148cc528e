use Rattle.proposer.proofs.Highest.{best_changes}
use Rattle.proposer.proofs.choice.higher_of_report.Goals as goal

pub returns : goal.returns
returns c = λ candidate reports is_best.
    best_changes candidate reports c.args.choice.reported_at c.args.choice.value c.args.report (c.is_better.ensures.0 c.if-not-is_better.false) is_best
