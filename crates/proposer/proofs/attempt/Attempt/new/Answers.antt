use Rattle.std.proofs.Common.{Some, None, refl}
use Rattle.proposer.proofs.Counting.{counts_nothing}
use Rattle.proposer.proofs.attempt.Attempt.new.Goals as goal

pub returns-clause-counts : goal.returns-clause-counts
returns-clause-counts c = λ members.
    counts_nothing members c.args.candidate c.own.result
    (record { slot = c.args.slot; ballot = c.args.ballot; counted = c.new.result; choice = Some c.own.result; ahead = None }) c.new.ensures refl c.own.ensures
