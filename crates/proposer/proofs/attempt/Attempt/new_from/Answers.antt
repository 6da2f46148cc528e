use Rattle.std.proofs.Common.{Some, refl}
use Rattle.proposer.specs.Call.{AllFrom, Begun}
use Rattle.proposer.proofs.Counting.{counts_nothing}
use Rattle.proposer.proofs.Going.{keeps_nothing}
use Rattle.proposer.proofs.attempt.Attempt.new_from.Goals as goal

pub returns-clause-counts : goal.returns-clause-counts
returns-clause-counts c = λ members.
    counts_nothing members c.args.candidate c.own.result
    (record { slot = c.args.slot; ballot = c.args.ballot; counted = c.new.result; choice = Some c.own.result; ahead = Some c.new-2.result }) c.new.ensures refl c.own.ensures

pub returns-clause-ahead : goal.returns-clause-ahead
returns-clause-ahead c = λ seen_round members.
    let begun : Begun = record { slot = c.args.slot; reach = AllFrom; seen_round = seen_round; candidate = c.args.candidate; ballot = c.args.ballot } in
    (refl, keeps_nothing members c.args.slot begun c.new.result c.new-2.result c.new.ensures refl c.new-2.ensures.next c.new-2.ensures.kept)
