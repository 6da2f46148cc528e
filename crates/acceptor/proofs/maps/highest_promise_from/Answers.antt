use Rattle.std.proofs.Common.{ℕ, ◌<◌, ◌≤◌, List, [], ◌∷◌, ◌++◌, sym, subst, rules}
use Rattle.std.specs.Map.Iter.{deref_pair}
use Rattle.std.proofs.lemmas.Map.Iter.{rest_more, rest_all}
use Rattle.ballots.specs.Ballot.{Ballot}
use Rattle.acceptor.proofs.Reporting.{HighestOf, entry_more, entries_all, highest_passed, highest_with, highest_found}
use Rattle.acceptor.proofs.maps.highest_promise_from.Goals as goal

pub loop-slot-preserved-then-least-number : goal.loop-slot-preserved-then-least-number
loop-slot-preserved-then-least-number c =
    let done = c.loop-slot.invariant.0 in
    let entry : ℕ × Ballot = (c.in-Some.slot.now, c.in-Some.ballot.now) in
    let left = rest_more deref_pair c.loop-slot.slot-iterator c.next.new.self c.next.result (c.in-Some.slot, c.in-Some.ballot) c.in-Some.is c.next.ensures.steps in
    let from : c.args.first ≤ c.in-Some.slot.now = search rules in (
      done ++ entry ∷ [],
      entry_more done c.loop-slot.slot-iterator c.next.new.self c.args.promises.now.entries entry c.loop-slot.invariant.1 left,
      subst (HighestOf (done ++ entry ∷ []) c.args.first) (sym c.higher_of-highest.ensures)
          (highest_with done c.args.first c.loop-slot.highest c.in-Some.slot.now c.in-Some.ballot.now c.loop-slot.invariant.2 (from, c.number.ensures.within)),
    )

pub loop-slot-preserved : goal.loop-slot-preserved
loop-slot-preserved c =
    let done = c.loop-slot.invariant.0 in
    let entry : ℕ × Ballot = (c.in-Some.slot.now, c.in-Some.ballot.now) in
    let left = rest_more deref_pair c.loop-slot.slot-iterator c.next.new.self c.next.result (c.in-Some.slot, c.in-Some.ballot) c.in-Some.is c.next.ensures.steps in
    let below : c.in-Some.slot.now < c.args.first = search rules in (
      done ++ entry ∷ [],
      entry_more done c.loop-slot.slot-iterator c.next.new.self c.args.promises.now.entries entry c.loop-slot.invariant.1 left,
      highest_passed done c.args.first c.loop-slot.highest entry c.loop-slot.invariant.2 below,
    )

pub returns-clause-highest : goal.returns-clause-highest
returns-clause-highest c =
    let all = entries_all c.loop-slot.invariant.0 c.loop-slot.slot-iterator c.args.promises.now.entries c.loop-slot.invariant.1
    (rest_all deref_pair c.loop-slot.slot-iterator c.next.new.self c.next.result c.in-None.is c.next.ensures.steps) in
    highest_found c.args.promises.now.entries c.args.first c.loop-slot.highest c.into_iter-slot-iterator.ensures.into_iter_gives.4
    (subst (λ (l : List (ℕ × Ballot)). HighestOf l c.args.first c.loop-slot.highest) all c.loop-slot.invariant.2)
