use Rattle.std.proofs.Common.{◌≡◌, ℕ, ◌<◌, ◌≤◌, List, [], ◌∷◌, ◌++◌, sym, subst, rules}
use Rattle.std.specs.Map.Iter.{deref_pair}
use Rattle.std.proofs.lemmas.Map.Iter.{rest_more, rest_all}
use Rattle.ballots.specs.declared.acceptance.Acceptance.{Acceptance}
use Rattle.acceptor.proofs.Reporting.{Reported, entry_more, entries_all, report_passed, report_with, reports_found}
use Rattle.acceptor.proofs.maps.acceptances_from.Goals as goal

pub loop-slot-preserved-in_ok-push : goal.loop-slot-preserved-in_ok-push
loop-slot-preserved-in_ok-push c =
    let done = c.loop-slot.invariant.0 in
    let entry : ℕ × Acceptance = (c.in-Some.slot.now, c.in-Some.acceptance.now) in
    let left = rest_more deref_pair c.loop-slot.slot-iterator c.next.new.self c.next.result (c.in-Some.slot, c.in-Some.acceptance) c.in-Some.is c.next.ensures.steps in
    let from : c.args.first ≤ c.in-Some.slot.now = search rules in
    let pushed : c.push.new.self.items ≡ c.loop-slot.reports.items ++ entry ∷ [] = search rules in (
      done ++ entry ∷ [],
      entry_more done c.loop-slot.slot-iterator c.next.new.self c.args.acceptances.now.entries entry c.loop-slot.invariant.1 left,
      subst (Reported (done ++ entry ∷ []) c.args.first) (sym pushed)
          (report_with done c.args.first c.loop-slot.reports.items entry c.loop-slot.invariant.2 (from, c.number-in-loop-slot.ensures.within)),
    )

pub loop-slot-preserved : goal.loop-slot-preserved
loop-slot-preserved c =
    let done = c.loop-slot.invariant.0 in
    let entry : ℕ × Acceptance = (c.in-Some.slot.now, c.in-Some.acceptance.now) in
    let left = rest_more deref_pair c.loop-slot.slot-iterator c.next.new.self c.next.result (c.in-Some.slot, c.in-Some.acceptance) c.in-Some.is c.next.ensures.steps in
    let below : c.in-Some.slot.now < c.args.first = search rules in (
      done ++ entry ∷ [],
      entry_more done c.loop-slot.slot-iterator c.next.new.self c.args.acceptances.now.entries entry c.loop-slot.invariant.1 left,
      report_passed done c.args.first c.loop-slot.reports.items entry c.loop-slot.invariant.2 below,
    )

pub returns : goal.returns
returns c =
    let all = entries_all c.loop-slot.invariant.0 c.loop-slot.slot-iterator c.args.acceptances.now.entries c.loop-slot.invariant.1
    (rest_all deref_pair c.loop-slot.slot-iterator c.next.new.self c.next.result c.in-None.is c.next.ensures.steps) in
    reports_found c.args.acceptances.now.entries c.args.first c.loop-slot.reports.items c.requires c.into_iter-slot-iterator.ensures.into_iter_gives.4
    (subst (λ (l : List (ℕ × Acceptance)). Reported l c.args.first c.loop-slot.reports.items) all c.loop-slot.invariant.2)
