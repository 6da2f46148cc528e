use Rattle.std.proofs.Common.{◌≡◌, ℕ, ◌≤◌, List, map, refl, subst}
use Rattle.ballots.specs.Limits.{max_slot}
use Rattle.proposer.specs.declared.reports.Reports.{Reports as Left}
use Rattle.proposer.specs.Choosing.{Chooses}
use Rattle.proposer.specs.Kept.{AheadState, reported_at, reports_in, RiseFrom, AllRise}
use Rattle.proposer.proofs.Keeping.{chosen_next}
use Rattle.proposer.proofs.ahead.Ahead.go_on.Goals as goal

pub returns-clause-gives : goal.returns-clause-gives
returns-clause-gives c =
    subst (λ (s : AheadState). (s.next ≤ max_slot) × (c.in_ok-slot.slot ≡ s.next) × (AllRise s → Chooses c.args.candidate (reported_at s.next s.kept) c.taken-choice.result.value)) c.self.view_is (
      c.in_ok-slot.ensures.within.0 refl,
      c.in_ok-slot.ensures.value,
      subst (λ (n : ℕ). RiseFrom n (map reports_in c.self.inside.kept.items) → Chooses c.args.candidate (reported_at n (map reports_in c.self.inside.kept.items)) c.taken-choice.result.value) c.in_ok-slot.ensures.value
          (subst (λ (l : List Left). RiseFrom c.in_ok-slot.slot (map reports_in l) → Chooses c.args.candidate (reported_at c.in_ok-slot.slot (map reports_in l)) c.taken-choice.result.value) c.as_mut_slice.ensures.value
          (chosen_next c.args.candidate c.in_ok-slot.slot (map reports_in c.as_mut_slice.result.now) c.own.result c.taken-choice.result c.own.ensures c.taken-choice.ensures.best)),
    )
