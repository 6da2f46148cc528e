use Rattle.std.proofs.Common.{◌≡◌, ℕ, ◌≤◌, List, map, refl, sym, subst, arith}
use Rattle.std.proofs.lemmas.Grind.{common_steps}
use Rattle.ballots.specs.Limits.{max_slot}
use Rattle.ballots.specs.declared.value.Value.{Value}
use Rattle.proposer.specs.declared.reports.Reports.{Reports as Left}
use Rattle.proposer.specs.Choosing.{Chooses}
use Rattle.proposer.specs.Kept.{AheadState, reported_at, reports_in, RiseFrom}
use Rattle.proposer.proofs.ahead.Ahead.see_go_on.Goals as goal

pub returns-clause-gives : goal.returns-clause-gives
returns-clause-gives c =
    let copy : c.in_ok-value.value ≡ c.seen.result.now = grind (arith, common_steps) in
    let within : c.args.self.now.next ≤ max_slot = c.in-Some.ensures.within.0 refl in
    let chosen : RiseFrom c.in-Some.slot (map reports_in c.self.inside.kept.items) → Chooses c.args.candidate.now (reported_at c.in-Some.slot (map reports_in c.self.inside.kept.items)) c.in_ok-value.value =
    subst (λ (v : Value). RiseFrom c.in-Some.slot (map reports_in c.self.inside.kept.items) → Chooses c.args.candidate.now (reported_at c.in-Some.slot (map reports_in c.self.inside.kept.items)) v) (sym copy)
    (subst (λ (l : List Left). RiseFrom c.in-Some.slot (map reports_in l) → Chooses c.args.candidate.now (reported_at c.in-Some.slot (map reports_in l)) c.seen.result.now) c.as_slice.ensures.value c.seen.ensures) in (
      within,
      c.in-Some.ensures.value,
      subst (λ (n : ℕ). RiseFrom n c.args.self.now.kept → Chooses c.args.candidate.now (reported_at n c.args.self.now.kept) c.in_ok-value.value) c.in-Some.ensures.value
          (subst (λ (s : AheadState). RiseFrom c.in-Some.slot s.kept → Chooses c.args.candidate.now (reported_at c.in-Some.slot s.kept) c.in_ok-value.value) c.self.view_is chosen),
    )
