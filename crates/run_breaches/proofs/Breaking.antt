-- A message that breaks a rule does not keep them all.
use Rattle.std.proofs.Common.{◌≡◌, ℕ, inl, inr, Bool, true, false, IsTrue, IsSome, List, Option, Some, None}
use Rattle.std.specs.List.{All, Any}
use Rattle.ballots.specs.Ballot.{Ballot}
use Rattle.ballots.specs.declared.value.Value.{Value}
use Rattle.ballots.specs.declared.message.Message.{Message}
use Rattle.ballots.specs.declared.message.Body.{Body}
use Rattle.ballots.specs.declared.message.Body.TheVariants as body
use Rattle.ballots.specs.Message.{message}
use Rattle.lawful_histories.specs.Saying.{Report}
use Rattle.run_breaches.specs.declared.breach.BrokenRules.{BrokenRules}
use Rattle.run_breaches.specs.declared.breach.BrokenRules.TheVariants.{Promise, Accept, Accepted, Decided}
use Rattle.run_breaches.specs.Earlier.{LetsPropose, LetsAccept, LetsPromise, LetsReport, Promises, IsWithin, IsPromiseWith, MostPromised, IsPromised, MayBeProposed, WasProposed}
use Rattle.run_breaches.specs.Rules.{Tells, IsFirstAgainst, TellsReport, IsReportBelow, IsReportProposed, BodyBreaks, BodyKeeps, IsSomeBroken}
use Rattle.run_breaches.proofs.Majorities.{most_weaker}
use Rattle.run_breaches.proofs.Sendings.{report_is}

-- any message: what a read past the end would give
blank : Message
blank = message 0 0 body.Ask

place_against : (before : List Message) (Lets : Message → Type 0) (place : Option ℕ) → IsFirstAgainst before Lets place → IsSome place → All Lets before → ⊥
place_against before Lets None first some all = absurd (let no : false ≡ true = some in cc)
place_against before Lets (Some j) first some all = first.1 blank (all j blank first.0)

flag_against : (broken : Bool) (Kept : Type 0) → Tells broken Kept → IsTrue broken → Kept → ⊥
flag_against true Kept tells is kept = absurd (let no : false ≡ true = tells.1 kept in cc)
flag_against false Kept tells is kept = absurd (let no : false ≡ true = is in cc)

module _ (n s : ℕ) (before : List Message) where
  less_asked : (b : Ballot) (P : Report → Type 0) (a : ℕ) → Any (Promises s b P a) before → Any (Promises s b (λ r. Unit {0}) a) before
  less_asked b P a h = (h.0, h.1, h.2, h.3, (h.4.0, h.4.1, less h.1.body h.4.2))
    where
      less : (x : Body) → IsPromiseWith b P x → IsPromiseWith b (λ r. Unit {0}) x
      less (body.Promise c r) p = (p.0, tt)
      less other p = absurd p

  pub promised_where_safe : (b : Ballot) (v : Value) → MayBeProposed n s before b v → IsPromised n s before b
  promised_where_safe b v (inl free) =
      most_weaker n (λ a. Any (Promises s b (IsWithin None) a) before) (λ a. Any (Promises s b (λ r. Unit {0}) a) before) (λ a lt h. less_asked b (IsWithin None) a h) free
  promised_where_safe b v (inr found) =
      let shown = report_is n s b (λ q. (q.value ≡ v) × MostPromised n s before b (IsWithin (Some q.ballot))) found.1 found.4 in
      let bound : Option Ballot = Some (shown.0).ballot in
      most_weaker n (λ a. Any (Promises s b (IsWithin bound) a) before) (λ a. Any (Promises s b (λ r. Unit {0}) a) before) (λ a lt h. less_asked b (IsWithin bound) a h) shown.2.1

  report_against : (b : Ballot) (v : Value) (place : Option ℕ) → TellsReport n s before b v place → IsSome place → MayBeProposed n s before b v → ⊥
  report_against b v None tells some safe = absurd (let no : false ≡ true = some in cc)
  report_against b v (Some j) tells some safe = tells.1 safe

  not_keeping : (a : ℕ) (x : Body) (broken : BrokenRules) → BodyBreaks n s before a x broken → IsSomeBroken broken → BodyKeeps n s before a x → ⊥
  not_keeping a (body.Promise b r) (Promise not_above unreported report_not_below report_not_proposed) breaks some keeps = elim some as (λ _. ⊥) [
    | inl first ↦ place_against before (LetsPromise s a b) not_above breaks.above first keeps.above
    | inr more ↦ elim more as (λ _. ⊥) [
      | inl second ↦ place_against before (LetsReport s a r) unreported breaks.highest second keeps.highest
      | inr last ↦ elim last as (λ _. ⊥) [
        | inl third ↦ flag_against report_not_below (IsReportBelow r b) breaks.below third keeps.below
        | inr fourth ↦ flag_against report_not_proposed (IsReportProposed s before r) breaks.proposed fourth keeps.proposed
      ]
    ]
  ]
  not_keeping a (body.Accept p) (Accept second_value not_promised not_reported) breaks some keeps = elim some as (λ _. ⊥) [
    | inl first ↦ place_against before (LetsPropose s p.ballot p.value) second_value breaks.only first keeps.only
    | inr more ↦ elim more as (λ _. ⊥) [
      | inl second ↦ flag_against not_promised (IsPromised n s before p.ballot) breaks.promised second (promised_where_safe p.ballot p.value keeps.safe)
      | inr third ↦ report_against p.ballot p.value not_reported breaks.reported third keeps.safe
    ]
  ]
  not_keeping a (body.Accepted p) (Accepted not_proposed below) breaks some keeps = elim some as (λ _. ⊥) [
    | inl first ↦ flag_against not_proposed (WasProposed s before p.ballot p.value) breaks.proposed first keeps.proposed
    | inr second ↦ place_against before (LetsAccept s a p.ballot) below breaks.least second keeps.least
  ]
  not_keeping a (body.Decided v) Decided breaks some keeps = breaks keeps
  not_keeping a x broken breaks some keeps = absurd breaks

pub breaking_is_not_keeping : (n s : ℕ) (before : List Message) (a : ℕ) (x : Body) (broken : BrokenRules)
    → BodyBreaks n s before a x broken → IsSomeBroken broken → BodyKeeps n s before a x → ⊥
breaking_is_not_keeping n s before a x broken = not_keeping n s before a x broken
