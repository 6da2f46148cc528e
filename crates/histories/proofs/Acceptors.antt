-- What an acceptor answers by its records is what the rules ask: it has a record of all that it promised and accepted.
use Rattle.std.proofs.Common.{◌≡◌, ℕ, inl, inr, Bool, true, false, cond, nat_eq, if◌then◌else◌, List, ◌∷◌, ◌++◌, filter_map, Option, Some, None, refl, sym, ap, subst, eq-eqb}
use Rattle.std.specs.List.{Contains}
use Rattle.std.proofs.lemmas.List.Elements.{Contains-append_cases}
use Rattle.ballots.specs.Ballot.{Ballot, IsBelow, IsAbove, IsAtLeast}
use Rattle.ballots.specs.declared.value.Value.{Value}
use Rattle.ballots.specs.declared.acceptance.Acceptance.{Acceptance}
use Rattle.ballots.specs.declared.record.Record.{Record}
use Rattle.ballots.specs.declared.record.Record.TheVariants.{Began, Promised, Accepted as HasAccepted, PromisedFrom}
use Rattle.ballots.specs.Acceptance.{acceptance}
use Rattle.ballots.proofs.CallerLemmas.{not_below_itself, below_carried, below_above, not_below_more}
use Rattle.acceptor.specs.Standing.{Standing}
use Rattle.acceptor.specs.Restored.{promise_in, acceptance_in, IsHighest, IsLastHighest, IsRestored}
use Rattle.lawful_histories.specs.Saying.{Saying, Promise, Accepted}
use Rattle.histories.proofs.Lists.{nothing_in, first_or_rest, in_middle, into_map, out_of_map}
use Rattle.histories.proofs.Rules.{AllowsReport, AllowsPromise, AllowsAccepted}
use Rattle.histories.proofs.Knowing.{RecordsPromise, RecordsAcceptance, WasProposed, KnowsRecords}

-- ---- a record of a slot

pub own_slot : {X : Type 0} (slot : ℕ) (x : X) → (if nat_eq slot slot then Some x else None) ≡ Some x
own_slot {X} slot x = ap (λ (t : Bool). let o : Option X = cond t (Some x) None in o) (eq-eqb slot slot refl)

promise_step : (x y : Acceptance) (t : Bool) → cond t (Some y) None ≡ Some x → cond t (Some y.ballot) None ≡ Some x.ballot
promise_step x y true gives =
    let alike : y ≡ x = cc in
    ap (λ (z : Acceptance). Some z.ballot) alike
promise_step x y false gives = absurd (let no : None ≡ Some x = gives in cc)

-- a record of an acceptance tells of a promise of its ballot too
promises_too : (slot : ℕ) (r : Record) (x : Acceptance) → acceptance_in slot r ≡ Some x → promise_in slot r ≡ Some x.ballot
promises_too slot (Began b) x gives = absurd (let no : None ≡ Some x = gives in cc)
promises_too slot (Promised of b) x gives = absurd (let no : None ≡ Some x = gives in cc)
promises_too slot (HasAccepted of y) x gives = promise_step x y (nat_eq slot of) gives
promises_too slot (PromisedFrom first b) x gives = absurd (let no : None ≡ Some x = gives in cc)

records_promise_too : (records : List Record) (slot : ℕ) (x : Acceptance) → RecordsAcceptance records slot x → RecordsPromise records slot x.ballot
records_promise_too records slot x has =
    let it = out_of_map (acceptance_in slot) records x has in
    into_map (promise_in slot) records it.of x.ballot (promises_too slot it.of x it.gives) it.is_in

-- ---- the promise that is held

-- something is promised, and it is not below this ballot
abbrev IsHeld : Option Ballot → Ballot → Type 0
IsHeld promised c = (held : Ballot) × (promised ≡ Some held) × (IsBelow held c → ⊥)

held_at_least : (ballots : List Ballot) (o : Option Ballot) (c : Ballot) → IsHighest ballots o → Contains ballots c → IsHeld o c
held_at_least ballots None c is has = absurd (nothing_in c (subst (λ (l : List Ballot). Contains l c) is has))
held_at_least ballots (Some held) c is has = (held, refl, is.1 c has)

module _ (WasSaid : ℕ → Saying → Type 0) (me : ℕ) (records : List Record) (old : Standing) (knows : KnowsRecords WasSaid me records) (restored : IsRestored records old) where
  promise_held : (slot : ℕ) (c : Ballot) → RecordsPromise records slot c → IsHeld (old.promised slot) c
  promise_held slot c has = held_at_least (filter_map (promise_in slot) records) (old.promised slot) c (restored.promises slot) has

  acceptance_held : (slot : ℕ) (x : Acceptance) → RecordsAcceptance records slot x → IsHeld (old.promised slot) x.ballot
  acceptance_held slot x has = promise_held slot x.ballot (records_promise_too records slot x has)

  has_promise : (slot : ℕ) (c : Ballot) (q : Option Acceptance) → WasSaid slot (Promise me c q) → IsHeld (old.promised slot) c
  has_promise slot c q was = promise_held slot c (knows.covers slot (Promise me c q) was refl)

  among : (slot : ℕ) (c : Ballot) (v : Value) → WasSaid slot (Accepted me c v) → RecordsAcceptance records slot (acceptance c v)
  among slot c v was = knows.covers slot (Accepted me c v) was refl

  has_acceptance : (slot : ℕ) (c : Ballot) (v : Value) → WasSaid slot (Accepted me c v) → IsHeld (old.promised slot) c
  has_acceptance slot c v was = acceptance_held slot (acceptance c v) (among slot c v was)

  -- ---- a Promise

  above_held : (slot : ℕ) (ballot c : Ballot) → IsAbove ballot (old.promised slot) → IsHeld (old.promised slot) c → IsBelow c ballot
  above_held slot ballot c above held = below_above c held.0 ballot held.2 (subst (λ (o : Option Ballot). IsAbove ballot o) held.1 above)

  not_above_last : (before after : List Acceptance) (x y : Acceptance) → ((o : Acceptance) → Contains before o → ¬ IsBelow x.ballot o.ballot)
      → ((o : Acceptance) → Contains after o → IsBelow o.ballot x.ballot) → Contains (before ++ x ∷ after) y → IsBelow x.ballot y.ballot → ⊥
  not_above_last before after x y not_above below has over =
      elim (Contains-append_cases before (x ∷ after) y has) as (λ _. ⊥) [
        | inl there ↦ not_above y there over
        | inr from ↦ elim (first_or_rest x y after from) as (λ _. ⊥) [
          | inl same ↦ not_below_itself x.ballot (subst (λ (z : Acceptance). IsBelow x.ballot z.ballot) same over)
          | inr behind ↦ not_below_itself x.ballot (below_carried x.ballot y.ballot x.ballot over (below y behind))
        ]
      ]

  report_is_allowed : (slot : ℕ) (ballot : Ballot) (o : Option Acceptance) → IsAbove ballot (old.promised slot)
      → IsLastHighest (filter_map (acceptance_in slot) records) o → AllowsReport (WasSaid slot) me ballot o
  report_is_allowed slot ballot None above is =
      λ c v was. absurd (nothing_in (acceptance c v) (subst (λ (l : List Acceptance). Contains l (acceptance c v)) is (among slot c v was)))
  report_is_allowed slot ballot (Some x) above (before, after, is, not_above, below) =
      let has : RecordsAcceptance records slot x = subst (λ (l : List Acceptance). Contains l x) (sym is) (in_middle before after x) in (
        above_held slot ballot x.ballot above (acceptance_held slot x has),
        knows.proposed slot x has,
        λ d w was over. not_above_last before after x (acceptance d w) not_above below
            (subst (λ (l : List Acceptance). Contains l (acceptance d w)) is (among slot d w was)) over,
      )

  pub promise_is_allowed : (slot : ℕ) (ballot : Ballot) → IsAbove ballot (old.promised slot) → AllowsPromise (WasSaid slot) me ballot (old.accepted slot)
  promise_is_allowed slot ballot above = record {
    above_promise = λ c q was. above_held slot ballot c above (has_promise slot c q was);
    above_accepted = λ c v was. above_held slot ballot c above (has_acceptance slot c v was);
    report = report_is_allowed slot ballot (old.accepted slot) above (restored.acceptances slot);
  }

  -- ---- an Accepted

  not_below_held : (slot : ℕ) (ballot c : Ballot) → IsAtLeast ballot (old.promised slot) → IsHeld (old.promised slot) c → IsBelow ballot c → ⊥
  not_below_held slot ballot c at_least held =
      not_below_more held.0 ballot c (subst (λ (o : Option Ballot). IsAtLeast ballot o) held.1 at_least) held.2

  pub accepted_is_allowed : (slot : ℕ) (x : Acceptance) → WasProposed WasSaid slot x → IsAtLeast x.ballot (old.promised slot)
      → AllowsAccepted (WasSaid slot) me x.ballot x.value
  accepted_is_allowed slot x proposed at_least = record {
    proposed = proposed;
    above_promise = λ b r was. not_below_held slot x.ballot b at_least (has_promise slot b r was);
    above_accepted = λ b u was. not_below_held slot x.ballot b at_least (has_acceptance slot b u was);
  }
