-- What is counted is what is recorded.
use Rattle.std.proofs.Common.{◌≡◌, ◌↔◌, ◌⊎◌, inl, inr, ◌||◌, ◌&&◌, ◌==◌, ◌++◌, ◌∷◌, [], ℕ, Bool, true, false, List, length, Option, Some, None, IfErr, OnOk, refl, sym, ap, subst, ◌∙◌, arith, eqb-true, eq-eqb, Result, Ok, Err}
use Rattle.std.specs.Map.{lookup}
use Rattle.ballots.specs.Acceptance.{acceptance}
use Rattle.ballots.specs.Ballot.{Ballot, is_same_ballot}
use Rattle.ballots.specs.Majority.{NodeSet, contains}
use Rattle.ballots.specs.declared.acceptance.Acceptance.{Acceptance}
use Rattle.ballots.specs.declared.value.Value.{Value}
use Rattle.ballots.specs.declared.record.Record.{Record}
use Rattle.ballots.specs.declared.record.Record.TheVariants.{Accepted}
use Rattle.ballots.proofs.CallerLemmas.{same_ballot_is}
use Rattle.chosen_records.specs.declared.tally.SlotBallot.{SlotBallot}
use Rattle.chosen_records.specs.declared.tally.Tally.{Tally}
use Rattle.chosen_records.specs.declared.fault.ChosenFault.{ChosenFault}
use Rattle.chosen_records.specs.declared.fault.ChosenFault.TheVariants as fault
use Rattle.chosen_records.specs.Chosen.{Records, Differ, TellsDiffer}
use Rattle.chosen_records.specs.Tallies.{Tallies, place_of, is_same_place, tally_at, IsCounted, HasNode, HasOther, IsTallyOf, AddsNode, CountsNode, TellsOther}
use Rattle.chosen_records.proofs.Recording.{one_more}

-- ---- places

same_places : (a b : SlotBallot) → a.slot ≡ b.slot → a.ballot ≡ b.ballot → a ≡ b
same_places a b e f =
    ap (λ (s : ℕ). let x : SlotBallot = record { slot = s; ballot = a.ballot } in x) e
    ∙ ap (λ (k : Ballot). let x : SlotBallot = record { slot = b.slot; ballot = k } in x) f

-- the test passes of one place alone
pub one_place : (a b : SlotBallot) → is_same_place a b ≡ true → a ≡ b
one_place a b e =
    let parts = both (a.slot == b.slot) (is_same_ballot a.ballot b.ballot) e in
    same_places a b (eqb-true a.slot b.slot parts.0) ((same_ballot_is a.ballot b.ballot).0 parts.1)
  where
    both : (s k : Bool) → (s && k) ≡ true → (s ≡ true) × (k ≡ true)
    both true true e = (refl, refl)
    both true false e = absurd cc
    both false k e = absurd cc

-- ---- one tally

-- a node more in a tally
pub node_added : (old new : Tally) (node : ℕ) (value : Value) → old.value ≡ value → new.value ≡ old.value
    → ((other : ℕ) → contains new.nodes other ≡ (contains old.nodes other || (node == other))) → AddsNode (Some old) (Some new) node value
node_added old new node value same kept now = record {
  counts = λ other held. (there other held, back other held);
  each = (node, now node ∙ here (contains old.nodes node));
}
  where
    here : (b : Bool) → (b || (node == node)) ≡ true
    here b = grind arith

    or_cases : (b : Bool) (other : ℕ) → (b || (node == other)) ≡ true → (b ≡ true) ⊎ (node ≡ other)
    or_cases true other e = inl refl
    or_cases false other e = inr (eqb-true node other e)

    there : (other : ℕ) (held : Value) → IsCounted (Some new) other held → IsCounted (Some old) other held ⊎ ((node ≡ other) × (value ≡ held))
    there other held is =
        let by : old.value ≡ held = sym kept ∙ is.1 in
        elim (or_cases (contains old.nodes other) other (sym (now other) ∙ is.0)) [
          | inl was ↦ inl (was, by)
          | inr same_node ↦ inr (same_node, sym same ∙ by)
        ]

    or_left : (b c : Bool) → b ≡ true → (b || c) ≡ true
    or_left true c e = refl
    or_left false c e = absurd cc

    back : (other : ℕ) (held : Value) → IsCounted (Some old) other held ⊎ ((node ≡ other) × (value ≡ held)) → IsCounted (Some new) other held
    back other held (inl is) = (now other ∙ or_left (contains old.nodes other) (node == other) is.0, kept ∙ is.1)
    back other held (inr is) =
        (subst (λ (k : ℕ). contains new.nodes k ≡ true) is.0 (now node ∙ here (contains old.nodes node)), kept ∙ same ∙ is.1)

-- the first node of a tally
pub first_node : (new : Tally) (none : NodeSet) (node : ℕ) (value : Value) → new.value ≡ value → ((other : ℕ) → contains none other ≡ false)
    → ((other : ℕ) → contains new.nodes other ≡ (contains none other || (node == other))) → AddsNode None (Some new) node value
first_node new none node value same empty now = record {
  counts = λ other held. (there other held, back other held);
  each = (node, holds node ∙ eq-eqb node node refl);
}
  where
    holds : (other : ℕ) → contains new.nodes other ≡ (node == other)
    holds other = now other ∙ ap (λ (b : Bool). b || (node == other)) (empty other)

    there : (other : ℕ) (held : Value) → IsCounted (Some new) other held → IsCounted None other held ⊎ ((node ≡ other) × (value ≡ held))
    there other held is = inr (eqb-true node other (sym (holds other) ∙ is.0), sym same ∙ is.1)

    back : (other : ℕ) (held : Value) → IsCounted None other held ⊎ ((node ≡ other) × (value ≡ held)) → IsCounted (Some new) other held
    back other held (inl is) = absurd is
    back other held (inr is) = (holds other ∙ eq-eqb node other is.0, same ∙ is.1)

-- the tallies after that
pub node_counted : (old new : Tallies) (node : ℕ) (place : SlotBallot) (value : Value) (was now : Option Tally) → tally_at old place ≡ was → tally_at new place ≡ now → AddsNode was now node value
    → ((other : SlotBallot) → is_same_place place other ≡ false → tally_at new other ≡ tally_at old other) → CountsNode old new node place value
node_counted old new node place value was now before after adds others = record {
  here = subst (λ (t : Option Tally). AddsNode t (tally_at new place) node value) (sym before) (subst (λ (t : Option Tally). AddsNode was t node value) (sym after) adds);
  others = others;
}

-- ---- all tallies

-- nothing is counted at first
pub nothing_counted : (tallies : Tallies) → tallies.entries ≡ [] → IsTallyOf [] tallies
nothing_counted tallies empty = record {
  counts = λ node slot ballot value. (
    λ has. absurd (let no : None ≡ Some has.0 = has.1 in cc),
    λ is. absurd (subst (λ (t : Option Tally). IsCounted t node value) (none (place_of slot ballot)) is),
  );
  each = λ place. subst HasNode (sym (none place)) tt;
}
  where
    none : (place : SlotBallot) → tally_at tallies place ≡ None
    none place = ap (lookup (is_same_place place)) empty

-- records that are the same leave the tallies as they are
pub counted_still : (some all : List (List Record)) (tallies : Tallies) → ((node slot : ℕ) (accepted : Acceptance) → (Records all node slot accepted ↔ Records some node slot accepted))
    → IsTallyOf some tallies → IsTallyOf all tallies
counted_still some all tallies same is = record {
  counts = λ node slot ballot value.
      let here = same node slot (acceptance ballot value) in
      let was = is.counts node slot ballot value in
      (λ has. was.0 (here.0 has), λ counted. here.1 (was.1 counted));
  each = is.each;
}

-- tallies with the same look-ups
pub counted_alike : (all : List (List Record)) (old new : Tallies) → ((place : SlotBallot) → tally_at new place ≡ tally_at old place) → IsTallyOf all old → IsTallyOf all new
counted_alike all old new same is = record {
  counts = λ node slot ballot value.
      let was = is.counts node slot ballot value in
      subst (λ (t : Option Tally). Records all node slot (acceptance ballot value) ↔ IsCounted t node value) (sym (same (place_of slot ballot))) was;
  each = λ place. subst HasNode (sym (same place)) (is.each place);
}

-- a record that is no acceptance
pub counted_over : (done : List (List Record)) (own : List Record) (told : Record) (tallies : Tallies) → ((slot : ℕ) (accepted : Acceptance) → told ≡ Accepted slot accepted → ⊥)
    → IsTallyOf (done ++ own ∷ []) tallies → IsTallyOf (done ++ (own ++ told ∷ []) ∷ []) tallies
counted_over done own told tallies not = counted_still _ _ tallies same
  where
    same : (node slot : ℕ) (accepted : Acceptance) → (Records (done ++ (own ++ told ∷ []) ∷ []) node slot accepted ↔ Records (done ++ own ∷ []) node slot accepted)
    same node slot accepted =
        let more = one_more done own told node slot accepted in
        (λ has. elim (more.0 has) [ inl old ↦ old | inr is ↦ absurd (not slot accepted is.1) ], λ has. more.1 (inl has))

module _ (done : List (List Record)) (own : List Record) (slot : ℕ) (accepted : Acceptance) (node : ℕ) (old new : Tallies) (last : length done ≡ node) (is : IsTallyOf (done ++ own ∷ []) old) where
  abbrev here : SlotBallot
  here = place_of slot accepted.ballot

  abbrev told : Record
  told = Accepted slot accepted

  abbrev all : List (List Record)
  all = done ++ (own ++ told ∷ []) ∷ []

  here_is_here : is_same_place here here ≡ true
  here_is_here = rw (eq-eqb slot slot refl) ((same_ballot_is accepted.ballot accepted.ballot).1 refl)

  -- a record more is counted
  module _ (counts : CountsNode old new node here accepted.value) where
    at_here : (other : ℕ) (value : Value) → (Records all other slot (acceptance accepted.ballot value) ↔ IsCounted (tally_at new here) other value)
    at_here other value = (there, back)
      where
        more : (Records all other slot (acceptance accepted.ballot value) ↔ (Records (done ++ own ∷ []) other slot (acceptance accepted.ballot value) ⊎ ((length done ≡ other) × (told ≡ Accepted slot (acceptance accepted.ballot value)))))
        more = one_more done own told other slot (acceptance accepted.ballot value)

        value_of : told ≡ Accepted slot (acceptance accepted.ballot value) → accepted.value ≡ value
        value_of e = cc

        told_is : accepted.value ≡ value → told ≡ Accepted slot (acceptance accepted.ballot value)
        told_is e = ap (λ (v : Value). Accepted slot (acceptance accepted.ballot v)) e

        there : Records all other slot (acceptance accepted.ballot value) → IsCounted (tally_at new here) other value
        there has = (counts.here.counts other value).1 (elim (more.0 has) [
          | inl was ↦ inl ((is.counts other slot accepted.ballot value).0 was)
          | inr now ↦ inr (sym last ∙ now.0, value_of now.1)
        ])

        back : IsCounted (tally_at new here) other value → Records all other slot (acceptance accepted.ballot value)
        back counted = more.1 (elim ((counts.here.counts other value).0 counted) [
          | inl was ↦ inl ((is.counts other slot accepted.ballot value).1 was)
          | inr now ↦ inr (last ∙ now.0, told_is now.1)
        ])

    elsewhere : (place : SlotBallot) → is_same_place here place ≡ false → (other : ℕ) (value : Value)
        → (Records all other place.slot (acceptance place.ballot value) ↔ IsCounted (tally_at new place) other value)
    elsewhere place apart other value =
        subst (λ (t : Option Tally). Records all other place.slot (acceptance place.ballot value) ↔ IsCounted t other value) (sym (counts.others place apart)) (there, back)
      where
        more : (Records all other place.slot (acceptance place.ballot value) ↔ (Records (done ++ own ∷ []) other place.slot (acceptance place.ballot value) ⊎ ((length done ≡ other) × (told ≡ Accepted place.slot (acceptance place.ballot value)))))
        more = one_more done own told other place.slot (acceptance place.ballot value)

        place_is : told ≡ Accepted place.slot (acceptance place.ballot value) → here ≡ place
        place_is e =
            let slots : slot ≡ place.slot = cc in
            let ballots : accepted.ballot ≡ place.ballot = cc in
            same_places here place slots ballots

        not_told : told ≡ Accepted place.slot (acceptance place.ballot value) → ⊥
        not_told e =
            let no : true ≡ false = sym here_is_here ∙ ap (is_same_place here) (place_is e) ∙ apart in
            cc

        there : Records all other place.slot (acceptance place.ballot value) → IsCounted (tally_at old place) other value
        there has = elim (more.0 has) [
          | inl was ↦ (is.counts other place.slot place.ballot value).0 was
          | inr now ↦ absurd (not_told now.1)
        ]

        back : IsCounted (tally_at old place) other value → Records all other place.slot (acceptance place.ballot value)
        back counted = more.1 (inl ((is.counts other place.slot place.ballot value).1 counted))

    by_place : (place : SlotBallot) (t : Bool) → is_same_place here place ≡ t → (other : ℕ) (value : Value)
        → (Records all other place.slot (acceptance place.ballot value) ↔ IsCounted (tally_at new place) other value)
    by_place place true e other value =
        subst (λ (p : SlotBallot). Records all other p.slot (acceptance p.ballot value) ↔ IsCounted (tally_at new p) other value) (one_place here place e) (at_here other value)
    by_place place false e other value = elsewhere place e other value

    each_by_place : (place : SlotBallot) (t : Bool) → is_same_place here place ≡ t → HasNode (tally_at new place)
    each_by_place place true e = subst (λ (p : SlotBallot). HasNode (tally_at new p)) (one_place here place e) counts.here.each
    each_by_place place false e = subst HasNode (sym (counts.others place e)) (is.each place)

    pub counted_more : IsTallyOf all new
    counted_more = record {
      counts = λ other s ballot value. by_place (place_of s ballot) (is_same_place here (place_of s ballot)) refl other value;
      each = λ place. each_by_place place (is_same_place here place) refl;
    }

  -- or another value is counted at its place
  other_differs : (t : Option Tally) → tally_at old here ≡ t → HasOther t accepted.value → Differ all slot
  other_differs None e other = absurd other
  other_differs (Some tally) e other =
      let a_node : HasNode (Some tally) = subst HasNode e (is.each here) in
      let counted : IsCounted (tally_at old here) a_node.0 tally.value = subst (λ (t : Option Tally). IsCounted t a_node.0 tally.value) (sym e) (a_node.1, refl) in
      record {
        ballot = accepted.ballot;
        one = a_node.0;
        other = node;
        value = tally.value;
        another = accepted.value;
        has_one = (one_more done own told a_node.0 slot (acceptance accepted.ballot tally.value)).1 (inl ((is.counts a_node.0 slot accepted.ballot tally.value).1 counted));
        has_other = (one_more done own told node slot accepted).1 (inr (last, refl));
        differ = other;
      }

  pub tells_differ : (given : ChosenFault) → TellsOther (tally_at old here) slot accepted.value given → TellsDiffer all given
  tells_differ (fault.Differ s) tells = subst (Differ all) (sym tells.0) (other_differs (tally_at old here) refl tells.1)
  tells_differ fault.OutOfMemory tells = tt

-- where all is counted, no slot has two values at one ballot
pub none_differs : (recorded : List (List Record)) (tallies : Tallies) → IsTallyOf recorded tallies → (slot : ℕ) → Differ recorded slot → ⊥
none_differs recorded tallies is slot d =
    one_value (tally_at tallies (place_of slot d.ballot)) ((is.counts d.one slot d.ballot d.value).0 d.has_one) ((is.counts d.other slot d.ballot d.another).0 d.has_other)
  where
    one_value : (t : Option Tally) → IsCounted t d.one d.value → IsCounted t d.other d.another → ⊥
    one_value None one other = one
    one_value (Some tally) one other = d.differ (sym one.1 ∙ other.1)

-- ---- results

pub ok_then : {A E : Type 0} (r : Result A E) (P Q : Type 0) → OnOk r P → (P → Q) → OnOk r Q
ok_then (Ok x) P Q holds then = then holds
ok_then (Err e) P Q holds then = tt

pub err_then : {A E : Type 0} (r : Result A E) (P Q : E → Type 0) → IfErr r P → ((e : E) → P e → Q e) → IfErr r Q
err_then (Ok x) P Q holds then = tt
err_then (Err e) P Q holds then = then e holds
