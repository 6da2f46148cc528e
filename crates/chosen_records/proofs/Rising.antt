-- Slots rise in what is told.
use Rattle.std.proofs.Common.{◌≡◌, inl, inr, ◌<◌, ◌≤◌, ◌+◌, ◌-◌, ◌++◌, ℕ, Bool, true, false, cond, nat_lt, ◌==◌, List, length, get_or, slice_get, Some, refl, sym, ap, ◌∙◌, arith}
use Rattle.std.specs.List.{Contains}
use Rattle.std.specs.List.Sorted.{IsNonDecreasingBy, IsSorted}
use Rattle.std.specs.Option.{option_map}
use Rattle.std.specs.Ordering.{is_lt, nat_cmp, ordering_then}
use Rattle.std.specs.declared.cmp.Ordering.{Ordering}
use Rattle.std.specs.declared.cmp.Ordering.TheVariants.{Less, Equal, Greater}
use Rattle.std.proofs.lemmas.Bool.{cases_lt}
use Rattle.std.proofs.lemmas.Bool.Decides.{nat_tests}
use Rattle.std.proofs.lemmas.List.{get_or_append_left, get_or-append_right, length-append}
use Rattle.std.proofs.lemmas.List.Elements.{Contains-append_cases, Contains-get_or}
use Rattle.std.proofs.lemmas.List.Sorted.{IsNonDecreasingBy-from_all_adjacent}
use Rattle.std.proofs.lemmas.Option.{get_or_from_slice_get, slice_get-map, slice_get_within}
use Rattle.indexmap.specs.IndexMap.{keys}
use Rattle.ballots.specs.Ballot.{ballot_cmp}
use Rattle.ballots.specs.declared.message.Message.{Message}
use Rattle.chosen_records.specs.declared.tally.SlotBallot.{SlotBallot}
use Rattle.chosen_records.specs.declared.tally.Tally.{Tally}
use Rattle.chosen_records.specs.Tallies.{Tallies, RisesUpTo, SlotsRise, told_below}
use Rattle.chosen_records.proofs.Told.{below_there}

-- ---- sorted places

not_below : (a b : ℕ) (rest : Ordering) → is_lt (ordering_then (nat_cmp a b) rest) ≡ false → b ≤ a
not_below a b rest e =
    let over : nat_lt a b ≡ false = first (nat_lt a b) (a == b) e in
    grind (arith, nat_tests)
  where
    first : (less same : Bool) → is_lt (ordering_then (cond less Less (cond same Equal Greater)) rest) ≡ false → less ≡ false
    first false same e = refl
    first true same e = absurd (let no : true ≡ false = e in cc)

pub slots_rise : (places : List SlotBallot) → IsSorted (λ (a b : SlotBallot). ordering_then (nat_cmp a.slot b.slot) (ballot_cmp a.ballot b.ballot)) places
    → IsNonDecreasingBy (λ place. place.slot) places
slots_rise places sorted =
    IsNonDecreasingBy-from_all_adjacent (λ place. place.slot) places
    (λ k d lt. not_below (get_or places (k + 1) d).slot (get_or places k d).slot _ (sorted k d (omega arith) lt))

-- ---- messages of a slot behind those of slots up to it

rising_pushed : {X : Type 0} (n : X → ℕ) (xs ys : List X) (s : ℕ) → IsNonDecreasingBy n xs → ((x : X) → Contains xs x → n x ≤ s) → ((y : X) → Contains ys y → n y ≡ s)
    → IsNonDecreasingBy n (xs ++ ys)
rising_pushed {X} n xs ys s up older newer = rises
  where
    all_length : length (xs ++ ys) ≡ length xs + length ys
    all_length = length-append xs ys

    behind : (k : ℕ) (d : X) → length xs ≤ k → k < length (xs ++ ys) → n (get_or (xs ++ ys) k d) ≡ s
    behind k d le lt =
        ap n (get_or-append_right xs ys (length xs) k d refl le) ∙ newer _ (Contains-get_or ys (k - length xs) d (omega (arith, all_length, le, lt)))

    rises : IsNonDecreasingBy n (xs ++ ys)
    rises i j d le lt = elim (cases_lt j (length xs)) [
      | inl within ↦
          let first : i < length xs = omega (arith, le, within) in
          let one = ap n (get_or_append_left xs ys d i first) in
          let other = ap n (get_or_append_left xs ys d j within) in
          omega (arith, one, other, up i j d le within)
      | inr past ↦ elim (cases_lt i (length xs)) [
        | inl within ↦
            let one = ap n (get_or_append_left xs ys d i within) in
            omega (arith, one, older _ (Contains-get_or xs i d within), behind j d past lt)
        | inr first ↦ omega (arith, behind i d first (omega (arith, le, lt)), behind j d past lt)
      ]
    ]

-- ---- told up to a place

pub rises_over : (tallies : Tallies) (index : ℕ) (told : List Message) → RisesUpTo tallies index told → RisesUpTo tallies (index + 1) told
rises_over tallies index told is = record {
  rising = is.rising;
  below = λ m has.
      let it = is.below m has in
      (it.0, it.1, omega (arith, it.2), it.3, it.4);
}

module _ (members : ℕ) (tallies : Tallies) (index : ℕ) (told : List Message) (rise : SlotsRise tallies) (is : RisesUpTo tallies index told) (place : SlotBallot) (tally : Tally)
    (here : slice_get tallies.entries index ≡ Some (place, tally)) where
  key_here : slice_get (keys tallies) index ≡ Some place
  key_here = slice_get-map (λ e. e.0) tallies.entries index ∙ ap (option_map (λ e. e.0)) here

  older : (m : Message) → Contains told m → m.slot ≤ place.slot
  older m has =
      let it = is.below m has in
      let up = rise it.0 index it.1 (omega (arith, it.2)) (slice_get_within (keys tallies) index place key_here) in
      let one = ap (λ (p : SlotBallot). p.slot) (get_or_from_slice_get (keys tallies) it.0 it.1 it.1 it.3) in
      let other = ap (λ (p : SlotBallot). p.slot) (get_or_from_slice_get (keys tallies) index place it.1 key_here) in
      omega (arith, up, one, other, it.4)

  newer : (m : Message) → Contains (told_below members place tally) m → m.slot ≡ place.slot
  newer m has = sym (ap (λ (x : Message). x.slot) (below_there place tally members m has).2)

  pub rises_place : RisesUpTo tallies (index + 1) (told ++ told_below members place tally)
  rises_place = record {
    rising = rising_pushed (λ m. m.slot) told (told_below members place tally) place.slot is.rising older newer;
    below = λ m has. elim (Contains-append_cases told (told_below members place tally) m has) [
      | inl before ↦
          let it = is.below m before in
          (it.0, it.1, omega (arith, it.2), it.3, it.4)
      | inr last ↦ (index, place, omega arith, key_here, sym (newer m last))
    ];
  }
