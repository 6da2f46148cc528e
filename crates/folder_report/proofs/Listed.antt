-- Marked slots that are told, one after the other.
use Rattle.std.proofs.Common.{◌≡◌, inl, inr, ◌<◌, ◌≤◌, ◌+◌, ◌++◌, ◌∷◌, [], ℕ, zero, suc, List, length, map, get_or, slice_index, Option, Some, None, refl, sym, ap, subst, ◌∙◌, append-nil, arith}
use Rattle.std.specs.List.{Contains}
use Rattle.std.specs.List.Sorted.{IsStrictlyIncreasing}
use Rattle.std.proofs.lemmas.Bool.{cases_eq, cases_lt}
use Rattle.std.proofs.lemmas.List.{get_or_append_left, get_or_past, get_or_push, length-map, length_push, map-append}
use Rattle.std.proofs.lemmas.List.Elements.{Contains-append_left, Contains-push, Contains-push_cases}
use Rattle.std.proofs.lemmas.Option.{same_Some}
use Rattle.folder_report.specs.Marks.{ListsMarked, Marks, mark_at, slot_told}
use Rattle.folder_report.specs.declared.report.SlotReport.{SlotReport}
use Rattle.folder_report.specs.declared.report.SlotState.{SlotState}

-- a number above all others comes last
rising_pushed : (xs : List ℕ) (y : ℕ) → IsStrictlyIncreasing xs → ((k : ℕ) → k < length xs → slice_index xs k < y) → IsStrictlyIncreasing (xs ++ y ∷ [])
rising_pushed xs y rising above k lt =
    let size : length (xs ++ y ∷ []) ≡ length xs + 1 = length_push xs y in
    let first : get_or (xs ++ y ∷ []) k 0 ≡ get_or xs k 0 = get_or_append_left xs (y ∷ []) 0 k (omega (arith, size, lt)) in
    elim (cases_lt (k + 1) (length xs)) [
      | inl within ↦ omega (arith, first, get_or_append_left xs (y ∷ []) 0 (k + 1) within, rising k within)
      | inr past ↦
          let at : length xs ≡ k + 1 = omega (arith, size, lt, past) in
          omega (arith, first, get_or_push xs y 0 (k + 1) at, above k (omega (arith, at)))
    ]

-- numbers of elements that are all below another
below_all : (slots : List SlotReport) (end : ℕ) → ((told : SlotReport) → Contains slots told → told.slot < end) → (k : ℕ) → k < length (map (λ (told : SlotReport). told.slot) slots)
    → slice_index (map (λ (told : SlotReport). told.slot) slots) k < end
below_all slots end each k lt =
    let within : k < length slots = omega (arith, lt, length-map slots (λ (told : SlotReport). told.slot)) in
    at (slot_there slots k within)
  where
    slot_there : (xs : List SlotReport) (i : ℕ) → i < length xs → (told : SlotReport) × Contains xs told × (slice_index (map (λ (x : SlotReport). x.slot) xs) i ≡ told.slot)
    slot_there [] i within = absurd (omega (arith, within))
    slot_there (x ∷ xs) zero within = (x, (0, within, refl), refl)
    slot_there (x ∷ xs) (suc i) within =
        let it = slot_there xs i (omega (arith, within)) in
        (it.0, (suc it.1.0, omega (arith, it.1.1), it.1.2), it.2)

    at : (told : SlotReport) × Contains slots told × (slice_index (map (λ (x : SlotReport). x.slot) slots) k ≡ told.slot) → slice_index (map (λ (x : SlotReport). x.slot) slots) k < end
    at it = omega (arith, it.2, each it.0 it.1)

-- a slot that is marked is one that there can be
pub marked_within : (marks : Marks) (slot : ℕ) (state : SlotState) → mark_at marks slot ≡ Some state → slot < length marks
marked_within marks slot state is = elim (cases_lt slot (length marks)) [
  | inl within ↦ within
  | inr past ↦ absurd (let no : None ≡ Some state = sym (get_or_past marks slot None past) ∙ is in cc)
]

module _ (marks : Marks) (first : ℕ) where
  none_listed : ListsMarked marks first first []
  none_listed = record {
    rising = λ k lt. absurd (omega (arith, lt));
    only = λ told has. absurd (omega (arith, has.1));
    whole = λ slot state le lt is. absurd (omega (arith, le, lt));
  }

  pub lists_none : (slots : List SlotReport) → slots ≡ [] → ListsMarked marks first first slots
  lists_none slots none = subst (ListsMarked marks first first) (sym none) none_listed

  module _ (end : ℕ) (slots : List SlotReport) (lists : ListsMarked marks first end slots) where
    abbrev Only : ℕ → SlotReport → Type 0
    Only n told = (first ≤ told.slot) × (told.slot < n) × (mark_at marks told.slot ≡ Some told.state)

    still : (told : SlotReport) → Contains slots told → Only (end + 1) told
    still told has = let it = lists.only told has in (it.0, omega (arith, it.1), it.2)

    passed : mark_at marks end ≡ None → ListsMarked marks first (end + 1) slots
    passed none = record {
      rising = lists.rising;
      only = still;
      whole = λ slot state le lt is. elim (cases_eq slot end) [
        | inl here ↦ absurd (let no : None ≡ Some state = sym none ∙ ap (mark_at marks) (sym here) ∙ is in cc)
        | inr apart ↦ lists.whole slot state le (omega (arith, lt, apart)) is
      ];
    }

    abbrev last : SlotState → SlotReport
    last state = record { slot = end; state = state }

    numbers : (state : SlotState) → map (λ (told : SlotReport). told.slot) (slots ++ last state ∷ []) ≡ map (λ (told : SlotReport). told.slot) slots ++ end ∷ []
    numbers state = map-append (λ (told : SlotReport). told.slot) slots (last state ∷ [])

    below_end : (k : ℕ) → k < length (map (λ (told : SlotReport). told.slot) slots) → slice_index (map (λ (told : SlotReport). told.slot) slots) k < end
    below_end k lt = below_all slots end (λ told has. (lists.only told has).1) k lt

    pushed : (state : SlotState) → first ≤ end → mark_at marks end ≡ Some state → ListsMarked marks first (end + 1) (slots ++ last state ∷ [])
    pushed state le marked = record {
      rising = subst IsStrictlyIncreasing (sym (numbers state)) (rising_pushed (map (λ (told : SlotReport). told.slot) slots) end lists.rising below_end);
      only = λ told has. elim (Contains-push_cases slots (last state) told has) [
        | inl before ↦ still told before
        | inr is ↦ subst (Only (end + 1)) is (le, omega arith, marked)
      ];
      whole = λ slot other le_slot lt is. elim (cases_eq slot end) [
        | inl here ↦
            let same : state ≡ other = same_Some state other (sym marked ∙ ap (mark_at marks) (sym here) ∙ is) in
            subst (λ (s : SlotState). Contains (slots ++ last state ∷ []) (record { slot = slot; state = s })) same
            (subst (λ (n : ℕ). Contains (slots ++ last state ∷ []) (record { slot = n; state = state })) (sym here) (Contains-push slots (last state)))
        | inr apart ↦ Contains-append_left slots (last state ∷ []) (record { slot = slot; state = other }) (lists.whole slot other le_slot (omega (arith, lt, apart)) is)
      ];
    }

    by_mark : (mark : Option SlotState) → mark_at marks end ≡ mark → first ≤ end → ListsMarked marks first (end + 1) (slots ++ slot_told end mark)
    by_mark None is le = subst (ListsMarked marks first (end + 1)) (sym (append-nil slots)) (passed is)
    by_mark (Some state) is le = pushed state le is

    -- one slot further
    pub lists_more : (more : List SlotReport) → first ≤ end → more ≡ slots ++ slot_told end (mark_at marks end) → ListsMarked marks first (end + 1) more
    lists_more more le is = subst (ListsMarked marks first (end + 1)) (sym is) (by_mark (mark_at marks end) refl le)

    -- no slot is marked from another one on
    pub lists_all : (limit : ℕ) → limit ≤ end → length marks ≡ limit → ListsMarked marks first limit slots
    lists_all limit le size = record {
      rising = lists.rising;
      only = λ told has.
          let it = lists.only told has in
          (it.0, omega (arith, size, marked_within marks told.slot told.state it.2), it.2);
      whole = λ slot state le_slot lt is. lists.whole slot state le_slot (omega (arith, lt, le)) is;
    }
