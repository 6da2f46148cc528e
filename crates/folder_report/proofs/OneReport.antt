-- What two reports of the same records say.
use Rattle.std.proofs.Common.{◌≡◌, ◌⊎◌, inl, inr, ◌<◌, ◌≤◌, ℕ, zero, suc, [], ◌∷◌, List, length, map, get_or, refl, sym, ap, subst, ◌∙◌, arith}
use Rattle.std.specs.List.{AllPairs, Contains}
use Rattle.std.proofs.lemmas.Bool.{cases_lt}
use Rattle.std.proofs.lemmas.List.{get_or-map, length-map, same_lists}
use Rattle.std.proofs.lemmas.List.Kept.{AllPairs-from_increasing}
use Rattle.std.proofs.lemmas.List.Elements.{All-contains}
use Rattle.std.proofs.lemmas.Option.{slice_get-get_or, slice_get_cases}
use Rattle.ballots.specs.declared.record.Record.{Record}
use Rattle.ballots.specs.declared.value.Value.{Value}
use Rattle.table_types.specs.Tables.{table_names}
use Rattle.table_types.specs.Uploads.{Upload}
use Rattle.table_versions.specs.Values.{AreUploadsIn}
use Rattle.folder_report.specs.Reporting.{AreServed, HaveOneValue, Reports, StandsAs, TellsSlot, TellsSlots, latest_in, told_table}
use Rattle.folder_report.specs.declared.report.FolderReport.{FolderReport}
use Rattle.folder_report.specs.declared.report.SlotReport.{SlotReport}
use Rattle.folder_report.specs.declared.report.SlotState.{SlotState}
use Rattle.folder_report.specs.declared.report.SlotState.TheVariants.{Undecided, Waiting}

-- ---- lists in rising order with the same elements

-- an element is the first or a later one
cons_cases : {X : Type 0} (y : X) (xs : List X) (x : X) → Contains (y ∷ xs) x → (y ≡ x) ⊎ Contains xs x
cons_cases y xs x (zero, within, same) = inl same
cons_cases y xs x (suc k, within, same) = inr (k, omega (arith, within), same)

first_of : {X : Type 0} (x : X) (xs : List X) → Contains (x ∷ xs) x
first_of x xs = (0, omega arith, refl)

later_of : {X : Type 0} (y : X) (xs : List X) (x : X) → Contains xs x → Contains (y ∷ xs) x
later_of y xs x has = (suc has.0, omega (arith, has.1), has.2)

-- each slot is below all later ones
abbrev Rise : List SlotReport → Type 0
Rise [] = Unit {0}
Rise (x ∷ xs) = ((told : SlotReport) → Contains xs told → x.slot < told.slot) × Rise xs

rise : (xs : List SlotReport) → AllPairs (λ x y. x < y) (map (λ (x : SlotReport). x.slot) xs) → Rise xs
rise [] pairs = tt
rise (x ∷ xs) pairs = (
  λ told has.
      let there : get_or (map (λ (x : SlotReport). x.slot) xs) has.0 0 ≡ told.slot = get_or-map (λ (x : SlotReport). x.slot) xs has.0 told 0 has.1 ∙ ap (λ (x : SlotReport). x.slot) has.2 in
      let within : suc has.0 < suc (length (map (λ (x : SlotReport). x.slot) xs)) = omega (arith, has.1, length-map xs (λ (x : SlotReport). x.slot)) in
      let below : x.slot < get_or (map (λ (x : SlotReport). x.slot) xs) has.0 0 = pairs 0 (suc has.0) 0 (omega arith) within in
      omega (arith, there, below),
  rise xs (λ i j d lt within. pairs (suc i) (suc j) d (omega (arith, lt)) (omega (arith, within))),
)

-- their first elements are one
same_first : (x y : SlotReport) (xs ys : List SlotReport) → Rise (x ∷ xs) → Rise (y ∷ ys) → Contains (y ∷ ys) x → Contains (x ∷ xs) y → x ≡ y
same_first x y xs ys one other there back = elim (cons_cases y ys x there) [
  | inl same ↦ sym same
  | inr later ↦ elim (cons_cases x xs y back) [ inl same ↦ same | inr behind ↦ absurd (omega (arith, other.0 x later, one.0 y behind)) ]
]

-- and those behind are elements of both
within_rest : (x y : SlotReport) (xs ys : List SlotReport) → Rise (x ∷ xs) → x ≡ y → ((told : SlotReport) → Contains (x ∷ xs) told → Contains (y ∷ ys) told) → (told : SlotReport) → Contains xs told
    → Contains ys told
within_rest x y xs ys one same to told has = elim (cons_cases y ys told (to told (later_of x xs told has))) [
  | inl is ↦
      let slots : x.slot ≡ told.slot = ap (λ (t : SlotReport). t.slot) (same ∙ is) in
      absurd (omega (arith, slots, one.0 told has))
  | inr there ↦ there
]

same_list : (xs ys : List SlotReport) → Rise xs → Rise ys → ((told : SlotReport) → Contains xs told → Contains ys told) → ((told : SlotReport) → Contains ys told → Contains xs told) → xs ≡ ys
same_list [] [] one other to from = refl
same_list [] (y ∷ ys) one other to from = absurd (omega (arith, (from y (first_of y ys)).1))
same_list (x ∷ xs) [] one other to from = absurd (omega (arith, (to x (first_of x xs)).1))
same_list (x ∷ xs) (y ∷ ys) one other to from =
    let first : x ≡ y = same_first x y xs ys one other (to x (first_of x xs)) (from y (first_of y ys)) in
    ap (λ (l : List SlotReport). x ∷ l) (same_list xs ys one.1 other.1 (within_rest x y xs ys one first to) (within_rest y x ys xs other (sym first) from))
    ∙ ap (λ (t : SlotReport). t ∷ ys) first

-- ---- reports

module _ (members : ℕ) (all : List (List Record)) where
  not_fewer : (xs ys : List Value) → AreServed members all xs → AreServed members all ys → length xs < length ys → ⊥
  not_fewer xs ys first second lt = elim (slice_get_cases ys (length xs)).1 [
    | inl it ↦ first.ends it.0 (second.chosen (length xs) it.0 it.2)
    | inr past ↦ omega (arith, lt, past.0)
  ]

  same_count : (xs ys : List Value) → AreServed members all xs → AreServed members all ys → length xs ≡ length ys
  same_count xs ys first second = elim (cases_lt (length xs) (length ys)) [
    | inl fewer ↦ absurd (not_fewer xs ys first second fewer)
    | inr no_fewer ↦ elim (cases_lt (length ys) (length xs)) [
      | inl more ↦ absurd (not_fewer ys xs second first more)
      | inr no_more ↦ omega (arith, no_fewer, no_more)
    ]
  ]

  same_values : (xs ys : List Value) → HaveOneValue members all → AreServed members all xs → AreServed members all ys → xs ≡ ys
  same_values xs ys one first second =
      let count = same_count xs ys first second in
      same_lists xs ys count
      (λ k d lt.
      one k (get_or xs k d) (get_or ys k d) (first.chosen k (get_or xs k d) (slice_get-get_or xs k d lt))
      (second.chosen k (get_or ys k d) (slice_get-get_or ys k d (omega (arith, lt, count)))))

  -- a slot stands in one way
  same_state : (slot : ℕ) (one other : SlotState) → StandsAs members all slot one → StandsAs members all slot other → one ≡ other
  same_state slot Undecided Undecided p q = refl
  same_state slot Undecided Waiting p q = absurd (p q.0 q.1)
  same_state slot Waiting Undecided p q = absurd (q p.0 p.1)
  same_state slot Waiting Waiting p q = refl

  same_slots : (m n : ℕ) (xs ys : List SlotReport) → m ≡ n → TellsSlots members all m xs → TellsSlots members all n ys → (told : SlotReport) → Contains xs told → Contains ys told
  same_slots m n xs ys same first second told has =
      let it : TellsSlot members all m told = All-contains (TellsSlot members all m) xs told first.only has in
      let there = second.whole told.slot (subst (λ (k : ℕ). k ≤ told.slot) same it.behind) it.accepted in
      let other : TellsSlot members all n (record { slot = told.slot; state = there.0 }) = All-contains (TellsSlot members all n) ys (record { slot = told.slot; state = there.0 }) second.only there.1 in
      subst (λ (s : SlotState). Contains ys (record { slot = told.slot; state = s })) (same_state told.slot there.0 told.state other.stands it.stands) there.1

  module _ (one other : FolderReport) (first : Reports members all one) (second : Reports members all other) where
    pub one_count : one.decided ≡ other.decided
    one_count = first.count ∙ same_count first.values second.values first.served second.served ∙ sym second.count

    pub one_list_of_slots : one.slots.items ≡ other.slots.items
    one_list_of_slots =
        same_list one.slots.items other.slots.items (rise one.slots.items (AllPairs-from_increasing (map (λ (x : SlotReport). x.slot) one.slots.items) first.slots.rising))
        (rise other.slots.items (AllPairs-from_increasing (map (λ (x : SlotReport). x.slot) other.slots.items) second.slots.rising))
        (same_slots one.decided other.decided one.slots.items other.slots.items one_count first.slots second.slots)
        (same_slots other.decided one.decided other.slots.items one.slots.items (sym one_count) second.slots first.slots)

    pub one_list_of_tables : ((values : List Value) (xs ys : List Upload) → AreUploadsIn values xs → AreUploadsIn values ys → xs ≡ ys) → HaveOneValue members all
        → map told_table one.tables.items ≡ map told_table other.tables.items
    one_list_of_tables one_list one_value =
        let values : first.values ≡ second.values = same_values first.values second.values one_value first.served second.served in
        let uploads : first.tables.uploads ≡ second.tables.uploads =
        one_list second.values first.tables.uploads second.tables.uploads (subst (λ (l : List Value). AreUploadsIn l first.tables.uploads) values first.tables.are) second.tables.are in
        first.tables.told ∙ ap (λ (l : List Upload). map (latest_in l) (table_names l)) uploads ∙ sym second.tables.told
