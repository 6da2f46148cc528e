-- Runs of values that are valid.
use Rattle.std.proofs.Common.{◌≡◌, refl, sym, ap, ap₂, subst, ◌∙◌, ℕ, zero, suc, ◌+◌, ◌-◌, ◌*◌, ◌≤◌, ◌==◌, ◌||◌, Bool, true, false, true≢false, not, if◌then◌else◌, List, [], ◌∷◌, ◌++◌, map, length, arith}
use Rattle.std.proofs.lemmas.Bool.{eqb-true}
use Rattle.std.proofs.lemmas.List.Sums.{sum_by-cons}
use Rattle.std.specs.List.{flat_map}
use native.Mathlib.Nat.{mul-suc}
use Rattle.bitmaps.specs.Bits.{bit_of, bits_of, zeros}
use Rattle.batch_types.specs.Layouts.{Layout, null_layout, bits_layout, bytes_layout, binary_layout, utf8_layout}
use Rattle.batch_types.specs.Layouts.{list_layout, fixed_size_list_layout, struct_layout}
use Rattle.batch_types.specs.Placed.{start_of, length_of}
use Rattle.batch_columns.specs.Buffers.{has_offsets}
use Rattle.batch_columns.specs.Held.{layout_named}
use Rattle.batch_columns.specs.declared.layout.Layout.{Layout as Declared}
use Rattle.batch_columns.specs.declared.layout.Layout.TheVariants.{Null, Bits, Bytes, Binary, Utf8, List as Lists, FixedSizeList, Struct}
use Rattle.batch_columns.specs.declared.encoded_column.EncodedColumn.{EncodedColumn}
use Rattle.batch_reading.specs.Spots.{Spot}
use Rattle.batch_reading.specs.Taken.{valid_in, is_shown, seen}
use Rattle.batch_reading.specs.Planned.{spots_under, spots_inside}
use Rattle.batch_reading.proofs.Planning.{same_in_struct}
use Rattle.batch_lengths.specs.Along.{run_spots, source_spots}
use Rattle.batch_lengths.specs.Counted.{has_null, span_length, span_total, IsCounted}
use Rattle.batch_lengths.specs.Reach.{DoReach, Reaches, ReadsTo, end_inside}
use Rattle.batch_lengths.proofs.Parts.{run_both}

-- ---- which values are null

-- by the bits of a bitmap that is there
bits_shown : (validity : List ℕ) (start count : ℕ) → (length validity == 0) ≡ false → map (is_shown validity) (run_spots start count) ≡ bits_of validity start count
bits_shown validity start zero there = refl
bits_shown validity start (suc count) there =
    ap₂ (λ b bs. b ∷ bs) (ap (λ none. none || bit_of validity start) there) (bits_shown validity (start + 1) count there)

pub null_by_bits : (validity : List ℕ) (start count : ℕ) → (length validity == 0) ≡ false
    → has_null validity (run_spots start count) ≡ not (zeros (bits_of validity start count) == 0)
null_by_bits validity start count there = ap (λ l. not (zeros l == 0)) (bits_shown validity start count there)

by_none : (validity : List ℕ) (spot : Spot) → (length validity == 0) ≡ true → is_shown validity spot ≡ true
by_none validity spot none = ap (λ n. not spot.1 || (n || bit_of validity spot.0)) none ∙ either spot.1
  where
    either : (mark : Bool) → not mark || true ≡ true
    either true = refl
    either false = refl

none_null : (validity : List ℕ) (spots : List Spot) → (length validity == 0) ≡ true → zeros (map (is_shown validity) spots) ≡ 0
none_null validity [] none = refl
none_null validity (spot ∷ spots) none =
    sum_by-cons (λ bit. if not bit then 1 else 0) (is_shown validity spot) (map (is_shown validity) spots)
    ∙ ap₂ (λ shown n. (if not shown then 1 else 0) + n) (by_none validity spot none) (none_null validity spots none)

pub null_by_none : (validity : List ℕ) (spots : List Spot) → (length validity == 0) ≡ true → has_null validity spots ≡ false
null_by_none validity spots none = ap (λ n. not (n == 0)) (none_null validity spots none)

pub one_null : (validity : List ℕ) (place : ℕ) → has_null validity (run_spots place 1) ≡ not (valid_in validity place)
one_null validity place = by_valid (valid_in validity place)
  where
    by_valid : (valid : Bool) → not (zeros (valid ∷ []) == 0) ≡ not valid
    by_valid true = refl
    by_valid false = refl

zero_of : (n : ℕ) → not (n == 0) ≡ false → n ≡ 0
zero_of n is = eqb-true n 0 (turned (n == 0) is)
  where
    turned : (b : Bool) → not b ≡ false → b ≡ true
    turned true is = refl
    turned false is = absurd (true≢false is)

-- ---- where none is, all are seen

first_valid : (valid : Bool) (n : ℕ) → (if not valid then 1 else 0) + n ≡ 0 → (valid ≡ true) × (n ≡ 0)
first_valid true n is = (refl, omega (arith, is))
first_valid false n is = absurd (omega (arith, is))

seen_by_zeros : (validity : List ℕ) (start count : ℕ) → zeros (map (is_shown validity) (run_spots start count)) ≡ 0
    → map (seen validity) (run_spots start count) ≡ run_spots start count
seen_by_zeros validity start zero none = refl
seen_by_zeros validity start (suc count) none =
    let parts = first_valid (valid_in validity start) (zeros (map (is_shown validity) (run_spots (start + 1) count)))
    (sym (sum_by-cons (λ bit. if not bit then 1 else 0) (valid_in validity start) (map (is_shown validity) (run_spots (start + 1) count))) ∙ none) in
    ap₂ (λ mark l. (start, mark) ∷ l) parts.0 (seen_by_zeros validity (start + 1) count parts.1)

pub all_seen : (validity : List ℕ) (start count : ℕ) → has_null validity (run_spots start count) ≡ false
    → map (seen validity) (run_spots start count) ≡ run_spots start count
all_seen validity start count none = seen_by_zeros validity start count (zero_of (zeros (map (is_shown validity) (run_spots start count))) none)

-- ---- offsets

module _ (offsets : List ℕ) (end : ℕ) (has : DoReach offsets end) where
  starts_rise : (d j : ℕ) → j + d ≤ end → start_of 4 offsets j ≤ start_of 4 offsets (j + d)
  starts_rise zero j within =
      let same : j ≡ j + 0 = omega arith in subst (λ k. start_of 4 offsets j ≤ start_of 4 offsets k) same (omega arith)
  starts_rise (suc d) j within =
      let same : j + d + 1 ≡ j + suc d = omega arith in
      let next : start_of 4 offsets (j + d) ≤ start_of 4 offsets (j + d + 1) = has.rises (j + d) (omega (arith, within)) in
      let whole : start_of 4 offsets j ≤ start_of 4 offsets (j + d + 1) =
      omega (arith, starts_rise d j (omega (arith, within)), next) in
      subst (λ k. start_of 4 offsets j ≤ start_of 4 offsets k) same whole

  pub starts_to : (j k : ℕ) → j ≤ k → k ≤ end → start_of 4 offsets j ≤ start_of 4 offsets k
  starts_to j k up within =
      let same : j + (k - j) ≡ k = omega (arith, up) in
      subst (λ n. start_of 4 offsets j ≤ start_of 4 offsets n) same (starts_rise (k - j) j (omega (arith, up, within)))

  pub reach_less : (less : ℕ) → less ≤ end → DoReach offsets less
  reach_less less few = record {
    long = λ some. omega (arith, has.long (omega (arith, some, few)), some, few);
    rises = λ j below. has.rises j (omega (arith, below, few));
    ends = omega (arith, starts_to less end few (omega arith), has.ends);
  }

  list_total : (start count : ℕ) → start + count ≤ end → (n : ℕ) → n + start_of 4 offsets start ≡ start_of 4 offsets (start + count)
      → n ≡ span_total (list_layout 4) offsets (run_spots start count)
  list_total start zero within n is =
      let same : start + 0 ≡ start = omega arith in omega (arith, is, ap (start_of 4 offsets) same)
  list_total start (suc count) within n is =
      let same : start + suc count ≡ start + 1 + count = omega arith in
      let next : start_of 4 offsets start ≤ start_of 4 offsets (start + 1) = has.rises start (omega (arith, within)) in
      let later : start_of 4 offsets (start + 1) ≤ start_of 4 offsets (start + 1 + count) =
      starts_to (start + 1) (start + 1 + count) (omega arith) (omega (arith, within)) in
      let rest : start_of 4 offsets (start + 1 + count) - start_of 4 offsets (start + 1) ≡ span_total (list_layout 4) offsets (run_spots (start + 1) count) =
      list_total (start + 1) count (omega (arith, within)) (start_of 4 offsets (start + 1 + count) - start_of 4 offsets (start + 1)) (omega (arith, later)) in
      omega (
        arith,
        is,
        ap (start_of 4 offsets) same,
        next,
        later,
        rest,
        sum_by-cons (span_length (list_layout 4) offsets) (start, true) (run_spots (start + 1) count),
      )

  list_run : (start count : ℕ) → start + count ≤ end → (n : ℕ) → n + start_of 4 offsets start ≡ start_of 4 offsets (start + count)
      → spots_inside (list_layout 4) offsets (run_spots start count) ≡ run_spots (start_of 4 offsets start) n
  list_run start zero within n is =
      let same : start + 0 ≡ start = omega arith in
      let none : 0 ≡ n = omega (arith, is, ap (start_of 4 offsets) same) in
      ap (run_spots (start_of 4 offsets start)) none
  list_run start (suc count) within n is =
      let same : start + suc count ≡ start + 1 + count = omega arith in
      let next : start_of 4 offsets start ≤ start_of 4 offsets (start + 1) = has.rises start (omega (arith, within)) in
      let later : start_of 4 offsets (start + 1) ≤ start_of 4 offsets (start + 1 + count) =
      starts_to (start + 1) (start + 1 + count) (omega arith) (omega (arith, within)) in
      let rest : ℕ = start_of 4 offsets (start + 1 + count) - start_of 4 offsets (start + 1) in
      let more = list_run (start + 1) count (omega (arith, within)) (start_of 4 offsets (start + 1 + count) - start_of 4 offsets (start + 1)) (omega (arith, later)) in
      let at : start_of 4 offsets (start + 1) ≡ start_of 4 offsets start + length_of 4 offsets start = omega (arith, next) in
      let whole : length_of 4 offsets start + rest ≡ n = omega (arith, is, ap (start_of 4 offsets) same, next, later) in
      ap (λ l. run_spots (start_of 4 offsets start) (length_of 4 offsets start) ++ l) (more ∙ ap (λ s. run_spots s rest) at)
      ∙ sym (run_both (start_of 4 offsets start) (length_of 4 offsets start) rest)
      ∙ ap (run_spots (start_of 4 offsets start)) whole

-- ---- lists of one size

pub sized_run : (size : ℕ) (offsets : List ℕ) (start count : ℕ)
    → spots_inside (fixed_size_list_layout size) offsets (run_spots start count) ≡ run_spots (size * start) (size * count)
sized_run size offsets start zero = let none : 0 ≡ size * 0 = omega arith in ap (run_spots (size * start)) none
sized_run size offsets start (suc count) =
    let at : size * (start + 1) ≡ size * start + size = omega arith in
    let whole : size + size * count ≡ size * suc count = omega (arith, mul-suc size count) in
    ap (λ l. run_spots (size * start) size ++ l) (sized_run size offsets (start + 1) count ∙ ap (λ s. run_spots s (size * count)) at)
    ∙ sym (run_both (size * start) size (size * count))
    ∙ ap (run_spots (size * start)) whole

nothing_of : {X Y : Type 0} (xs : List X) → ◌≡◌ {A = List Y} (flat_map (λ x. []) xs) []
nothing_of [] = refl
nothing_of (x ∷ xs) = nothing_of xs

flat_total : (layout : Layout) (offsets : List ℕ) → ((spot : Spot) → span_length layout offsets spot ≡ 0) → (xs : List Spot) → span_total layout offsets xs ≡ 0
flat_total layout offsets none [] = refl
flat_total layout offsets none (x ∷ xs) =
    sum_by-cons (span_length layout offsets) x xs ∙ ap₂ (λ m n. m + n) (none x) (flat_total layout offsets none xs)

-- ---- values of any number of bytes or elements, and of one number

pub no_spans : (layout : Layout) (offsets : List ℕ) (xs : List Spot) → has_offsets layout ≡ false → span_total layout offsets xs ≡ 0
no_spans null_layout offsets xs none = flat_total null_layout offsets (λ spot. refl) xs
no_spans bits_layout offsets xs none = flat_total bits_layout offsets (λ spot. refl) xs
no_spans (bytes_layout size) offsets xs none = flat_total (bytes_layout size) offsets (λ spot. refl) xs
no_spans (binary_layout offset) offsets xs none = absurd (true≢false none)
no_spans (utf8_layout offset) offsets xs none = absurd (true≢false none)
no_spans (list_layout offset) offsets xs none = absurd (true≢false none)
no_spans (fixed_size_list_layout size) offsets xs none = flat_total (fixed_size_list_layout size) offsets (λ spot. refl) xs
no_spans struct_layout offsets xs none = flat_total struct_layout offsets (λ spot. refl) xs

pub spans_reach : (layout : Layout) (offsets : List ℕ) (end : ℕ) → has_offsets layout ≡ true → Reaches layout offsets end → DoReach offsets end
spans_reach null_layout offsets end has reach = absurd (true≢false (sym has))
spans_reach bits_layout offsets end has reach = absurd (true≢false (sym has))
spans_reach (bytes_layout size) offsets end has reach = absurd (true≢false (sym has))
spans_reach (binary_layout offset) offsets end has reach = reach
spans_reach (utf8_layout offset) offsets end has reach = reach
spans_reach (list_layout offset) offsets end has reach = reach
spans_reach (fixed_size_list_layout size) offsets end has reach = absurd (true≢false (sym has))
spans_reach struct_layout offsets end has reach = absurd (true≢false (sym has))

pub spans_total : (layout : Layout) (offsets : List ℕ) (start count n : ℕ) → has_offsets layout ≡ true → Reaches layout offsets (start + count)
    → n + start_of 4 offsets start ≡ start_of 4 offsets (start + count) → n ≡ span_total layout offsets (run_spots start count)
spans_total null_layout offsets start count n has reach is = absurd (true≢false (sym has))
spans_total bits_layout offsets start count n has reach is = absurd (true≢false (sym has))
spans_total (bytes_layout size) offsets start count n has reach is = absurd (true≢false (sym has))
spans_total (binary_layout offset) offsets start count n has reach is = list_total offsets (start + count) reach start count (omega arith) n is
spans_total (utf8_layout offset) offsets start count n has reach is = list_total offsets (start + count) reach start count (omega arith) n is
spans_total (list_layout offset) offsets start count n has reach is = list_total offsets (start + count) reach start count (omega arith) n is
spans_total (fixed_size_list_layout size) offsets start count n has reach is = absurd (true≢false (sym has))
spans_total struct_layout offsets start count n has reach is = absurd (true≢false (sym has))

-- ---- by layout

-- no column stands inside
abbrev pub IsFlat : Declared → Type 0
IsFlat Null = Unit {0}
IsFlat Bits = Unit {0}
IsFlat (Bytes size) = Unit {0}
IsFlat Binary = Unit {0}
IsFlat Utf8 = Unit {0}
IsFlat Lists = ⊥
IsFlat (FixedSizeList size) = ⊥
IsFlat Struct = ⊥

le_same : (n : ℕ) → n ≤ n
le_same n = omega arith

module _ (s : EncodedColumn) (start count : ℕ) (reads : ReadsTo s (start + count)) where
  abbrev IsSpan : ℕ → Type 0
  IsSpan n = n + start_of 4 s.offsets.now start ≡ start_of 4 s.offsets.now (start + count)

  abbrev pub AreInside : Declared → ℕ → ℕ → Type 0
  AreInside l first n =
      (spots_inside (layout_named l) s.offsets.now (run_spots start count) ≡ run_spots first n)
      × (first + n ≡ end_inside (layout_named l) s.offsets.now (start + count))

  abbrev reach_at : (l : Declared) → s.layout ≡ l → Reaches (layout_named l) s.offsets.now (start + count)
  reach_at l is = subst (λ m. Reaches (layout_named m) s.offsets.now (start + count)) is reads.reaches

  pub lists_inside : s.layout ≡ Lists → (first n : ℕ) → first ≡ start_of 4 s.offsets.now start → IsSpan n → AreInside s.layout first n
  lists_inside is first n at span =
      let same : n + first ≡ start_of 4 s.offsets.now (start + count) = omega (arith, at, span) in
      subst (λ l. AreInside l first n) (sym is) (
        list_run s.offsets.now (start + count) (reach_at Lists is) start count (le_same (start + count)) n span ∙ ap (λ f. run_spots f n) (sym at),
        omega (arith, same),
      )

  pub sized_inside : (size : ℕ) → s.layout ≡ FixedSizeList size → AreInside s.layout (size * start) (size * count)
  sized_inside size is =
      let whole : size * start + size * count ≡ size * (start + count) = omega arith in
      subst (λ l. AreInside l (size * start) (size * count)) (sym is) (sized_run size s.offsets.now start count, whole)

  pub struct_inside : s.layout ≡ Struct → AreInside s.layout start count
  struct_inside is = subst (λ l. AreInside l start count) (sym is) (same_in_struct s.offsets.now (run_spots start count), refl)

  none_inside : (l : Declared) → s.layout ≡ l → ((spot : Spot) → spots_under (layout_named l) s.offsets.now spot ≡ [])
      → 0 ≡ end_inside (layout_named l) s.offsets.now (start + count) → AreInside s.layout 0 0
  none_inside l is none end =
      subst (λ m. AreInside m 0 0) (sym is) (nothing_under (run_spots start count), end)
    where
      nothing_under : (xs : List Spot) → spots_inside (layout_named l) s.offsets.now xs ≡ []
      nothing_under [] = refl
      nothing_under (x ∷ xs) = ap₂ (λ ys zs. ys ++ zs) (none x) (nothing_under xs)

  pub flat_inside : (l : Declared) → s.layout ≡ l → IsFlat l → AreInside s.layout 0 0
  flat_inside Null is flat = none_inside Null is (λ spot. refl) refl
  flat_inside Bits is flat = none_inside Bits is (λ spot. refl) refl
  flat_inside (Bytes size) is flat = none_inside (Bytes size) is (λ spot. refl) refl
  flat_inside Binary is flat = none_inside Binary is (λ spot. refl) refl
  flat_inside Utf8 is flat = none_inside Utf8 is (λ spot. refl) refl
  flat_inside Lists is flat = absurd flat
  flat_inside (FixedSizeList size) is flat = absurd flat
  flat_inside Struct is flat = absurd flat

-- what is wanted inside a run of valid values
pub whole_inside : (s : EncodedColumn) (start count first n : ℕ) → has_null s.validity.now (run_spots start count) ≡ false
    → spots_inside (layout_named s.layout) s.offsets.now (run_spots start count) ≡ run_spots first n
    → source_spots s (run_spots start count) ≡ run_spots first n
whole_inside s start count first n whole are =
    ap (spots_inside (layout_named s.layout) s.offsets.now) (all_seen s.validity.now start count whole) ∙ are

-- what is counted of one
pub whole_counted : (s : EncodedColumn) (start count n : ℕ) → has_null s.validity.now (run_spots start count) ≡ false
    → n ≡ span_total (layout_named s.layout) s.offsets.now (run_spots start count)
    → IsCounted s (run_spots start count) (record { has_null = false; total = n })
whole_counted s start count n whole total = record {
  nulls = sym whole;
  lengths = total ∙ ap (span_total (layout_named s.layout) s.offsets.now) (sym (all_seen s.validity.now start count whole));
}

-- and of one in which a value is null, where all have as many bytes
pub null_counted_run : (s : EncodedColumn) (start count : ℕ) → has_null s.validity.now (run_spots start count) ≡ true → has_offsets (layout_named s.layout) ≡ false
    → IsCounted s (run_spots start count) (record { has_null = true; total = 0 })
null_counted_run s start count null none = record {
  nulls = sym null;
  lengths = sym (no_spans (layout_named s.layout) s.offsets.now (map (seen s.validity.now) (run_spots start count)) none);
}

-- nothing is counted where none can be null and all have as many bytes
pub plain_counted : (s : EncodedColumn) (spots : List Spot) → (length s.validity.now == 0) ≡ true → has_offsets (layout_named s.layout) ≡ false
    → IsCounted s spots (record { has_null = false; total = 0 })
plain_counted s spots none flat = record {
  nulls = sym (null_by_none s.validity.now spots none);
  lengths = sym (no_spans (layout_named s.layout) s.offsets.now (map (seen s.validity.now) spots) flat);
}

-- the first value of a run alone is null where it is not valid
pub one_whole : (validity : List ℕ) (place : ℕ) → valid_in validity place ≡ true → has_null validity (run_spots place 1) ≡ false
one_whole validity place valid = one_null validity place ∙ ap not valid

not_false : (b : Bool) → not b ≡ false → b ≡ true
not_false true is = refl
not_false false is = absurd (true≢false is)

pub not_true : (b : Bool) → not b ≡ true → b ≡ false
not_true true is = absurd (true≢false (sym is))
not_true false is = refl

pub null_of : (b null : Bool) → b ≡ not null → b ≡ false → null ≡ true
null_of b null is isnt = not_false null (sym is ∙ isnt)

pub whole_of : (b null : Bool) → b ≡ not null → b ≡ true → null ≡ false
whole_of b null is so = not_true null (sym is ∙ so)
