-- What is wanted, and what is counted of it, in two parts.
use Rattle.std.proofs.Common.{◌≡◌, sym, ap, ap₂, ◌∙◌, ℕ, zero, suc, ◌+◌, ◌==◌, ◌||◌, true, not, if◌then◌else◌, List, ◌∷◌, ◌++◌, map, arith}
use Rattle.std.proofs.lemmas.List.{map-append}
use Rattle.std.proofs.lemmas.List.Sums.{sum_by-append}
use Rattle.std.proofs.lemmas.Bool.{ne_eqb}
use Rattle.std.proofs.lemmas.Grind.{flat_map-append}
use Rattle.std.specs.List.{range_with_len}
use Rattle.bitmaps.specs.Bits.{zeros}
use Rattle.batch_types.specs.Layouts.{Layout}
use Rattle.batch_columns.specs.Held.{layout_named}
use Rattle.batch_columns.specs.declared.encoded_column.EncodedColumn.{EncodedColumn}
use Rattle.batch_reading.specs.Spots.{Spot}
use Rattle.batch_reading.specs.Taken.{is_shown, seen}
use Rattle.batch_reading.specs.Planned.{spots_under, spots_inside}
use Rattle.batch_lengths.specs.declared.counted.Counted.{Counted}
use Rattle.batch_lengths.specs.Along.{run_spots, source_spots}
use Rattle.batch_lengths.specs.Counted.{has_null, span_length, span_total, IsCounted}

-- ---- runs

pub range_both : (start m n : ℕ) → range_with_len start (m + n) ≡ range_with_len start m ++ range_with_len (start + m) n
range_both start zero n =
    let same : 0 + n ≡ n = omega arith in
    let at : start ≡ start + 0 = omega arith in
    ap (range_with_len start) same ∙ ap (λ s. range_with_len s n) at
range_both start (suc m) n =
    let longer : suc m + n ≡ suc (m + n) = omega arith in
    let at : start + 1 + m ≡ start + suc m = omega arith in
    ap (range_with_len start) longer
    ∙ ap (λ l. start ∷ l) (range_both (start + 1) m n ∙ ap (λ s. range_with_len (start + 1) m ++ range_with_len s n) at)

pub run_both : (start m n : ℕ) → run_spots start (m + n) ≡ run_spots start m ++ run_spots (start + m) n
run_both start m n =
    ap (map (λ place. (place, true))) (range_both start m n)
    ∙ map-append (λ place. (place, true)) (range_with_len start m) (range_with_len (start + m) n)

-- ---- what is wanted inside

pub inside_both : (layout : Layout) (offsets : List ℕ) (xs ys : List Spot)
    → spots_inside layout offsets (xs ++ ys) ≡ spots_inside layout offsets xs ++ spots_inside layout offsets ys
inside_both layout offsets xs ys = flat_map-append (spots_under layout offsets) xs ys

pub source_both : (s : EncodedColumn) (xs ys : List Spot) → source_spots s (xs ++ ys) ≡ source_spots s xs ++ source_spots s ys
source_both s xs ys =
    ap (spots_inside (layout_named s.layout) s.offsets.now) (map-append (seen s.validity.now) xs ys)
    ∙ inside_both (layout_named s.layout) s.offsets.now (map (seen s.validity.now) xs) (map (seen s.validity.now) ys)

-- ---- what is counted

some_of_two : (a b : ℕ) → not (a + b == 0) ≡ (not (a == 0) || not (b == 0))
some_of_two zero b = let same : 0 + b ≡ b = omega arith in ap (λ n. not (n == 0)) same
some_of_two (suc a) b =
    let more : suc a + b ≡ 0 → ⊥ = λ is. omega (arith, is) in
    let first : suc a ≡ 0 → ⊥ = λ is. omega (arith, is) in
    ap not (ne_eqb (suc a + b) 0 more) ∙ ap (λ t. not t || not (b == 0)) (sym (ne_eqb (suc a) 0 first))

pub nulls_both : (validity : List ℕ) (xs ys : List Spot) → has_null validity (xs ++ ys) ≡ (has_null validity xs || has_null validity ys)
nulls_both validity xs ys =
    ap (λ l. not (zeros l == 0)) (map-append (is_shown validity) xs ys)
    ∙ ap (λ n. not (n == 0)) (sum_by-append (λ bit. if not bit then 1 else 0) (map (is_shown validity) xs) (map (is_shown validity) ys))
    ∙ some_of_two (zeros (map (is_shown validity) xs)) (zeros (map (is_shown validity) ys))

pub spans_both : (layout : Layout) (offsets validity : List ℕ) (xs ys : List Spot)
    → span_total layout offsets (map (seen validity) (xs ++ ys))
    ≡ span_total layout offsets (map (seen validity) xs) + span_total layout offsets (map (seen validity) ys)
spans_both layout offsets validity xs ys =
    ap (span_total layout offsets) (map-append (seen validity) xs ys)
    ∙ sum_by-append (span_length layout offsets) (map (seen validity) xs) (map (seen validity) ys)

pub counted_both : (s : EncodedColumn) (xs ys : List Spot) (a b c : Counted) → IsCounted s xs a → IsCounted s ys b
    → c.has_null ≡ (a.has_null || b.has_null) → c.total ≡ a.total + b.total → IsCounted s (xs ++ ys) c
counted_both s xs ys a b c first next nulls lengths = record {
  nulls = nulls ∙ ap₂ (λ p q. p || q) first.nulls next.nulls ∙ sym (nulls_both s.validity.now xs ys);
  lengths =
      lengths ∙ ap₂ (λ m n. m + n) first.lengths next.lengths
      ∙ sym (spans_both (layout_named s.layout) s.offsets.now s.validity.now xs ys);
}
