-- Nothing is counted of blank cells, nor of any inside them.
use Rattle.std.proofs.Common.{◌≡◌, refl, sym, ap, ap₂, ◌∙◌, ℕ, ◌+◌, ◌*◌, ◌==◌, ◌||◌, ◌&&◌, Bool, true, false, true≢false, not, if◌then◌else◌, List, [], ◌∷◌, ◌++◌, map}
use Rattle.std.proofs.lemmas.List.Sums.{sum_by-cons}
use Rattle.std.specs.List.{AllByRecursion, range_with_len}
use Rattle.bitmaps.specs.Bits.{zeros}
use Rattle.batch_types.specs.Layouts.{Layout, null_layout, bits_layout, bytes_layout, binary_layout, utf8_layout}
use Rattle.batch_types.specs.Layouts.{list_layout, fixed_size_list_layout, struct_layout}
use Rattle.batch_columns.specs.Held.{layout_named}
use Rattle.batch_columns.specs.declared.encoded_column.EncodedColumn.{EncodedColumn}
use Rattle.batch_reading.specs.Spots.{Spot}
use Rattle.batch_reading.specs.Taken.{valid_in, is_shown, seen}
use Rattle.batch_reading.specs.Planned.{spots_under, spots_inside}
use Rattle.batch_lengths.specs.Counted.{span_length, span_total, IsCounted}

-- the cells at these spots are blank
abbrev pub AreBlank : List Spot → Type 0
AreBlank spots = AllByRecursion (λ spot. spot.1 ≡ false) spots

both_blank : (xs ys : List Spot) → AreBlank xs → AreBlank ys → AreBlank (xs ++ ys)
both_blank [] ys some more = more
both_blank (x ∷ xs) ys some more = (some.0, both_blank xs ys some.1 more)

pub listed_blank : (mark : Bool) (places : List ℕ) → mark ≡ false → AreBlank (map (λ place. (place, mark)) places)
listed_blank mark [] is = tt
listed_blank mark (p ∷ ps) is = (is, listed_blank mark ps is)

pub under_blank : (layout : Layout) (offsets : List ℕ) (place : ℕ) (mark : Bool) → mark ≡ false → AreBlank (spots_under layout offsets (place, mark))
under_blank null_layout offsets place mark is = tt
under_blank bits_layout offsets place mark is = tt
under_blank (bytes_layout size) offsets place mark is = tt
under_blank (binary_layout offset) offsets place mark is = tt
under_blank (utf8_layout offset) offsets place mark is = tt
under_blank (list_layout offset) offsets place true is = absurd (true≢false is)
under_blank (list_layout offset) offsets place false is = tt
under_blank (fixed_size_list_layout size) offsets place mark is = listed_blank mark (range_with_len (size * place) size) is
under_blank struct_layout offsets place mark is = (is, tt)

pub inside_blank : (layout : Layout) (offsets : List ℕ) (spots : List Spot) → AreBlank spots → AreBlank (spots_inside layout offsets spots)
inside_blank layout offsets [] all = tt
inside_blank layout offsets (spot ∷ spots) all =
    both_blank (spots_under layout offsets spot) (spots_inside layout offsets spots) (under_blank layout offsets spot.0 spot.1 all.0)
    (inside_blank layout offsets spots all.1)

pub seen_blank : (validity : List ℕ) (spots : List Spot) → AreBlank spots → AreBlank (map (seen validity) spots)
seen_blank validity [] all = tt
seen_blank validity (spot ∷ spots) all = (ap (λ mark. mark && valid_in validity spot.0) all.0, seen_blank validity spots all.1)

pub no_nulls : (validity : List ℕ) (spots : List Spot) → AreBlank spots → zeros (map (is_shown validity) spots) ≡ 0
no_nulls validity [] all = refl
no_nulls validity (spot ∷ spots) all =
    sum_by-cons (λ bit. if not bit then 1 else 0) (is_shown validity spot) (map (is_shown validity) spots)
    ∙ ap₂ (λ mark n. (if not (not mark || valid_in validity spot.0) then 1 else 0) + n) all.0 (no_nulls validity spots all.1)

no_span : (layout : Layout) (offsets : List ℕ) (place : ℕ) (mark : Bool) → mark ≡ false → span_length layout offsets (place, mark) ≡ 0
no_span null_layout offsets place mark is = refl
no_span bits_layout offsets place mark is = refl
no_span (bytes_layout size) offsets place mark is = refl
no_span (binary_layout offset) offsets place true is = absurd (true≢false is)
no_span (binary_layout offset) offsets place false is = refl
no_span (utf8_layout offset) offsets place true is = absurd (true≢false is)
no_span (utf8_layout offset) offsets place false is = refl
no_span (list_layout offset) offsets place true is = absurd (true≢false is)
no_span (list_layout offset) offsets place false is = refl
no_span (fixed_size_list_layout size) offsets place mark is = refl
no_span struct_layout offsets place mark is = refl

pub no_spans_blank : (layout : Layout) (offsets : List ℕ) (spots : List Spot) → AreBlank spots → span_total layout offsets spots ≡ 0
no_spans_blank layout offsets [] all = refl
no_spans_blank layout offsets (spot ∷ spots) all =
    sum_by-cons (span_length layout offsets) spot spots
    ∙ ap₂ (λ m n. m + n) (no_span layout offsets spot.0 spot.1 all.0) (no_spans_blank layout offsets spots all.1)

pub blank_counted : (s : EncodedColumn) (spots : List Spot) → AreBlank spots → IsCounted s spots (record { has_null = false; total = 0 })
blank_counted s spots all = record {
  nulls = ap (λ n. not (n == 0)) (sym (no_nulls s.validity.now spots all));
  lengths = sym (no_spans_blank (layout_named s.layout) s.offsets.now (map (seen s.validity.now) spots) (seen_blank s.validity.now spots all));
}
