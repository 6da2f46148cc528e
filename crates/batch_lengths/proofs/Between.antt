-- What is wanted stands in order, and within what is read.
use Rattle.std.proofs.Common.{◌≡◌, refl, sym, ap₂, subst, ◌∙◌, ℕ, zero, suc, ◌+◌, ◌*◌, ◌^◌, ◌<◌, ◌≤◌, Bool, true, false, List, [], ◌∷◌, ◌++◌, map, length, arith, mul-le-mul_left}
use Rattle.std.proofs.lemmas.List.Sums.{sum_by-cons}
use Rattle.std.specs.List.{flat_map, range_with_len, sum_by}
use Rattle.batch_types.specs.Layouts.{Layout, null_layout, bits_layout, bytes_layout, binary_layout, utf8_layout}
use Rattle.batch_types.specs.Layouts.{list_layout, fixed_size_list_layout, struct_layout}
use Rattle.batch_types.specs.Placed.{start_of, length_of}
use Rattle.batch_columns.specs.Held.{layout_named}
use Rattle.batch_columns.specs.declared.encoded_column.EncodedColumn.{EncodedColumn}
use Rattle.batch_reading.specs.Spots.{Spot}
use Rattle.batch_reading.specs.Taken.{seen}
use Rattle.batch_reading.specs.Planned.{elements_taken, spots_under, spots_inside}
use Rattle.batch_lengths.specs.declared.counted.Counted.{Counted}
use Rattle.batch_lengths.specs.Along.{run_spots}
use Rattle.batch_lengths.specs.Counted.{span_length, span_total, IsCounted}
use Rattle.batch_lengths.specs.Reach.{DoReach, Reaches, ReadsTo, end_inside, Between}
use Rattle.batch_lengths.proofs.Whole.{starts_to, reach_less}

pub between_le : (from end : ℕ) (spots : List Spot) → Between from end spots → from ≤ end
between_le from end [] is = is
between_le from end (spot ∷ rest) is = omega (arith, is.0, between_le (spot.0 + 1) end rest is.1)

pub between_wider : (low from end high : ℕ) → low ≤ from → end ≤ high → (spots : List Spot) → Between from end spots → Between low high spots
between_wider low from end high below above [] is = omega (arith, below, above, is)
between_wider low from end high below above (spot ∷ rest) is =
    (omega (arith, below, is.0), between_wider (spot.0 + 1) (spot.0 + 1) end high (omega arith) above rest is.1)

between_both : (from middle end : ℕ) (xs ys : List Spot) → Between from middle xs → Between middle end ys → Between from end (xs ++ ys)
between_both from middle end [] ys low high = between_wider from middle end end low (omega arith) ys high
between_both from middle end (x ∷ xs) ys low high = (low.0, between_both (x.0 + 1) middle end xs ys low.1 high)

marked_run : (mark : Bool) (start count end : ℕ) → start + count ≤ end → Between start end (map (λ place. (place, mark)) (range_with_len start count))
marked_run mark start zero end within = omega (arith, within)
marked_run mark start (suc count) end within = (omega arith, marked_run mark (start + 1) count end (omega (arith, within)))

pub between_run : (start count end : ℕ) → start + count ≤ end → Between start end (run_spots start count)
between_run start count end within = marked_run true start count end within

pub between_seen : (validity : List ℕ) (from end : ℕ) (spots : List Spot) → Between from end spots → Between from end (map (seen validity) spots)
between_seen validity from end [] is = is
between_seen validity from end (spot ∷ rest) is = (is.0, between_seen validity (spot.0 + 1) end rest is.1)

pub between_long : (from end : ℕ) (spots : List Spot) → Between from end spots → length spots + from ≤ end
between_long from end [] is = omega (arith, is)
between_long from end (spot ∷ rest) is = omega (arith, is.0, between_long (spot.0 + 1) end rest is.1)

-- ---- inside a column

module _ (offsets : List ℕ) (end : ℕ) (has : DoReach offsets end) where
  listed : (j : ℕ) (mark : Bool) → j < end
      → Between (start_of 4 offsets j) (start_of 4 offsets (j + 1)) (map (λ place. (place, true)) (elements_taken offsets (j, mark)))
  listed j true below =
      let next : start_of 4 offsets j ≤ start_of 4 offsets (j + 1) = has.rises j below in
      between_run (start_of 4 offsets j) (length_of 4 offsets j) (start_of 4 offsets (j + 1)) (omega (arith, next))
  listed j false below = has.rises j below

  lists_between : (from : ℕ) (spots : List Spot) → Between from end spots
      → Between (start_of 4 offsets from) (start_of 4 offsets end) (spots_inside (list_layout 4) offsets spots)
  lists_between from [] is = starts_to offsets end has from end is (omega arith)
  lists_between from (spot ∷ rest) is =
      let below : spot.0 + 1 ≤ end = between_le (spot.0 + 1) end rest is.1 in
      let low : start_of 4 offsets from ≤ start_of 4 offsets spot.0 = starts_to offsets end has from spot.0 is.0 (omega (arith, below)) in
      between_both (start_of 4 offsets from) (start_of 4 offsets (spot.0 + 1)) (start_of 4 offsets end)
      (spots_under (list_layout 4) offsets spot) (spots_inside (list_layout 4) offsets rest)
      (between_wider (start_of 4 offsets from) (start_of 4 offsets spot.0) (start_of 4 offsets (spot.0 + 1)) (start_of 4 offsets (spot.0 + 1)) low (omega arith)
      (spots_under (list_layout 4) offsets spot) (listed spot.0 spot.1 (omega (arith, below))))
      (lists_between (spot.0 + 1) rest is.1)

  span_one : (j : ℕ) (mark : Bool) → j < end → span_length (list_layout 4) offsets (j, mark) + start_of 4 offsets j ≤ start_of 4 offsets (j + 1)
  span_one j true below = let next : start_of 4 offsets j ≤ start_of 4 offsets (j + 1) = has.rises j below in omega (arith, next)
  span_one j false below = let next : start_of 4 offsets j ≤ start_of 4 offsets (j + 1) = has.rises j below in omega (arith, next)

  pub spans_between : (from : ℕ) (spots : List Spot) → Between from end spots
      → span_total (list_layout 4) offsets spots + start_of 4 offsets from ≤ start_of 4 offsets end
  spans_between from [] is = omega (arith, starts_to offsets end has from end is (omega arith))
  spans_between from (spot ∷ rest) is =
      let below : spot.0 + 1 ≤ end = between_le (spot.0 + 1) end rest is.1 in
      let low : start_of 4 offsets from ≤ start_of 4 offsets spot.0 = starts_to offsets end has from spot.0 is.0 (omega (arith, below)) in
      let one : span_length (list_layout 4) offsets spot + start_of 4 offsets spot.0 ≤ start_of 4 offsets (spot.0 + 1) =
      span_one spot.0 spot.1 (omega (arith, below)) in
      omega (arith, low, one, spans_between (spot.0 + 1) rest is.1, sum_by-cons (span_length (list_layout 4) offsets) spot rest)

sized_between : (size from end : ℕ) (offsets : List ℕ) (spots : List Spot) → Between from end spots
    → Between (size * from) (size * end) (spots_inside (fixed_size_list_layout size) offsets spots)
sized_between size from end offsets [] is = mul-le-mul_left size is
sized_between size from end offsets (spot ∷ rest) is =
    let low : size * from ≤ size * spot.0 = mul-le-mul_left size is.0 in
    let next : size * (spot.0 + 1) ≡ size * spot.0 + size = omega arith in
    between_both (size * from) (size * (spot.0 + 1)) (size * end) (spots_under (fixed_size_list_layout size) offsets spot)
    (spots_inside (fixed_size_list_layout size) offsets rest)
    (between_wider (size * from) (size * spot.0) (size * (spot.0 + 1)) (size * (spot.0 + 1)) low (omega arith)
    (spots_under (fixed_size_list_layout size) offsets spot)
    (marked_run spot.1 (size * spot.0) size (size * (spot.0 + 1)) (omega (arith, next))))
    (sized_between size (spot.0 + 1) end offsets rest is.1)

struct_between : (from end : ℕ) (offsets : List ℕ) (spots : List Spot) → Between from end spots → Between from end (spots_inside struct_layout offsets spots)
struct_between from end offsets [] is = is
struct_between from end offsets (spot ∷ rest) is = (is.0, struct_between (spot.0 + 1) end offsets rest is.1)

nothing_between : (f : Spot → List Spot) → ((spot : Spot) → f spot ≡ []) → (spots : List Spot) → Between 0 0 (flat_map f spots)
nothing_between f none spots = subst (Between 0 0) (sym (nothing spots)) (omega arith)
  where
    nothing : (xs : List Spot) → flat_map f xs ≡ []
    nothing [] = refl
    nothing (x ∷ xs) = ap₂ (λ ys zs. ys ++ zs) (none x) (nothing xs)

pub inside_between : (layout : Layout) (offsets : List ℕ) (from end : ℕ) (spots : List Spot) → Reaches layout offsets end → Between from end spots
    → Between (end_inside layout offsets from) (end_inside layout offsets end) (spots_inside layout offsets spots)
inside_between null_layout offsets from end spots reach is = nothing_between (spots_under null_layout offsets) (λ spot. refl) spots
inside_between bits_layout offsets from end spots reach is = nothing_between (spots_under bits_layout offsets) (λ spot. refl) spots
inside_between (bytes_layout size) offsets from end spots reach is = nothing_between (spots_under (bytes_layout size) offsets) (λ spot. refl) spots
inside_between (binary_layout offset) offsets from end spots reach is = nothing_between (spots_under (binary_layout offset) offsets) (λ spot. refl) spots
inside_between (utf8_layout offset) offsets from end spots reach is = nothing_between (spots_under (utf8_layout offset) offsets) (λ spot. refl) spots
inside_between (list_layout offset) offsets from end spots reach is = lists_between offsets end reach from spots is
inside_between (fixed_size_list_layout size) offsets from end spots reach is = sized_between size from end offsets spots is
inside_between struct_layout offsets from end spots reach is = struct_between from end offsets spots is

-- ---- what is read of fewer values

layout_less : (layout : Layout) (offsets : List ℕ) (less end : ℕ) → less ≤ end → Reaches layout offsets end → Reaches layout offsets less
layout_less null_layout offsets less end few reach = tt
layout_less bits_layout offsets less end few reach = tt
layout_less (bytes_layout size) offsets less end few reach = tt
layout_less (binary_layout offset) offsets less end few reach = reach_less offsets end reach less few
layout_less (utf8_layout offset) offsets less end few reach = reach_less offsets end reach less few
layout_less (list_layout offset) offsets less end few reach = reach_less offsets end reach less few
layout_less (fixed_size_list_layout size) offsets less end few reach =
    let up : size * less ≤ size * end = mul-le-mul_left size few in omega (arith, up, reach)
layout_less struct_layout offsets less end few reach = tt

pub end_less : (layout : Layout) (offsets : List ℕ) (less end : ℕ) → less ≤ end → Reaches layout offsets end → end_inside layout offsets less ≤ end_inside layout offsets end
end_less null_layout offsets less end few reach = omega arith
end_less bits_layout offsets less end few reach = omega arith
end_less (bytes_layout size) offsets less end few reach = omega arith
end_less (binary_layout offset) offsets less end few reach = omega arith
end_less (utf8_layout offset) offsets less end few reach = omega arith
end_less (list_layout offset) offsets less end few reach = starts_to offsets end reach less end few (omega arith)
end_less (fixed_size_list_layout size) offsets less end few reach = mul-le-mul_left size few
end_less struct_layout offsets less end few reach = few

pub reads_less : (s : EncodedColumn) (less end : ℕ) → less ≤ end → ReadsTo s end → ReadsTo s less
reads_less s less end few reads = record {
  few = omega (arith, reads.few, few);
  reaches = layout_less (layout_named s.layout) s.offsets.now less end few reads.reaches;
}

-- ---- what is counted of it fits

flat_fits : (f : Spot → ℕ) → ((spot : Spot) → f spot ≡ 0) → (xs : List Spot) → sum_by f xs ≡ 0
flat_fits f none [] = refl
flat_fits f none (x ∷ xs) = sum_by-cons f x xs ∙ ap₂ (λ m n. m + n) (none x) (flat_fits f none xs)

pub spans_fit : (layout : Layout) (offsets : List ℕ) (from end : ℕ) (taken : List Spot) → Reaches layout offsets end → Between from end taken → span_total layout offsets taken < 2 ^ 64
spans_fit null_layout offsets from end taken reach is = omega (arith, flat_fits (span_length null_layout offsets) (λ spot. refl) taken)
spans_fit bits_layout offsets from end taken reach is = omega (arith, flat_fits (span_length bits_layout offsets) (λ spot. refl) taken)
spans_fit (bytes_layout size) offsets from end taken reach is = omega (arith, flat_fits (span_length (bytes_layout size) offsets) (λ spot. refl) taken)
spans_fit (binary_layout offset) offsets from end taken reach is = omega (arith, spans_between offsets end reach from taken is, reach.ends)
spans_fit (utf8_layout offset) offsets from end taken reach is = omega (arith, spans_between offsets end reach from taken is, reach.ends)
spans_fit (list_layout offset) offsets from end taken reach is = omega (arith, spans_between offsets end reach from taken is, reach.ends)
spans_fit (fixed_size_list_layout size) offsets from end taken reach is =
    omega (arith, flat_fits (span_length (fixed_size_list_layout size) offsets) (λ spot. refl) taken)
spans_fit struct_layout offsets from end taken reach is = omega (arith, flat_fits (span_length struct_layout offsets) (λ spot. refl) taken)

pub counted_fits : (s : EncodedColumn) (from end : ℕ) (spots : List Spot) (counted : Counted) → ReadsTo s end → Between from end spots → IsCounted s spots counted
    → counted.total < 2 ^ 64
counted_fits s from end spots counted reads is of =
    subst (λ n. n < 2 ^ 64) (sym of.lengths)
    (spans_fit (layout_named s.layout) s.offsets.now from end (map (seen s.validity.now) spots) reads.reaches (between_seen s.validity.now from end spots is))
