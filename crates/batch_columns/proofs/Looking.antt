-- What is seen of a column's buffers is what its cells are.
use Rattle.std.proofs.Common.{◌≡◌, ◌≢◌, refl, sym, ap, ◌∙◌, subst, ℕ, suc, ◌+◌, ◌-◌, ◌*◌, ◌^◌, ◌<◌, ◌≤◌, ◌==◌, ◌||◌, Bool, true, false, not, List, [], ◌∷◌, length, get_or, take, replicate, true≢false, arith, mul-le-mul_left, length-append}
use Rattle.std.specs.List.{AllByRecursion, flat_map, sum_by, range_with_len}
use Rattle.bitmaps.specs.Bits.{bit_of}
use native.Mathlib.Nat.{mul-suc}
use Rattle.std.proofs.lemmas.List.{length-replicate, length-map}
use Rattle.std.proofs.lemmas.List.Sums.{sum_by-cons, sum_by-take-le, sum_by_more}
use Rattle.std.proofs.lemmas.Bool.{eqb-true}
use Rattle.byteorder.specs.Endian.{little_bytes}
use Rattle.byteorder.specs.Numbers.{length-bytes_low_first}
use Rattle.std.proofs.lemmas.List.FromFn.{length-range_with_len}
use Rattle.batch_types.specs.Cells.{Cell, null_cell, bit_cell, bytes_cell, list_cell, tuple_cell}
use Rattle.batch_types.specs.Shapes.{Shape, shape}
use Rattle.batch_types.specs.Typed.{AreBytes, FitsLayout, IsCellOf, IsElementOf, AreFieldsOf}
use Rattle.batch_columns.specs.Buffers.{offsets_among, values_among}
use Rattle.batch_columns.specs.Contents.{layout_of_shape}
use Rattle.batch_types.specs.Layouts.{Layout, null_layout, bits_layout, bytes_layout, binary_layout, utf8_layout}
use Rattle.batch_types.specs.Layouts.{list_layout, fixed_size_list_layout, struct_layout}
use Rattle.batch_types.specs.Canonical.{own_buffers, is_null, bytes_or, validity_of, offsets_of, bytes_lengths}
use Rattle.batch_types.specs.Written.{HasRoom}
use Rattle.batch_types.specs.Placed.{is_valid, bytes_from, start_of, value_bytes}
use Rattle.batch_columns.specs.Looks.{has_values, has_spread}

-- ---- validity

has_validity : (layout : Layout) (cells : List Cell) → has_values layout ≡ true → get_or (own_buffers layout cells) 0 [] ≡ validity_of cells
has_validity null_layout cells has = absurd (true≢false (sym has))
has_validity bits_layout cells has = refl
has_validity (bytes_layout size) cells has = refl
has_validity (binary_layout offset) cells has = refl
has_validity (utf8_layout offset) cells has = refl
has_validity (list_layout offset) cells has = refl
has_validity (fixed_size_list_layout size) cells has = refl
has_validity struct_layout cells has = refl

valid_as : (layout : Layout) (validity : List ℕ) (j : ℕ) → has_values layout ≡ true → (length validity == 0) || bit_of validity j ≡ is_valid layout validity j
valid_as null_layout validity j has = absurd (true≢false (sym has))
valid_as bits_layout validity j has = refl
valid_as (bytes_layout size) validity j has = refl
valid_as (binary_layout offset) validity j has = refl
valid_as (utf8_layout offset) validity j has = refl
valid_as (list_layout offset) validity j has = refl
valid_as (fixed_size_list_layout size) validity j has = refl
valid_as struct_layout validity j has = refl

not_not : (b : Bool) → not (not b) ≡ b
not_not true = refl
not_not false = refl

module _ (law : (layout : Layout) (cells : List Cell) (j : ℕ) → layout ≢ null_layout → j < length cells
    → is_valid layout (validity_of cells) j ≡ not (is_null (get_or cells j null_cell))) where
  -- a cell is null where there is a bitmap and its bit is not set
  pub null_by_bit : (layout : Layout) (cells : List Cell) (validity : List ℕ) (j : ℕ) → has_values layout ≡ true → j < length cells
      → validity ≡ get_or (own_buffers layout cells) 0 [] → not ((length validity == 0) || bit_of validity j) ≡ is_null (get_or cells j null_cell)
  null_by_bit layout cells validity j has within is =
      ap not
      (valid_as layout validity j has ∙ ap (λ bytes. is_valid layout bytes j) (is ∙ has_validity layout cells has)
      ∙ law layout cells j (λ same. true≢false (sym has ∙ ap has_values same)) within)
      ∙ not_not (is_null (get_or cells j null_cell))

-- ---- values of one size

module _ (size : ℕ) where
  as_long : (cell : Cell) → AreBytes (λ bytes. length bytes ≡ size) cell → length (bytes_or (replicate size 0) cell) ≡ size
  as_long null_cell fits = length-replicate size 0
  as_long (bit_cell bit) fits = absurd fits
  as_long (bytes_cell bytes) fits = fits
  as_long (list_cell cells) fits = absurd fits
  as_long (tuple_cell cells) fits = absurd fits

  all_long : (cells : List Cell) → AllByRecursion (AreBytes (λ bytes. length bytes ≡ size)) cells
      → length (flat_map (bytes_or (replicate size 0)) cells) ≡ size * length cells
  all_long [] all = omega arith
  all_long (cell ∷ cells) all =
      omega (
        arith,
        length-append (bytes_or (replicate size 0) cell) (flat_map (bytes_or (replicate size 0)) cells),
        as_long cell all.0,
        all_long cells all.1,
        mul-suc size (length cells),
      )

  module _ (law : (n : ℕ) (cells : List Cell) (j : ℕ) → AllByRecursion (AreBytes (λ bytes. length bytes ≡ n)) cells → j < length cells
      → bytes_from (flat_map (bytes_or (replicate n 0)) cells) (n * j) n ≡ bytes_or (replicate n 0) (get_or cells j null_cell)) where
    pub sized_block : (s : Shape) (cells : List Cell) (bytes : List ℕ) (j : ℕ) → layout_of_shape s ≡ bytes_layout size → j < length cells
        → AllByRecursion (IsCellOf s) cells → bytes ≡ values_among (layout_of_shape s) (own_buffers (layout_of_shape s) cells)
        → (size * j + size ≤ length bytes) × (bytes_from bytes (size * j) size ≡ bytes_or (replicate size 0) (get_or cells j null_cell))
    sized_block (shape layout inside) cells bytes j is within fit same =
        let fits : AllByRecursion (AreBytes (λ bytes. length bytes ≡ size)) cells =
        subst (λ l. AllByRecursion (FitsLayout l (IsElementOf inside) (AreFieldsOf inside)) cells) is fit in
        let whole : bytes ≡ flat_map (bytes_or (replicate size 0)) cells = same ∙ ap (λ l. values_among l (own_buffers l cells)) is in
        let up : size * suc j ≤ size * length cells = mul-le-mul_left size (omega arith) in (
          omega (arith, ap length whole, all_long cells fits, up, mul-suc size j),
          ap (λ l. bytes_from l (size * j) size) whole ∙ law size cells j fits within,
        )

-- ---- values of any size

offsets_long : (lengths js : List ℕ) → length (flat_map (λ j. little_bytes 4 (sum_by (λ n. n) (take j lengths))) js) ≡ 4 * length js
offsets_long lengths [] = refl
offsets_long lengths (j ∷ js) =
    let one : length (little_bytes 4 (sum_by (λ n. n) (take j lengths))) ≡ 4 = length-bytes_low_first 0 4 (sum_by (λ n. n) (take j lengths)) in
    let both : length (flat_map (λ i. little_bytes 4 (sum_by (λ n. n) (take i lengths))) (j ∷ js))
    ≡ length (little_bytes 4 (sum_by (λ n. n) (take j lengths))) + length (flat_map (λ i. little_bytes 4 (sum_by (λ n. n) (take i lengths))) js) =
    length-append (little_bytes 4 (sum_by (λ n. n) (take j lengths))) (flat_map (λ i. little_bytes 4 (sum_by (λ n. n) (take i lengths))) js) in
    omega (arith, one, both, offsets_long lengths js)

bytes_long : (cells : List Cell) → length (flat_map (bytes_or []) cells) ≡ sum_by (λ n. n) (bytes_lengths cells)
bytes_long [] = refl
bytes_long (cell ∷ cells) =
    length-append (bytes_or [] cell) (flat_map (bytes_or []) cells) ∙ ap (λ n. length (bytes_or [] cell) + n) (bytes_long cells)
    ∙ sym (sum_by-cons (λ n. n) (length (bytes_or [] cell)) (bytes_lengths cells))

-- where a value stands by its offsets, and that it is the cell's
abbrev IsSpread : List ℕ → List ℕ → ℕ → Cell → Type 0
IsSpread offsets bytes j cell =
    (4 * (j + 1) + 4 ≤ length offsets) × (start_of 4 offsets j ≤ start_of 4 offsets (j + 1)) × (start_of 4 offsets (j + 1) ≤ length bytes)
    × (bytes_from bytes (start_of 4 offsets j) (start_of 4 offsets (j + 1) - start_of 4 offsets j) ≡ bytes_or [] cell)

module _ (starts : (size : ℕ) (lengths : List ℕ) (j : ℕ) → sum_by (λ n. n) lengths < 2 ^ (8 * size - 1)
    → j ≤ length lengths → start_of size (offsets_of size lengths) j ≡ sum_by (λ n. n) (take j lengths))
    (values : (size : ℕ) (cells : List Cell) (j : ℕ) → sum_by (λ n. n) (bytes_lengths cells) < 2 ^ (8 * size - 1) → j < length cells
    → value_bytes size (offsets_of size (bytes_lengths cells)) (flat_map (bytes_or []) cells) j ≡ bytes_or [] (get_or cells j null_cell)) where
  spread_written : (cells : List Cell) (j : ℕ) → sum_by (λ n. n) (bytes_lengths cells) < 2 ^ (8 * 4 - 1) → j < length cells
      → IsSpread (offsets_of 4 (bytes_lengths cells)) (flat_map (bytes_or []) cells) j (get_or cells j null_cell)
  spread_written cells j few within =
      let lengths : List ℕ = bytes_lengths cells in
      let counted : length (bytes_lengths cells) ≡ length cells = length-map cells (λ cell. length (bytes_or [] cell)) in
      let here : start_of 4 (offsets_of 4 (bytes_lengths cells)) j ≡ sum_by (λ n. n) (take j (bytes_lengths cells)) =
      starts 4 (bytes_lengths cells) j few (omega (arith, counted, within)) in
      let next : start_of 4 (offsets_of 4 (bytes_lengths cells)) (j + 1) ≡ sum_by (λ n. n) (take (j + 1) (bytes_lengths cells)) =
      starts 4 (bytes_lengths cells) (j + 1) few (omega (arith, counted, within)) in
      let more : sum_by (λ n. n) (take (j + 1) (bytes_lengths cells)) ≡ sum_by (λ n. n) (take j (bytes_lengths cells)) + get_or (bytes_lengths cells) j 0 =
      sum_by_more (λ n. n) (bytes_lengths cells) j 0 (omega (arith, counted, within)) in
      let all : sum_by (λ n. n) (take (j + 1) (bytes_lengths cells)) ≤ sum_by (λ n. n) (bytes_lengths cells) = sum_by-take-le (λ n. n) (bytes_lengths cells) (j + 1) in
      let long : length (offsets_of 4 (bytes_lengths cells)) ≡ 4 * length (range_with_len 0 (length (bytes_lengths cells) + 1)) =
      offsets_long (bytes_lengths cells) (range_with_len 0 (length (bytes_lengths cells) + 1)) in
      let each : length (range_with_len 0 (length (bytes_lengths cells) + 1)) ≡ length (bytes_lengths cells) + 1 =
      length-range_with_len 0 (length (bytes_lengths cells) + 1) in (
        omega (arith, long, each, counted, within),
        omega (arith, here, next, more),
        omega (arith, next, all, bytes_long cells),
        values 4 cells j few within,
      )

  spread_as : (cells : List Cell) (offsets bytes : List ℕ) (j : ℕ) → j < length cells → (offset : ℕ) → offset ≡ 4
      → sum_by (λ n. n) (bytes_lengths cells) < 2 ^ (8 * offset - 1)
      → offsets ≡ offsets_of offset (bytes_lengths cells) → bytes ≡ flat_map (bytes_or []) cells → IsSpread offsets bytes j (get_or cells j null_cell)
  spread_as cells offsets bytes j within offset four few is whole =
      let little : sum_by (λ n. n) (bytes_lengths cells) < 2 ^ (8 * 4 - 1) =
      subst (λ n. sum_by (λ n. n) (bytes_lengths cells) < 2 ^ (8 * n - 1)) four few in
      subst (λ x. IsSpread x bytes j (get_or cells j null_cell)) (sym (is ∙ ap (λ n. offsets_of n (bytes_lengths cells)) four))
      (subst (λ x. IsSpread (offsets_of 4 (bytes_lengths cells)) x j (get_or cells j null_cell)) (sym whole) (spread_written cells j little within))

  pub spread_part : (layout : Layout) (cells : List Cell) (offsets bytes : List ℕ) (j : ℕ) → has_spread layout ≡ true → j < length cells
      → HasRoom layout cells → offsets ≡ offsets_among layout (own_buffers layout cells) → bytes ≡ values_among layout (own_buffers layout cells)
      → IsSpread offsets bytes j (get_or cells j null_cell)
  spread_part (binary_layout offset) cells offsets bytes j has within room is whole =
      spread_as cells offsets bytes j within offset (eqb-true offset 4 has) room is whole
  spread_part (utf8_layout offset) cells offsets bytes j has within room is whole =
      spread_as cells offsets bytes j within offset (eqb-true offset 4 has) room is whole
  spread_part null_layout cells offsets bytes j has within room is whole = absurd (true≢false (sym has))
  spread_part bits_layout cells offsets bytes j has within room is whole = absurd (true≢false (sym has))
  spread_part (bytes_layout size) cells offsets bytes j has within room is whole = absurd (true≢false (sym has))
  spread_part (list_layout offset) cells offsets bytes j has within room is whole = absurd (true≢false (sym has))
  spread_part (fixed_size_list_layout size) cells offsets bytes j has within room is whole = absurd (true≢false (sym has))
  spread_part struct_layout cells offsets bytes j has within room is whole = absurd (true≢false (sym has))
