-- What is written of columns keeps all rules, and is read as their cells.
use Rattle.std.proofs.Common.{◌≡◌, ◌≢◌, inl, inr, refl, sym, ap, ap₂, ◌∙◌, subst, ℕ, suc, ◌+◌, ◌-◌, ◌*◌, ◌^◌, ◌<◌, ◌≤◌, ◌==◌, Bool, true, false, not, if◌then◌else◌, pos, List, [], ◌∷◌, length, get_or, map, take, replicate, arith}
use Rattle.std.specs.List.{AllByRecursion, range_with_len, filter, flat_map, sum_by, count_by}
use Rattle.std.specs.Str.{IsUtf8}
use Rattle.std.proofs.lemmas.List.{length-map}
use Rattle.std.proofs.lemmas.List.FromFn.{length-range_with_len}
use Rattle.std.proofs.lemmas.List.Sums.{sum_by-cons}
use Rattle.std.proofs.lemmas.Bool.{eqb-true}
use Rattle.byteorder.specs.Endian.{little_bytes}
use Rattle.bitmaps.specs.Packed.{IsPacked}
use Rattle.bitmaps.specs.Packing.{packed_bytes}
use Rattle.batch_types.specs.Cells.{Cell, null_cell, bit_cell, bytes_cell, list_cell, tuple_cell, Cells, no_cell, cell_then, cells_of}
use Rattle.batch_types.specs.Layouts.{Layout, null_layout, bits_layout, bytes_layout, binary_layout, utf8_layout}
use Rattle.batch_types.specs.Layouts.{list_layout, fixed_size_list_layout, struct_layout}
use Rattle.batch_types.specs.Shapes.{Shape, shape, Shapes, no_shape, shape_then}
use Rattle.batch_types.specs.Typed.{AreBytes, IsCellOf}
use Rattle.batch_types.specs.Laid.{LaidColumns}
use Rattle.batch_types.specs.Placed.{bytes_at, buffer_at, is_valid, value_at, value_bytes, start_of, length_of, cell_at, cells_inside, fields_at}
use Rattle.batch_types.specs.Rules.{IsValidityLong, AreOffsetsLong, AreLong, HasNullCount, nulls_in, DoRise, OffsetsRise, HasOffsets, AreUtf8, first_length, asked_inside, places_of, places_inside}
use Rattle.batch_types.specs.LaysOut.{KeepsRule, IsSound, AreSound}
use Rattle.batch_types.specs.Order.{AreKept, column_order}
use Rattle.batch_types.specs.Canonical.{blank_of, is_null, bit_in, bytes_or, elements_or, field_or, nulls_of, validity_of, offsets_of, elements_lengths, own_buffers, parts_of, ranges_from}
use Rattle.batch_types.specs.Written.{HasRoom, blanks_under, written_elements, written_fields}
use Rattle.batch_types.proofs.Typing.{mapped, run_below, flat_below, filtered_all, span_within, within_size}
use Rattle.batch_types.proofs.ReadBack.{all_at, valid_is, bytes_are, offsets_rise, even_bytes, numbers_even}
use Rattle.batch_types.proofs.WrittenCells.{cell_is}
use Rattle.batch_types.proofs.Standing.{end_of, stand_read, stand_inside}
use Rattle.batch_types.proofs.WrittenColumns.{element_columns, field_columns, columns_in, column_of, columns_of}
use Rattle.batch_types.proofs.WrittenInside.{HasFirst, IsFilled, IsWritten, AreWritten, count_inside, long_in_all, even_long, own_stand, inside_written, no_text}

-- ---- cells of columns inside, as they are written

-- the cells at these places of the first column
abbrev first_cells : Shapes → List (List Cell) → List ℕ → Cells
first_cells no_shape columns places = no_cell
first_cells (shape_then s rest) [] places = no_cell
first_cells (shape_then s rest) (cells ∷ columns) places = cells_of (map (λ k. get_or cells k null_cell) places)

-- the cell at place j of each column
abbrev cells_beside : Shapes → List (List Cell) → ℕ → Cells
cells_beside no_shape columns j = no_cell
cells_beside (shape_then s rest) [] j = no_cell
cells_beside (shape_then s rest) (cells ∷ columns) j = cell_then (get_or cells j null_cell) (cells_beside rest columns j)

elements_same : (inside : Shapes) (cells : List Cell) (blanks : ℕ) (places : List ℕ)
    → first_cells inside (element_columns inside cells blanks) places ≡ written_elements inside cells blanks places
elements_same no_shape cells blanks places = refl
elements_same (shape_then s rest) cells blanks places = refl

fields_same : (inside : Shapes) (k : ℕ) (cells : List Cell) (j : ℕ)
    → cells_beside inside (field_columns inside k cells) j ≡ written_fields inside k cells j
fields_same no_shape k cells j = refl
fields_same (shape_then s rest) k cells j =
    ap (cell_then (get_or (map (field_or (blank_of s) k) cells) j null_cell)) (fields_same rest (suc k) cells j)

pub map_same : {A : Type 0} (f g : ℕ → A) (P : ℕ → Type 0) → ((k : ℕ) → P k → f k ≡ g k) → (ks : List ℕ) → AllByRecursion P ks → map f ks ≡ map g ks
map_same f g P same [] all = refl
map_same f g P same (k ∷ ks) all = ap₂ (λ x xs. x ∷ xs) (same k all.0) (map_same f g P same ks all.1)

-- ---- the places inside one value

list_span : (offset : ℕ) (cells : List Cell) (j : ℕ) → HasRoom (list_layout offset) cells → j < length cells
    → AllByRecursion (λ p. p < sum_by (λ n. n) (elements_lengths cells))
    (places_of (list_layout offset) (offsets_of offset (elements_lengths cells)) j)
list_span offset cells j room within =
    let lengths : List ℕ = elements_lengths cells in
    run_below (start_of offset (offsets_of offset lengths) j) (length_of offset (offsets_of offset lengths) j) (sum_by (λ n. n) lengths)
    (span_within offset (offsets_of offset lengths) (length lengths) (sum_by (λ n. n) lengths) j (offsets_rise offset lengths room)
    (omega (arith, within, length-map cells (λ cell. length (elements_or [] cell)))))

fixed_span : (size count j : ℕ) → j < count → AllByRecursion (λ p. p < size * count) (range_with_len (size * j) size)
fixed_span size count j within = run_below (size * j) size (size * count) (within_size size j count within)

-- ---- how long buffers are

length_offsets : (size : ℕ) (lengths : List ℕ) → length (offsets_of size lengths) ≡ size * (length lengths + 1)
length_offsets size lengths =
    even_long (λ j. little_bytes size (sum_by (λ n. n) (take j lengths))) size (range_with_len 0 (length lengths + 1))
    (numbers_even size lengths (range_with_len 0 (length lengths + 1)))
    ∙ ap (λ n. size * n) (length-range_with_len 0 (length lengths + 1))

-- one offset more than cells
offsets_long : (size : ℕ) (cells : List Cell) (f : Cell → ℕ) → AreOffsetsLong size (length cells) (length (offsets_of size (map f cells)))
offsets_long size cells f =
    let same : length (offsets_of size (map f cells)) ≡ size * (length cells + 1) =
    length_offsets size (map f cells) ∙ ap (λ n. size * (n + 1)) (length-map cells f) in
    inr (omega (arith, same))

offsets_rise_to : (size limit : ℕ) (cells : List Cell) (f : Cell → ℕ) → sum_by (λ n. n) (map f cells) < 2 ^ (8 * size - 1)
    → sum_by (λ n. n) (map f cells) ≡ limit → OffsetsRise size (offsets_of size (map f cells)) (length cells) limit
offsets_rise_to size limit cells f room is =
    inr (subst (λ n. DoRise size (offsets_of size (map f cells)) (length cells) n) is
    (subst (λ n. DoRise size (offsets_of size (map f cells)) n (sum_by (λ n. n) (map f cells))) (length-map cells f)
    (offsets_rise size (map f cells) room)))

-- the first column inside has as many values as there are elements
first_long : (place : ℕ) (inside : Shapes) (cells : List Cell) → HasFirst inside
    → sum_by (λ n. n) (elements_lengths cells) ≡ first_length (columns_of place inside (element_columns inside cells 0))
first_long place no_shape cells first = absurd first
first_long place (shape_then (shape l i) rest) cells first = sym (long_in_all (elements_or []) cells)

-- ---- nulls

twice : (b : Bool) → not (not b) ≡ b
twice true = refl
twice false = refl

count_same : (p : ℕ → Bool) (cells : List Cell) (start : ℕ) → ((j : ℕ) → j < length cells → p (start + j) ≡ is_null (get_or cells j null_cell))
    → count_by p (range_with_len start (length cells)) ≡ count_by is_null cells
count_same p [] start same = refl
count_same p (cell ∷ cells) start same =
    let here : start + 0 ≡ start = omega arith in
    let rest : count_by p (range_with_len (start + 1) (length cells)) ≡ count_by is_null cells =
    count_same p cells (start + 1) (λ j within. let next : start + 1 + j ≡ start + suc j = omega arith in ap p next ∙ same (suc j) (omega arith)) in
    sum_by-cons (λ j. if p j then 1 else 0) start (range_with_len (start + 1) (length cells))
    ∙ ap₂ (λ b n. (if b then 1 else 0) + n) (ap p (sym here) ∙ same 0 (omega arith)) rest
    ∙ sym (sum_by-cons (λ cell. if is_null cell then 1 else 0) cell cells)

-- ---- texts

as_text : (cell : Cell) → AreBytes IsUtf8 cell → IsUtf8 (bytes_or [] cell)
as_text null_cell fit = no_text
as_text (bit_cell bit) fit = absurd fit
as_text (bytes_cell bytes) fit = fit
as_text (list_cell inside) fit = absurd fit
as_text (tuple_cell inside) fit = absurd fit

-- ---- reading

module _ (packed : (bits : List Bool) → IsPacked bits (packed_bytes bits)) (body : List ℕ) where
  -- the value at place j, where the columns inside are read as they are written
  value_back : (place : ℕ) (l : Layout) (inside : Shapes) (cells : List Cell) (j : ℕ) → HasRoom l cells → j < length cells
      → ((i : ℕ) → i < count_inside l cells
      → fields_at body (columns_of place inside (columns_in l inside cells)) i ≡ cells_beside inside (columns_in l inside cells) i)
      → ((places : List ℕ) → AllByRecursion (λ p. p < count_inside l cells) places
      → cells_inside body (columns_of place inside (columns_in l inside cells)) places ≡ first_cells inside (columns_in l inside cells) places)
      → value_at l (get_or (own_buffers l cells) 1 []) (get_or (own_buffers l cells) 2 [])
      (cells_inside body (columns_of place inside (columns_in l inside cells))) (fields_at body (columns_of place inside (columns_in l inside cells))) j
      ≡ value_at l (get_or (own_buffers l cells) 1 []) (get_or (own_buffers l cells) 2 [])
      (written_elements inside cells (blanks_under l)) (written_fields inside 0 cells) j
  value_back place null_layout inside cells j room within fields elements = refl
  value_back place bits_layout inside cells j room within fields elements = refl
  value_back place (bytes_layout size) inside cells j room within fields elements = refl
  value_back place (binary_layout offset) inside cells j room within fields elements = refl
  value_back place (utf8_layout offset) inside cells j room within fields elements = refl
  value_back place (list_layout offset) inside cells j room within fields elements =
      let places : List ℕ = places_of (list_layout offset) (offsets_of offset (elements_lengths cells)) j in
      ap list_cell (elements places (list_span offset cells j room within) ∙ elements_same inside cells 0 places)
  value_back place (fixed_size_list_layout size) inside cells j room within fields elements =
      let places : List ℕ = range_with_len (size * j) size in
      ap list_cell (elements places (fixed_span size (length cells) j within) ∙ elements_same inside cells size places)
  value_back place struct_layout inside cells j room within fields elements =
      ap tuple_cell (fields j within ∙ fields_same inside 0 cells j)

  mutual
    pub cell_back : (s : Shape) (place : ℕ) (cells : List Cell) → IsWritten body place s cells → (j : ℕ) → j < length cells
        → cell_at body (column_of place s cells) j ≡ get_or cells j null_cell
    cell_back (shape l inside) place cells written j within =
        let behind : ℕ = end_of place (own_buffers l cells) in
        let inner : LaidColumns = columns_of behind inside (columns_in l inside cells) in
        let own : map (bytes_at body) (ranges_from place (own_buffers l cells)) ≡ own_buffers l cells =
        stand_read body place (own_buffers l cells) (own_stand body place l inside cells written) in
        ap (λ bs. if is_valid l (get_or bs 0 []) j
        then value_at l (get_or bs 1 []) (get_or bs 2 []) (cells_inside body inner) (fields_at body inner) j else null_cell) own
        ∙ ap (λ value. if is_valid l (get_or (own_buffers l cells) 0 []) j then value else null_cell)
        (value_back behind l inside cells j written.room.0 within
        (fields_back inside behind (columns_in l inside cells) (count_inside l cells) (inside_written body place l inside cells written))
        (elements_back inside behind (columns_in l inside cells) (count_inside l cells) (inside_written body place l inside cells written)))
        ∙ cell_is packed l inside cells j written.fit written.room.0 within

    fields_back : (inside : Shapes) (place : ℕ) (columns : List (List Cell)) (limit : ℕ) → AreWritten body limit place inside columns
        → (j : ℕ) → j < limit → fields_at body (columns_of place inside columns) j ≡ cells_beside inside columns j
    fields_back no_shape place columns limit written j within = refl
    fields_back (shape_then s rest) place [] limit written j within = refl
    fields_back (shape_then s rest) place (cells ∷ columns) limit written j within =
        ap₂ cell_then (cell_back s place cells written.1 j (omega (arith, within, written.0)))
        (fields_back rest (end_of place (parts_of s cells).buffers) columns limit written.2 j within)

    elements_back : (inside : Shapes) (place : ℕ) (columns : List (List Cell)) (limit : ℕ) → AreWritten body limit place inside columns
        → (places : List ℕ) → AllByRecursion (λ p. p < limit) places
        → cells_inside body (columns_of place inside columns) places ≡ first_cells inside columns places
    elements_back no_shape place columns limit written places below = refl
    elements_back (shape_then s rest) place [] limit written places below = refl
    elements_back (shape_then s rest) place (cells ∷ columns) limit written places below =
        ap cells_of (map_same (cell_at body (column_of place s cells)) (λ k. get_or cells k null_cell) (λ p. p < limit)
        (λ k within. cell_back s place cells written.1 k (omega (arith, within, written.0))) places below)

-- ---- rules

module _ (packed : (bits : List Bool) → IsPacked bits (packed_bytes bits)) where
  validity_long : (cells : List Cell) (b : Bool) → (nulls_of cells == 0) ≡ b
      → IsValidityLong (length cells) (pos (nulls_of cells)) (length (if b then [] else packed_bytes (map (λ cell. not (is_null cell)) cells)))
  validity_long cells true none = inl (ap pos (eqb-true (nulls_of cells) 0 none), refl)
  validity_long cells false some =
      inr (omega (arith, (packed (map (λ cell. not (is_null cell)) cells)).enough, length-map cells (λ cell. not (is_null cell))))

  own_long : (l : Layout) (inside : Shapes) (cells : List Cell) → AllByRecursion (IsCellOf (shape l inside)) cells
      → AreLong l (length cells) (pos (nulls_of cells)) (length (get_or (own_buffers l cells) 0 [])) (length (get_or (own_buffers l cells) 1 []))
  own_long null_layout inside cells fit = tt
  own_long bits_layout inside cells fit =
      (validity_long cells (nulls_of cells == 0) refl, omega (arith, (packed (map bit_in cells)).enough, length-map cells bit_in))
  own_long (bytes_layout size) inside cells fit = (
    validity_long cells (nulls_of cells == 0) refl,
    omega (arith, even_long (bytes_or (replicate size 0)) size cells (even_bytes size cells fit)),
  )
  own_long (binary_layout offset) inside cells fit =
      (validity_long cells (nulls_of cells == 0) refl, offsets_long offset cells (λ cell. length (bytes_or [] cell)))
  own_long (utf8_layout offset) inside cells fit =
      (validity_long cells (nulls_of cells == 0) refl, offsets_long offset cells (λ cell. length (bytes_or [] cell)))
  own_long (list_layout offset) inside cells fit =
      (validity_long cells (nulls_of cells == 0) refl, offsets_long offset cells (λ cell. length (elements_or [] cell)))
  own_long (fixed_size_list_layout size) inside cells fit = validity_long cells (nulls_of cells == 0) refl
  own_long struct_layout inside cells fit = validity_long cells (nulls_of cells == 0) refl

  nulls_counted : (l : Layout) (cells : List Cell) → l ≢ null_layout → pos (nulls_of cells) ≡ pos (nulls_in l (validity_of cells) (length cells))
  nulls_counted l cells bitmap =
      ap pos (sym (count_same (λ j. not (is_valid l (validity_of cells) j)) cells 0
      (λ j within. let here : 0 + j ≡ j = omega arith in
      ap (λ i. not (is_valid l (validity_of cells) i)) here ∙ ap not (valid_is packed l cells j bitmap within) ∙ twice (is_null (get_or cells j null_cell)))))

  own_nulls : (l : Layout) (cells : List Cell) → HasNullCount l (get_or (own_buffers l cells) 0 []) (pos (length cells), pos (nulls_of cells))
  own_nulls null_layout cells = tt
  own_nulls bits_layout cells = nulls_counted bits_layout cells (λ e. let no : bits_layout ≡ null_layout = e in cc)
  own_nulls (bytes_layout size) cells = nulls_counted (bytes_layout size) cells (λ e. let no : bytes_layout size ≡ null_layout = e in cc)
  own_nulls (binary_layout offset) cells = nulls_counted (binary_layout offset) cells (λ e. let no : binary_layout offset ≡ null_layout = e in cc)
  own_nulls (utf8_layout offset) cells = nulls_counted (utf8_layout offset) cells (λ e. let no : utf8_layout offset ≡ null_layout = e in cc)
  own_nulls (list_layout offset) cells = nulls_counted (list_layout offset) cells (λ e. let no : list_layout offset ≡ null_layout = e in cc)
  own_nulls (fixed_size_list_layout size) cells =
      nulls_counted (fixed_size_list_layout size) cells (λ e. let no : fixed_size_list_layout size ≡ null_layout = e in cc)
  own_nulls struct_layout cells = nulls_counted struct_layout cells (λ e. let no : struct_layout ≡ null_layout = e in cc)

asked_few : (l : Layout) (cells : List Cell) → asked_inside l (length cells) ≤ count_inside l cells
asked_few null_layout cells = omega arith
asked_few bits_layout cells = omega arith
asked_few (bytes_layout size) cells = omega arith
asked_few (binary_layout offset) cells = omega arith
asked_few (utf8_layout offset) cells = omega arith
asked_few (list_layout offset) cells = omega arith
asked_few (fixed_size_list_layout size) cells = omega arith
asked_few struct_layout cells = omega arith

-- of a column whose own buffers are read
module _ (body : List ℕ) (place : ℕ) where
  abbrev ReadsOwn : Layout → List Cell → Type 0
  ReadsOwn l cells = map (bytes_at body) (ranges_from place (own_buffers l cells)) ≡ own_buffers l cells

  own_offsets : (l : Layout) (inside : Shapes) (cells : List Cell) (behind : ℕ) → ReadsOwn l cells → HasRoom l cells → IsFilled l inside
      → HasOffsets body l (pos (length cells), pos (nulls_of cells)) (ranges_from place (own_buffers l cells))
      (columns_of behind inside (columns_in l inside cells))
  own_offsets null_layout inside cells behind own room filled = tt
  own_offsets bits_layout inside cells behind own room filled = tt
  own_offsets (bytes_layout size) inside cells behind own room filled = tt
  own_offsets (binary_layout offset) inside cells behind own room filled =
      subst (λ bs. OffsetsRise offset (get_or bs 1 []) (length cells) (length (get_or bs 2 []))) (sym own)
      (offsets_rise_to offset (length (flat_map (bytes_or []) cells)) cells (λ cell. length (bytes_or [] cell)) room (sym (long_in_all (bytes_or []) cells)))
  own_offsets (utf8_layout offset) inside cells behind own room filled =
      subst (λ bs. OffsetsRise offset (get_or bs 1 []) (length cells) (length (get_or bs 2 []))) (sym own)
      (offsets_rise_to offset (length (flat_map (bytes_or []) cells)) cells (λ cell. length (bytes_or [] cell)) room (sym (long_in_all (bytes_or []) cells)))
  own_offsets (list_layout offset) inside cells behind own room filled =
      subst (λ bs. OffsetsRise offset (get_or bs 1 []) (length cells) (first_length (columns_of behind inside (element_columns inside cells 0)))) (sym own)
      (offsets_rise_to offset (first_length (columns_of behind inside (element_columns inside cells 0))) cells (λ cell. length (elements_or [] cell)) room
      (first_long behind inside cells filled))
  own_offsets (fixed_size_list_layout size) inside cells behind own room filled = tt
  own_offsets struct_layout inside cells behind own room filled = tt

  module _ (places : List ℕ) where
    texts_are : (offset : ℕ) (inside : Shapes) (cells : List Cell) → ReadsOwn (utf8_layout offset) cells → HasRoom (utf8_layout offset) cells
        → AllByRecursion (IsCellOf (shape (utf8_layout offset) inside)) cells → AllByRecursion (λ j. j < length cells) places
        → AreUtf8 body (utf8_layout offset) (ranges_from place (own_buffers (utf8_layout offset) cells)) places
    texts_are offset inside cells own room fit bound =
        let ranges = ranges_from place (own_buffers (utf8_layout offset) cells) in
        let each : (j : ℕ) → j < length cells → IsUtf8 (value_bytes offset (buffer_at body ranges 1) (buffer_at body ranges 2) j) =
        λ j within. subst (λ bs. IsUtf8 (value_bytes offset (get_or bs 1 []) (get_or bs 2 []) j)) (sym own)
        (subst IsUtf8 (sym (bytes_are offset cells j room within))
        (as_text (get_or cells j null_cell) (all_at (AreBytes IsUtf8) cells j null_cell fit within))) in
        λ k within. each (get_or (filter (is_valid (utf8_layout offset) (buffer_at body ranges 0)) places) k 0)
        (all_at (λ j. j < length cells) (filter (is_valid (utf8_layout offset) (buffer_at body ranges 0)) places) k 0
        (filtered_all (λ j. j < length cells) (is_valid (utf8_layout offset) (buffer_at body ranges 0)) places bound) within)

    own_texts : (l : Layout) (inside : Shapes) (cells : List Cell) → ReadsOwn l cells → HasRoom l cells
        → AllByRecursion (IsCellOf (shape l inside)) cells → AllByRecursion (λ j. j < length cells) places
        → AreUtf8 body l (ranges_from place (own_buffers l cells)) places
    own_texts null_layout inside cells own room fit bound = tt
    own_texts bits_layout inside cells own room fit bound = tt
    own_texts (bytes_layout size) inside cells own room fit bound = tt
    own_texts (binary_layout offset) inside cells own room fit bound = tt
    own_texts (utf8_layout offset) inside cells own room fit bound = texts_are offset inside cells own room fit bound
    own_texts (list_layout offset) inside cells own room fit bound = tt
    own_texts (fixed_size_list_layout size) inside cells own room fit bound = tt
    own_texts struct_layout inside cells own room fit bound = tt

  span_below : (l : Layout) (cells : List Cell) → ReadsOwn l cells → HasRoom l cells → (j : ℕ) → j < length cells
      → AllByRecursion (λ p. p < count_inside l cells) (places_of l (buffer_at body (ranges_from place (own_buffers l cells)) 1) j)
  span_below null_layout cells own room j within = tt
  span_below bits_layout cells own room j within = tt
  span_below (bytes_layout size) cells own room j within = tt
  span_below (binary_layout offset) cells own room j within = tt
  span_below (utf8_layout offset) cells own room j within = tt
  span_below (list_layout offset) cells own room j within =
      subst (λ bs. AllByRecursion (λ p. p < sum_by (λ n. n) (elements_lengths cells)) (places_of (list_layout offset) (get_or bs 1 []) j)) (sym own)
      (list_span offset cells j room within)
  span_below (fixed_size_list_layout size) cells own room j within = fixed_span size (length cells) j within
  span_below struct_layout cells own room j within = (within, tt)

  places_below : (l : Layout) (cells : List Cell) (places : List ℕ) → ReadsOwn l cells → HasRoom l cells → AllByRecursion (λ j. j < length cells) places
      → AllByRecursion (λ p. p < count_inside l cells) (places_inside body l (ranges_from place (own_buffers l cells)) places)
  places_below l cells places own room bound =
      let ranges = ranges_from place (own_buffers l cells) in
      flat_below (places_of l (buffer_at body ranges 1)) (count_inside l cells) (filter (is_valid l (buffer_at body ranges 0)) places)
      (filtered_all (λ j. AllByRecursion (λ p. p < count_inside l cells) (places_of l (buffer_at body ranges 1) j)) (is_valid l (buffer_at body ranges 0)) places
      (mapped (λ j. j < length cells) (λ j. AllByRecursion (λ p. p < count_inside l cells) (places_of l (buffer_at body ranges 1) j)) (λ j. j)
      (span_below l cells own room) places bound))

-- ---- columns with those inside them

module _ (packed : (bits : List Bool) → IsPacked bits (packed_bytes bits)) (body : List ℕ) where
  own_sound : (l : Layout) (inside : Shapes) (place : ℕ) (cells : List Cell) → IsWritten body place (shape l inside) cells
      → (asked : ℕ) (places : List ℕ) → asked ≤ length cells → AllByRecursion (λ j. j < length cells) places
      → AreKept (KeepsRule body l (pos (length cells), pos (nulls_of cells)) (ranges_from place (own_buffers l cells))
      (columns_of (end_of place (own_buffers l cells)) inside (columns_in l inside cells)) asked places) column_order
  own_sound l inside place cells written asked places few bound =
      let stand = own_stand body place l inside cells written in
      let own : ReadsOwn body place l cells = stand_read body place (own_buffers l cells) stand in (
        record {
          within = stand_inside body place (own_buffers l cells) stand;
          long_enough =
              subst (λ bs. AreLong l (length cells) (pos (nulls_of cells)) (length (get_or bs 0 [])) (length (get_or bs 1 []))) (sym own)
              (own_long packed l inside cells written.fit);
        },
        (
          subst (λ bs. HasNullCount l (get_or bs 0 []) (pos (length cells), pos (nulls_of cells))) (sym own) (own_nulls packed l cells),
          (
            own_offsets body place l inside cells (end_of place (own_buffers l cells)) own written.room.0 written.formed.0,
            (few, (own_texts body place places l inside cells own written.room.0 written.fit bound, tt)),
          ),
        ),
      )

  mutual
    sound_column : (s : Shape) (place : ℕ) (cells : List Cell) → IsWritten body place s cells → (asked : ℕ) (places : List ℕ)
        → asked ≤ length cells → AllByRecursion (λ j. j < length cells) places → IsSound body (column_of place s cells) asked places
    sound_column (shape l inside) place cells written asked places few bound =
        let own : ReadsOwn body place l cells = stand_read body place (own_buffers l cells) (own_stand body place l inside cells written) in (
          own_sound l inside place cells written asked places few bound,
          sound_columns inside (end_of place (own_buffers l cells)) (columns_in l inside cells) (count_inside l cells)
              (inside_written body place l inside cells written) (asked_inside l (length cells))
              (places_inside body l (ranges_from place (own_buffers l cells)) places) (asked_few l cells)
              (places_below body place l cells places own written.room.0 bound),
        )

    pub sound_columns : (inside : Shapes) (place : ℕ) (columns : List (List Cell)) (limit : ℕ) → AreWritten body limit place inside columns
        → (asked : ℕ) (places : List ℕ) → asked ≤ limit → AllByRecursion (λ p. p < limit) places
        → AreSound body (columns_of place inside columns) asked places
    sound_columns no_shape place columns limit written asked places few bound = tt
    sound_columns (shape_then s rest) place [] limit written asked places few bound = tt
    sound_columns (shape_then s rest) place (cells ∷ columns) limit written asked places few bound = (
      sound_column s place cells written.1 asked places (omega (arith, few, written.0))
          (mapped (λ p. p < limit) (λ p. p < length cells) (λ p. p) (λ p below. omega (arith, below, written.0)) places bound),
      sound_columns rest (end_of place (parts_of s cells).buffers) columns limit written.2 asked places few bound,
    )
