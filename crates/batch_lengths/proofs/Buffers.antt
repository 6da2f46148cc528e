-- How long the buffers of a column are that are written of its cells.
use Rattle.std.proofs.Common.{◌≡◌, refl, ap, ◌∙◌, ℕ, suc, ◌+◌, ◌-◌, ◌*◌, ◌/◌, ◌<◌, ◌≤◌, ◌==◌, Bool, true, false, not, if◌then◌else◌, List, [], ◌∷◌, ◌++◌, map, length, take, drop, replicate, arith, mul-le-mul_left, length-append, length-take, length-drop}
use Rattle.std.proofs.lemmas.List.{length-map, length-replicate}
use Rattle.std.proofs.lemmas.List.FromFn.{length-range_with_len, length-map-range_with_len}
use Rattle.std.proofs.lemmas.List.Sums.{sum_by-cons}
use Rattle.std.specs.List.{AllByRecursion, flat_map, range_with_len, sum_by}
use native.Mathlib.Nat.{mul-suc}
use Rattle.byteorder.specs.Endian.{little_bytes}
use Rattle.byteorder.specs.Numbers.{length-bytes_low_first}
use Rattle.bitmaps.specs.Bits.{bit_of, zeros}
use Rattle.bitmaps.specs.Packing.{packed_bytes, number_of}
use Rattle.batch_types.specs.Cells.{Cell, bit_cell, bytes_cell, list_cell, tuple_cell, no_cell, cells_of}
use Rattle.batch_types.specs.Layouts.{Layout, null_layout, bits_layout, bytes_layout, binary_layout, utf8_layout}
use Rattle.batch_types.specs.Layouts.{list_layout, fixed_size_list_layout, struct_layout}
use Rattle.batch_types.specs.Placed.{bytes_from, start_of, length_of, value_bytes, cells_inside, fields_at, buffer_at}
use Rattle.batch_types.specs.Rules.{bytes_for}
use Rattle.batch_types.specs.Laid.{Node, Range, laid, LaidColumns}
use Rattle.batch_types.specs.Shapes.{shape, Shapes}
use Rattle.batch_types.specs.Canonical.{is_null, padded, body_with, own_buffers, validity_of, bit_in, bytes_or, bytes_lengths, elements_or, elements_lengths, offsets_of}
use Rattle.batch_types.specs.Canonical.{first_blank, blanks_of}
use Rattle.batch_columns.specs.Held.{layout_named}
use Rattle.batch_columns.specs.Made.{validity_bytes}
use Rattle.batch_columns.specs.Read.{offsets_at, values_at}
use Rattle.batch_columns.specs.declared.layout.Layout.{Layout as Declared}
use Rattle.batch_columns.specs.declared.layout.Layout.TheVariants.{Null, Bits, Bytes, Binary, Utf8, List as Lists, FixedSizeList, Struct}
use Rattle.batch_reading.specs.Spots.{Spot}
use Rattle.batch_reading.specs.Taken.{is_shown, seen, block_taken, span_taken}
use Rattle.batch_reading.specs.Built.{cells_wanted}
use Rattle.batch_reading.proofs.Keeping.{built, validity_built, mapped_taken, gathered_by}
use Rattle.batch_lengths.specs.Counted.{has_null, span_length, span_total}
use Rattle.batch_lengths.specs.Reach.{DoReach}
use Rattle.batch_lengths.specs.Sizes.{validity_size, own_size}
use Rattle.batch_lengths.proofs.Whole.{starts_to}

-- ---- a body

pub buffer_first : (buffer : List ℕ) (rest : List (List ℕ)) → length (body_with (buffer ∷ rest)) ≡ padded (length buffer) + length (body_with rest)
buffer_first buffer rest =
    omega (
      arith,
      length-append (buffer ++ replicate (padded (length buffer) - length buffer) 0) (body_with rest),
      length-append buffer (replicate (padded (length buffer) - length buffer) 0),
      length-replicate {A = ℕ} (padded (length buffer) - length buffer) 0,
    )

-- ---- bits

packed_long : (bits : List Bool) → length (packed_bytes bits) ≡ bytes_for (length bits)
packed_long bits = length-map-range_with_len (λ k. number_of (take 8 (drop (8 * k) bits))) 0 ((length bits + 7) / 8)

validity_long : (bits : List Bool) → padded (length (validity_bytes bits)) ≡ validity_size (not (zeros bits == 0)) (length bits)
validity_long bits = by_none (zeros bits == 0)
  where
    by_none : (none : Bool) → padded (length (if none then [] else packed_bytes bits)) ≡ (if not none then padded (bytes_for (length bits)) else 0)
    by_none true = refl
    by_none false = ap padded (packed_long bits)

-- ---- offsets

numbers_long : (size : ℕ) (lengths js : List ℕ) → length (flat_map (λ j. little_bytes size (sum_by (λ n. n) (take j lengths))) js) ≡ size * length js
numbers_long size lengths [] = omega arith
numbers_long size lengths (j ∷ js) =
    let one : length (little_bytes size (sum_by (λ n. n) (take j lengths))) ≡ size = length-bytes_low_first 0 size (sum_by (λ n. n) (take j lengths)) in
    let both : length (flat_map (λ i. little_bytes size (sum_by (λ n. n) (take i lengths))) (j ∷ js))
    ≡ length (little_bytes size (sum_by (λ n. n) (take j lengths))) + length (flat_map (λ i. little_bytes size (sum_by (λ n. n) (take i lengths))) js) =
    length-append (little_bytes size (sum_by (λ n. n) (take j lengths))) (flat_map (λ i. little_bytes size (sum_by (λ n. n) (take i lengths))) js) in
    omega (arith, one, both, numbers_long size lengths js, mul-suc size (length js))

offsets_long : (size count : ℕ) (lengths : List ℕ) → length lengths ≡ count → length (offsets_of size lengths) ≡ size * (count + 1)
offsets_long size count lengths long =
    numbers_long size lengths (range_with_len 0 (length lengths + 1))
    ∙ ap (λ n. size * n) (length-range_with_len 0 (length lengths + 1) ∙ ap (λ n. n + 1) long)

-- ---- values

-- all places are below this one
abbrev pub AreBelow : ℕ → List Spot → Type 0
AreBelow limit spots = AllByRecursion (λ spot. spot.0 < limit) spots

-- what is read of values below this place is there
abbrev pub AreThere : Layout → ℕ → List ℕ → List ℕ → Type 0
AreThere null_layout limit offsets values = Unit {0}
AreThere bits_layout limit offsets values = Unit {0}
AreThere (bytes_layout size) limit offsets values = size * limit ≤ length values
AreThere (binary_layout offset) limit offsets values = DoReach offsets limit × (start_of 4 offsets limit ≤ length values)
AreThere (utf8_layout offset) limit offsets values = DoReach offsets limit × (start_of 4 offsets limit ≤ length values)
AreThere (list_layout offset) limit offsets values = Unit {0}
AreThere (fixed_size_list_layout size) limit offsets values = Unit {0}
AreThere struct_layout limit offsets values = Unit {0}

block_long : (size limit : ℕ) (values : List ℕ) → size * limit ≤ length values → (place : ℕ) (mark : Bool) → place < limit
    → length (block_taken size values (place, mark)) ≡ size
block_long size limit values fits place true below =
    let up : size * suc place ≤ size * limit = mul-le-mul_left size (omega (arith, below)) in
    omega (arith, fits, up, mul-suc size place, length-take size (drop (size * place) values), length-drop (size * place) values)
block_long size limit values fits place false below = length-replicate size 0

blocks_long : (size limit : ℕ) (validity values : List ℕ) → size * limit ≤ length values → (spots : List Spot) → AreBelow limit spots
    → length (flat_map (block_taken size values) (map (seen validity) spots)) ≡ size * length spots
blocks_long size limit validity values fits [] all = omega arith
blocks_long size limit validity values fits (spot ∷ spots) all =
    omega (
      arith,
      length-append (block_taken size values (seen validity spot)) (flat_map (block_taken size values) (map (seen validity) spots)),
      block_long size limit values fits spot.0 (seen validity spot).1 all.0,
      blocks_long size limit validity values fits spots all.1,
      mul-suc size (length spots),
    )

span_long : (limit : ℕ) (offsets values : List ℕ) → DoReach offsets limit → start_of 4 offsets limit ≤ length values → (place : ℕ) (mark : Bool) → place < limit
    → length (span_taken offsets values (place, mark)) ≡ span_length (list_layout 4) offsets (place, mark)
span_long limit offsets values reach ends place true below =
    let next : start_of 4 offsets place ≤ start_of 4 offsets (place + 1) = reach.rises place below in
    let last : start_of 4 offsets (place + 1) ≤ start_of 4 offsets limit = starts_to offsets limit reach (place + 1) limit (omega (arith, below)) (omega arith) in
    omega (arith, next, last, ends, length-take (length_of 4 offsets place) (drop (start_of 4 offsets place) values), length-drop (start_of 4 offsets place) values)
span_long limit offsets values reach ends place false below = refl

spans_long : (limit : ℕ) (validity offsets values : List ℕ) → DoReach offsets limit → start_of 4 offsets limit ≤ length values → (spots : List Spot) → AreBelow limit spots
    → length (flat_map (span_taken offsets values) (map (seen validity) spots)) ≡ span_total (list_layout 4) offsets (map (seen validity) spots)
spans_long limit validity offsets values reach ends [] all = refl
spans_long limit validity offsets values reach ends (spot ∷ spots) all =
    omega (
      arith,
      length-append (span_taken offsets values (seen validity spot)) (flat_map (span_taken offsets values) (map (seen validity) spots)),
      span_long limit offsets values reach ends spot.0 (seen validity spot).1 all.0,
      spans_long limit validity offsets values reach ends spots all.1,
      sum_by-cons (span_length (list_layout 4) offsets) (seen validity spot) (map (seen validity) spots),
    )

-- ---- one column

module _ (validity : List ℕ) (value : ℕ → Cell) (blank : Cell) (values : (j : ℕ) → is_null (value j) ≡ false) (whole : is_null blank ≡ false) (spots : List Spot) where
  abbrev cells : List Cell
  cells = map (built validity value blank values whole) spots

  first_long : padded (length (validity_of cells)) ≡ validity_size (has_null validity spots) (length spots)
  first_long =
      ap (λ l. padded (length l)) (validity_built validity value blank values whole spots)
      ∙ validity_long (map (is_shown validity) spots)
      ∙ ap (validity_size (has_null validity spots)) (length-map spots (is_shown validity))

  mapped_long : {X : Type 0} (g : Cell → X) → length (map g cells) ≡ length spots
  mapped_long g = length-map cells g ∙ length-map spots (built validity value blank values whole)

  alone_sized : length (body_with (validity_of cells ∷ [])) ≡ validity_size (has_null validity spots) (length spots)
  alone_sized = omega (arith, buffer_first (validity_of cells) [], first_long)

  bits_sized : length (body_with (validity_of cells ∷ packed_bytes (map bit_in cells) ∷ []))
      ≡ validity_size (has_null validity spots) (length spots) + padded (bytes_for (length spots))
  bits_sized =
      let bits : padded (length (packed_bytes (map bit_in cells))) ≡ padded (bytes_for (length spots)) =
      ap padded (packed_long (map bit_in cells) ∙ ap bytes_for (mapped_long bit_in)) in
      omega (arith, buffer_first (validity_of cells) (packed_bytes (map bit_in cells) ∷ []), buffer_first (packed_bytes (map bit_in cells)) [], first_long, bits)

  lists_sized : (offset : ℕ) → length (body_with (validity_of cells ∷ offsets_of offset (elements_lengths cells) ∷ []))
      ≡ validity_size (has_null validity spots) (length spots) + padded (offset * (length spots + 1))
  lists_sized offset =
      let offsets : padded (length (offsets_of offset (elements_lengths cells))) ≡ padded (offset * (length spots + 1)) =
      ap padded (offsets_long offset (length spots) (elements_lengths cells) (mapped_long (λ cell. length (elements_or [] cell)))) in
      omega (
        arith,
        buffer_first (validity_of cells) (offsets_of offset (elements_lengths cells) ∷ []),
        buffer_first (offsets_of offset (elements_lengths cells)) [],
        first_long,
        offsets,
      )

  bytes_sized : (blocks : List ℕ) (long : ℕ) → length blocks ≡ long → length (body_with (validity_of cells ∷ blocks ∷ []))
      ≡ validity_size (has_null validity spots) (length spots) + padded long
  bytes_sized blocks long is =
      omega (arith, buffer_first (validity_of cells) (blocks ∷ []), buffer_first blocks [], first_long, ap padded is)

  texts_sized : (offset : ℕ) (bytes : List ℕ) (long : ℕ) → length bytes ≡ long
      → length (body_with (validity_of cells ∷ offsets_of offset (bytes_lengths cells) ∷ bytes ∷ []))
      ≡ validity_size (has_null validity spots) (length spots) + padded (offset * (length spots + 1)) + padded long
  texts_sized offset bytes long is =
      let offsets : padded (length (offsets_of offset (bytes_lengths cells))) ≡ padded (offset * (length spots + 1)) =
      ap padded (offsets_long offset (length spots) (bytes_lengths cells) (mapped_long (λ cell. length (bytes_or [] cell)))) in
      omega (
        arith,
        buffer_first (validity_of cells) (offsets_of offset (bytes_lengths cells) ∷ bytes ∷ []),
        buffer_first (offsets_of offset (bytes_lengths cells)) (bytes ∷ []),
        buffer_first bytes [],
        first_long,
        offsets,
        ap padded is,
      )

module _ (body : List ℕ) (node : Node) (ranges : List Range) (inner : LaidColumns) (shapes : Shapes) (spots : List Spot) (limit : ℕ) (below : AreBelow limit spots) where
  abbrev validity : List ℕ
  validity = buffer_at body ranges 0

  -- the offsets and the values of a column of this layout
  abbrev offsets : Layout → List ℕ
  offsets layout = offsets_at body layout ranges

  abbrev values : Layout → List ℕ
  values layout = values_at body layout ranges

  abbrev pub OwnIsSized : Layout → Type 0
  OwnIsSized layout =
      length (body_with (own_buffers layout (cells_wanted body (laid layout node ranges inner) (shape layout shapes) spots)))
      ≡ own_size layout (length spots) (has_null validity spots) (span_total layout (offsets layout) (map (seen validity) spots))

  abbrev pub IsThere : Layout → Type 0
  IsThere layout = AreThere layout limit (offsets layout) (values layout)

  abbrev text_value : ℕ → Cell
  text_value j = bytes_cell (value_bytes 4 (offsets (binary_layout 4)) (values (binary_layout 4)) j)

  texts_bytes : DoReach (offsets (binary_layout 4)) limit → start_of 4 (offsets (binary_layout 4)) limit ≤ length (values (binary_layout 4))
      → length (flat_map (bytes_or []) (cells validity text_value (bytes_cell []) (λ j. refl) refl spots)) ≡ span_total (list_layout 4) (offsets (binary_layout 4)) (map (seen validity) spots)
  texts_bytes reach ends =
      ap length (gathered_by (span_taken (offsets (binary_layout 4)) (values (binary_layout 4))) (bytes_or []) (cells validity text_value (bytes_cell []) (λ j. refl) refl spots) (map (seen validity) spots)
      (mapped_taken validity text_value (bytes_cell []) (λ j. refl) refl (bytes_or []) [] refl refl spots))
      ∙ spans_long limit validity (offsets (binary_layout 4)) (values (binary_layout 4)) reach ends spots below

  abbrev block_value : ℕ → ℕ → Cell
  block_value size j = bytes_cell (bytes_from (values (bytes_layout size)) (size * j) size)

  blocks_bytes : (size : ℕ) → size * limit ≤ length (values (bytes_layout size))
      → length (flat_map (bytes_or (replicate size 0)) (cells validity (block_value size) (bytes_cell (replicate size 0)) (λ j. refl) refl spots)) ≡ size * length spots
  blocks_bytes size fits =
      ap length (gathered_by (block_taken size (values (bytes_layout size))) (bytes_or (replicate size 0)) (cells validity (block_value size) (bytes_cell (replicate size 0)) (λ j. refl) refl spots)
      (map (seen validity) spots)
      (mapped_taken validity (block_value size) (bytes_cell (replicate size 0)) (λ j. refl) refl (bytes_or (replicate size 0)) (replicate size 0) refl refl spots))
      ∙ blocks_long size limit validity (values (bytes_layout size)) fits spots below

  pub own_sized : (layout : Declared) → IsThere (layout_named layout) → OwnIsSized (layout_named layout)
  own_sized Null there = refl
  own_sized Bits there = bits_sized validity (λ j. bit_cell (bit_of (values bits_layout) j)) (bit_cell false) (λ j. refl) refl spots
  own_sized (Bytes size) there =
      bytes_sized validity (block_value size) (bytes_cell (replicate size 0)) (λ j. refl) refl spots
      (flat_map (bytes_or (replicate size 0)) (cells validity (block_value size) (bytes_cell (replicate size 0)) (λ j. refl) refl spots)) (size * length spots)
      (blocks_bytes size there)
  own_sized Binary there =
      texts_sized validity text_value (bytes_cell []) (λ j. refl) refl spots 4
      (flat_map (bytes_or []) (cells validity text_value (bytes_cell []) (λ j. refl) refl spots)) (span_total (list_layout 4) (offsets (binary_layout 4)) (map (seen validity) spots))
      (texts_bytes there.0 there.1)
  own_sized Utf8 there =
      texts_sized validity text_value (bytes_cell []) (λ j. refl) refl spots 4
      (flat_map (bytes_or []) (cells validity text_value (bytes_cell []) (λ j. refl) refl spots)) (span_total (list_layout 4) (offsets (binary_layout 4)) (map (seen validity) spots))
      (texts_bytes there.0 there.1)
  own_sized Lists there =
      lists_sized validity (λ j. list_cell (cells_inside body inner (range_with_len (start_of 4 (offsets (list_layout 4)) j) (length_of 4 (offsets (list_layout 4)) j)))) (list_cell no_cell)
      (λ j. refl) refl spots 4
  own_sized (FixedSizeList size) there =
      alone_sized validity (λ j. list_cell (cells_inside body inner (range_with_len (size * j) size)))
      (list_cell (cells_of (replicate size (first_blank shapes)))) (λ j. refl) refl spots
  own_sized Struct there =
      alone_sized validity (λ j. tuple_cell (fields_at body inner j)) (tuple_cell (blanks_of shapes)) (λ j. refl) refl spots
