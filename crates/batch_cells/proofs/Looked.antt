-- What is seen of a column's buffers and of the columns inside it is what its cells are.
use Rattle.std.proofs.Common.{◌≡◌, refl, sym, ap, ap₂, ◌∙◌, subst, ℕ, zero, suc, ◌+◌, ◌-◌, ◌*◌, ◌<◌, ◌≤◌, Bool, true, false, if◌then◌else◌, Some, None, List, [], ◌∷◌, map, length, get_or, take, replicate, zero-add, arith, mul-le-mul_left, length-append}
use Rattle.std.specs.List.{AllByRecursion, flat_map, sum_by, range_with_len, slice_get}
use native.Mathlib.Nat.{mul-suc}
use Rattle.std.proofs.lemmas.Bool.{true≢false, false≢true}
use Rattle.std.proofs.lemmas.List.{length-replicate, length-map}
use Rattle.std.proofs.lemmas.List.FromFn.{length-range_with_len}
use Rattle.byteorder.specs.Endian.{little_bytes}
use Rattle.byteorder.specs.Numbers.{length-bytes_low_first}
use Rattle.batch_types.specs.Cells.{Cell, null_cell, bit_cell, bytes_cell, list_cell, tuple_cell, Cells, no_cell, cell_then, cells_of}
use Rattle.batch_types.specs.Layouts.{Layout, null_layout, bits_layout, bytes_layout, binary_layout, utf8_layout}
use Rattle.batch_types.specs.Layouts.{list_layout, fixed_size_list_layout, struct_layout}
use Rattle.batch_types.specs.Shapes.{Shape, shape, Shapes}
use Rattle.batch_types.specs.Placed.{is_valid, value_at, start_of, length_of}
use Rattle.batch_types.specs.Canonical.{is_null, blank_of, cells_in, elements_or, own_buffers, offsets_of, elements_lengths}
use Rattle.batch_types.specs.Typed.{IsList, AllCells, count_of, FitsLayout, IsCellOf, IsElementOf, AreFieldsOf}
use Rattle.batch_types.specs.Written.{HasRoom, blanks_under, written_elements, written_fields, written_cell}
use Rattle.batch_columns.specs.Buffers.{offsets_among}
use Rattle.batch_columns.specs.Contents.{Contents, layout_of_shape, shapes_of_shape, layout_in, shapes_in}
use Rattle.batch_columns.specs.Held.{shapes_held, elements_held, fields_held, height, heights}
use Rattle.batch_columns.specs.Kept.{HasElements, HaveFields, HaveInside}
use Rattle.batch_columns.specs.Looks.{null_seen, bit_seen, bytes_seen}
use Rattle.batch_cells.specs.Places.{cell_in, IsThere, is_flat}

-- ---- what is seen of one cell

pub seen_there : (cells : List Cell) (row : ℕ) → null_seen (slice_get cells row) ≡ Some false
    → (row < length cells) × (is_null (get_or cells row null_cell) ≡ false)
seen_there [] row seen = absurd (cc)
seen_there (cell ∷ cells) zero seen = (omega arith, cc)
seen_there (cell ∷ cells) (suc row) seen =
    let rest = seen_there cells row seen in (omega (arith, rest.0), rest.1)

null_is : (cell : Cell) → is_null cell ≡ true → cell ≡ null_cell
null_is null_cell null = refl
null_is (bit_cell bit) null = absurd (false≢true null)
null_is (bytes_cell bytes) null = absurd (false≢true null)
null_is (list_cell cells) null = absurd (false≢true null)
null_is (tuple_cell cells) null = absurd (false≢true null)

pub seen_null : (cells : List Cell) (row : ℕ) → null_seen (slice_get cells row) ≡ Some true → get_or cells row null_cell ≡ null_cell
seen_null [] row seen = absurd (cc)
seen_null (cell ∷ cells) zero seen = null_is cell (cc)
seen_null (cell ∷ cells) (suc row) seen = seen_null cells row seen

pub seen_none : (cells : List Cell) (row : ℕ) → null_seen (slice_get cells row) ≡ None → get_or cells row null_cell ≡ null_cell
seen_none [] row seen = refl
seen_none (cell ∷ cells) zero seen = absurd (cc)
seen_none (cell ∷ cells) (suc row) seen = seen_none cells row seen

one_bit : (bit : Bool) (cell : Cell) → bit_seen (Some cell) ≡ Some bit → bit_cell bit ≡ cell
one_bit bit null_cell seen = absurd (cc)
one_bit bit (bit_cell other) seen = cc
one_bit bit (bytes_cell bytes) seen = absurd (cc)
one_bit bit (list_cell cells) seen = absurd (cc)
one_bit bit (tuple_cell cells) seen = absurd (cc)

pub seen_bit : (cells : List Cell) (row : ℕ) (bit : Bool) → bit_seen (slice_get cells row) ≡ Some bit → bit_cell bit ≡ get_or cells row null_cell
seen_bit [] row bit seen = absurd (cc)
seen_bit (cell ∷ cells) zero bit seen = one_bit bit cell seen
seen_bit (cell ∷ cells) (suc row) bit seen = seen_bit cells row bit seen

all_bytes : (bytes : List ℕ) (cell : Cell) → bytes_seen (Some cell) ≡ Some bytes → bytes_cell bytes ≡ cell
all_bytes bytes null_cell seen = absurd (cc)
all_bytes bytes (bit_cell bit) seen = absurd (cc)
all_bytes bytes (bytes_cell other) seen = cc
all_bytes bytes (list_cell cells) seen = absurd (cc)
all_bytes bytes (tuple_cell cells) seen = absurd (cc)

pub seen_bytes : (cells : List Cell) (row : ℕ) (bytes : List ℕ) → bytes_seen (slice_get cells row) ≡ Some bytes
    → bytes_cell bytes ≡ get_or cells row null_cell
seen_bytes [] row bytes seen = absurd (cc)
seen_bytes (cell ∷ cells) zero bytes seen = all_bytes bytes cell seen
seen_bytes (cell ∷ cells) (suc row) bytes seen = seen_bytes cells row bytes seen

-- a cell without bits and bytes is null, where nothing stands inside it
flat_null : (layout : Layout) (inside : Shapes) (cell : Cell) → is_flat layout ≡ true → IsCellOf (shape layout inside) cell
    → bit_seen (Some cell) ≡ None → bytes_seen (Some cell) ≡ None → null_cell ≡ cell
flat_null layout inside null_cell flat fit bit bytes = refl
flat_null layout inside (bit_cell b) flat fit bit bytes = absurd (cc)
flat_null layout inside (bytes_cell bs) flat fit bit bytes = absurd (cc)
flat_null null_layout inside (list_cell cells) flat fit bit bytes = absurd fit
flat_null bits_layout inside (list_cell cells) flat fit bit bytes = absurd fit
flat_null (bytes_layout size) inside (list_cell cells) flat fit bit bytes = absurd fit
flat_null (binary_layout offset) inside (list_cell cells) flat fit bit bytes = absurd fit
flat_null (utf8_layout offset) inside (list_cell cells) flat fit bit bytes = absurd fit
flat_null (list_layout offset) inside (list_cell cells) flat fit bit bytes = absurd (false≢true flat)
flat_null (fixed_size_list_layout size) inside (list_cell cells) flat fit bit bytes = absurd (false≢true flat)
flat_null struct_layout inside (list_cell cells) flat fit bit bytes = absurd (false≢true flat)
flat_null null_layout inside (tuple_cell cells) flat fit bit bytes = absurd fit
flat_null bits_layout inside (tuple_cell cells) flat fit bit bytes = absurd fit
flat_null (bytes_layout size) inside (tuple_cell cells) flat fit bit bytes = absurd fit
flat_null (binary_layout offset) inside (tuple_cell cells) flat fit bit bytes = absurd fit
flat_null (utf8_layout offset) inside (tuple_cell cells) flat fit bit bytes = absurd fit
flat_null (list_layout offset) inside (tuple_cell cells) flat fit bit bytes = absurd (false≢true flat)
flat_null (fixed_size_list_layout size) inside (tuple_cell cells) flat fit bit bytes = absurd (false≢true flat)
flat_null struct_layout inside (tuple_cell cells) flat fit bit bytes = absurd (false≢true flat)

pub seen_flat : (s : Shape) (cells : List Cell) (row : ℕ) → is_flat (layout_of_shape s) ≡ true → AllByRecursion (IsCellOf s) cells
    → bit_seen (slice_get cells row) ≡ None → bytes_seen (slice_get cells row) ≡ None → null_cell ≡ get_or cells row null_cell
seen_flat s [] row flat fit bit bytes = refl
seen_flat (shape layout inside) (cell ∷ cells) zero flat fit bit bytes = flat_null layout inside cell flat fit.0 bit bytes
seen_flat (shape layout inside) (cell ∷ cells) (suc row) flat fit bit bytes =
    seen_flat (shape layout inside) cells row flat fit.1 bit bytes

-- ---- what is written of the cells

-- what is read of a column is what is written of its cells, as the law of the definitions has it
abbrev pub ReadsBack : Type 0
ReadsBack = (layout : Layout) (inside : Shapes) (cells : List Cell) (j : ℕ) → AllByRecursion (IsCellOf (shape layout inside)) cells
    → HasRoom layout cells → j < length cells → written_cell layout inside cells j ≡ get_or cells j null_cell

-- a cell that is not null was not read of an invalid place
chosen : (b : Bool) (value cell : Cell) → (if b then value else null_cell) ≡ cell → is_null cell ≡ false → value ≡ cell
chosen true value cell is valid = is
chosen false value cell is valid = absurd (true≢false (ap is_null is ∙ valid))

pub whole_shape : (s : Shape) → s ≡ shape (layout_of_shape s) (shapes_of_shape s)
whole_shape (shape layout inside) = refl

module _ (law : ReadsBack) (column : Contents) (row : ℕ) (there : IsThere column row)
    (fit : AllByRecursion (IsCellOf column.shape) column.cells) (room : HasRoom (layout_in column) column.cells) where
  -- a value that is there is the cell
  pub value_there : value_at (layout_in column) (get_or (own_buffers (layout_in column) column.cells) 1 [])
      (get_or (own_buffers (layout_in column) column.cells) 2 [])
      (written_elements (shapes_in column) column.cells (blanks_under (layout_in column))) (written_fields (shapes_in column) 0 column.cells) row
      ≡ cell_in column row
  value_there =
      chosen (is_valid (layout_in column) (get_or (own_buffers (layout_in column) column.cells) 0 []) row) _ (cell_in column row)
      (law (layout_in column) (shapes_in column) column.cells row
      (subst (λ s. AllByRecursion (IsCellOf s) column.cells) (whole_shape column.shape) fit) room there.within) there.valid

-- ---- lists

-- the elements in the column inside are those that are written there
elements_same : (blanks : ℕ) (cells : List Cell) (inside : List Contents) (places : List ℕ) → HasElements blanks cells inside
    → elements_held inside places ≡ written_elements (shapes_held inside) cells blanks places
elements_same blanks cells [] places none = absurd none
elements_same blanks cells (child ∷ rest) places has = ap (λ all. cells_of (map (λ p. get_or all p null_cell) places)) has.0

fields_same : (k : ℕ) (cells : List Cell) (inside : List Contents) (j : ℕ) → HaveFields k cells inside
    → fields_held inside j ≡ written_fields (shapes_held inside) k cells j
fields_same k cells [] j have = refl
fields_same k cells (child ∷ rest) j have =
    ap₂ cell_then (ap (λ all. get_or all j null_cell) have.0) (fields_same (suc k) cells rest j have.1)

pub fields_listed : (columns : List Contents) (row : ℕ) → cells_of (map (λ c. cell_in c row) columns) ≡ fields_held columns row
fields_listed [] row = refl
fields_listed (column ∷ columns) row = ap (cell_then (cell_in column row)) (fields_listed columns row)

pub elements_first : (columns : List Contents) (x : Contents) (places : List ℕ) → 0 < length columns → x ≡ get_or columns 0 x
    → cells_of (map (cell_in x) places) ≡ elements_held columns places
elements_first [] x places there is = absurd (omega arith)
elements_first (column ∷ columns) x places there is = ap (λ c. cells_of (map (cell_in c) places)) is

pub elements_none : (columns : List Contents) (places : List ℕ) → length columns ≡ 0 → no_cell ≡ elements_held columns places
elements_none [] places none = refl
elements_none (column ∷ columns) places none = absurd (omega arith)

module _ (law : ReadsBack) (column : Contents) (row : ℕ) (there : IsThere column row)
    (fit : AllByRecursion (IsCellOf column.shape) column.cells) (room : HasRoom (layout_in column) column.cells)
    (inside : List Contents) (held : HaveInside (layout_in column) column.cells inside) (shapes : shapes_held inside ≡ shapes_in column) where
  pub list_there : layout_in column ≡ list_layout 4
      → list_cell (elements_held inside (range_with_len (start_of 4 (offsets_among (layout_in column) (own_buffers (layout_in column) column.cells)) row)
      (length_of 4 (offsets_among (layout_in column) (own_buffers (layout_in column) column.cells)) row))) ≡ cell_in column row
  list_there is =
      let buffers : List (List ℕ) = own_buffers (layout_in column) column.cells in
      let has : HasElements 0 column.cells inside = subst (λ l. HaveInside l column.cells inside) is held in
      ap list_cell (elements_same 0 column.cells inside _ has
      ∙ ap (λ s. written_elements s column.cells 0 (range_with_len (start_of 4 (offsets_among (layout_in column) buffers) row) (length_of 4 (offsets_among (layout_in column) buffers) row))) shapes
      ∙ ap (λ l. written_elements (shapes_in column) column.cells 0 (range_with_len (start_of 4 (offsets_among l buffers) row) (length_of 4 (offsets_among l buffers) row))) is)
      ∙ sym (ap (λ l. value_at l (get_or buffers 1 []) (get_or buffers 2 []) (written_elements (shapes_in column) column.cells (blanks_under l)) (written_fields (shapes_in column) 0 column.cells) row) is)
      ∙ value_there law column row there fit room

  pub block_there : (size : ℕ) → layout_in column ≡ fixed_size_list_layout size
      → list_cell (elements_held inside (range_with_len (size * row) size)) ≡ cell_in column row
  block_there size is =
      let buffers : List (List ℕ) = own_buffers (layout_in column) column.cells in
      let has : HasElements size column.cells inside = subst (λ l. HaveInside l column.cells inside) is held in
      ap list_cell (elements_same size column.cells inside _ has
      ∙ ap (λ s. written_elements s column.cells size (range_with_len (size * row) size)) shapes)
      ∙ sym (ap (λ l. value_at l (get_or buffers 1 []) (get_or buffers 2 []) (written_elements (shapes_in column) column.cells (blanks_under l)) (written_fields (shapes_in column) 0 column.cells) row) is)
      ∙ value_there law column row there fit room

  pub tuple_there : layout_in column ≡ struct_layout → tuple_cell (fields_held inside row) ≡ cell_in column row
  tuple_there is =
      let buffers : List (List ℕ) = own_buffers (layout_in column) column.cells in
      let have : HaveFields 0 column.cells inside = subst (λ l. HaveInside l column.cells inside) is held in
      ap tuple_cell (fields_same 0 column.cells inside row have
      ∙ ap (λ s. written_fields s 0 column.cells row) shapes)
      ∙ sym (ap (λ l. value_at l (get_or buffers 1 []) (get_or buffers 2 []) (written_elements (shapes_in column) column.cells (blanks_under l)) (written_fields (shapes_in column) 0 column.cells) row) is)
      ∙ value_there law column row there fit room

  -- so for the cells from where the row's elements begin up to where they end
  pub block_cells : (size start end : ℕ) (x : Contents) → layout_in column ≡ fixed_size_list_layout size → 0 < length inside → x ≡ get_or inside 0 x
      → start ≡ size * row → end ≡ size * row + size → list_cell (cells_of (map (cell_in x) (range_with_len start (end - start)))) ≡ cell_in column row
  block_cells size start end x is some first begins ends =
      let count : end - start ≡ size = omega (arith, begins, ends) in
      ap list_cell (elements_first inside x (range_with_len start (end - start)) some first)
      ∙ ap₂ (λ s n. list_cell (elements_held inside (range_with_len s n))) begins count
      ∙ block_there size is

  pub tuple_cells : (cells : List Cell) → layout_in column ≡ struct_layout → cells ≡ map (λ c. cell_in c row) inside
      → tuple_cell (cells_of cells) ≡ cell_in column row
  tuple_cells cells is same = ap tuple_cell (ap cells_of same ∙ fields_listed inside row) ∙ tuple_there is

-- ---- how long offsets and elements are

offsets_each : (lengths js : List ℕ) → length (flat_map (λ j. little_bytes 4 (sum_by (λ n. n) (take j lengths))) js) ≡ 4 * length js
offsets_each lengths [] = refl
offsets_each lengths (j ∷ js) =
    let one : length (little_bytes 4 (sum_by (λ n. n) (take j lengths))) ≡ 4 = length-bytes_low_first 0 4 (sum_by (λ n. n) (take j lengths)) in
    let both : length (flat_map (λ i. little_bytes 4 (sum_by (λ n. n) (take i lengths))) (j ∷ js))
    ≡ length (little_bytes 4 (sum_by (λ n. n) (take j lengths))) + length (flat_map (λ i. little_bytes 4 (sum_by (λ n. n) (take i lengths))) js) =
    length-append (little_bytes 4 (sum_by (λ n. n) (take j lengths))) (flat_map (λ i. little_bytes 4 (sum_by (λ n. n) (take i lengths))) js) in
    omega (arith, one, both, offsets_each lengths js)

pub offsets_long : (column : Contents) (offsets : List ℕ) → layout_in column ≡ list_layout 4
    → offsets ≡ offsets_among (layout_in column) (own_buffers (layout_in column) column.cells) → length offsets ≡ 4 * (length column.cells + 1)
offsets_long column offsets is same =
    let lengths : List ℕ = elements_lengths column.cells in
    let whole : offsets ≡ offsets_of 4 (elements_lengths column.cells) = same ∙ ap (λ l. offsets_among l (own_buffers l column.cells)) is in
    let long : length (offsets_of 4 (elements_lengths column.cells)) ≡ 4 * length (range_with_len 0 (length (elements_lengths column.cells) + 1)) =
    offsets_each (elements_lengths column.cells) (range_with_len 0 (length (elements_lengths column.cells) + 1)) in
    let each : length (range_with_len 0 (length (elements_lengths column.cells) + 1)) ≡ length (elements_lengths column.cells) + 1 =
    length-range_with_len 0 (length (elements_lengths column.cells) + 1) in
    let counted : length (elements_lengths column.cells) ≡ length column.cells = length-map column.cells (λ cell. length (elements_or [] cell)) in
    omega (arith, ap length whole, long, each, counted)

length_inside : (cells : Cells) → length (cells_in cells) ≡ count_of cells
length_inside no_cell = refl
length_inside (cell_then cell rest) = ap suc (length_inside rest)

module _ (size : ℕ) (Element : Cell → Type 0) (blank : Cell) where
  as_long : (cell : Cell) → IsList (λ cells. (count_of cells ≡ size) × AllCells Element cells) cell
      → length (elements_or (replicate size blank) cell) ≡ size
  as_long null_cell fits = length-replicate size blank
  as_long (bit_cell bit) fits = absurd fits
  as_long (bytes_cell bytes) fits = absurd fits
  as_long (list_cell cells) fits = length_inside cells ∙ fits.0
  as_long (tuple_cell cells) fits = absurd fits

  all_long : (cells : List Cell) → AllByRecursion (IsList (λ cells. (count_of cells ≡ size) × AllCells Element cells)) cells
      → length (flat_map (elements_or (replicate size blank)) cells) ≡ size * length cells
  all_long [] all = omega arith
  all_long (cell ∷ cells) all =
      omega (
        arith,
        length-append (elements_or (replicate size blank) cell) (flat_map (elements_or (replicate size blank)) cells),
        as_long cell all.0,
        all_long cells all.1,
        mul-suc size (length cells),
      )

-- the elements of a row stand within those of all rows
pub block_within : (s : Shape) (cells : List Cell) (inside : List Contents) (x : Contents) (size row : ℕ) → layout_of_shape s ≡ fixed_size_list_layout size
    → AllByRecursion (IsCellOf s) cells → HaveInside (layout_of_shape s) cells inside → 0 < length inside → x ≡ get_or inside 0 x
    → row < length cells → size * row + size ≤ length x.cells
block_within s cells [] x size row is fit held there seen within = absurd (omega arith)
block_within (shape layout shapes) cells (child ∷ rest) x size row is fit held there seen within =
    let has : HasElements size cells (child ∷ rest) = subst (λ l. HaveInside l cells (child ∷ rest)) is held in
    let fits : AllByRecursion (IsList (λ cells. (count_of cells ≡ size) × AllCells (IsElementOf shapes) cells)) cells =
    subst (λ l. AllByRecursion (FitsLayout l (IsElementOf shapes) (AreFieldsOf shapes)) cells) is fit in
    let up : size * suc row ≤ size * length cells = mul-le-mul_left size (omega arith) in
    let same : length x.cells ≡ length child.cells = ap (λ c. length c.cells) seen in
    omega (arith, same, ap length has.0, all_long size (IsElementOf shapes) (blank_of child.shape) cells fits, up, mul-suc size row)

pub block_has : (layout : Layout) (cells : List Cell) (inside : List Contents) (size : ℕ) → layout ≡ fixed_size_list_layout size
    → HaveInside layout cells inside → length inside ≡ 0 → ⊥
block_has layout cells [] size is held none =
    let has : HasElements size cells [] = subst (λ l. HaveInside l cells []) is held in has
block_has layout cells (child ∷ rest) size is held none = absurd (omega arith)

-- ---- all cells

listed_from : (xs : List Cell) (f : ℕ → Cell) (start : ℕ) → ((j : ℕ) → j < length xs → f (start + j) ≡ get_or xs j null_cell)
    → map f (range_with_len start (length xs)) ≡ xs
listed_from [] f start each = refl
listed_from (x ∷ xs) f start each =
    let here : start ≡ start + 0 = omega arith in
    ap₂ (λ y ys. y ∷ ys) (ap f here ∙ each 0 (omega arith))
    (listed_from xs f (start + 1) (λ j within.
    let next : start + 1 + j ≡ start + suc j = omega arith in
    ap f next ∙ each (suc j) (omega arith)))

pub all_listed : (column : Contents) (n : ℕ) → n ≡ length column.cells → map (cell_in column) (range_with_len 0 (n - 0)) ≡ column.cells
all_listed column n is =
    let same : n - 0 ≡ length column.cells = omega (arith, is) in
    ap (λ k. map (cell_in column) (range_with_len 0 k)) same
    ∙ listed_from column.cells (cell_in column) 0 (λ j within. ap (cell_in column) (zero-add j))

-- ---- what is inside a column is less deep

height_whole : (s : Shape) → height s ≡ suc (heights (shapes_of_shape s))
height_whole (shape layout inside) = refl

pub falls : (x : Contents) (inside : List Contents) → shapes_held inside ≡ shapes_in x → heights (shapes_held inside) < height x.shape
falls x inside same = omega (arith, height_whole x.shape, ap heights same)

pub height_there : (columns : List Contents) (i : ℕ) (x : Contents) → i < length columns → x ≡ get_or columns i x
    → height x.shape ≤ heights (shapes_held columns)
height_there [] i x there is = absurd (omega arith)
height_there (column ∷ columns) zero x there is =
    subst (λ c. height c.shape ≤ heights (shapes_held (column ∷ columns))) (sym is) (omega arith)
height_there (column ∷ columns) (suc i) x there is =
    omega (arith, height_there columns i x (omega arith) is)
