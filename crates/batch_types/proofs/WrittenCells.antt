-- The cells of a column are read of its own buffers, where those of the columns inside it are read of theirs.
use Rattle.std.proofs.Common.{◌≡◌, ◌≢◌, refl, sym, ap, ◌∙◌, ℕ, zero, suc, ◌+◌, ◌-◌, ◌*◌, ◌^◌, ◌<◌, ◌≤◌, Bool, true, false, not, if◌then◌else◌, List, [], ◌∷◌, length, get_or, map, take, drop, replicate, arith}
use Rattle.std.specs.List.{AllByRecursion, range_with_len, flat_map, sum_by}
use Rattle.std.specs.Str.{IsUtf8}
use Rattle.std.proofs.lemmas.Bool.{true≢false, false≢true}
use Rattle.std.proofs.lemmas.List.{get_or-map, length-map, length-take, length-drop}
use Rattle.std.proofs.Math.Seq.{drop-cons}
use Rattle.bitmaps.specs.Packed.{IsPacked}
use Rattle.bitmaps.specs.Packing.{packed_bytes}
use Rattle.batch_types.specs.Cells.{Cell, null_cell, bit_cell, bytes_cell, list_cell, tuple_cell, Cells, no_cell, cell_then, cells_of}
use Rattle.batch_types.specs.Layouts.{Layout, null_layout, bits_layout, bytes_layout, binary_layout, utf8_layout, list_layout, fixed_size_list_layout, struct_layout}
use Rattle.batch_types.specs.Shapes.{shape, Shapes, no_shape, shape_then}
use Rattle.batch_types.specs.Typed.{IsNull, IsBit, AreBytes, IsList, IsTuple, AllCells, count_of, IsCellOf, IsElementOf, AreFieldsOf}
use Rattle.batch_types.specs.Placed.{is_valid, start_of, length_of}
use Rattle.batch_types.specs.Canonical.{blank_of, is_null, bit_in, bytes_or, cells_in, elements_or, nth_or, field_or, validity_of, offsets_of, elements_lengths}
use Rattle.batch_types.specs.Written.{HasRoom, written_elements, written_fields, written_cell}
use Rattle.batch_types.proofs.ReadBack.{all_at, valid_is, bit_is, length_is, sized_is, bytes_are, elements_are, even_piece}

-- ---- elements by their places

-- places side by side have what stands there
pub cut : {X : Type 0} (xs : List X) (start count : ℕ) (d : X) → count ≤ length xs - start
    → map (λ k. get_or xs k d) (range_with_len start count) ≡ take count (drop start xs)
cut xs start zero d within = refl
cut xs start (suc count) d within =
    let next : start + 1 ≡ suc start = omega arith in
    ap (λ l. get_or xs start d ∷ l) (cut xs (start + 1) count d (omega (arith, within)) ∙ ap (λ n. take count (drop n xs)) next)
    ∙ ap (take (suc count)) (sym (drop-cons xs start d (omega (arith, within))))

-- so many as there are
cut_all : {X : Type 0} (xs ys : List X) (start count : ℕ) → take count (drop start xs) ≡ ys → length ys ≡ count
    → count ≤ length xs - start
cut_all xs ys start count same long =
    omega (arith, ap length same, long, length-take count (drop start xs), length-drop start xs)

-- ---- cells

cells_again : (cells : Cells) → cells_of (cells_in cells) ≡ cells
cells_again no_cell = refl
cells_again (cell_then cell rest) = ap (cell_then cell) (cells_again rest)

length_inside : (cells : Cells) → length (cells_in cells) ≡ count_of cells
length_inside no_cell = refl
length_inside (cell_then cell rest) = ap suc (length_inside rest)

-- a cell is chosen where it is valid
choose : (b : Bool) (cell value : Cell) → b ≡ not (is_null cell) → (is_null cell ≡ false → value ≡ cell)
    → (if b then value else null_cell) ≡ cell
choose true null_cell value valid same = absurd (true≢false valid)
choose false null_cell value valid same = refl
choose true (bit_cell bit) value valid same = same refl
choose true (bytes_cell bytes) value valid same = same refl
choose true (list_cell inside) value valid same = same refl
choose true (tuple_cell inside) value valid same = same refl
choose false (bit_cell bit) value valid same = absurd (false≢true valid)
choose false (bytes_cell bytes) value valid same = absurd (false≢true valid)
choose false (list_cell inside) value valid same = absurd (false≢true valid)
choose false (tuple_cell inside) value valid same = absurd (false≢true valid)

as_bit : (cell : Cell) → IsBit cell → is_null cell ≡ false → bit_cell (bit_in cell) ≡ cell
as_bit null_cell fits there = absurd (true≢false there)
as_bit (bit_cell bit) fits there = refl
as_bit (bytes_cell bytes) fits there = absurd fits
as_bit (list_cell inside) fits there = absurd fits
as_bit (tuple_cell inside) fits there = absurd fits

as_bytes : (Fit : List ℕ → Type 0) (blank : List ℕ) (cell : Cell) → AreBytes Fit cell → is_null cell ≡ false
    → bytes_cell (bytes_or blank cell) ≡ cell
as_bytes Fit blank null_cell fits there = absurd (true≢false there)
as_bytes Fit blank (bit_cell bit) fits there = absurd fits
as_bytes Fit blank (bytes_cell bytes) fits there = refl
as_bytes Fit blank (list_cell inside) fits there = absurd fits
as_bytes Fit blank (tuple_cell inside) fits there = absurd fits

as_list : (Fit : Cells → Type 0) (cell : Cell) → IsList Fit cell → is_null cell ≡ false
    → (cs : Cells) × (cell ≡ list_cell cs) × Fit cs
as_list Fit null_cell fits there = absurd (true≢false there)
as_list Fit (bit_cell bit) fits there = absurd fits
as_list Fit (bytes_cell bytes) fits there = absurd fits
as_list Fit (list_cell inside) fits there = (inside, refl, fits)
as_list Fit (tuple_cell inside) fits there = absurd fits

as_tuple : (Fit : Cells → Type 0) (cell : Cell) → IsTuple Fit cell → is_null cell ≡ false
    → (cs : Cells) × (cell ≡ tuple_cell cs) × Fit cs
as_tuple Fit null_cell fits there = absurd (true≢false there)
as_tuple Fit (bit_cell bit) fits there = absurd fits
as_tuple Fit (bytes_cell bytes) fits there = absurd fits
as_tuple Fit (list_cell inside) fits there = absurd fits
as_tuple Fit (tuple_cell inside) fits there = (inside, refl, fits)

null_is : (cell : Cell) → IsNull cell → null_cell ≡ cell
null_is null_cell fits = refl
null_is (bit_cell bit) fits = absurd fits
null_is (bytes_cell bytes) fits = absurd fits
null_is (list_cell inside) fits = absurd fits
null_is (tuple_cell inside) fits = absurd fits

-- ---- lists

-- the elements at places side by side, where these stand there
elements_of_cells : (inside : Shapes) (cells : List Cell) (blanks start count : ℕ) (cs : Cells) → AllCells (IsElementOf inside) cs
    → ((blank : Cell) → take count (drop start (flat_map (elements_or (replicate blanks blank)) cells)) ≡ cells_in cs)
    → length (cells_in cs) ≡ count
    → written_elements inside cells blanks (range_with_len start count) ≡ cs
elements_of_cells no_shape cells blanks start count no_cell fit same long = refl
elements_of_cells no_shape cells blanks start count (cell_then cell rest) fit same long = absurd fit.0
elements_of_cells (shape_then s rest) cells blanks start count cs fit same long =
    let child : List Cell = flat_map (elements_or (replicate blanks (blank_of s))) cells in
    ap cells_of (cut child start count null_cell (cut_all child (cells_in cs) start count (same (blank_of s)) long) ∙ same (blank_of s))
    ∙ cells_again cs

list_value : (offset : ℕ) (inside : Shapes) (cells : List Cell) (j : ℕ) → sum_by (λ n. n) (elements_lengths cells) < 2 ^ (8 * offset - 1)
    → j < length cells → (cs : Cells) → get_or cells j null_cell ≡ list_cell cs → AllCells (IsElementOf inside) cs
    → written_elements inside cells 0 (range_with_len (start_of offset (offsets_of offset (elements_lengths cells)) j)
    (length_of offset (offsets_of offset (elements_lengths cells)) j)) ≡ cs
list_value offset inside cells j room within cs is fit =
    let lengths : List ℕ = elements_lengths cells in
    let counted : length (elements_lengths cells) ≡ length cells = length-map cells (λ cell. length (elements_or [] cell)) in
    let here : elements_or [] (get_or cells j null_cell) ≡ cells_in cs = ap (elements_or []) is in
    let long : length (cells_in cs) ≡ length_of offset (offsets_of offset lengths) j =
    sym (length_is offset lengths j room (omega (arith, within, counted))
    ∙ get_or-map (λ cell. length (elements_or [] cell)) cells j null_cell 0 within ∙ ap length here) in
    elements_of_cells inside cells 0 (start_of offset (offsets_of offset lengths) j) (length_of offset (offsets_of offset lengths) j) cs fit
    (λ blank. elements_are offset cells j room within ∙ here) long

pub length_blanks : (n : ℕ) (blank : Cell) → length (replicate n blank) ≡ n
length_blanks zero blank = refl
length_blanks (suc n) blank = ap suc (length_blanks n blank)

pub even_elements : (Element : Cell → Type 0) (size : ℕ) (blank : Cell) (cells : List Cell)
    → AllByRecursion (IsList (λ cs. (count_of cs ≡ size) × AllCells Element cs)) cells
    → AllByRecursion (λ cell. length (elements_or (replicate size blank) cell) ≡ size) cells
even_elements Element size blank [] all = tt
even_elements Element size blank (null_cell ∷ cells) all = (length_blanks size blank, even_elements Element size blank cells all.1)
even_elements Element size blank (list_cell inside ∷ cells) all = (length_inside inside ∙ all.0.0, even_elements Element size blank cells all.1)
even_elements Element size blank (bit_cell bit ∷ cells) all = absurd all.0
even_elements Element size blank (bytes_cell bytes ∷ cells) all = absurd all.0
even_elements Element size blank (tuple_cell inside ∷ cells) all = absurd all.0

fixed_value : (size : ℕ) (inside : Shapes) (cells : List Cell) (j : ℕ)
    → AllByRecursion (IsCellOf (shape (fixed_size_list_layout size) inside)) cells
    → j < length cells → (cs : Cells) → get_or cells j null_cell ≡ list_cell cs → (count_of cs ≡ size) × AllCells (IsElementOf inside) cs
    → written_elements inside cells size (range_with_len (size * j) size) ≡ cs
fixed_value size inside cells j all within cs is fit =
    elements_of_cells inside cells size (size * j) size cs fit.1
    (λ blank. even_piece (elements_or (replicate size blank)) size cells j null_cell (even_elements (IsElementOf inside) size blank cells all) within
    ∙ ap (elements_or (replicate size blank)) is)
    (length_inside cs ∙ fit.0)

-- ---- structs

from_first : (all : Cells) (blank : Cell) (i : ℕ) → nth_or blank all (0 + i) ≡ nth_or blank all i
from_first all blank i = let same : 0 + i ≡ i = omega arith in ap (nth_or blank all) same

shifted : (k : ℕ) (all : Cells) (cell : Cell) (rest : Cells)
    → ((blank : Cell) (i : ℕ) → nth_or blank all (k + i) ≡ nth_or blank (cell_then cell rest) i)
    → (blank : Cell) (i : ℕ) → nth_or blank all (suc k + i) ≡ nth_or blank rest i
shifted k all cell rest same blank i =
    let next : suc k + i ≡ k + suc i = omega arith in
    ap (nth_or blank all) next ∙ same blank (suc i)

-- from one field on, where the fields from there on are these
fields_of_cells : (inside : Shapes) (k : ℕ) (cells : List Cell) (j : ℕ) (all rest : Cells) → j < length cells
    → get_or cells j null_cell ≡ tuple_cell all → ((blank : Cell) (i : ℕ) → nth_or blank all (k + i) ≡ nth_or blank rest i)
    → AreFieldsOf inside rest → written_fields inside k cells j ≡ rest
fields_of_cells no_shape k cells j all no_cell within is same fit = refl
fields_of_cells no_shape k cells j all (cell_then cell rest) within is same fit = absurd fit
fields_of_cells (shape_then s more) k cells j all no_cell within is same fit = absurd fit
fields_of_cells (shape_then s more) k cells j all (cell_then cell rest) within is same fit =
    let here : k + 0 ≡ k = omega arith in
    let first : get_or (map (field_or (blank_of s) k) cells) j null_cell ≡ cell =
    get_or-map (field_or (blank_of s) k) cells j null_cell null_cell within ∙ ap (field_or (blank_of s) k) is
    ∙ ap (nth_or (blank_of s) all) (sym here) ∙ same (blank_of s) 0 in
    ap (λ c. cell_then c (written_fields more (suc k) cells j)) first
    ∙ ap (cell_then cell) (fields_of_cells more (suc k) cells j all rest within is (shifted k all cell rest same) fit.1)

-- ---- a column

module _ (packed : (bits : List Bool) → IsPacked bits (packed_bytes bits)) where
  chosen : (layout : Layout) (cells : List Cell) (j : ℕ) (value : Cell) → layout ≢ null_layout → j < length cells
      → (is_null (get_or cells j null_cell) ≡ false → value ≡ get_or cells j null_cell)
      → (if is_valid layout (validity_of cells) j then value else null_cell) ≡ get_or cells j null_cell
  chosen layout cells j value bitmap within same =
      choose (is_valid layout (validity_of cells) j) (get_or cells j null_cell) value (valid_is packed layout cells j bitmap within) same

  pub cell_is : (layout : Layout) (inside : Shapes) (cells : List Cell) (j : ℕ) → AllByRecursion (IsCellOf (shape layout inside)) cells
      → HasRoom layout cells → j < length cells → written_cell layout inside cells j ≡ get_or cells j null_cell
  cell_is null_layout inside cells j all room within =
      null_is (get_or cells j null_cell) (all_at (IsCellOf (shape null_layout inside)) cells j null_cell all within)
  cell_is bits_layout inside cells j all room within =
      chosen bits_layout cells j _ (λ e. let no : bits_layout ≡ null_layout = e in cc) within
      (λ there. ap bit_cell (bit_is packed cells j)
      ∙ as_bit (get_or cells j null_cell) (all_at (IsCellOf (shape bits_layout inside)) cells j null_cell all within) there)
  cell_is (bytes_layout size) inside cells j all room within =
      chosen (bytes_layout size) cells j _ (λ e. let no : bytes_layout size ≡ null_layout = e in cc) within
      (λ there. ap bytes_cell (sized_is size cells j all within)
      ∙ as_bytes (λ bytes. length bytes ≡ size) (replicate size 0) (get_or cells j null_cell)
      (all_at (IsCellOf (shape (bytes_layout size) inside)) cells j null_cell all within) there)
  cell_is (binary_layout offset) inside cells j all room within =
      chosen (binary_layout offset) cells j _ (λ e. let no : binary_layout offset ≡ null_layout = e in cc) within
      (λ there. ap bytes_cell (bytes_are offset cells j room within)
      ∙ as_bytes (λ bytes. Unit {0}) [] (get_or cells j null_cell)
      (all_at (IsCellOf (shape (binary_layout offset) inside)) cells j null_cell all within) there)
  cell_is (utf8_layout offset) inside cells j all room within =
      chosen (utf8_layout offset) cells j _ (λ e. let no : utf8_layout offset ≡ null_layout = e in cc) within
      (λ there. ap bytes_cell (bytes_are offset cells j room within)
      ∙ as_bytes IsUtf8 [] (get_or cells j null_cell)
      (all_at (IsCellOf (shape (utf8_layout offset) inside)) cells j null_cell all within) there)
  cell_is (list_layout offset) inside cells j all room within =
      chosen (list_layout offset) cells j _ (λ e. let no : list_layout offset ≡ null_layout = e in cc) within
      (λ there.
      let list = as_list (AllCells (IsElementOf inside)) (get_or cells j null_cell)
      (all_at (IsCellOf (shape (list_layout offset) inside)) cells j null_cell all within) there in
      ap list_cell (list_value offset inside cells j room within list.0 list.1 list.2) ∙ sym list.1)
  cell_is (fixed_size_list_layout size) inside cells j all room within =
      chosen (fixed_size_list_layout size) cells j _ (λ e. let no : fixed_size_list_layout size ≡ null_layout = e in cc) within
      (λ there.
      let list = as_list (λ cs. (count_of cs ≡ size) × AllCells (IsElementOf inside) cs) (get_or cells j null_cell)
      (all_at (IsCellOf (shape (fixed_size_list_layout size) inside)) cells j null_cell all within) there in
      ap list_cell (fixed_value size inside cells j all within list.0 list.1 list.2) ∙ sym list.1)
  cell_is struct_layout inside cells j all room within =
      chosen struct_layout cells j _ (λ e. let no : struct_layout ≡ null_layout = e in cc) within
      (λ there.
      let tuple = as_tuple (AreFieldsOf inside) (get_or cells j null_cell)
      (all_at (IsCellOf (shape struct_layout inside)) cells j null_cell all within) there in
      ap tuple_cell (fields_of_cells inside 0 cells j tuple.0 tuple.0 within tuple.1 (from_first tuple.0) tuple.2) ∙ sym tuple.1)
