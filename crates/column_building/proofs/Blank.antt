-- Blank cells are of their shapes, and so are the elements and the fields of cells.
use Rattle.std.proofs.Common.{◌≡◌, ℕ, zero, suc, ◌==◌, true, List, [], ◌∷◌, ◌++◌, map, replicate, refl, ap, arith}
use Rattle.std.proofs.lemmas.Bool.{and_parts, eqb-true}
use Rattle.std.proofs.lemmas.List.{length-replicate}
use Rattle.std.proofs.lemmas.Str.{IsUtf8-nil}
use Rattle.std.specs.List.{AllByRecursion, flat_map}
use Rattle.batch_types.specs.Cells.{Cell, null_cell, bit_cell, bytes_cell, list_cell, tuple_cell, Cells, no_cell, cell_then, cells_of}
use Rattle.batch_types.specs.Layouts.{null_layout, bits_layout, bytes_layout, binary_layout, utf8_layout}
use Rattle.batch_types.specs.Layouts.{list_layout, fixed_size_list_layout, struct_layout}
use Rattle.batch_types.specs.Shapes.{Shape, shape, Shapes, no_shape, shape_then}
use Rattle.batch_types.specs.Canonical.{blank_of, first_blank, blanks_of, cells_in, elements_or, nth_or, field_or}
use Rattle.batch_types.specs.Typed.{IsCellOf, IsElementOf, AreFieldsOf, AllCells, count_of, IsList, IsTuple}
use Rattle.column_building.specs.Whole.{count_shapes, is_whole, are_whole}
use Rattle.column_building.specs.Built.{DoFieldsFit}

-- ---- blank cells

count_blanks : (n : ℕ) (cell : Cell) → count_of (cells_of (replicate n cell)) ≡ n
count_blanks zero cell = refl
count_blanks (suc n) cell = ap suc (count_blanks n cell)

all_blanks : (P : Cell → Type 0) (n : ℕ) (cell : Cell) → P cell → AllCells P (cells_of (replicate n cell))
all_blanks P zero cell one = tt
all_blanks P (suc n) cell one = (one, all_blanks P n cell one)

mutual
  pub blank_fits : (s : Shape) → is_whole s ≡ true → IsCellOf s (blank_of s)
  blank_fits (shape null_layout inside) whole = tt
  blank_fits (shape bits_layout inside) whole = tt
  blank_fits (shape (bytes_layout size) inside) whole = length-replicate size 0
  blank_fits (shape (binary_layout offset) inside) whole = tt
  blank_fits (shape (utf8_layout offset) inside) whole = IsUtf8-nil
  blank_fits (shape (list_layout offset) inside) whole = tt
  blank_fits (shape (fixed_size_list_layout size) inside) whole =
      let parts = and_parts (count_shapes inside == 1) (are_whole inside) whole in (
        count_blanks size (first_blank inside),
        all_blanks (IsElementOf inside) size (first_blank inside) (first_fits inside (eqb-true (count_shapes inside) 1 parts.0) parts.1),
      )
  blank_fits (shape struct_layout inside) whole = blanks_fit inside whole

  pub first_fits : (inside : Shapes) → count_shapes inside ≡ 1 → are_whole inside ≡ true → IsElementOf inside (first_blank inside)
  first_fits no_shape one whole = absurd (omega arith)
  first_fits (shape_then s rest) one whole = blank_fits s (and_parts (is_whole s) (are_whole rest) whole).0

  pub blanks_fit : (inside : Shapes) → are_whole inside ≡ true → AreFieldsOf inside (blanks_of inside)
  blanks_fit no_shape whole = tt
  blanks_fit (shape_then s rest) whole =
      let parts = and_parts (is_whole s) (are_whole rest) whole in (blank_fits s parts.0, blanks_fit rest parts.1)

-- ---- elements

all_append : (P : Cell → Type 0) (xs ys : List Cell) → AllByRecursion P xs → AllByRecursion P ys → AllByRecursion P (xs ++ ys)
all_append P [] ys first last = last
all_append P (x ∷ xs) ys first last = (first.0, all_append P xs ys first.1 last)

all_replicate : (P : Cell → Type 0) (n : ℕ) (cell : Cell) → P cell → AllByRecursion P (replicate n cell)
all_replicate P zero cell one = tt
all_replicate P (suc n) cell one = (one, all_replicate P n cell one)

all_listed : (P : Cell → Type 0) (cells : Cells) → AllCells P cells → AllByRecursion P (cells_in cells)
all_listed P no_cell all = tt
all_listed P (cell_then cell rest) all = (all.0, all_listed P rest all.1)

module _ (Element : Cell → Type 0) (size : ℕ) (blank : Cell) (fits : Element blank) where
  one_fit : (cell : Cell) → IsList (AllCells Element) cell → AllByRecursion Element (elements_or (replicate size blank) cell)
  one_fit null_cell all = all_replicate Element size blank fits
  one_fit (bit_cell bit) all = absurd all
  one_fit (bytes_cell bytes) all = absurd all
  one_fit (list_cell cells) all = all_listed Element cells all
  one_fit (tuple_cell cells) all = absurd all

  pub elements_fit : (cells : List Cell) → AllByRecursion (IsList (AllCells Element)) cells → AllByRecursion Element (flat_map (elements_or (replicate size blank)) cells)
  elements_fit [] all = tt
  elements_fit (cell ∷ cells) all =
      all_append Element (elements_or (replicate size blank) cell) (flat_map (elements_or (replicate size blank)) cells) (one_fit cell all.0) (elements_fit cells all.1)

  any_size : (cell : Cell) → IsList (λ cells. (count_of cells ≡ size) × AllCells Element cells) cell → IsList (AllCells Element) cell
  any_size null_cell all = tt
  any_size (bit_cell bit) all = absurd all
  any_size (bytes_cell bytes) all = absurd all
  any_size (list_cell cells) all = all.1
  any_size (tuple_cell cells) all = absurd all

  pub any_sizes : (cells : List Cell) → AllByRecursion (IsList (λ cells. (count_of cells ≡ size) × AllCells Element cells)) cells → AllByRecursion (IsList (AllCells Element)) cells
  any_sizes [] all = tt
  any_sizes (cell ∷ cells) all = (any_size cell all.0, any_sizes cells all.1)

-- ---- fields

abbrev drop_cells : ℕ → Cells → Cells
drop_cells zero cells = cells
drop_cells (suc k) no_cell = no_cell
drop_cells (suc k) (cell_then cell rest) = drop_cells k rest

nth_fits : (s : Shape) (rest : Shapes) (blank : Cell) (k : ℕ) (cells : Cells) → AreFieldsOf (shape_then s rest) (drop_cells k cells)
    → IsCellOf s (nth_or blank cells k) × AreFieldsOf rest (drop_cells (suc k) cells)
nth_fits s rest blank zero no_cell fits = absurd fits
nth_fits s rest blank zero (cell_then cell cells) fits = (fits.0, fits.1)
nth_fits s rest blank (suc k) no_cell fits = absurd fits
nth_fits s rest blank (suc k) (cell_then cell cells) fits = nth_fits s rest blank k cells fits

abbrev DoFit : Shapes → ℕ → Cell → Type 0
DoFit inside k cell = IsTuple (λ cells. AreFieldsOf inside (drop_cells k cells)) cell

field_fits : (s : Shape) (rest : Shapes) (k : ℕ) (cell : Cell) → is_whole s ≡ true → DoFit (shape_then s rest) k cell
    → IsCellOf s (field_or (blank_of s) k cell) × DoFit rest (suc k) cell
field_fits s rest k null_cell whole fits = (blank_fits s whole, tt)
field_fits s rest k (bit_cell bit) whole fits = absurd fits
field_fits s rest k (bytes_cell bytes) whole fits = absurd fits
field_fits s rest k (list_cell cells) whole fits = absurd fits
field_fits s rest k (tuple_cell cells) whole fits = nth_fits s rest (blank_of s) k cells fits

field_all : (s : Shape) (rest : Shapes) (k : ℕ) (cells : List Cell) → is_whole s ≡ true → AllByRecursion (DoFit (shape_then s rest) k) cells
    → AllByRecursion (IsCellOf s) (map (field_or (blank_of s) k) cells) × AllByRecursion (DoFit rest (suc k)) cells
field_all s rest k [] whole all = (tt, tt)
field_all s rest k (cell ∷ cells) whole all =
    let one = field_fits s rest k cell whole all.0 in
    let others = field_all s rest k cells whole all.1 in ((one.0, others.0), (one.1, others.1))

fields_from : (inside : Shapes) (k : ℕ) (cells : List Cell) → are_whole inside ≡ true → AllByRecursion (DoFit inside k) cells → DoFieldsFit inside k cells
fields_from no_shape k cells whole all = tt
fields_from (shape_then s rest) k cells whole all =
    let parts = and_parts (is_whole s) (are_whole rest) whole in
    let both = field_all s rest k cells parts.0 all in (both.0, fields_from rest (suc k) cells parts.1 both.1)

pub fields_fit : (inside : Shapes) (cells : List Cell) → are_whole inside ≡ true → AllByRecursion (IsCellOf (shape struct_layout inside)) cells → DoFieldsFit inside 0 cells
fields_fit inside cells whole all = fields_from inside 0 cells whole all
