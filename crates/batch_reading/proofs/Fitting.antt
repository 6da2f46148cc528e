-- What is selected inside a column is of the fields inside, where the cells are of the field.
use Rattle.std.proofs.Common.{◌≡◌, refl, sym, ap, subst, ℕ, zero, suc, ◌*◌, Bool, true, false, ◌&&◌, if◌then◌else◌, List, [], ◌∷◌, ◌++◌, map, replicate, drop, arith, true≢false}
use Rattle.std.proofs.lemmas.List.{length-replicate, map-append}
use Rattle.std.proofs.lemmas.Str.{IsUtf8-nil}
use Rattle.std.specs.List.{AllByRecursion, range_with_len}
use Rattle.header_types.specs.Fields.{Tree, tree, Forest, no_more, more, width, DataType, null_type, int_type, floating_point_type, binary_type, utf8_type}
use Rattle.header_types.specs.Fields.{bool_type, decimal_type, date_type, time_type, timestamp_type, list_type}
use Rattle.header_types.specs.Fields.{struct_type, fixed_size_binary_type, fixed_size_list_type, duration_type}
use Rattle.header_types.specs.TypeIds.{AllowsChildren}
use Rattle.header_types.specs.Profile.{IsWellFormedTree, IsWellFormedForest}
use Rattle.batch_types.specs.Cells.{Cell, null_cell, list_cell, tuple_cell, no_cell, cells_of}
use Rattle.batch_types.specs.Layouts.{Layout, null_layout, bits_layout, bytes_layout, binary_layout, utf8_layout, layout_of}
use Rattle.batch_types.specs.Layouts.{list_layout, fixed_size_list_layout, struct_layout}
use Rattle.batch_types.specs.Shapes.{shape, Shapes, shape_of, shapes_of}
use Rattle.batch_types.specs.Laid.{Node, Range, LaidColumn, laid, LaidColumns}
use Rattle.batch_types.specs.Placed.{start_of, length_of, cell_at, fields_at, buffer_at}
use Rattle.batch_types.specs.Canonical.{blank_of, first_blank, blanks_of}
use Rattle.batch_types.specs.Typed.{IsCellOf, IsElementOf, AreFieldsOf, AllCells, count_of}
use Rattle.batch_columns.specs.Sources.{nodes_of_tree, buffers_of_tree, column_from, columns_from}
use Rattle.batch_reading.specs.Spots.{Spot}
use Rattle.batch_reading.specs.Taken.{valid_in, seen}
use Rattle.batch_reading.specs.Planned.{elements_taken, spots_under, spots_inside}
use Rattle.batch_reading.specs.Built.{cell_wanted, cells_wanted, AreFit}
use Rattle.batch_reading.proofs.Bounding.{both_all}
use Rattle.batch_reading.proofs.Planning.{same_in_struct}

-- ---- how many fields stand inside one

abbrev pub MayHave : Layout → ℕ → Type 0
MayHave null_layout n = n ≡ 0
MayHave bits_layout n = n ≡ 0
MayHave (bytes_layout size) n = n ≡ 0
MayHave (binary_layout offset) n = n ≡ 0
MayHave (utf8_layout offset) n = n ≡ 0
MayHave (list_layout offset) n = n ≡ 1
MayHave (fixed_size_list_layout size) n = n ≡ 1
MayHave struct_layout n = Unit {0}

pub may_have : (d : DataType) (n : ℕ) → AllowsChildren d n → MayHave (layout_of d) n
may_have null_type n allows = allows
may_have (int_type width signed) n allows = allows
may_have (floating_point_type precision) n allows = allows
may_have binary_type n allows = allows
may_have utf8_type n allows = allows
may_have bool_type n allows = allows
may_have (decimal_type precision scale width) n allows = allows
may_have (date_type unit) n allows = allows
may_have (time_type unit) n allows = allows
may_have (timestamp_type unit timezone) n allows = allows
may_have list_type n allows = allows
may_have struct_type n allows = allows
may_have (fixed_size_binary_type byte_width) n allows = allows
may_have (fixed_size_list_type list_size) n allows = allows
may_have (duration_type unit) n allows = allows

-- ---- blank cells

all_same_cells : (P : Cell → Type 0) (size : ℕ) (cell : Cell) → P cell → (count_of (cells_of (replicate size cell)) ≡ size) × AllCells P (cells_of (replicate size cell))
all_same_cells P zero cell fits = (refl, tt)
all_same_cells P (suc size) cell fits =
    let rest = all_same_cells P size cell fits in (ap suc rest.0, (fits, rest.1))

blank_fits_in : (l : Layout) (inside : Forest) → MayHave l (width inside) → ((n : ℕ) → width inside ≡ suc n → IsElementOf (shapes_of inside) (first_blank (shapes_of inside)))
    → AreFieldsOf (shapes_of inside) (blanks_of (shapes_of inside)) → IsCellOf (shape l (shapes_of inside)) (blank_of (shape l (shapes_of inside)))
blank_fits_in null_layout inside may first fields = tt
blank_fits_in bits_layout inside may first fields = tt
blank_fits_in (bytes_layout size) inside may first fields = length-replicate size 0
blank_fits_in (binary_layout offset) inside may first fields = tt
blank_fits_in (utf8_layout offset) inside may first fields = IsUtf8-nil
blank_fits_in (list_layout offset) inside may first fields = tt
blank_fits_in (fixed_size_list_layout size) inside may first fields =
    all_same_cells (IsElementOf (shapes_of inside)) size (first_blank (shapes_of inside)) (first 0 may)
blank_fits_in struct_layout inside may first fields = fields

mutual
  pub blank_fits : (t : Tree) → IsWellFormedTree t → IsCellOf (shape_of t) (blank_of (shape_of t))
  blank_fits (tree field entries inside) formed =
      blank_fits_in (layout_of field.data_type) inside (may_have field.data_type (width inside) formed.0) (first_fits inside formed.2) (blanks_fit inside formed.2)

  first_fits : (f : Forest) → IsWellFormedForest f → (n : ℕ) → width f ≡ suc n → IsElementOf (shapes_of f) (first_blank (shapes_of f))
  first_fits no_more formed n is = absurd (omega (arith, is))
  first_fits (more t rest) formed n is = blank_fits t formed.0

  pub blanks_fit : (f : Forest) → IsWellFormedForest f → AreFieldsOf (shapes_of f) (blanks_of (shapes_of f))
  blanks_fit no_more formed = tt
  blanks_fit (more t rest) formed = (blank_fits t formed.0, blanks_fit rest formed.1)

-- ---- elements

listed_fit : (P : Cell → Type 0) (f : ℕ → Cell) (blank : Cell) (places : List ℕ) → AllCells P (cells_of (map f places))
    → AllByRecursion P (map (cell_wanted f blank) (map (λ p. (p, true)) places))
listed_fit P f blank [] all = tt
listed_fit P f blank (p ∷ ps) all = (all.0, listed_fit P f blank ps all.1)

blank_listed : (P : Cell → Type 0) (f : ℕ → Cell) (blank : Cell) (places : List ℕ) → P blank
    → AllByRecursion P (map (cell_wanted f blank) (map (λ p. (p, false)) places))
blank_listed P f blank [] fits = tt
blank_listed P f blank (p ∷ ps) fits = (fits, blank_listed P f blank ps fits)

mapped_both : (P : Cell → Type 0) (f : Spot → Cell) (xs ys : List Spot) → AllByRecursion P (map f xs) → AllByRecursion P (map f ys) → AllByRecursion P (map f (xs ++ ys))
mapped_both P f xs ys some next = subst (AllByRecursion P) (sym (map-append f xs ys)) (both_all P (map f xs) (map f ys) some next)

module _ (body : List ℕ) (n : Node) (r : List Range) (t : Tree) (nodes : List Node) (ranges : List Range) where
  abbrev inner : LaidColumns
  inner = columns_from (more t no_more) nodes ranges

  abbrev child : LaidColumn
  child = column_from t nodes ranges

  -- the elements of lists
  pub lists_fit : (spots : List Spot)
      → AllByRecursion (IsCellOf (shape (list_layout 4) (shapes_of (more t no_more))))
      (cells_wanted body (laid (list_layout 4) n r inner) (shape (list_layout 4) (shapes_of (more t no_more))) spots)
      → AllByRecursion (IsCellOf (shape_of t))
      (cells_wanted body child (shape_of t) (spots_inside (list_layout 4) (buffer_at body r 1) (map (seen (buffer_at body r 0)) spots)))
  lists_fit [] fit = tt
  lists_fit (spot ∷ spots) fit =
      mapped_both (IsCellOf (shape_of t)) (cell_wanted (cell_at body child) (blank_of (shape_of t)))
      (spots_under (list_layout 4) (buffer_at body r 1) (seen (buffer_at body r 0) spot))
      (spots_inside (list_layout 4) (buffer_at body r 1) (map (seen (buffer_at body r 0)) spots))
      (one spot.0 spot.1 (valid_in (buffer_at body r 0) spot.0) fit.0) (lists_fit spots fit.1)
    where
      one : (j : ℕ) (mark valid : Bool)
          → IsCellOf (shape (list_layout 4) (shapes_of (more t no_more)))
          (if mark then (if valid then list_cell (cells_of (map (cell_at body child) (range_with_len (start_of 4 (buffer_at body r 1) j) (length_of 4 (buffer_at body r 1) j)))) else null_cell) else list_cell no_cell)
          → AllByRecursion (IsCellOf (shape_of t)) (map (cell_wanted (cell_at body child) (blank_of (shape_of t))) (map (λ p. (p, true)) (elements_taken (buffer_at body r 1) (j, mark && valid))))
      one j true true fits =
          listed_fit (IsCellOf (shape_of t)) (cell_at body child) (blank_of (shape_of t)) (range_with_len (start_of 4 (buffer_at body r 1) j) (length_of 4 (buffer_at body r 1) j)) fits
      one j true false fits = tt
      one j false valid fits = tt

  -- of lists of one size
  pub sized_fit : (size : ℕ) → IsWellFormedTree t → (spots : List Spot)
      → AllByRecursion (IsCellOf (shape (fixed_size_list_layout size) (shapes_of (more t no_more))))
      (cells_wanted body (laid (fixed_size_list_layout size) n r inner) (shape (fixed_size_list_layout size) (shapes_of (more t no_more))) spots)
      → AllByRecursion (IsCellOf (shape_of t))
      (cells_wanted body child (shape_of t) (spots_inside (fixed_size_list_layout size) [] (map (seen (buffer_at body r 0)) spots)))
  sized_fit size formed [] fit = tt
  sized_fit size formed (spot ∷ spots) fit =
      mapped_both (IsCellOf (shape_of t)) (cell_wanted (cell_at body child) (blank_of (shape_of t)))
      (spots_under (fixed_size_list_layout size) [] (seen (buffer_at body r 0) spot))
      (spots_inside (fixed_size_list_layout size) [] (map (seen (buffer_at body r 0)) spots))
      (one spot.0 spot.1 (valid_in (buffer_at body r 0) spot.0) fit.0) (sized_fit size formed spots fit.1)
    where
      one : (j : ℕ) (mark valid : Bool)
          → IsCellOf (shape (fixed_size_list_layout size) (shapes_of (more t no_more)))
          (if mark then (if valid then list_cell (cells_of (map (cell_at body child) (range_with_len (size * j) size))) else null_cell)
          else list_cell (cells_of (replicate size (blank_of (shape_of t)))))
          → AllByRecursion (IsCellOf (shape_of t)) (map (cell_wanted (cell_at body child) (blank_of (shape_of t))) (map (λ p. (p, mark && valid)) (range_with_len (size * j) size)))
      one j true true fits = listed_fit (IsCellOf (shape_of t)) (cell_at body child) (blank_of (shape_of t)) (range_with_len (size * j) size) fits.1
      one j true false fits =
          blank_listed (IsCellOf (shape_of t)) (cell_at body child) (blank_of (shape_of t)) (range_with_len (size * j) size) (blank_fits t formed)
      one j false valid fits =
          blank_listed (IsCellOf (shape_of t)) (cell_at body child) (blank_of (shape_of t)) (range_with_len (size * j) size) (blank_fits t formed)

-- ---- fields

-- where the value is taken, there are fields of these shapes
abbrev HaveFieldsTaken : List ℕ → Shapes → LaidColumns → List Spot → Type 0
HaveFieldsTaken body shapes columns taken = AllByRecursion (λ spot. spot.1 ≡ true → AreFieldsOf shapes (fields_at body columns spot.0)) taken

fields_fit : (body : List ℕ) (f : Forest) → IsWellFormedForest f → (nodes : List Node) (ranges : List Range) (taken : List Spot)
    → HaveFieldsTaken body (shapes_of f) (columns_from f nodes ranges) taken → AreFit body (columns_from f nodes ranges) (shapes_of f) taken
fields_fit body no_more formed nodes ranges taken have = tt
fields_fit body (more t rest) formed nodes ranges taken have = (first taken have, fields_fit body rest formed.1 (drop (nodes_of_tree t) nodes) (drop (buffers_of_tree t) ranges) taken (others taken have))
  where
    by_mark : (mark : Bool) (value : Cell) → (mark ≡ true → IsCellOf (shape_of t) value) → IsCellOf (shape_of t) (if mark then value else blank_of (shape_of t))
    by_mark true value fits = fits refl
    by_mark false value fits = blank_fits t formed.0

    first : (taken : List Spot) → HaveFieldsTaken body (shapes_of (more t rest)) (columns_from (more t rest) nodes ranges) taken
        → AllByRecursion (IsCellOf (shape_of t)) (cells_wanted body (column_from t nodes ranges) (shape_of t) taken)
    first [] have = tt
    first (spot ∷ taken) have =
        (by_mark spot.1 (cell_at body (column_from t nodes ranges) spot.0) (λ is. (have.0 is).0), first taken have.1)

    others : (taken : List Spot) → HaveFieldsTaken body (shapes_of (more t rest)) (columns_from (more t rest) nodes ranges) taken
        → HaveFieldsTaken body (shapes_of rest) (columns_from rest (drop (nodes_of_tree t) nodes) (drop (buffers_of_tree t) ranges)) taken
    others [] have = tt
    others (spot ∷ taken) have = (λ is. (have.0 is).1, others taken have.1)

pub structs_fit : (body : List ℕ) (n : Node) (r : List Range) (f : Forest) (nodes : List Node) (ranges : List Range) → IsWellFormedForest f → (spots : List Spot)
    → AllByRecursion (IsCellOf (shape struct_layout (shapes_of f))) (cells_wanted body (laid struct_layout n r (columns_from f nodes ranges)) (shape struct_layout (shapes_of f)) spots)
    → AreFit body (columns_from f nodes ranges) (shapes_of f) (spots_inside struct_layout [] (map (seen (buffer_at body r 0)) spots))
structs_fit body n r f nodes ranges formed spots fit =
    subst (AreFit body (columns_from f nodes ranges) (shapes_of f)) (sym (same_in_struct [] (map (seen (buffer_at body r 0)) spots)))
    (fields_fit body f formed nodes ranges (map (seen (buffer_at body r 0)) spots) (taken spots fit))
  where
    one : (j : ℕ) (mark valid : Bool)
        → IsCellOf (shape struct_layout (shapes_of f)) (if mark then (if valid then tuple_cell (fields_at body (columns_from f nodes ranges) j) else null_cell) else tuple_cell (blanks_of (shapes_of f)))
        → mark && valid ≡ true → AreFieldsOf (shapes_of f) (fields_at body (columns_from f nodes ranges) j)
    one j true true fits is = fits
    one j true false fits is = absurd (true≢false (sym is))
    one j false valid fits is = absurd (true≢false (sym is))

    taken : (spots : List Spot)
        → AllByRecursion (IsCellOf (shape struct_layout (shapes_of f))) (cells_wanted body (laid struct_layout n r (columns_from f nodes ranges)) (shape struct_layout (shapes_of f)) spots)
        → HaveFieldsTaken body (shapes_of f) (columns_from f nodes ranges) (map (seen (buffer_at body r 0)) spots)
    taken [] fit = tt
    taken (spot ∷ spots) fit = (one spot.0 spot.1 (valid_in (buffer_at body r 0) spot.0) fit.0, taken spots fit.1)
