-- The columns of a batch as they are written: their nodes and ranges are those of the canonical header, and they are
-- columns of the fields.
use Rattle.std.proofs.Common.{◌≡◌, refl, sym, ap, ap₂, ◌∙◌, ℕ, suc, pos, List, [], ◌∷◌, ◌++◌, length, map, replicate, arith, length-append}
use Rattle.std.proofs.lemmas.List.{append-nil}
use Rattle.std.specs.List.{flat_map}
use Rattle.header_types.specs.TypeIds.{AllowsChildren}
use Rattle.header_types.specs.Fields.{DataType, null_type, int_type, floating_point_type, binary_type, utf8_type}
use Rattle.header_types.specs.Fields.{bool_type, decimal_type, date_type, time_type, timestamp_type, list_type}
use Rattle.header_types.specs.Fields.{struct_type, fixed_size_binary_type, fixed_size_list_type, duration_type}
use Rattle.header_types.specs.Fields.{Tree, tree, Forest, no_more, more, width}
use Rattle.header_types.specs.Limits.{tree_sum, forest_sum}
use Rattle.header_types.specs.Profile.{IsWellFormedTree, IsWellFormedForest}
use Rattle.batch_types.specs.Cells.{Cell}
use Rattle.batch_types.specs.Layouts.{Layout, null_layout, bits_layout, bytes_layout, binary_layout, utf8_layout}
use Rattle.batch_types.specs.Layouts.{list_layout, fixed_size_list_layout, struct_layout, layout_of, buffers_in_layout}
use Rattle.batch_types.specs.Shapes.{Shape, shape, Shapes, no_shape, shape_then, shape_of, shapes_of}
use Rattle.batch_types.specs.Laid.{LaidColumn, laid, LaidColumns, no_column, column_then, nodes_of, nodes_in, buffers_of, buffers_in, IsColumnOf, AreColumnsOf}
use Rattle.batch_types.specs.Canonical.{blank_of, elements_or, field_or, nulls_of, own_buffers, Parts, no_parts, both_parts, parts_inside}
use Rattle.batch_types.specs.Canonical.{parts_of, elements_parts, fields_parts, columns_parts, ranges_from}
use Rattle.batch_types.proofs.Standing.{end_of, ranges_both}

-- ---- the cells of the columns inside a column

abbrev pub element_columns : Shapes → List Cell → ℕ → List (List Cell)
element_columns no_shape cells blanks = []
element_columns (shape_then s rest) cells blanks = flat_map (elements_or (replicate blanks (blank_of s))) cells ∷ []

abbrev pub field_columns : Shapes → ℕ → List Cell → List (List Cell)
field_columns no_shape k cells = []
field_columns (shape_then s rest) k cells = map (field_or (blank_of s) k) cells ∷ field_columns rest (suc k) cells

abbrev pub columns_in : Layout → Shapes → List Cell → List (List Cell)
columns_in null_layout inside cells = []
columns_in bits_layout inside cells = []
columns_in (bytes_layout size) inside cells = []
columns_in (binary_layout offset) inside cells = []
columns_in (utf8_layout offset) inside cells = []
columns_in (list_layout offset) inside cells = element_columns inside cells 0
columns_in (fixed_size_list_layout size) inside cells = element_columns inside cells size
columns_in struct_layout inside cells = field_columns inside 0 cells

-- ---- columns of cells, whose buffers stand from this place on

abbrev mutual
  pub column_of : ℕ → Shape → List Cell → LaidColumn
  column_of place (shape l inside) cells =
      laid l (pos (length cells), pos (nulls_of cells)) (ranges_from place (own_buffers l cells))
      (columns_of (end_of place (own_buffers l cells)) inside (columns_in l inside cells))

  pub columns_of : ℕ → Shapes → List (List Cell) → LaidColumns
  columns_of place no_shape columns = no_column
  columns_of place (shape_then s rest) [] = no_column
  columns_of place (shape_then s rest) (cells ∷ columns) =
      column_then (column_of place s cells) (columns_of (end_of place (parts_of s cells).buffers) rest columns)

-- ---- parts of columns inside, as parts of columns

same_parts : (x y : Parts) → x.nodes ≡ y.nodes → x.buffers ≡ y.buffers → x ≡ y
same_parts x y nodes buffers = ap₂ (λ n b. record { nodes = n; buffers = b }) nodes buffers

with_none : (x : Parts) → both_parts x no_parts ≡ x
with_none x = same_parts (both_parts x no_parts) x (append-nil x.nodes) (append-nil x.buffers)

of_no_columns : (inside : Shapes) → columns_parts inside [] ≡ no_parts
of_no_columns no_shape = refl
of_no_columns (shape_then s rest) = refl

elements_as_columns : (inside : Shapes) (cells : List Cell) (blanks : ℕ)
    → elements_parts inside cells blanks ≡ columns_parts inside (element_columns inside cells blanks)
elements_as_columns no_shape cells blanks = refl
elements_as_columns (shape_then s rest) cells blanks =
    let own : Parts = parts_of s (flat_map (elements_or (replicate blanks (blank_of s))) cells) in
    sym (ap (both_parts own) (of_no_columns rest) ∙ with_none own)

fields_as_columns : (inside : Shapes) (k : ℕ) (cells : List Cell)
    → fields_parts inside k cells ≡ columns_parts inside (field_columns inside k cells)
fields_as_columns no_shape k cells = refl
fields_as_columns (shape_then s rest) k cells = ap (both_parts (parts_of s (map (field_or (blank_of s) k) cells))) (fields_as_columns rest (suc k) cells)

pub inside_as_columns : (l : Layout) (inside : Shapes) (cells : List Cell)
    → parts_inside l (elements_parts inside cells) (fields_parts inside 0 cells) ≡ columns_parts inside (columns_in l inside cells)
inside_as_columns null_layout inside cells = sym (of_no_columns inside)
inside_as_columns bits_layout inside cells = sym (of_no_columns inside)
inside_as_columns (bytes_layout size) inside cells = sym (of_no_columns inside)
inside_as_columns (binary_layout offset) inside cells = sym (of_no_columns inside)
inside_as_columns (utf8_layout offset) inside cells = sym (of_no_columns inside)
inside_as_columns (list_layout offset) inside cells = elements_as_columns inside cells 0
inside_as_columns (fixed_size_list_layout size) inside cells = elements_as_columns inside cells size
inside_as_columns struct_layout inside cells = fields_as_columns inside 0 cells

-- ---- nodes and ranges

mutual
  nodes_are : (place : ℕ) (s : Shape) (cells : List Cell) → nodes_of (column_of place s cells) ≡ (parts_of s cells).nodes
  nodes_are place (shape l inside) cells =
      ap (λ ns. (pos (length cells), pos (nulls_of cells)) ∷ ns)
      (columns_nodes (end_of place (own_buffers l cells)) inside (columns_in l inside cells)
      ∙ ap (λ p. p.nodes) (sym (inside_as_columns l inside cells)))

  pub columns_nodes : (place : ℕ) (inside : Shapes) (columns : List (List Cell))
      → nodes_in (columns_of place inside columns) ≡ (columns_parts inside columns).nodes
  columns_nodes place no_shape columns = refl
  columns_nodes place (shape_then s rest) [] = refl
  columns_nodes place (shape_then s rest) (cells ∷ columns) =
      ap₂ (λ xs ys. xs ++ ys) (nodes_are place s cells) (columns_nodes (end_of place (parts_of s cells).buffers) rest columns)

mutual
  ranges_are : (place : ℕ) (s : Shape) (cells : List Cell) → buffers_of (column_of place s cells) ≡ ranges_from place (parts_of s cells).buffers
  ranges_are place (shape l inside) cells =
      ap (λ rs. ranges_from place (own_buffers l cells) ++ rs)
      (columns_ranges (end_of place (own_buffers l cells)) inside (columns_in l inside cells))
      ∙ sym (ranges_both place (own_buffers l cells) (columns_parts inside (columns_in l inside cells)).buffers)
      ∙ ap (λ p. ranges_from place (own_buffers l cells ++ p.buffers)) (sym (inside_as_columns l inside cells))

  pub columns_ranges : (place : ℕ) (inside : Shapes) (columns : List (List Cell))
      → buffers_in (columns_of place inside columns) ≡ ranges_from place (columns_parts inside columns).buffers
  columns_ranges place no_shape columns = refl
  columns_ranges place (shape_then s rest) [] = refl
  columns_ranges place (shape_then s rest) (cells ∷ columns) =
      ap₂ (λ xs ys. xs ++ ys) (ranges_are place s cells) (columns_ranges (end_of place (parts_of s cells).buffers) rest columns)
      ∙ sym (ranges_both place (parts_of s cells).buffers (columns_parts rest columns).buffers)

-- ---- columns of fields

-- how many fields a field of this layout has inside
abbrev pub Arity : Layout → ℕ → Type 0
Arity null_layout n = n ≡ 0
Arity bits_layout n = n ≡ 0
Arity (bytes_layout size) n = n ≡ 0
Arity (binary_layout offset) n = n ≡ 0
Arity (utf8_layout offset) n = n ≡ 0
Arity (list_layout offset) n = n ≡ 1
Arity (fixed_size_list_layout size) n = n ≡ 1
Arity struct_layout n = Unit {0}

pub arity : (d : DataType) (n : ℕ) → AllowsChildren d n → Arity (layout_of d) n
arity null_type n allows = allows
arity (int_type width signed) n allows = allows
arity (floating_point_type precision) n allows = allows
arity binary_type n allows = allows
arity utf8_type n allows = allows
arity bool_type n allows = allows
arity (decimal_type precision scale width) n allows = allows
arity (date_type unit) n allows = allows
arity (time_type unit) n allows = allows
arity (timestamp_type unit timezone) n allows = allows
arity list_type n allows = allows
arity struct_type n allows = allows
arity (fixed_size_binary_type byte_width) n allows = allows
arity (fixed_size_list_type list_size) n allows = allows
arity (duration_type unit) n allows = allows

-- there are cells of a column for each shape
abbrev pub Cover : Shapes → List (List Cell) → Type 0
Cover no_shape columns = Unit {0}
Cover (shape_then s rest) [] = ⊥
Cover (shape_then s rest) (cells ∷ columns) = Cover rest columns

none_cover : (f : Forest) (columns : List (List Cell)) → width f ≡ 0 → Cover (shapes_of f) columns
none_cover no_more columns none = tt
none_cover (more t ts) columns none = absurd (omega (arith, none))

elements_cover : (f : Forest) (cells : List Cell) (blanks : ℕ) → width f ≡ 1 → Cover (shapes_of f) (element_columns (shapes_of f) cells blanks)
elements_cover no_more cells blanks one = tt
elements_cover (more t no_more) cells blanks one = tt
elements_cover (more t (more u us)) cells blanks one = absurd (omega (arith, one))

fields_cover : (inside : Shapes) (k : ℕ) (cells : List Cell) → Cover inside (field_columns inside k cells)
fields_cover no_shape k cells = tt
fields_cover (shape_then s rest) k cells = fields_cover rest (suc k) cells

inside_cover : (l : Layout) (f : Forest) (cells : List Cell) → Arity l (width f) → Cover (shapes_of f) (columns_in l (shapes_of f) cells)
inside_cover null_layout f cells fits = none_cover f [] fits
inside_cover bits_layout f cells fits = none_cover f [] fits
inside_cover (bytes_layout size) f cells fits = none_cover f [] fits
inside_cover (binary_layout offset) f cells fits = none_cover f [] fits
inside_cover (utf8_layout offset) f cells fits = none_cover f [] fits
inside_cover (list_layout offset) f cells fits = elements_cover f cells 0 fits
inside_cover (fixed_size_list_layout size) f cells fits = elements_cover f cells size fits
inside_cover struct_layout f cells fits = fields_cover (shapes_of f) 0 cells

own_count : (l : Layout) (place : ℕ) (cells : List Cell) → length (ranges_from place (own_buffers l cells)) ≡ buffers_in_layout l
own_count null_layout place cells = refl
own_count bits_layout place cells = refl
own_count (bytes_layout size) place cells = refl
own_count (binary_layout offset) place cells = refl
own_count (utf8_layout offset) place cells = refl
own_count (list_layout offset) place cells = refl
own_count (fixed_size_list_layout size) place cells = refl
own_count struct_layout place cells = refl

mutual
  of_tree : (t : Tree) (place : ℕ) (cells : List Cell) → IsWellFormedTree t → IsColumnOf t (column_of place (shape_of t) cells)
  of_tree (tree field entries inside) place cells formed = (
    refl,
    own_count (layout_of field.data_type) place cells,
    of_forest inside (end_of place (own_buffers (layout_of field.data_type) cells))
        (columns_in (layout_of field.data_type) (shapes_of inside) cells) formed.2
        (inside_cover (layout_of field.data_type) inside cells (arity field.data_type (width inside) formed.0)),
  )

  pub of_forest : (f : Forest) (place : ℕ) (columns : List (List Cell)) → IsWellFormedForest f → Cover (shapes_of f) columns
      → AreColumnsOf f (columns_of place (shapes_of f) columns)
  of_forest no_more place columns formed cover = tt
  of_forest (more t ts) place [] formed cover = absurd cover
  of_forest (more t ts) place (cells ∷ columns) formed cover =
      (of_tree t place cells formed.0, of_forest ts (end_of place (parts_of (shape_of t) cells).buffers) columns formed.1 cover)

-- ---- how many nodes and buffers

mutual
  node_of : (t : Tree) (c : LaidColumn) → IsColumnOf t c → length (nodes_of c) ≡ tree_sum (λ field entries. 1) t
  node_of (tree field entries inside) (laid l n r i) of = omega (arith, nodes_count inside i of.2)

  pub nodes_count : (f : Forest) (cs : LaidColumns) → AreColumnsOf f cs → length (nodes_in cs) ≡ forest_sum (λ field entries. 1) f
  nodes_count no_more no_column of = refl
  nodes_count no_more (column_then c cs) of = absurd of
  nodes_count (more t ts) no_column of = absurd of
  nodes_count (more t ts) (column_then c cs) of = omega (arith, length-append (nodes_of c) (nodes_in cs), node_of t c of.0, nodes_count ts cs of.1)

mutual
  ranges_of : (t : Tree) (c : LaidColumn) → IsColumnOf t c
      → length (buffers_of c) ≡ tree_sum (λ field entries. buffers_in_layout (layout_of field.data_type)) t
  ranges_of (tree field entries inside) (laid l n r i) of =
      omega (arith, length-append r (buffers_in i), of.1, ap buffers_in_layout of.0, ranges_count inside i of.2)

  pub ranges_count : (f : Forest) (cs : LaidColumns) → AreColumnsOf f cs
      → length (buffers_in cs) ≡ forest_sum (λ field entries. buffers_in_layout (layout_of field.data_type)) f
  ranges_count no_more no_column of = refl
  ranges_count no_more (column_then c cs) of = absurd of
  ranges_count (more t ts) no_column of = absurd of
  ranges_count (more t ts) (column_then c cs) of =
      omega (arith, length-append (buffers_of c) (buffers_in cs), ranges_of t c of.0, ranges_count ts cs of.1)
