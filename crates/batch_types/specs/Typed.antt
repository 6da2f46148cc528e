-- Which cells a field may have, and which rows a table of a schema: Apache Arrow, "Arrow Columnar Format", "Data types"
-- and "Physical memory layout".
use Rattle.std.specs.Prelude.{◌≡◌, ℕ, suc, List, [], ◌∷◌, length}
use Rattle.std.specs.List.{AllByRecursion}
use Rattle.std.specs.Str.{IsUtf8}
use Rattle.header_types.specs.Fields.{SchemaTree}
use Rattle.batch_types.specs.Cells.{Cell, null_cell, bit_cell, bytes_cell, list_cell, tuple_cell, Cells, no_cell}
use Rattle.batch_types.specs.Cells.{cell_then, Rows}
use Rattle.batch_types.specs.Layouts.{Layout, null_layout, bits_layout, bytes_layout, binary_layout, utf8_layout}
use Rattle.batch_types.specs.Layouts.{list_layout, fixed_size_list_layout, struct_layout}
use Rattle.batch_types.specs.Shapes.{Shape, shape, Shapes, no_shape, shape_then, shapes_of}

-- ---- cells of one kind; a null is a cell of every kind

abbrev pub IsNull : Cell → Type 0
IsNull null_cell = Unit {0}
IsNull (bit_cell bit) = ⊥
IsNull (bytes_cell bytes) = ⊥
IsNull (list_cell cells) = ⊥
IsNull (tuple_cell cells) = ⊥

abbrev pub IsBit : Cell → Type 0
IsBit null_cell = Unit {0}
IsBit (bit_cell bit) = Unit {0}
IsBit (bytes_cell bytes) = ⊥
IsBit (list_cell cells) = ⊥
IsBit (tuple_cell cells) = ⊥

abbrev pub AreBytes : (List ℕ → Type 0) → Cell → Type 0
AreBytes Fit null_cell = Unit {0}
AreBytes Fit (bit_cell bit) = ⊥
AreBytes Fit (bytes_cell bytes) = Fit bytes
AreBytes Fit (list_cell cells) = ⊥
AreBytes Fit (tuple_cell cells) = ⊥

abbrev pub IsList : (Cells → Type 0) → Cell → Type 0
IsList Fit null_cell = Unit {0}
IsList Fit (bit_cell bit) = ⊥
IsList Fit (bytes_cell bytes) = ⊥
IsList Fit (list_cell cells) = Fit cells
IsList Fit (tuple_cell cells) = ⊥

abbrev pub IsTuple : (Cells → Type 0) → Cell → Type 0
IsTuple Fit null_cell = Unit {0}
IsTuple Fit (bit_cell bit) = ⊥
IsTuple Fit (bytes_cell bytes) = ⊥
IsTuple Fit (list_cell cells) = ⊥
IsTuple Fit (tuple_cell cells) = Fit cells

-- ---- cells of a field

abbrev pub count_of : Cells → ℕ
count_of no_cell = 0
count_of (cell_then cell rest) = suc (count_of rest)

abbrev pub AllCells : (Cell → Type 0) → Cells → Type 0
AllCells Fit no_cell = Unit {0}
AllCells Fit (cell_then cell rest) = Fit cell × AllCells Fit rest

-- of a layout, with what the elements and the fields inside have to be
abbrev pub FitsLayout : Layout → (Cell → Type 0) → (Cells → Type 0) → Cell → Type 0
FitsLayout null_layout Element Fields cell = IsNull cell
FitsLayout bits_layout Element Fields cell = IsBit cell
FitsLayout (bytes_layout size) Element Fields cell = AreBytes (λ bytes. length bytes ≡ size) cell
FitsLayout (binary_layout offset) Element Fields cell = AreBytes (λ bytes. Unit {0}) cell
FitsLayout (utf8_layout offset) Element Fields cell = AreBytes IsUtf8 cell
FitsLayout (list_layout offset) Element Fields cell = IsList (AllCells Element) cell
FitsLayout (fixed_size_list_layout size) Element Fields cell =
    IsList (λ cells. (count_of cells ≡ size) × AllCells Element cells) cell
FitsLayout struct_layout Element Fields cell = IsTuple Fields cell

abbrev mutual
  -- the cell is one of the field
  pub IsCellOf : Shape → Cell → Type 0
  IsCellOf (shape layout inside) cell = FitsLayout layout (IsElementOf inside) (AreFieldsOf inside) cell

  -- of the first of the fields inside, the only one inside a list
  pub IsElementOf : Shapes → Cell → Type 0
  IsElementOf no_shape cell = ⊥
  IsElementOf (shape_then s rest) cell = IsCellOf s cell

  -- one cell of each of the fields inside
  pub AreFieldsOf : Shapes → Cells → Type 0
  AreFieldsOf no_shape no_cell = Unit {0}
  AreFieldsOf no_shape (cell_then cell cells) = ⊥
  AreFieldsOf (shape_then s rest) no_cell = ⊥
  AreFieldsOf (shape_then s rest) (cell_then cell cells) = IsCellOf s cell × AreFieldsOf rest cells

-- a column for each field, of so many cells
abbrev pub AreColumnsOfRows : ℕ → Shapes → List (List Cell) → Type 0
AreColumnsOfRows count no_shape [] = Unit {0}
AreColumnsOfRows count no_shape (cells ∷ columns) = ⊥
AreColumnsOfRows count (shape_then s rest) [] = ⊥
AreColumnsOfRows count (shape_then s rest) (cells ∷ columns) =
    (length cells ≡ count) × AllByRecursion (IsCellOf s) cells × AreColumnsOfRows count rest columns

-- the rows are of a table of this schema
abbrev pub AreRowsOf : SchemaTree → Rows → Type 0
AreRowsOf schema rows = AreColumnsOfRows rows.count (shapes_of schema.fields) rows.columns
