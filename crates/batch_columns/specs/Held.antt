-- What a column holds, by its buffers and the columns inside it: Apache Arrow, "Arrow Columnar Format", "Physical memory
-- layout".
use Rattle.std.specs.Prelude.{ℕ, suc, ◌+◌, if◌then◌else◌, List, [], ◌∷◌, map, get_or}
use Rattle.std.specs.List.{range_with_len}
use Rattle.batch_types.specs.Cells.{Cell, null_cell, Cells, no_cell, cell_then, cells_of}
use Rattle.batch_types.specs.Layouts.{Layout}
use Rattle.batch_types.specs.Placed.{is_valid}
use Rattle.batch_types.specs.Shapes.{Shape, shape, Shapes, no_shape, shape_then}
use Rattle.batch_columns.specs.Buffers.{value_by}
use Rattle.batch_columns.specs.Contents.{Contents}
use Rattle.batch_columns.specs.declared.layout.Layout.{Layout as Declared}
use Rattle.batch_columns.specs.declared.layout.Layout.TheVariants.{Null, Bits, Bytes, Binary, Utf8, List as Lists, FixedSizeList, Struct}
use Rattle.batch_types.specs.Layouts.{null_layout, bits_layout, bytes_layout, binary_layout, utf8_layout, offset_size}
use Rattle.batch_types.specs.Layouts.{list_layout, fixed_size_list_layout, struct_layout}

-- ---- shapes

-- the layout that a column names
abbrev pub layout_named : Declared → Layout
layout_named Null = null_layout
layout_named Bits = bits_layout
layout_named (Bytes size) = bytes_layout size
layout_named Binary = binary_layout offset_size
layout_named Utf8 = utf8_layout offset_size
layout_named Lists = list_layout offset_size
layout_named (FixedSizeList size) = fixed_size_list_layout size
layout_named Struct = struct_layout

abbrev pub shapes_held : List Contents → Shapes
shapes_held [] = no_shape
shapes_held (child ∷ rest) = shape_then child.shape (shapes_held rest)

-- ---- cells

-- the cells at these places of the first of the columns, the only one inside a list
abbrev pub elements_held : List Contents → List ℕ → Cells
elements_held [] places = no_cell
elements_held (child ∷ rest) places = cells_of (map (λ p. get_or child.cells p null_cell) places)

-- the cell at place j of each of the columns
abbrev pub fields_held : List Contents → ℕ → Cells
fields_held [] j = no_cell
fields_held (child ∷ rest) j = cell_then (get_or child.cells j null_cell) (fields_held rest j)

-- the cell at place j, by the buffers and the columns inside
abbrev pub cell_held : Layout → List ℕ → List ℕ → List ℕ → List Contents → ℕ → Cell
cell_held layout validity offsets values inside j =
    if is_valid layout validity j
    then value_by layout offsets values (elements_held inside) (fields_held inside) j
    else null_cell

abbrev pub cells_held : Layout → ℕ → List ℕ → List ℕ → List ℕ → List Contents → List Cell
cells_held layout count validity offsets values inside =
    map (cell_held layout validity offsets values inside) (range_with_len 0 count)

abbrev pub contents_held : Declared → ℕ → List ℕ → List ℕ → List ℕ → List Contents → Contents
contents_held layout count validity offsets values inside = record {
  shape = shape (layout_named layout) (shapes_held inside);
  cells = cells_held (layout_named layout) count validity offsets values inside;
}

-- ---- how deep columns stand in one another

abbrev mutual
  pub height : Shape → ℕ
  height (shape layout inside) = suc (heights inside)

  pub heights : Shapes → ℕ
  heights no_shape = 0
  heights (shape_then s rest) = height s + heights rest
