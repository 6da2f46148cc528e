-- Fields that columns may have: one field inside a list, any number inside a struct, none inside others. Apache Arrow,
-- "Arrow Columnar Format", "Physical memory layout".
use Rattle.std.specs.Prelude.{ℕ, suc, ◌==◌, ◌&&◌, Bool, true}
use Rattle.header_types.specs.declared.schema.Field.{Field}
use Rattle.header_types.specs.Views.{tree_of}
use Rattle.batch_types.specs.Layouts.{Layout, null_layout, bits_layout, bytes_layout, binary_layout, utf8_layout}
use Rattle.batch_types.specs.Layouts.{list_layout, fixed_size_list_layout, struct_layout}
use Rattle.batch_types.specs.Shapes.{Shape, shape, Shapes, no_shape, shape_then, shape_of}

-- the shape of a field of the program
abbrev pub field_shape : Field → Shape
field_shape field = shape_of (tree_of field)

abbrev pub count_shapes : Shapes → ℕ
count_shapes no_shape = 0
count_shapes (shape_then s rest) = suc (count_shapes rest)

-- so many fields may stand inside one of this layout
abbrev pub allows : Layout → ℕ → Bool
allows null_layout count = count == 0
allows bits_layout count = count == 0
allows (bytes_layout size) count = count == 0
allows (binary_layout offset) count = count == 0
allows (utf8_layout offset) count = count == 0
allows (list_layout offset) count = count == 1
allows (fixed_size_list_layout size) count = count == 1
allows struct_layout count = true

abbrev mutual
  -- as many fields stand inside it as its layout allows, and so inside those
  pub is_whole : Shape → Bool
  is_whole (shape layout inside) = allows layout (count_shapes inside) && are_whole inside

  pub are_whole : Shapes → Bool
  are_whole no_shape = true
  are_whole (shape_then s rest) = is_whole s && are_whole rest
