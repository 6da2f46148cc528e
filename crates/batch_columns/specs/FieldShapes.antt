-- Which columns are of which fields.
use Rattle.std.specs.Prelude.{List, map}
use Rattle.header_types.specs.declared.schema.Field.{Field}
use Rattle.header_types.specs.Views.{tree_of, forest_of}
use Rattle.batch_types.specs.Shapes.{Shapes, shapes_of}

-- the shapes of the program's fields
abbrev pub field_shapes : List Field → Shapes
field_shapes fields = shapes_of (forest_of (map tree_of fields))
