-- Fields by their layouts alone: two fields whose values stand in buffers alike have one shape, whatever they are called
-- and whatever the values mean. Apache Arrow, "Arrow Columnar Format", "Physical memory layout".
use Rattle.header_types.specs.Fields.{Tree, tree, Forest, no_more, more}
use Rattle.batch_types.specs.Layouts.{Layout, layout_of}

-- the layout of a column, and the shapes of the columns inside it
mutual
  pub data Shape : Type 0 where
    shape : Layout → Shapes → Shape

  pub data Shapes : Type 0 where
    no_shape : Shapes
    shape_then : Shape → Shapes → Shapes

abbrev mutual
  pub shape_of : Tree → Shape
  shape_of (tree field entries inside) = shape (layout_of field.data_type) (shapes_of inside)

  -- of fields side by side
  pub shapes_of : Forest → Shapes
  shapes_of no_more = no_shape
  shapes_of (more t rest) = shape_then (shape_of t) (shapes_of rest)
