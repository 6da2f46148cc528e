-- What a column holds: Apache Arrow, "Arrow Columnar Format", "Terminology".
use Rattle.std.specs.Prelude.{List}
use Rattle.batch_types.specs.Cells.{Cell}
use Rattle.batch_types.specs.Layouts.{Layout}
use Rattle.batch_types.specs.Shapes.{Shape, shape, Shapes}

-- the shape of the fields that it may stand for, and its cells, one a row
pub record Contents : Type 0 where
  pub shape : Shape
  pub cells : List Cell

abbrev pub layout_of_shape : Shape → Layout
layout_of_shape (shape layout inside) = layout

abbrev pub shapes_of_shape : Shape → Shapes
shapes_of_shape (shape layout inside) = inside

-- how its values stand in buffers
abbrev pub layout_in : Contents → Layout
layout_in contents = layout_of_shape contents.shape

-- the shapes of the columns inside it
abbrev pub shapes_in : Contents → Shapes
shapes_in contents = shapes_of_shape contents.shape
