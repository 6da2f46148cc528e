-- Columns whose cells are such of their shapes, with room for what their offsets count, and for that of the columns inside
-- them: Apache Arrow, "Arrow Columnar Format", "Variable-size binary layout".
use Rattle.std.specs.Prelude.{List}
use Rattle.std.specs.List.{AllByRecursion}
use Rattle.batch_types.specs.Typed.{IsCellOf}
use Rattle.batch_types.specs.Written.{AreRooms}
use Rattle.batch_columns.specs.Contents.{Contents}

pub record IsSound (column : Contents) : Type 0 where
  pub fit : AllByRecursion (IsCellOf column.shape) column.cells
  pub room : AreRooms column.shape column.cells

abbrev pub AreSound : List Contents → Type 0
AreSound columns = AllByRecursion IsSound columns
