-- Rows that are made of cells, column by column, and why there are none: Apache Arrow, "Arrow Columnar Format",
-- "RecordBatch message".
use Rattle.std.specs.Prelude.{◌≡◌, ◌⊎◌, true, false, List, [], ◌∷◌}
use Rattle.std.specs.List.{AllByRecursion}
use Rattle.batch_types.specs.Cells.{Cell}
use Rattle.batch_types.specs.Shapes.{Shape, Shapes, no_shape, shape_then}
use Rattle.batch_types.specs.Typed.{IsCellOf}
use Rattle.batch_types.specs.Written.{AreRooms}
use Rattle.batch_columns.specs.Contents.{Contents}
use Rattle.column_building.specs.declared.fault.CellsFault.{CellsFault}
use Rattle.column_building.specs.declared.fault.CellsFault.TheVariants as cells
use Rattle.column_building.specs.declared.fault.RowsFault.{RowsFault}
use Rattle.column_building.specs.declared.fault.RowsFault.TheVariants as rows
use Rattle.column_building.specs.Whole.{is_whole}
use Rattle.column_building.specs.Built.{AreFewValues, IsBuilt}

-- the columns hold these cells, each those of its shape
abbrev pub AreMade : Shapes → List (List Cell) → List Contents → Type 0
AreMade no_shape [] [] = Unit {0}
AreMade no_shape [] (column ∷ made) = ⊥
AreMade no_shape (held ∷ columns) made = ⊥
AreMade (shape_then s shapes) [] made = ⊥
AreMade (shape_then s shapes) (held ∷ columns) [] = ⊥
AreMade (shape_then s shapes) (held ∷ columns) (column ∷ made) = IsBuilt s held column × AreMade shapes columns made

-- why these cells make no column of this shape
abbrev pub IsTold : Shape → List Cell → CellsFault → Type 0
IsTold s held cells.WrongChildren = is_whole s ≡ false
IsTold s held cells.NotOfField = AllByRecursion (IsCellOf s) held → ⊥
IsTold s held cells.TooMany = AreFewValues s held → ⊥
IsTold s held cells.TooLong = AreRooms s held → ⊥
IsTold s held cells.OutOfMemory = Unit {0}

-- none of these is so of them
pub record CanBeMade (s : Shape) (held : List Cell) : Type 0 where
  pub whole : is_whole s ≡ true
  pub fit : AllByRecursion (IsCellOf s) held
  pub few : AreFewValues s held
  pub room : AreRooms s held

-- of the cells of the first column that is not made: those before it can be
abbrev pub IsToldOfFirst : Shapes → List (List Cell) → CellsFault → Type 0
IsToldOfFirst no_shape columns fault = ⊥
IsToldOfFirst (shape_then s shapes) [] fault = ⊥
IsToldOfFirst (shape_then s shapes) (held ∷ columns) fault =
    IsTold s held fault ⊎ (CanBeMade s held × IsToldOfFirst shapes columns fault)

-- the other faults have clauses of their own
abbrev pub IsToldOfCells : Shapes → List (List Cell) → RowsFault → Type 0
IsToldOfCells shapes columns rows.WrongColumns = Unit {0}
IsToldOfCells shapes columns rows.WrongLength = Unit {0}
IsToldOfCells shapes columns rows.TooManyRows = Unit {0}
IsToldOfCells shapes columns (rows.Cells fault) = IsToldOfFirst shapes columns fault
