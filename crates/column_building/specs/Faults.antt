-- What a fault of a column says of the cells that it was to be made of.
use Rattle.std.specs.Prelude.{◌≡◌}
use Rattle.batch_columns.specs.declared.fault.ColumnFault.{ColumnFault}
use Rattle.batch_columns.specs.declared.fault.ColumnFault.TheVariants as column
use Rattle.column_building.specs.declared.fault.CellsFault.{CellsFault}
use Rattle.column_building.specs.declared.fault.CellsFault.TheVariants as cells

abbrev pub IsFaultOf : ColumnFault → CellsFault → Type 0
IsFaultOf column.TooLong fault = fault ≡ cells.TooLong
IsFaultOf column.WrongSize fault = fault ≡ cells.NotOfField
IsFaultOf column.OutOfMemory fault = fault ≡ cells.OutOfMemory
