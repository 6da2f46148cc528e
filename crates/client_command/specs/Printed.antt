-- Which lines of rows are printed.
use Rattle.std.specs.Prelude.{ℕ, List, Result, Ok, Err}
use Rattle.header_types.specs.Fields.{Forest}
use Rattle.batch_types.specs.Cells.{Rows}
use Rattle.json_client.specs.declared.fault.RowCallFault.TheVariants.{Output}
use Rattle.json_client.specs.Prints.{Prints}
use Rattle.client_command.specs.declared.fault.CommandFault.{CommandFault}
use Rattle.client_command.specs.declared.fault.CommandFault.TheVariants as faults

-- the lines of the rows of these batches, or after a fault a beginning of the lines of some of them
abbrev pub PrintsRows : Forest → List Rows → Result (Unit {0}) CommandFault → List ℕ → List ℕ → Type 0
PrintsRows fields batches (Ok done) old new = Prints fields batches (Ok done) old new
PrintsRows fields batches (Err fault) old new = Prints fields batches (Err Output) old new

-- the fault is told of rows: they have no lines, or these could not be written
abbrev pub IsOfRows : CommandFault → Type 0
IsOfRows faults.Io = Unit {0}
IsOfRows (faults.Rows fault) = Unit {0}
IsOfRows faults.BadAddress = ⊥
IsOfRows faults.BadId = ⊥
IsOfRows faults.BadTable = ⊥
IsOfRows (faults.Connect fault) = ⊥
IsOfRows (faults.Call fault) = ⊥
IsOfRows (faults.Upload fault) = ⊥
IsOfRows faults.OutOfMemory = ⊥
IsOfRows faults.BadLocation = ⊥
IsOfRows faults.Differs = ⊥
