-- What is told of a header and a body that are not read as a batch: Apache Arrow, "Arrow Columnar Format", "RecordBatch
-- message".
use Rattle.std.specs.Prelude.{◌≡◌, ◌⊎◌, ℕ, List}
use Rattle.header_types.specs.Fields.{SchemaTree}
use Rattle.header_types.specs.Header.{Head}
use Rattle.batch_types.specs.declared.fault.BatchFault.{BatchFault}
use Rattle.batch_types.specs.declared.fault.BatchFault.TheVariants.{OutOfMemory}
use Rattle.batch_types.specs.Cells.{Rows}
use Rattle.batch_types.specs.LaysOut.{LaysOut, IsFaultOf}

-- the first fault that stands in them; or they lay out a batch, and memory was refused
abbrev pub IsToldOf : SchemaTree → Head → List ℕ → BatchFault → Type 0
IsToldOf schema head body fault =
    IsFaultOf schema head body fault
    ⊎ ((fault ≡ OutOfMemory) × ((rows : Rows) × LaysOut schema head body rows))
