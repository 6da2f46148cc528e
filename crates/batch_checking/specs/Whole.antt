-- The columns of a whole batch, where the header keeps its own rules: a tool of contracts. What a header and a body lay
-- out is defined in `LaysOut` of `batch_types`.
use Rattle.std.specs.Prelude.{ℕ, nat_abs, List}
use Rattle.std.specs.List.{range_with_len}
use Rattle.header_types.specs.Fields.{SchemaTree}
use Rattle.header_types.specs.Header.{Head}
use Rattle.batch_types.specs.declared.fault.BatchFault.{BatchFault}
use Rattle.batch_types.specs.LaysOut.{AreSound, HaveFault, body_of}
use Rattle.batch_columns.specs.Sources.{columns_from}

-- they keep their rules
abbrev pub ColumnsAreSound : SchemaTree → Head → List ℕ → Type 0
ColumnsAreSound schema head body =
    AreSound (body_of head body) (columns_from schema.fields head.nodes head.buffers) (nat_abs head.length)
    (range_with_len 0 (nat_abs head.length))

-- this is the first fault that they have
abbrev pub ColumnsHaveFault : SchemaTree → Head → List ℕ → BatchFault → Type 0
ColumnsHaveFault schema head body told =
    HaveFault (body_of head body) (columns_from schema.fields head.nodes head.buffers) (nat_abs head.length)
    (range_with_len 0 (nat_abs head.length)) told
