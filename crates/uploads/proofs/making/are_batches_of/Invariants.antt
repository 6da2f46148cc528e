use Rattle.std.proofs.Common.{drop}
use Rattle.std.specs.List.{AllByRecursion}
use Rattle.header_types.specs.Views.{schema_of}
use Rattle.batch_columns.specs.Batches.{IsBatchOf}
use Rattle.uploads.proofs.making.are_batches_of.Given as goal

abbrev pub invariant-loop-batch : goal.invariant-loop-batch
invariant-loop-batch l =
    (AllByRecursion (IsBatchOf (schema_of l.schema)) (drop l.batch-index l.batches) → AllByRecursion (IsBatchOf (schema_of l.schema)) l.batches)
    × (AllByRecursion (IsBatchOf (schema_of l.schema)) l.batches → AllByRecursion (IsBatchOf (schema_of l.schema)) (drop l.batch-index l.batches))
