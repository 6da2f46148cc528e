use Rattle.std.proofs.Common.{map, take}
use Rattle.std.specs.List.{AllByRecursion, AllZip}
use Rattle.serde_json.specs.View.{view}
use Rattle.batch_columns.specs.Batches.{rows_of}
use Rattle.run_files.specs.UploadValue.{TellsRows, IsByteBatch}
use Rattle.run_files.proofs.upload_values.batches_of.Given as goal

abbrev pub invariant-loop-value : goal.invariant-loop-value
invariant-loop-value l = record {
  read : AllZip TellsRows (map view (take l.value-index l.fn.values)) (map rows_of l.batches.items);
  shaped : AllByRecursion IsByteBatch l.batches.items;
}
