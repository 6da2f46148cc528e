use Rattle.std.proofs.Common.{◌≡◌, map, take}
use Rattle.batch_columns.specs.Made.{bytes_or_null}
use Rattle.run_files.specs.UploadValue.{byte_cell}
use Rattle.run_files.proofs.upload_values.all_lent.Given as goal

abbrev pub invariant-loop-cell : goal.invariant-loop-cell
invariant-loop-cell l = map bytes_or_null l.all.items ≡ map byte_cell (take l.cell-index l.fn.cells)
