use Rattle.std.proofs.Common.{map, take}
use Rattle.std.specs.List.{AllZip}
use Rattle.serde_json.specs.View.{view}
use Rattle.run_files.specs.UploadValue.{TellsCell}
use Rattle.run_files.proofs.upload_values.cells_of.Given as goal

abbrev pub invariant-loop-value : goal.invariant-loop-value
invariant-loop-value l = AllZip TellsCell (map view (take l.value-index l.fn.values)) l.cells.items
