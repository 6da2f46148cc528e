use Rattle.std.proofs.Common.{map, take}
use Rattle.std.specs.List.{AllZip}
use Rattle.serde_json.specs.View.{view}
use Rattle.header_types.specs.Views.{tree_of}
use Rattle.batch_cells.specs.CellViews.{cell_of}
use Rattle.json_rows.specs.Cells.{TellsCell, name_of, told_at}
use Rattle.json_rows.proofs.rows.column_at.Given as goal

abbrev pub invariant-loop-index : goal.invariant-loop-index
invariant-loop-index l =
    AllZip (λ d cell. TellsCell (tree_of l.field) (told_at (name_of (tree_of l.field)) d) cell) (map view (take l.index l.values)) (map cell_of l.cells.items)
