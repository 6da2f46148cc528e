use Rattle.std.proofs.Common.{map, take}
use Rattle.std.specs.List.{AllZip}
use Rattle.serde_json.specs.View.{view}
use Rattle.header_types.specs.Views.{tree_of}
use Rattle.batch_cells.specs.CellViews.{cell_of}
use Rattle.json_rows.specs.Lines.{TellsColumn}
use Rattle.json_rows.proofs.rows.columns_of.Given as goal

abbrev pub invariant-loop-index : goal.invariant-loop-index
invariant-loop-index l =
    AllZip (TellsColumn (map view l.values)) (map tree_of (take l.index l.fields)) (map (λ cells. map cell_of cells.items) l.columns.items)
