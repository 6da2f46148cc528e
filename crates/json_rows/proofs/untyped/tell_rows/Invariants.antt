use Rattle.std.proofs.Common.{map, drop}
use Rattle.std.specs.List.{AllByRecursion}
use Rattle.serde_json.specs.View.{view}
use Rattle.json_rows.specs.Cells.{forest_in}
use Rattle.json_rows.specs.Lines.{TellsSomeRow}
use Rattle.json_rows.proofs.untyped.tell_rows.Given as goal

abbrev pub invariant-loop-index : goal.invariant-loop-index
invariant-loop-index l =
    AllByRecursion (TellsSomeRow (forest_in l.fields)) (map view (drop l.index l.values)) → AllByRecursion (TellsSomeRow (forest_in l.fields)) (map view l.values)
