use Rattle.std.proofs.Common.{map, drop}
use Rattle.std.specs.List.{AllByRecursion}
use Rattle.serde_json.specs.View.{view}
use Rattle.json_rows.specs.Cells.{IsObjectOf, forest_in}
use Rattle.json_rows.proofs.rows.first_other.Given as goal

abbrev pub invariant-loop-index : goal.invariant-loop-index
invariant-loop-index l =
    (AllByRecursion (IsObjectOf (forest_in l.fields)) (map view (drop l.index l.values)) → AllByRecursion (IsObjectOf (forest_in l.fields)) (map view l.values))
    × (AllByRecursion (IsObjectOf (forest_in l.fields)) (map view l.values) → AllByRecursion (IsObjectOf (forest_in l.fields)) (map view (drop l.index l.values)))
