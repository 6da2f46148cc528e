use Rattle.std.proofs.Common.{drop}
use Rattle.json_rows.specs.Cells.{IsNameOf, forest_in}
use Rattle.json_rows.proofs.reading.is_name_of.Given as goal

abbrev pub invariant-loop-field : goal.invariant-loop-field
invariant-loop-field l =
    (IsNameOf (forest_in (drop l.field-index l.fields)) l.name → IsNameOf (forest_in l.fields) l.name)
    × (IsNameOf (forest_in l.fields) l.name → IsNameOf (forest_in (drop l.field-index l.fields)) l.name)
