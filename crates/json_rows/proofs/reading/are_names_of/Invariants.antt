use Rattle.serde_json.specs.View.{members_view}
use Rattle.json_rows.specs.Cells.{AreNamesOf, forest_in}
use Rattle.json_rows.proofs.reading.are_names_of.Given as goal

abbrev pub invariant-loop-name : goal.invariant-loop-name
invariant-loop-name l =
    (AreNamesOf (forest_in l.fields) (members_view l.name-iterator) → AreNamesOf (forest_in l.fields) (members_view l.members.entries))
    × (AreNamesOf (forest_in l.fields) (members_view l.members.entries) → AreNamesOf (forest_in l.fields) (members_view l.name-iterator))
