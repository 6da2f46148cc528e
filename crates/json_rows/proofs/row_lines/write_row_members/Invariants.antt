use Rattle.std.proofs.Common.{◌≡◌, List, map, drop}
use Rattle.json.specs.Token.{Token}
use Rattle.json_rows.specs.Cells.{forest_in}
use Rattle.json_rows.specs.Written.{WritesMembers}
use Rattle.json_rows.specs.Lines.{cell_at}
use Rattle.json_rows.proofs.row_lines.write_row_members.Given as goal

abbrev pub invariant-loop-index : goal.invariant-loop-index
invariant-loop-index l =
    (l.out.before ≡ l.initial.out.before)
    × ((end : List Token) → WritesMembers (forest_in (drop l.index l.fields)) (map (cell_at l.row) (drop l.index l.columns)) l.out.tokens end
    → WritesMembers (forest_in l.fields) (map (cell_at l.row) l.columns) l.initial.out.tokens end)
