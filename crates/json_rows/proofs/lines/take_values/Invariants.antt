use Rattle.std.proofs.Common.{◌≡◌, ◌+◌, ◌≤◌, ◌++◌, ℕ, List, map, length}
use Rattle.std.specs.List.{AllZip}
use Rattle.serde_json.specs.View.{view}
use Rattle.json_rows.specs.Lines.{TellsLine, lines_of}
use Rattle.json_rows.proofs.lines.take_values.Given as goal

abbrev pub decreases-loop-alloc : goal.decreases-loop-alloc
decreases-loop-alloc l = length l.rest

abbrev pub invariant-loop-alloc : goal.invariant-loop-alloc
invariant-loop-alloc l =
    ((lines : List (List ℕ)) × (lines_of l.text ≡ lines ++ lines_of l.rest) × AllZip TellsLine lines (map view l.values.items))
    × (length l.values.items ≤ l.most) × (length l.rest + length l.values.items ≤ length l.text)
