use Rattle.std.proofs.Common.{◌+◌, map, drop, length}
use Rattle.header_types.specs.Views.{entry_of}
use Rattle.header_writing.specs.Canonical.{entry_cells}
use Rattle.header_writing.specs.Objects.{objects_text}
use Rattle.header_writing.specs.Weights.{Behind}
use Rattle.header_writing.proofs.length.behind_entries.Given as goal

abbrev pub invariant-loop-entry : goal.invariant-loop-entry
invariant-loop-entry l =
    Behind (l.place + length (objects_text l.place (entry_cells (map entry_of l.entries)))) l.end
    (entry_cells (map entry_of (drop l.entry-index l.entries)))
