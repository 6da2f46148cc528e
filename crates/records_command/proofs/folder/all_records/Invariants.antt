use Rattle.std.proofs.Common.{map, take}
use Rattle.records_command.specs.Folders.{AreMeant}
use Rattle.records_command.proofs.folder.all_records.Given as goal

abbrev pub invariant-loop-node : goal.invariant-loop-node
invariant-loop-node l = AreMeant (take l.node l.nodes) (map (λ own. own.items) l.all.items)
