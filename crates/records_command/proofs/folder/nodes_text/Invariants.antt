use Rattle.std.proofs.Common.{◌≡◌, map, take, string_bytes}
use Rattle.records_command.specs.Folders.{lines_from}
use Rattle.records_command.proofs.folder.nodes_text.Given as goal

abbrev pub invariant-loop-node : goal.invariant-loop-node
invariant-loop-node l = string_bytes l.text ≡ lines_from 0 (take l.node (map (λ own. own.items) l.all))
