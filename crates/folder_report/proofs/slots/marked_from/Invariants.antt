use Rattle.folder_report.specs.Marks.{ListsMarked}
use Rattle.folder_report.proofs.slots.marked_from.Given as goal

abbrev pub invariant-loop-number : goal.invariant-loop-number
invariant-loop-number l = ListsMarked l.marks.items l.first l.number l.slots.items
