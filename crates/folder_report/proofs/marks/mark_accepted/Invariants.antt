use Rattle.std.proofs.Common.{take}
use Rattle.std.specs.List.{list_any}
use Rattle.folder_report.specs.Marks.{AreMarked, accept}
use Rattle.folder_report.specs.declared.report.SlotState.TheVariants.{Undecided}
use Rattle.folder_report.proofs.marks.mark_accepted.Given as goal

abbrev pub invariant-loop-own : goal.invariant-loop-own
invariant-loop-own l =
    AreMarked l.fn.marks.items l.marks.items (λ slot. list_any (λ own. accept slot own.items) (take l.own-index l.records)) Undecided
