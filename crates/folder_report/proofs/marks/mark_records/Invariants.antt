use Rattle.std.proofs.Common.{take}
use Rattle.folder_report.specs.Marks.{AreMarked, accept}
use Rattle.folder_report.specs.declared.report.SlotState.TheVariants.{Undecided}
use Rattle.folder_report.proofs.marks.mark_records.Given as goal

abbrev pub invariant-loop-kept : goal.invariant-loop-kept
invariant-loop-kept l =
    AreMarked l.fn.marks.items l.marks.items (λ slot. accept slot (take l.kept-index l.own)) Undecided
