use Rattle.std.proofs.Common.{take}
use Rattle.folder_report.specs.Marks.{AreMarked, are_of}
use Rattle.folder_report.specs.declared.report.SlotState.TheVariants.{Waiting}
use Rattle.folder_report.proofs.marks.mark_chosen.Given as goal

abbrev pub invariant-loop-message : goal.invariant-loop-message
invariant-loop-message l =
    AreMarked l.fn.marks.items l.marks.items (λ slot. are_of slot (take l.message-index l.told)) Waiting
