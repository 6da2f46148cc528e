use Rattle.std.proofs.Common.{List, map}
use Rattle.std.proofs.lemmas.Result.{IfOk-weaker}
use Rattle.ballots.specs.declared.record.Record.{Record}
use Rattle.folder_report.specs.Marks.{ListsMarked}
use Rattle.folder_report.specs.Reporting.{TellsSlots}
use Rattle.folder_report.specs.Values.{slots_limit}
use Rattle.folder_report.proofs.Standing.{slots_told}
use Rattle.folder_report.proofs.slots.slots_behind.Goals as goal

pub returns : goal.returns
returns c = λ members tells.
    let all : List (List Record) = map (λ own. own.items) c.args.records.now in
    IfOk-weaker c.marked_from.result (λ slots. ListsMarked c.in_ok-marks.marks.items c.args.first slots_limit slots.items) (λ slots. TellsSlots members all c.args.first slots.items)
    (λ slots lists. slots_told members all c.args.told.now tells c.in_ok-marks.marks.items c.in_ok-marks.ensures c.args.first slots.items lists) c.marked_from.ensures
