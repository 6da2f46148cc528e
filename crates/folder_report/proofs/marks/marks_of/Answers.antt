use Rattle.folder_report.proofs.Marking.{all_marked}
use Rattle.folder_report.proofs.marks.marks_of.Goals as goal

pub returns : goal.returns
returns c =
    all_marked (λ own. own.items) c.args.records.now c.args.told.now c.in_ok-marks.marks.items c.mark_accepted.new.marks.items c.mark_chosen.new.marks.items
    c.in_ok-marks.ensures.size c.in_ok-marks.ensures.none c.mark_accepted.ensures c.mark_chosen.ensures
