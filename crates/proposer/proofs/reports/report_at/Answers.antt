use Rattle.proposer.proofs.Rising.{by_first}
use Rattle.proposer.proofs.reports.report_at.Goals as goal

pub returns : goal.returns
returns c =
    by_first c.args.slot c.in_ok-first.field-0.now c.args.reports.now _ c.in_ok-first.ensures.item.3.0 c.in_ok-first.ensures.item.1 c.of_slot.ensures.other c.of_slot.ensures.own
