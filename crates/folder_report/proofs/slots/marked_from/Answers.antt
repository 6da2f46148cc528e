use Rattle.std.proofs.Common.{arith}
use Rattle.folder_report.specs.Values.{slots_limit}
use Rattle.folder_report.proofs.Listed.{lists_all, lists_more, lists_none}
use Rattle.folder_report.proofs.slots.marked_from.Goals as goal

pub loop-number-init : goal.loop-number-init
loop-number-init c = lists_none c.args.marks.now.items c.args.first c.new-slots.result.items c.new-slots.ensures.items

pub loop-number-preserved : goal.loop-number-preserved
loop-number-preserved c =
    lists_more c.args.marks.now.items c.args.first c.loop-number.number c.loop-number.slots.items c.loop-number.invariant c.push_marked.new.slots.items (omega arith) c.in_ok-push_marked.ensures

pub returns : goal.returns
returns c =
    lists_all c.args.marks.now.items c.args.first c.loop-number.number c.loop-number.slots.items c.loop-number.invariant slots_limit (omega arith) c.requires
