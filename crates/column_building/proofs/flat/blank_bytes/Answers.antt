use Rattle.std.proofs.Common.{◌≡◌, ◌∙◌, ap, not, replicate}
use Rattle.std.proofs.lemmas.Result.{IfOk-weaker}
use Rattle.batch_types.specs.Cells.{bytes_cell}
use Rattle.column_building.specs.Slots.{slot_cells}
use Rattle.column_building.proofs.Gathered.{alike_more, alike_all}
use Rattle.column_building.proofs.flat.blank_bytes.Goals as goal

pub returns-then-is_none : goal.returns-then-is_none
returns-then-is_none c =
    IfOk-weaker c.zeros.result (λ bytes. bytes.items ≡ replicate c.args.size 0)
    (λ bytes. slot_cells (bytes_cell bytes.items) c.args.slots.now ≡ slot_cells (bytes_cell (replicate c.args.size 0)) c.args.slots.now)
    (λ bytes same. ap (λ l. slot_cells (bytes_cell l) c.args.slots.now) same) c.zeros.ensures

pub loop-slot-preserved : goal.loop-slot-preserved
loop-slot-preserved c =
    alike_more c.args.slots.now c.loop-slot.slot-index c.slot-item.result c.loop-slot-test.true c.slot-item.is
    (c.is_none.ensures ∙ ap not c.if-is_none.false) c.loop-slot.invariant

pub returns : goal.returns
returns c =
    alike_all c.args.slots.now c.loop-slot.slot-index c.loop-slot-test.false c.loop-slot.invariant
    (bytes_cell c.new.result.items) (bytes_cell (replicate c.args.size 0))
