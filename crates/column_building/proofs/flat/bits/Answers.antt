use Rattle.std.proofs.Common.{false}
use Rattle.batch_types.specs.Cells.{bit_cell}
use Rattle.batch_types.specs.Typed.{IsBit}
use Rattle.column_building.specs.Slots.{slot_cell}
use Rattle.column_building.proofs.Gathered.{all_item}
use Rattle.column_building.proofs.flat.bits.Goals as goal

pub bit_at-requires : goal.bit_at-requires
bit_at-requires c =
    all_item IsBit (slot_cell (bit_cell false)) c.args.slots.now c.loop-slot.slot-index c.slot-item.result c.requires c.loop-slot-test.true c.slot-item.is
