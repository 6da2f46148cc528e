use Rattle.batch_types.specs.Cells.{bytes_cell}
use Rattle.batch_types.specs.Typed.{AreBytes}
use Rattle.column_building.specs.Slots.{slot_cell}
use Rattle.column_building.proofs.Gathered.{all_item}
use Rattle.column_building.proofs.flat.bytes.Goals as goal

pub bytes_at-requires : goal.bytes_at-requires
bytes_at-requires c =
    all_item (AreBytes (λ bytes. Unit {0})) (slot_cell (bytes_cell c.args.blank.now)) c.args.slots.now c.loop-slot.slot-index c.slot-item.result c.requires c.loop-slot-test.true c.slot-item.is
