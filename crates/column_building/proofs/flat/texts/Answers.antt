use Rattle.std.proofs.Common.{[]}
use Rattle.std.specs.Str.{IsUtf8}
use Rattle.batch_types.specs.Cells.{bytes_cell}
use Rattle.batch_types.specs.Typed.{AreBytes}
use Rattle.column_building.specs.Slots.{slot_cell}
use Rattle.column_building.proofs.Gathered.{all_item}
use Rattle.column_building.proofs.flat.texts.Goals as goal

pub text_at-requires : goal.text_at-requires
text_at-requires c =
    all_item (AreBytes IsUtf8) (slot_cell (bytes_cell [])) c.args.slots.now c.loop-slot.slot-index c.slot-item.result c.requires c.loop-slot-test.true c.slot-item.is
