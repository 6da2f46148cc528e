use Rattle.std.proofs.Common.{◌∙◌, ap, replicate}
use Rattle.std.proofs.lemmas.List.{take_all}
use Rattle.std.specs.List.{flat_map}
use Rattle.batch_types.specs.Canonical.{elements_or}
use Rattle.column_building.specs.Slots.{slot_cells}
use Rattle.column_building.proofs.Gathered.{blank_list, elements_more}
use Rattle.column_building.proofs.slots.blocks.Goals as goal

pub loop-slot-preserved : goal.loop-slot-preserved
loop-slot-preserved c =
    λ blank.
    elements_more c.args.size blank c.args.slots.now c.loop-slot.slot-index c.slot-item.result c.loop-slot-test.true c.slot-item.is
    (slot_cells blank c.loop-slot.elements.items) (slot_cells blank c.put_list.new.slots.items) (c.loop-slot.invariant blank) (c.in_ok-put_list.ensures blank)

pub returns : goal.returns
returns c =
    λ blank.
    c.loop-slot.invariant blank
    ∙ ap (λ l. flat_map (elements_or (replicate c.args.size blank)) (slot_cells (blank_list c.args.size blank) l))
    (take_all c.loop-slot.slot-index c.args.slots.now c.loop-slot-test.false)
