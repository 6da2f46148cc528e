use Rattle.std.proofs.Common.{◌∙◌, ap, []}
use Rattle.std.proofs.lemmas.List.{take_all}
use Rattle.std.specs.List.{flat_map}
use Rattle.batch_types.specs.Cells.{Cell, null_cell, list_cell, no_cell}
use Rattle.batch_types.specs.Canonical.{elements_or}
use Rattle.column_building.specs.Slots.{slot_cells}
use Rattle.column_building.proofs.Gathered.{elements_more, offsets_more}
use Rattle.column_building.proofs.slots.spans.Goals as goal

pub loop-slot-preserved : goal.loop-slot-preserved
loop-slot-preserved c =
    let more = λ (blank : Cell).
    elements_more 0 blank c.args.slots.now c.loop-slot.slot-index c.slot-item.result c.loop-slot-test.true c.slot-item.is
    (slot_cells blank c.loop-slot.elements.items) (slot_cells blank c.append_variable.new.elements.items) (c.loop-slot.invariant.elements blank)
    (c.in_ok-append_variable.ensures.elements blank) in
    record {
      offsets =
          offsets_more c.args.slots.now c.loop-slot.slot-index c.slot-item.result c.loop-slot-test.true c.slot-item.is c.loop-slot.offsets.items
          c.append_variable.new.offsets.items c.append_variable.new.elements.items c.loop-slot.invariant.offsets (more null_cell) c.in_ok-append_variable.ensures.offsets;
      elements = more;
    }

pub returns-clause-elements : goal.returns-clause-elements
returns-clause-elements c =
    λ blank.
    c.loop-slot.invariant.elements blank
    ∙ ap (λ l. flat_map (elements_or []) (slot_cells (list_cell no_cell) l)) (take_all c.loop-slot.slot-index c.args.slots.now c.loop-slot-test.false)
