use Rattle.batch_columns.specs.Held.{layout_named}
use Rattle.column_building.specs.Slots.{slot_cells}
use Rattle.column_building.proofs.Gathered.{slots_long}
use Rattle.column_building.proofs.Holding.{slots_kept}
use Rattle.column_building.proofs.nested.around.Goals as goal

pub from_parts-requires : goal.from_parts-requires
from_parts-requires c = (
  slot_cells c.requires.0 c.args.slots.now,
  slots_long c.requires.0 c.args.slots.now,
  slots_kept c.requires.0 c.requires.1 (layout_named c.args.layout) c.args.slots.now c.in_ok-validity.nulls c.in_ok-validity.validity.items
      c.args.offsets.items c.new.result.items c.args.inside.items c.requires.2 c.in_ok-validity.ensures.nulls c.in_ok-validity.ensures.bytes
      c.new.ensures.items,
)

pub returns-clause-cells : goal.returns-clause-cells
returns-clause-cells c =
    λ blank valued can.
    c.from_parts.ensures.cells (slot_cells blank c.args.slots.now) (slots_long blank c.args.slots.now)
    (slots_kept blank valued (layout_named c.args.layout) c.args.slots.now c.in_ok-validity.nulls c.in_ok-validity.validity.items
    c.args.offsets.items c.new.result.items c.args.inside.items can c.in_ok-validity.ensures.nulls c.in_ok-validity.ensures.bytes c.new.ensures.items)
