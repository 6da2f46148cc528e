use Rattle.std.proofs.Common.{refl, length, ◌+◌, map}
use Rattle.header_types.specs.Views.{entry_of}
use Rattle.header_writing.specs.Canonical.{entry_object, entry_cells}
use Rattle.header_writing.proofs.Lengths.{next_item, no_item, item_room}
use Rattle.header_writing.proofs.length.behind_entries.Goals as goal

pub loop-entry-preserved : goal.loop-entry-preserved
loop-entry-preserved c =
    next_item (λ l. entry_cells (map entry_of l)) (λ x. entry_object (entry_of x)) (λ x items. refl) c.args.entries.now c.loop-entry.entry-index
    c.entry-item.result _ c.loop-entry.end c.behind_entry-end.result c.loop-entry-test.true c.entry-item.is c.behind_entry-end.ensures
    c.loop-entry.invariant
