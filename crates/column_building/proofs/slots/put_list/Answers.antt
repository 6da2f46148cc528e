use Rattle.std.proofs.Common.{◌∙◌, ◌++◌, sym, ap, replicate}
use Rattle.std.proofs.lemmas.Result.{on_ok_weaker}
use Rattle.batch_types.specs.Canonical.{elements_or}
use Rattle.column_building.specs.Slots.{slot_cell, slot_cells}
use Rattle.column_building.proofs.Gathered.{blank_list, blank_elements}
use Rattle.column_building.proofs.slots.put_list.Goals as goal

pub returns-in-None : goal.returns-in-None
returns-in-None c =
    on_ok_weaker c.put_blanks.result
    (λ all blank.
    all blank
    ∙ ap (λ l. slot_cells blank c.args.slots.now.items ++ l)
    (sym (blank_elements c.args.size blank)
    ∙ ap (λ s. elements_or (replicate c.args.size blank) (slot_cell (blank_list c.args.size blank) s)) (sym c.in-None.is)))
    c.put_blanks.ensures
