use Rattle.std.proofs.Common.{◌≡◌, ◌∙◌, sym, ap, subst, length, map, replicate}
use Rattle.std.specs.List.{AllByRecursion}
use Rattle.batch_types.specs.Cells.{bytes_cell}
use Rattle.batch_types.specs.Typed.{AreBytes}
use Rattle.batch_columns.specs.Made.{bytes_or_null}
use Rattle.column_building.specs.Slots.{slot_cells}
use Rattle.column_building.proofs.Holding.{sizes_fit, plain_few}
use Rattle.column_building.proofs.flat.sized_column.Goals as goal

pub sized-requires : goal.sized-requires
sized-requires c =
    let whole = ap (map bytes_or_null) c.deref-2.ensures.value ∙ c.in_ok-bytes.ensures
    ∙ ap (λ l. slot_cells (bytes_cell l) c.args.slots.now) c.deref.ensures.value ∙ c.in_ok-blank.ensures in
    sizes_fit c.args.size c.deref-2.result.now
    (subst (AllByRecursion (AreBytes (λ bytes. length bytes ≡ c.args.size))) (sym whole) c.requires.fit)

pub returns-clause-built : goal.returns-clause-built
returns-clause-built c =
    let whole = ap (map bytes_or_null) c.deref-2.ensures.value ∙ c.in_ok-bytes.ensures
    ∙ ap (λ l. slot_cells (bytes_cell l) c.args.slots.now) c.deref.ensures.value ∙ c.in_ok-blank.ensures in
    record {
      shape = c.in_ok-sized.ensures.shape;
      cells = c.in_ok-sized.ensures.cells ∙ whole;
      few = plain_few (bytes_cell (replicate c.args.size 0)) c.args.slots.now c.requires.few;
      room = (tt, tt);
    }
