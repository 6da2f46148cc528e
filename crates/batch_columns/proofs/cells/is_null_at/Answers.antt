use Rattle.std.proofs.Common.{sym, ap, ◌∙◌, not, ◌||◌}
use Rattle.bitmaps.specs.Bits.{bit_of}
use Rattle.batch_columns.specs.Contents.{layout_in}
use Rattle.batch_columns.specs.Looks.{has_values}
use Rattle.batch_columns.proofs.Looking.{null_by_bit}
use Rattle.batch_columns.proofs.cells.is_null_at.Goals as goal

pub returns-then-not-is_empty : goal.returns-then-not-is_empty
returns-then-not-is_empty c =
    ap not c.bit.ensures
    ∙ ap (λ empty. not (empty || bit_of c.validity-validity.result.now c.args.row)) (c.if-not-is_empty.ensures)
    ∙ null_by_bit c.written_values_are_the_cells.ensures.valid (layout_in c.args.column.now) c.args.column.now.cells c.validity-validity.result.now c.args.row
    (ap has_values (sym c.layout.ensures.named) ∙ sym (c.if-not-has_values.ensures)) c.requires c.validity-validity.ensures

pub returns-else-not-is_empty : goal.returns-else-not-is_empty
returns-else-not-is_empty c =
    ap not c.if-not-is_empty.false
    ∙ ap (λ empty. not (empty || bit_of c.validity-validity.result.now c.args.row)) (c.if-not-is_empty.ensures)
    ∙ null_by_bit c.written_values_are_the_cells.ensures.valid (layout_in c.args.column.now) c.args.column.now.cells c.validity-validity.result.now c.args.row
    (ap has_values (sym c.layout.ensures.named) ∙ sym (c.if-not-has_values.ensures)) c.requires c.validity-validity.ensures
