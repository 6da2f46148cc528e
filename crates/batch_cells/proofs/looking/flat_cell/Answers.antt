use Rattle.std.proofs.Common.{◌∙◌, sym, ap}
use Rattle.batch_types.specs.Cells.{bytes_cell}
use Rattle.batch_cells.proofs.Looked.{seen_bit, seen_bytes, seen_flat}
use Rattle.batch_cells.proofs.looking.flat_cell.Goals as goal

pub returns-in-Some : goal.returns-in-Some
returns-in-Some c = c.bit_of.ensures ∙ seen_bit c.args.column.now.cells c.args.row c.in-Some.bit (sym c.in-Some.ensures)

pub returns-in_ok-from_slice-in-Some-bytes : goal.returns-in_ok-from_slice-in-Some-bytes
returns-in_ok-from_slice-in-Some-bytes c =
    c.bytes_of.ensures ∙ ap bytes_cell c.in_ok-from_slice-in-Some-bytes.ensures.items
    ∙ seen_bytes c.args.column.now.cells c.args.row c.in-Some-bytes.bytes.now c.in-Some-bytes.ensures.some

pub returns-in-None : goal.returns-in-None
returns-in-None c =
    c.null.ensures
    ∙ seen_flat c.args.column.now.shape c.args.column.now.cells c.args.row c.requires.flat c.requires.fit
    (sym c.bit.ensures ∙ c.in_default.is) c.in-None.ensures.none
