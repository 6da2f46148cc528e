-- The cells that a column is built of: some that are lent, and blank ones, which stand in the columns inside a null:
-- Apache Arrow, "Arrow Columnar Format", "Terminology" (a cell is a slot of an array).
use Rattle.std.specs.Prelude.{ℕ, Bool, true, not, Option, Some, None, List, map, length, replicate}
use Rattle.std.specs.List.{sum_by}
use Rattle.std.specs.Borrow.{Bor}
use Rattle.batch_types.specs.Cells.{Cell, null_cell, bit_cell, bytes_cell, list_cell, tuple_cell}
use Rattle.batch_types.specs.Canonical.{is_null, cells_in, elements_or}
use Rattle.batch_cells.specs.declared.cell.Cell.{Cell as Plain}
use Rattle.batch_cells.specs.CellViews.{cell_of}

-- a cell that is lent, or none for a blank one
abbrev pub Slot : Type 0
Slot = Option (Bor Plain)

-- the cell of a slot, or this blank one
abbrev pub slot_cell : Cell → Slot → Cell
slot_cell blank None = blank
slot_cell blank (Some cell) = cell_of cell.now

abbrev pub slot_cells : Cell → List Slot → List Cell
slot_cells blank slots = map (slot_cell blank) slots

-- it is no null; a blank cell is none, but in the layout of nulls alone
abbrev pub slot_there : Slot → Bool
slot_there None = true
slot_there (Some cell) = not (is_null (cell_of cell.now))

-- the elements of a list, none for any other cell
abbrev pub elements_seen : Cell → Option (List Cell)
elements_seen null_cell = None
elements_seen (bit_cell bit) = None
elements_seen (bytes_cell bytes) = None
elements_seen (list_cell cells) = Some (cells_in cells)
elements_seen (tuple_cell cells) = None

-- how many elements it has, so many where it is blank or null
abbrev pub elements_count : ℕ → Slot → ℕ
elements_count size None = size
elements_count size (Some cell) = length (elements_or (replicate size null_cell) (cell_of cell.now))

abbrev pub elements_counted : ℕ → List Slot → ℕ
elements_counted size slots = sum_by (elements_count size) slots
