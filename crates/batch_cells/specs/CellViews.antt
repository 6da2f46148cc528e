-- What a cell of the program is: Apache Arrow, "Arrow Columnar Format", "Terminology".
use Rattle.batch_cells.specs.declared.cell.Cell.{Cell as Plain, fold-Cell}
use Rattle.batch_cells.specs.declared.cell.Cell.TheOpen.{Cell-F, Null, Bit, Bytes, List as Elements, Tuple}
use Rattle.batch_types.specs.Cells.{Cell, null_cell, bit_cell, bytes_cell, list_cell, tuple_cell, cells_of}

-- one level, with each cell inside already seen
abbrev pub cell_step : Cell-F Cell → Cell
cell_step Null = null_cell
cell_step (Bit bit) = bit_cell bit
cell_step (Bytes bytes) = bytes_cell bytes.items
cell_step (Elements cells) = list_cell (cells_of cells.items)
cell_step (Tuple cells) = tuple_cell (cells_of cells.items)

abbrev pub cell_of : Plain → Cell
cell_of = fold-Cell Cell cell_step
