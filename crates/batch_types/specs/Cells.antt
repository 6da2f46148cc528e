-- What a batch of rows holds, apart from how it is laid out in bytes: Apache Arrow, "Arrow Columnar Format",
-- "Terminology" (a cell is a slot of an array).
use Rattle.std.specs.Prelude.{ℕ, Bool, List, [], ◌∷◌}

-- A null, a bit, bytes (numbers and texts alike), a list of cells, or a cell of each field of a struct. Nothing under a
-- null belongs to it.
mutual
  pub data Cell : Type 0 where
    null_cell : Cell
    bit_cell : Bool → Cell
    bytes_cell : List ℕ → Cell
    list_cell : Cells → Cell
    tuple_cell : Cells → Cell

  pub data Cells : Type 0 where
    no_cell : Cells
    cell_then : Cell → Cells → Cells

-- the same cells, as the inside of one
abbrev pub cells_of : List Cell → Cells
cells_of [] = no_cell
cells_of (cell ∷ rest) = cell_then cell (cells_of rest)

-- how many rows there are, and the cells of each column
pub record Rows : Type 0 where
  pub count : ℕ
  pub columns : List (List Cell)
