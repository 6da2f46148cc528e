-- How many bytes objects have at most, wherever they are laid out: FlatBuffers, "FlatBuffer Internals". Tools of the
-- contracts of private functions.
use Rattle.std.specs.Prelude.{◌≡◌, ◌<◌, ◌+◌, ◌*◌, ◌^◌, ℕ, List, [], length}
use Rattle.header_types.specs.Fields.{Entry, FieldHead}
use Rattle.header_writing.specs.Objects.{Object, string_object, structs_object, references_object, table_object, Cells}
use Rattle.header_writing.specs.Objects.{no_cells, inline, reference, table_lead, laid, objects_text}
use Rattle.header_writing.specs.Canonical.{field_numbers, type_object}

-- an object has no more bytes than this, wherever it is laid out
abbrev mutual
  pub weight : Object → ℕ
  weight (string_object bytes) = 8 + length bytes
  weight (structs_object count bytes) = 11 + length bytes
  weight (references_object cells) = 7 + cells_weight cells
  weight (table_object numbers cells) = 11 + 2 * length numbers + cells_weight cells

  pub cells_weight : Cells → ℕ
  cells_weight no_cells = 0
  cells_weight (inline bytes rest) = length bytes + cells_weight rest
  cells_weight (reference o rest) = 4 + weight o + cells_weight rest

-- so many bytes have what they refer to at most
abbrev pub objects_weight : Cells → ℕ
objects_weight no_cells = 0
objects_weight (inline bytes rest) = objects_weight rest
objects_weight (reference o rest) = weight o + objects_weight rest

-- from here on stand the objects of these cells, and behind them is this place; all are few bytes
pub record Behind (end place : ℕ) (cells : Cells) : Type 0 where
  pub at : place + length (objects_text place cells) ≡ end
  pub room : place + objects_weight cells < 2 ^ 32

-- the numbers of a table's vtable, and its cells
abbrev pub numbers_in : Object → List ℕ
numbers_in (string_object bytes) = []
numbers_in (structs_object count bytes) = []
numbers_in (references_object cells) = []
numbers_in (table_object numbers cells) = numbers

abbrev pub cells_in : Object → Cells
cells_in (string_object bytes) = no_cells
cells_in (structs_object count bytes) = no_cells
cells_in (references_object cells) = cells
cells_in (table_object numbers cells) = cells

-- where the objects of a table stand that begins at this place, with so many bytes of cells
abbrev pub behind_cells : ℕ → List ℕ → ℕ → ℕ
behind_cells place numbers cells = place + table_lead place numbers + 4 + cells

-- where an object ends that begins at this place
abbrev pub behind : ℕ → Object → ℕ
behind place o = place + length (laid place o)

-- where the name and the type of a field end, whose table begins at this place
abbrev pub behind_front : ℕ → FieldHead → List Entry → ℕ
behind_front place field entries =
    behind (behind (behind_cells place (field_numbers entries) 20) (string_object field.name)) (type_object field.data_type)
