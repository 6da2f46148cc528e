-- How objects are laid out one behind the other: FlatBuffers, "FlatBuffer Internals", with one choice wherever it
-- leaves one. Places are filled upwards. An object is followed by all that it refers to, in the order of its
-- references, each whole before the next. A table stands right behind its vtable, at a multiple of 8; a string and a
-- vector of references begin at a multiple of 4, a vector of structs so that its first struct stands at a multiple of
-- 8. Bytes between objects are zero, and as few as can be.
use Rattle.std.specs.Prelude.{ℕ, zero, suc, ◌+◌, ◌-◌, ◌*◌, ◌%◌, List, [], ◌∷◌, ◌++◌, length}
use Rattle.byteorder.specs.Endian.{little_bytes}

-- what is written at one place, with all that it refers to; and what stands in a table or a vector: bytes, or a
-- reference
mutual
  pub data Object : Type 0 where
    string_object : List ℕ → Object
    structs_object : ℕ → List ℕ → Object
    references_object : Cells → Object
    table_object : List ℕ → Cells → Object

  pub data Cells : Type 0 where
    no_cells : Cells
    inline : List ℕ → Cells → Cells
    reference : Object → Cells → Cells

abbrev pub zeros : ℕ → List ℕ
zeros zero = []
zeros (suc n) = 0 ∷ zeros n

-- so many bytes from the place to the next multiple of the unit
abbrev pub padding : ℕ → ℕ → ℕ
padding unit place = (unit - place % unit) % unit

-- numbers of two bytes, one behind the other
abbrev pub shorts : List ℕ → List ℕ
shorts [] = []
shorts (x ∷ rest) = little_bytes 2 x ++ shorts rest

-- how many cells there are, and how many bytes they have
abbrev pub cell_count : Cells → ℕ
cell_count no_cells = 0
cell_count (inline bytes rest) = suc (cell_count rest)
cell_count (reference o rest) = suc (cell_count rest)

abbrev pub cells_size : Cells → ℕ
cells_size no_cells = 0
cells_size (inline bytes rest) = length bytes + cells_size rest
cells_size (reference o rest) = 4 + cells_size rest

-- so many zero bytes and bytes of the vtable with these numbers stand before a table
abbrev pub table_lead : ℕ → List ℕ → ℕ
table_lead place numbers = padding 8 (place + 2 * length numbers) + 2 * length numbers

-- so many bytes of an object stand before the place that references to it name: the zero bytes, and a table's vtable
abbrev pub lead : ℕ → Object → ℕ
lead place (string_object bytes) = padding 4 place
lead place (structs_object count bytes) = padding 8 (place + 4)
lead place (references_object cells) = padding 4 place
lead place (table_object numbers cells) = table_lead place numbers

abbrev mutual
  -- the bytes from the place on
  pub laid : ℕ → Object → List ℕ
  laid place (string_object bytes) = zeros (padding 4 place) ++ little_bytes 4 (length bytes) ++ bytes ++ 0 ∷ []
  laid place (structs_object count bytes) = zeros (padding 8 (place + 4)) ++ little_bytes 4 count ++ bytes
  laid place (references_object cells) =
      zeros (padding 4 place) ++ little_bytes 4 (cell_count cells) ++ cells_text (place + padding 4 place + 4)
      (place + padding 4 place + 4 + cells_size cells) cells
      ++ objects_text (place + padding 4 place + 4 + cells_size cells) cells
  laid place (table_object numbers cells) =
      zeros (padding 8 (place + 2 * length numbers)) ++ shorts numbers ++ little_bytes 4 (2 * length numbers)
      ++ cells_text (place + table_lead place numbers + 4)
      (place + table_lead place numbers + 4 + cells_size cells) cells
      ++ objects_text (place + table_lead place numbers + 4 + cells_size cells) cells

  -- the cells from the place on, where the objects are laid out from the place `next` on
  pub cells_text : ℕ → ℕ → Cells → List ℕ
  cells_text at next no_cells = []
  cells_text at next (inline bytes rest) = bytes ++ cells_text (at + length bytes) next rest
  cells_text at next (reference o rest) =
      little_bytes 4 (next + lead next o - at) ++ cells_text (at + 4) (next + length (laid next o)) rest

  pub objects_text : ℕ → Cells → List ℕ
  objects_text next no_cells = []
  objects_text next (inline bytes rest) = objects_text next rest
  objects_text next (reference o rest) = laid next o ++ objects_text (next + length (laid next o)) rest

-- A whole text: the reference to its root, the root, and zero bytes up to a multiple of 8. FlatBuffers, "FlatBuffer
-- Internals": the text begins with a reference to the root table.
abbrev pub unpadded : Object → List ℕ
unpadded root = little_bytes 4 (4 + lead 4 root) ++ laid 4 root

abbrev pub text_of : Object → List ℕ
text_of root = unpadded root ++ zeros (padding 8 (length (unpadded root)))
