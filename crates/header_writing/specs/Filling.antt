-- Texts that are written from the front on: a reference is left blank, and set once its object is begun. Tools of the
-- contracts of private functions.
use Rattle.std.specs.Prelude.{ℕ, ◌+◌, ◌-◌, ◌*◌, List, [], ◌++◌, length}
use Rattle.std.specs.List.{splice}
use Rattle.byteorder.specs.Endian.{little_bytes}
use Rattle.header_types.specs.Fields.{Entry, FieldHead}
use Rattle.header_writing.specs.Canonical.{field_numbers, field_table_cells, message_numbers, message_cells}
use Rattle.header_writing.specs.Canonical.{empty_table}
use Rattle.header_writing.specs.Objects.{Object, Cells, no_cells, inline, reference, zeros, padding, shorts, table_lead}
use Rattle.header_writing.specs.Objects.{lead, laid}

-- with the reference at a place set to a target
abbrev pub referring : List ℕ → ℕ → ℕ → List ℕ
referring text from target = splice text from (from + 4) (little_bytes 4 (target - from))

-- with an object behind it, to which the reference at a place is set
abbrev pub with_object : List ℕ → ℕ → Object → List ℕ
with_object text from o = referring text from (length text + lead (length text) o) ++ laid (length text) o

-- cells with blank references
abbrev pub blank : Cells → List ℕ
blank no_cells = []
blank (inline bytes rest) = bytes ++ blank rest
blank (reference o rest) = zeros 4 ++ blank rest

-- with the references of the cells, which stand from a place on, set one after the other
abbrev pub filled : List ℕ → ℕ → Cells → List ℕ
filled text at no_cells = text
filled text at (inline bytes rest) = filled text (at + length bytes) rest
filled text at (reference o rest) = filled (with_object text at o) (at + 4) rest

-- with a table begun behind it: the vtable, where it stands from, and the table's cells as they are given
abbrev pub table_begun : List ℕ → ℕ → List ℕ → List ℕ → List ℕ
table_begun text from numbers cells =
    referring text from (length text + table_lead (length text) numbers)
    ++ zeros (padding 8 (length text + 2 * length numbers)) ++ shorts numbers ++ little_bytes 4
    (2 * length numbers) ++ cells

-- with a vector of so many elements begun behind it, whose bytes are given
abbrev pub references_begun : List ℕ → ℕ → ℕ → List ℕ → List ℕ
references_begun text from count cells =
    referring text from (length text + padding 4 (length text))
    ++ zeros (padding 4 (length text)) ++ little_bytes 4 count ++ cells

-- with the table of a field begun behind it
abbrev pub field_begun : List ℕ → ℕ → FieldHead → List Entry → List ℕ
field_begun text from field entries =
    table_begun text from (field_numbers entries) (blank (field_table_cells field entries empty_table))

-- with the table of a message begun behind a blank reference
abbrev pub message_begun : ℕ → ℕ → List ℕ
message_begun type body_length = table_begun (zeros 4) 0 message_numbers
    (blank (message_cells type empty_table body_length))
