-- The one text that is written of a header: which tables there are, and what stands in each. Apache Arrow, "Schema.fbs"
-- and "Message.fbs". A vtable's numbers are its size, its table's size, and where each field stands in the table, 0 for
-- an absent one. A table's cells are given from behind its first four bytes. Metadata that has no entries is absent, as
-- is a time zone; a vector of fields is always there, one without elements too.
use Rattle.std.specs.Prelude.{ℕ, ℤ, Bool, true, false, List, [], ◌∷◌, ◌++◌, length, Option, Some, None}
use Rattle.std.specs.Int.{w32, w64, cast_unsigned}
use Rattle.byteorder.specs.Endian.{little_bytes}
use Rattle.header_types.specs.declared.field_type.BitWidth.{BitWidth}
use Rattle.header_types.specs.declared.field_type.BitWidth.TheVariants.{Eight, Sixteen, ThirtyTwo, SixtyFour}
use Rattle.header_types.specs.declared.field_type.Precision.{Precision}
use Rattle.header_types.specs.declared.field_type.Precision.TheVariants.{Half, Single, Double}
use Rattle.header_types.specs.declared.field_type.DecimalWidth.{DecimalWidth}
use Rattle.header_types.specs.declared.field_type.DecimalWidth.TheVariants.{OneHundredTwentyEight, TwoHundredFiftySix}
use Rattle.header_types.specs.declared.field_type.DateUnit.{DateUnit}
use Rattle.header_types.specs.declared.field_type.DateUnit.TheVariants as date
use Rattle.header_types.specs.declared.field_type.TimeUnit.{TimeUnit}
use Rattle.header_types.specs.declared.field_type.TimeUnit.TheVariants as time
use Rattle.header_types.specs.Fields.{Text, Entry, DataType, null_type, int_type, floating_point_type, binary_type}
use Rattle.header_types.specs.Fields.{utf8_type, bool_type, decimal_type, date_type, time_type, timestamp_type}
use Rattle.header_types.specs.Fields.{list_type, struct_type, fixed_size_binary_type, fixed_size_list_type}
use Rattle.header_types.specs.Fields.{duration_type, FieldHead, Tree, tree, Forest, no_more, more, SchemaTree}
use Rattle.header_types.specs.TypeIds.{time_bits}
use Rattle.header_types.specs.Header.{Head, Header, schema_header, batch_header, version_5, schema_type, batch_type}
use Rattle.header_writing.specs.Objects.{Object, string_object, structs_object, references_object, table_object, Cells}
use Rattle.header_writing.specs.Objects.{no_cells, inline, reference, zeros, text_of}

-- ---- cells

-- a number of so many bytes
abbrev pub number : ℕ → ℕ → Cells → Cells
number size x rest = inline (little_bytes size x) rest

-- bytes of no field
abbrev pub gap : ℕ → Cells → Cells
gap size rest = inline (zeros size) rest

-- ---- metadata

abbrev pub entry_object : Entry → Object
entry_object entry = table_object (8 ∷ 12 ∷ 4 ∷ 8 ∷ [])
    (reference (string_object entry.0) (reference (string_object entry.1) no_cells))

abbrev pub entry_cells : List Entry → Cells
entry_cells [] = no_cells
entry_cells (entry ∷ rest) = reference (entry_object entry) (entry_cells rest)

-- the last cell of a table, and where it stands there
abbrev pub metadata_cell : List Entry → Cells
metadata_cell [] = gap 4 no_cells
metadata_cell (entry ∷ rest) = reference (references_object (entry_cells (entry ∷ rest))) no_cells

abbrev pub metadata_place : List Entry → ℕ → ℕ
metadata_place [] place = 0
metadata_place (entry ∷ rest) place = place

-- ---- types

abbrev pub bits_of : BitWidth → ℕ
bits_of Eight = 8
bits_of Sixteen = 16
bits_of ThirtyTwo = 32
bits_of SixtyFour = 64

abbrev pub precision_number : Precision → ℕ
precision_number Half = 0
precision_number Single = 1
precision_number Double = 2

abbrev pub decimal_bits : DecimalWidth → ℕ
decimal_bits OneHundredTwentyEight = 128
decimal_bits TwoHundredFiftySix = 256

abbrev pub date_unit_number : DateUnit → ℕ
date_unit_number date.Day = 0
date_unit_number date.Millisecond = 1

abbrev pub time_unit_number : TimeUnit → ℕ
time_unit_number time.Second = 0
time_unit_number time.Millisecond = 1
time_unit_number time.Microsecond = 2
time_unit_number time.Nanosecond = 3

abbrev pub flag : Bool → ℕ
flag false = 0
flag true = 1

-- the number of the type in the union `Type`
abbrev pub type_id_of : DataType → ℕ
type_id_of null_type = 1
type_id_of (int_type width signed) = 2
type_id_of (floating_point_type precision) = 3
type_id_of binary_type = 4
type_id_of utf8_type = 5
type_id_of bool_type = 6
type_id_of (decimal_type precision scale width) = 7
type_id_of (date_type unit) = 8
type_id_of (time_type unit) = 9
type_id_of (timestamp_type unit timezone) = 10
type_id_of list_type = 12
type_id_of struct_type = 13
type_id_of (fixed_size_binary_type byte_width) = 15
type_id_of (fixed_size_list_type list_size) = 16
type_id_of (duration_type unit) = 18

abbrev pub int32_number : ℤ → ℕ
int32_number z = cast_unsigned w32 z

-- a table without fields, and one of a number of two or of four bytes
abbrev pub empty_table : Object
empty_table = table_object (4 ∷ 4 ∷ []) no_cells

abbrev pub short_table : ℕ → Object
short_table x = table_object (6 ∷ 8 ∷ 4 ∷ []) (number 2 x (gap 2 no_cells))

abbrev pub word_table : ℕ → Object
word_table x = table_object (6 ∷ 8 ∷ 4 ∷ []) (number 4 x no_cells)

abbrev pub timestamp_table : TimeUnit → Option Text → Object
timestamp_table unit None = table_object (8 ∷ 12 ∷ 4 ∷ 0 ∷ [])
    (number 2 (time_unit_number unit) (gap 2 (gap 4 no_cells)))
timestamp_table unit (Some timezone) =
    table_object (8 ∷ 12 ∷ 4 ∷ 8 ∷ []) (number 2 (time_unit_number unit)
    (gap 2 (reference (string_object timezone) no_cells)))

abbrev pub type_object : DataType → Object
type_object null_type = empty_table
type_object (int_type width signed) =
    table_object (8 ∷ 12 ∷ 4 ∷ 8 ∷ []) (number 4 (bits_of width) (number 1 (flag signed) (gap 3 no_cells)))
type_object (floating_point_type precision) = short_table (precision_number precision)
type_object binary_type = empty_table
type_object utf8_type = empty_table
type_object bool_type = empty_table
type_object (decimal_type precision scale width) =
    table_object (10 ∷ 16 ∷ 4 ∷ 8 ∷ 12 ∷ [])
    (number 4 (int32_number precision) (number 4 (int32_number scale) (number 4 (decimal_bits width) no_cells)))
type_object (date_type unit) = short_table (date_unit_number unit)
type_object (time_type unit) =
    table_object (8 ∷ 12 ∷ 4 ∷ 8 ∷ []) (number 2 (time_unit_number unit) (gap 2 (number 4 (time_bits unit) no_cells)))
type_object (timestamp_type unit timezone) = timestamp_table unit timezone
type_object list_type = empty_table
type_object struct_type = empty_table
type_object (fixed_size_binary_type byte_width) = word_table (int32_number byte_width)
type_object (fixed_size_list_type list_size) = word_table (int32_number list_size)
type_object (duration_type unit) = short_table (time_unit_number unit)

-- ---- fields

-- The table `Field`. Its fields 0 name, 1 nullable, 2 the type's number, 3 the type, 5 children, 6 custom_metadata.
abbrev pub field_numbers : List Entry → List ℕ
field_numbers entries = 18 ∷ 24 ∷ 4 ∷ 8 ∷ 9 ∷ 12 ∷ 0 ∷ 16 ∷ metadata_place entries 20 ∷ []

abbrev pub field_table_cells : FieldHead → List Entry → Object → Cells
field_table_cells field entries children =
    reference (string_object field.name)
    (number 1 (flag field.nullable) (number 1 (type_id_of field.data_type) (gap 2
    (reference (type_object field.data_type) (reference children (metadata_cell entries))))))

abbrev mutual
  pub field_object : Tree → Object
  field_object (tree field entries inner) =
      table_object (field_numbers entries) (field_table_cells field entries (references_object (field_cells inner)))

  pub field_cells : Forest → Cells
  field_cells no_more = no_cells
  field_cells (more t rest) = reference (field_object t) (field_cells rest)

-- The table `Schema`. Its fields 0 endianness (absent: Little), 1 fields, 2 custom_metadata.
abbrev pub schema_object : SchemaTree → Object
schema_object schema =
    table_object (10 ∷ 12 ∷ 0 ∷ 4 ∷ metadata_place schema.metadata 8 ∷ [])
    (reference (references_object (field_cells schema.fields)) (metadata_cell schema.metadata))

-- ---- batches

abbrev pub int64_number : ℤ → ℕ
int64_number z = cast_unsigned w64 z

-- structs of two numbers of eight bytes
abbrev pub pairs_text : List (ℤ × ℤ) → List ℕ
pairs_text [] = []
pairs_text (pair ∷ rest) = little_bytes 8 (int64_number pair.0) ++ little_bytes 8
    (int64_number pair.1) ++ pairs_text rest

abbrev pub pairs_object : List (ℤ × ℤ) → Object
pairs_object pairs = structs_object (length pairs) (pairs_text pairs)

-- The table `RecordBatch`. Its fields 0 length, 1 nodes, 2 buffers.
abbrev pub batch_object : Head → Object
batch_object head =
    table_object (10 ∷ 24 ∷ 8 ∷ 4 ∷ 16 ∷ [])
    (reference (pairs_object head.nodes) (number 8 (int64_number head.length)
    (reference (pairs_object head.buffers) (gap 4 no_cells))))

-- ---- messages

-- The table `Message`. Its fields 0 version, 1 the header's type, 2 the header, 3 bodyLength.
abbrev pub message_numbers : List ℕ
message_numbers = 12 ∷ 24 ∷ 4 ∷ 6 ∷ 8 ∷ 16 ∷ []

abbrev pub message_cells : ℕ → Object → ℕ → Cells
message_cells type header body_length =
    number 2 version_5 (number 1 type (gap 1 (reference header (gap 4 (number 8 body_length no_cells)))))

abbrev pub message_object : ℕ → Object → ℕ → Object
message_object type header body_length = table_object message_numbers (message_cells type header body_length)

abbrev pub header_text : Header → List ℕ
header_text (schema_header schema) = text_of (message_object schema_type (schema_object schema) 0)
header_text (batch_header head) = text_of (message_object batch_type (batch_object head)
    (int64_number head.body_length))

-- Apache Arrow, "Columnar format", "Encapsulated message format": four bytes 255, the length in four bytes, and the
-- message
abbrev pub encapsulated : List ℕ → List ℕ
encapsulated message = 255 ∷ 255 ∷ 255 ∷ 255 ∷ little_bytes 4 (length message) ++ message
