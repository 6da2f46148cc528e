-- The header of a message: Apache Arrow, "Message.fbs", the tables `Message` and `RecordBatch` and the struct
-- `FieldNode`, and "Schema.fbs", the table `Schema` and the struct `Buffer`.
use Rattle.std.specs.Prelude.{◌≡◌, ◌≤◌, ℕ, ◌+◌, ℤ, Bool, List, [], ◌∷◌, length, Option, Some, is_some}
use Rattle.std.specs.Int.{w64, cast_signed}
use Rattle.flat_places.specs.Number.{ShowsUint, ShowsReference}
use Rattle.flat_places.specs.Table.{ShowsField}
use Rattle.header_types.specs.Fields.{Entry, width, SchemaTree}
use Rattle.header_types.specs.Slots.{ShowsNumber, ShowsReferenceField, VectorRef, ShowsVectorRef}
use Rattle.header_types.specs.Shown.{ShowsEntries, ShowsForest}
use Rattle.header_types.specs.Limits.{depth_limit, forest_depth, schema_totals, IsWithin}

-- ---- schemas

-- the metadata at field n of a table
pub record ShowsMetadata (text : List ℕ) (table n : ℕ) (entries : List Entry) : Type 0 where
  pub vector : VectorRef
  pub vector_shown : ShowsVectorRef text table n 4 vector
  pub all : length entries ≡ vector.count
  pub shown : ShowsEntries text vector.first entries

-- the table `Schema`: 0 endianness, which is Little, 1 fields, 2 custom_metadata
pub record ShowsSchema (text : List ℕ) (table : ℕ) (schema : SchemaTree) : Type 0 where
  pub little_endian : ShowsNumber text table 0 2 0 0
  pub fields : VectorRef
  pub fields_shown : ShowsVectorRef text table 1 4 fields
  pub all : width schema.fields ≡ fields.count
  pub shown : ShowsForest text fields.first schema.fields
  pub metadata_shown : ShowsMetadata text table 2 schema.metadata
  pub not_deep : forest_depth schema.fields ≤ depth_limit
  pub within : IsWithin (schema_totals schema)

-- ---- batches

abbrev pub int64_of : ℕ → ℤ
int64_of n = cast_signed w64 n

abbrev pub ShowsInt64 : List ℕ → ℕ → ℤ → Type 0
ShowsInt64 text place z = (bits : ℕ) × ShowsUint text place 8 bits × (z ≡ int64_of bits)

-- from the place on stand structs of two numbers of eight bytes
abbrev pub ShowsPairs : List ℕ → ℕ → List (ℤ × ℤ) → Type 0
ShowsPairs text place [] = Unit {0}
ShowsPairs text place (pair ∷ rest) =
    ShowsInt64 text place pair.0 × ShowsInt64 text (place + 8) pair.1 × ShowsPairs text (place + 16) rest

-- the vector of such structs at field n of a table
pub record ShowsPairsAt (text : List ℕ) (table n : ℕ) (pairs : List (ℤ × ℤ)) : Type 0 where
  pub vector : VectorRef
  pub vector_shown : ShowsVectorRef text table n 16 vector
  pub all : length pairs ≡ vector.count
  pub shown : ShowsPairs text vector.first pairs

-- where the parts of a batch stand in its body
pub record Head : Type 0 where
  pub length : ℤ
  pub nodes : List (ℤ × ℤ)
  pub buffers : List (ℤ × ℤ)
  pub compressed : Bool
  pub body_length : ℤ

-- The table `RecordBatch`: 0 length, 1 nodes, 2 buffers, 3 compression, 4 variadicBufferCounts, which is passed over.
-- The number of the body's bytes stands in the message.
pub record ShowsBatch (text : List ℕ) (table : ℕ) (head : Head) : Type 0 where
  pub rows : ℕ
  pub rows_shown : ShowsNumber text table 0 8 0 rows
  pub length_is : head.length ≡ int64_of rows
  pub nodes_shown : ShowsPairsAt text table 1 head.nodes
  pub buffers_shown : ShowsPairsAt text table 2 head.buffers
  pub compression : Option ℕ
  pub compression_shown : ShowsField text table 3 compression
  pub compressed_is : head.compressed ≡ is_some compression

-- ---- messages

pub data Header : Type 0 where
  schema_header : SchemaTree → Header
  batch_header : Head → Header

-- the version of the metadata that is read, and the types of headers
abbrev pub version_5 : ℕ
version_5 = 4

abbrev pub schema_type : ℕ
schema_type = 1

abbrev pub dictionary_type : ℕ
dictionary_type = 2

abbrev pub batch_type : ℕ
batch_type = 3

-- The table `Message`, to which a reference stands at the text's begin: 0 version, 1 the header's type, 2 the header.
pub record ShowsMessage (text : List ℕ) (message type table : ℕ) : Type 0 where
  pub root : ShowsReference text 0 message
  pub version : ShowsNumber text message 0 2 0 version_5
  pub type_shown : ShowsNumber text message 1 1 0 type
  pub header : ShowsReferenceField text message 2 (Some table)

-- The text shows this header. Field 3 of the message is bodyLength, field 4 custom_metadata, which is passed over.
abbrev pub ShowsHeader : List ℕ → Header → Type 0
ShowsHeader text (schema_header schema) =
    (message table : ℕ) × ShowsMessage text message schema_type table × ShowsSchema text table schema
ShowsHeader text (batch_header head) =
    (message table : ℕ)
    × ShowsMessage text message batch_type table
    × ShowsBatch text table head
    × ((bits : ℕ) × ShowsNumber text message 3 8 0 bits × (head.body_length ≡ int64_of bits))
