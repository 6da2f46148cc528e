-- What is built of a schema: a tool of the proofs. What a text shows is defined in `Shown`.
use Rattle.std.specs.Prelude.{◌≡◌, ℕ, List, length, string_bytes}
use Rattle.header_reading.specs.declared.build.FieldHead.{FieldHead as BuiltHead}
use Rattle.header_types.specs.Fields.{Entry, FieldHead, SchemaTree}
use Rattle.header_types.specs.Views.{data_type_of}
use Rattle.header_types.specs.Slots.{VectorRef, ShowsNumber, ShowsVectorRef}
use Rattle.header_types.specs.Shown.{ShowsEntries, ShowsFieldHead}
use Rattle.header_types.specs.Header.{ShowsSchema}

abbrev pub field_built : BuiltHead → FieldHead
field_built b = record { name = string_bytes b.name; nullable = b.nullable; data_type = data_type_of b.ty }

-- the table shows this field with this metadata and references to these fields inside it
pub record BuildsField (text : List ℕ) (table : ℕ) (field : FieldHead) (entries : List Entry)
    (children : VectorRef) : Type 0 where
  pub metadata : VectorRef
  pub shown : ShowsFieldHead text table field children metadata
  pub all : length entries ≡ metadata.count
  pub entries_shown : ShowsEntries text metadata.first entries

-- the table is that of a little-endian schema, whose fields and metadata are referred to from these vectors
pub record ShowsSchemaParts (text : List ℕ) (table : ℕ) (fields metadata : VectorRef) : Type 0 where
  pub little_endian : ShowsNumber text table 0 2 0 0
  pub fields_shown : ShowsVectorRef text table 1 4 fields
  pub metadata_shown : ShowsVectorRef text table 2 4 metadata

-- the table shows a schema, whose fields and metadata are referred to from these vectors
pub record ShowsSchemaOf (text : List ℕ) (table : ℕ) (fields metadata : VectorRef) : Type 0 where
  pub schema : SchemaTree
  pub shown : ShowsSchema text table schema
  pub fields_shown : ShowsVectorRef text table 1 4 fields
  pub metadata_shown : ShowsVectorRef text table 2 4 metadata
