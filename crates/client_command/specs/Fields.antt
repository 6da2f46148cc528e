-- The fields of a table, which its schema has: Apache Arrow, "Flight.proto", `FlightInfo`, whose field `schema` is an encapsulated
-- message (Apache Arrow, "Columnar format", "Encapsulated message format") with the schema as its header. The lines are this
-- program's own, with the words of `schema_words`.
use Rattle.std.specs.Prelude.{◌≡◌, ◌⊎◌, ℕ, List, [], ◌++◌, codes, Result, Ok, Err}
use Rattle.header_types.specs.declared.schema.Schema.{Schema}
use Rattle.header_types.specs.Fields.{Tree, Forest, no_more, more, SchemaTree}
use Rattle.header_types.specs.Header.{schema_header, ShowsHeader}
use Rattle.header_types.specs.Views.{schema_of}
use Rattle.header_writing.specs.Canonical.{encapsulated}
use Rattle.schema_words.specs.Spelling.{tree_words}
use Rattle.client_calls.specs.declared.client_fault.ClientFault.TheVariants.{BadAnswer}
use Rattle.client_command.specs.declared.fault.CommandFault.{CommandFault}
use Rattle.client_command.specs.declared.fault.CommandFault.TheVariants.{Call, OutOfMemory}

-- ---- the schema

abbrev pub ShowsSchemaIn : List ℕ → SchemaTree → Type 0
ShowsSchemaIn message schema = ShowsHeader message (schema_header schema)

-- the bytes are an encapsulated message, whose header is this schema
pub record HasSchema (bytes : List ℕ) (schema : SchemaTree) : Type 0 where
  pub message : List ℕ
  pub is : bytes ≡ encapsulated message
  pub shown : ShowsSchemaIn message schema

-- what reading gives: the schema, where there is one
abbrev pub ReadsSchema : (List ℕ → SchemaTree → Type 0) → List ℕ → Result Schema CommandFault → Type 0
ReadsSchema Shows bytes (Ok schema) = Shows bytes (schema_of schema)
ReadsSchema Shows bytes (Err fault) = (fault ≡ OutOfMemory) ⊎ ((fault ≡ Call BadAnswer) × ((schema : SchemaTree) → ¬ Shows bytes schema))

abbrev pub HeaderSays : List ℕ → Result Schema CommandFault → Type 0
HeaderSays message result = ReadsSchema ShowsSchemaIn message result

abbrev pub SchemaSays : List ℕ → Result Schema CommandFault → Type 0
SchemaSays bytes result = ReadsSchema HasSchema bytes result

-- ---- its fields, a line each

abbrev pub field_line : Tree → List ℕ
field_line field = codes "field " ++ (tree_words field ++ codes "\n")

abbrev pub fields_text : Forest → List ℕ
fields_text no_more = []
fields_text (more field fields) = field_line field ++ fields_text fields
