-- What one message of the answer to a ticket says: Apache Arrow, "Flight.proto", `FlightData`, and "Arrow Flight RPC",
-- "Downloading Data". Each has one encoding. That a message has the upload's id is this service's own.
use Rattle.std.specs.Prelude.{◌≡◌, ℕ, List, [], Option, Some, None}
use Rattle.header_types.specs.Fields.{SchemaTree}
use Rattle.header_types.specs.Profile.{InProfile}
use Rattle.header_writing.specs.Written.{FitsSchema}
use Rattle.batch_types.specs.Cells.{Rows}
use Rattle.batch_types.specs.Canonical.{canonical_body}
use Rattle.batch_types.specs.Written.{CanBeWritten}
use Rattle.table_types.specs.Uploads.{head_text}
use Rattle.table_types.specs.Served.{data_text, schema_message}
use Rattle.table_types.specs.Valid.{IsId}

-- the message is the one with which an answer begins, with this schema, which can be written
pub record IsSchemaMessage (message : List ℕ) (schema : SchemaTree) : Type 0 where
  pub is : message ≡ schema_message schema
  pub profile : InProfile schema
  pub fits : FitsSchema schema

-- the message of an upload of this id: the id alone, or the id with the header and the body of one of its batches
abbrev pub message_text : SchemaTree → List ℕ → Option Rows → List ℕ
message_text schema id None = data_text [] id []
message_text schema id (Some rows) = data_text (head_text schema rows) id (canonical_body schema rows)

-- the batch, if there is one, is of rows of the schema that can be written
abbrev pub CanBeServed : SchemaTree → Option Rows → Type 0
CanBeServed schema None = Unit {0}
CanBeServed schema (Some rows) = CanBeWritten schema rows

-- the message says this of an upload to a table of this schema: its id, and one of its batches or none
pub record IsUploadMessage (schema : SchemaTree) (message id : List ℕ) (rows : Option Rows) : Type 0 where
  pub is : message ≡ message_text schema id rows
  pub named : IsId id
  pub served : CanBeServed schema rows
