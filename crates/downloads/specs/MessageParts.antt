-- What is told of the parts of a message: tools of the contracts of private functions.
use Rattle.std.specs.Prelude.{◌≡◌, ℕ, List, [], Option, Some, None, Result, Ok, Err, IfSome}
use Rattle.std.specs.Option.{option_map}
use Rattle.std.specs.declared.alloc.AllocError.{AllocError}
use Rattle.header_types.specs.Fields.{SchemaTree}
use Rattle.header_types.specs.Views.{schema_of}
use Rattle.header_types.specs.declared.schema.Schema.{Schema}
use Rattle.batch_types.specs.Cells.{Rows}
use Rattle.batch_columns.specs.declared.batch.Batch.{Batch}
use Rattle.batch_columns.specs.Batches.{rows_of, IsBatchOf}
use Rattle.table_types.specs.Served.{data_text}
use Rattle.table_types.specs.Valid.{FitsFrame}
use Rattle.uploads.specs.Read.{IsSchemaText, AreRowsText}
use Rattle.downloads.specs.declared.parts.Parts.{Parts}
use Rattle.downloads.specs.declared.upload_message.UploadMessage.{UploadMessage}

-- the message, which a frame has room for, has these parts
pub record AreParts (message header metadata body : List ℕ) : Type 0 where
  pub is : message ≡ data_text header metadata body
  pub fits : FitsFrame message

-- the parts of the message, and no others; or it has none
abbrev pub TellsParts : List ℕ → Result (Option Parts) AllocError → Type 0
TellsParts message (Ok (Some parts)) =
    (message ≡ data_text parts.header.now parts.metadata.now parts.body.now)
    × ((header metadata body : List ℕ) → AreParts message header metadata body
    → (parts.header.now ≡ header) × (parts.metadata.now ≡ metadata) × (parts.body.now ≡ body))
TellsParts message (Ok None) = (header metadata body : List ℕ) → ¬ AreParts message header metadata body
TellsParts message (Err refused) = Unit {0}

-- the schema of which the header is written, where there is nothing else; or there is none
abbrev pub TellsSchemaOf : List ℕ → List ℕ → List ℕ → Result (Option Schema) AllocError → Type 0
TellsSchemaOf header metadata body (Ok (Some schema)) =
    IsSchemaText header (schema_of schema) × (metadata ≡ []) × (body ≡ [])
TellsSchemaOf header metadata body (Ok None) =
    (schema : SchemaTree) → IsSchemaText header schema → metadata ≡ [] → ¬ (body ≡ [])
TellsSchemaOf header metadata body (Err refused) = Unit {0}

-- the batch of which the header and the body are written; or they are those of none, if a frame has room for the body
abbrev pub TellsRows : SchemaTree → List ℕ → List ℕ → Result (Option Batch) AllocError → Type 0
TellsRows schema header body (Ok (Some batch)) =
    AreRowsText schema (header, body) (rows_of batch) × IsBatchOf schema batch
TellsRows schema header body (Ok None) = FitsFrame body → (rows : Rows) → ¬ AreRowsText schema (header, body) rows
TellsRows schema header body (Err refused) = Unit {0}

-- the header and the body are those of this batch, or there are none
abbrev pub AreOf : SchemaTree → List ℕ → List ℕ → Option Rows → Type 0
AreOf schema header body None = (header ≡ []) × (body ≡ [])
AreOf schema header body (Some rows) = AreRowsText schema (header, body) rows

-- what the header and the body say of an upload of this id; or nothing, if a frame has room for the body
abbrev pub TellsOfParts : SchemaTree → List ℕ → List ℕ → List ℕ → Result (Option UploadMessage) AllocError → Type 0
TellsOfParts schema id header body (Ok (Some said)) =
    (said.id ≡ id) × AreOf schema header body (option_map rows_of said.batch) × IfSome said.batch (IsBatchOf schema)
TellsOfParts schema id header body (Ok None) = FitsFrame body → (rows : Option Rows) → ¬ AreOf schema header body rows
TellsOfParts schema id header body (Err refused) = Unit {0}
