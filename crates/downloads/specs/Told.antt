-- What is told of a message: what it says, or that it is none. Where memory was refused, nothing is.
use Rattle.std.specs.Prelude.{ℕ, List, Option, Some, None, Result, Ok, Err, IfSome}
use Rattle.std.specs.Option.{option_map}
use Rattle.std.specs.declared.alloc.AllocError.{AllocError}
use Rattle.header_types.specs.Fields.{SchemaTree}
use Rattle.header_types.specs.Views.{schema_of}
use Rattle.header_types.specs.declared.schema.Schema.{Schema}
use Rattle.batch_types.specs.Cells.{Rows}
use Rattle.batch_columns.specs.Batches.{rows_of, IsBatchOf}
use Rattle.table_types.specs.Valid.{FitsFrame}
use Rattle.downloads.specs.declared.upload_message.UploadMessage.{UploadMessage}
use Rattle.downloads.specs.Messages.{IsSchemaMessage, IsUploadMessage}

-- the schema of which it is the message; or it is that of none, if a frame has room for it
abbrev pub TellsSchema : List ℕ → Result (Option Schema) AllocError → Type 0
TellsSchema message (Ok (Some schema)) = IsSchemaMessage message (schema_of schema)
TellsSchema message (Ok None) = FitsFrame message → (schema : SchemaTree) → ¬ IsSchemaMessage message schema
TellsSchema message (Err refused) = Unit {0}

-- what it says of an upload to a table of this schema, whose columns are the schema's; or it says nothing of any, if a
-- frame has room for it
abbrev pub TellsUpload : SchemaTree → List ℕ → Result (Option UploadMessage) AllocError → Type 0
TellsUpload schema message (Ok (Some said)) =
    IsUploadMessage schema message said.id (option_map rows_of said.batch) × IfSome said.batch (IsBatchOf schema)
TellsUpload schema message (Ok None) =
    FitsFrame message → (id : List ℕ) (rows : Option Rows) → ¬ IsUploadMessage schema message id rows
TellsUpload schema message (Err refused) = Unit {0}
