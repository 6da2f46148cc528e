-- An upload on its way, message by message: tools of the contracts of private functions.
use Rattle.std.specs.Prelude.{◌≡◌, ◌≤◌, ◌<◌, ◌⊎◌, ℕ, ◌+◌, List, [], ◌∷◌, ◌++◌, length, map, string_bytes, Result, Ok, Err}
use Rattle.std.specs.List.{AllByRecursion}
use Rattle.proto_fields.specs.Field.{field_text}
use Rattle.proto_messages.specs.Canonical.{bytes_field}
use Rattle.header_types.specs.Fields.{SchemaTree}
use Rattle.header_types.specs.Header.{Head}
use Rattle.header_types.specs.Views.{schema_of}
use Rattle.batch_columns.specs.Batches.{rows_of}
use Rattle.batch_columns.specs.declared.batch.Batch.{Batch}
use Rattle.batch_types.specs.Cells.{Rows}
use Rattle.batch_types.specs.declared.fault.BatchFault.{BatchFault}
use Rattle.record_batches.specs.Reading.{IsToldOf}
use Rattle.table_types.specs.Uploads.{Upload, upload_text}
use Rattle.table_types.specs.Valid.{IsTableName, IsId, IsUpload, FitsFrame, batches_limit, upload_limit}
use Rattle.uploads.specs.Parts.{batch_parts, batches_parts, batch_text, batches_text, served_of}
use Rattle.uploads.specs.Making.{upload_of, AreOfSchema, IsSmall}
use Rattle.uploads.specs.Sized.{parts_held}
use Rattle.call_protocol.specs.declared.refusal.CallRefusal.{CallRefusal}
use Rattle.call_protocol.specs.declared.refusal.CallRefusal.TheVariants as refusals
use Rattle.call_reading.specs.declared.upload_builder.UploadBuilder.{UploadBuilder}
use Rattle.call_reading.specs.Requests.{Opens, Adds}

-- Whatever comes behind these batches, no upload is made of them: what is written of them is longer than one may be, or no
-- frame has room for what is served of one.
abbrev pub IsTooMuch : Upload → Type 0
IsTooMuch upload =
    (upload_limit < length (batches_text (batches_parts upload)))
    ⊎ (¬ AllByRecursion (λ parts. FitsFrame (served_of upload.id parts)) (batches_parts upload))

-- its table's name and its id are such, and the batches that it keeps are of its schema; so many bytes are written of them
pub record IsOnItsWay (i : UploadBuilder) : Type 0 where
  pub named : IsTableName (string_bytes i.table)
  pub id_named : IsId i.id
  pub of_schema : AreOfSchema (schema_of i.schema) i.batches.items
  pub few : i.count ≤ batches_limit
  pub kept : length i.batches.items ≤ i.count
  pub sized : i.size ≤ upload_limit → i.size ≡ length (batches_text (parts_held (schema_of i.schema) i.batches.items))

-- This upload is on its way: all its batches are kept, or they are too much.
pub record Holds (i : UploadBuilder) (upload : Upload) : Type 0 where
  pub table_is : upload.table ≡ string_bytes i.table
  pub id_is : upload.id ≡ i.id
  pub schema_is : upload.schema ≡ schema_of i.schema
  pub count_is : i.count ≡ length upload.batches
  pub batches_are : ((i.size ≤ upload_limit) × (upload.batches ≡ map rows_of i.batches.items))
      ⊎ ((upload_limit < i.size) × IsTooMuch upload)

-- it was opened by this message, and has no batch yet
abbrev pub IsOpened : List ℕ → UploadBuilder → Type 0
IsOpened message i =
    Opens message (string_bytes i.table) i.id (schema_of i.schema)
    × Holds i (upload_of (string_bytes i.table) i.id (schema_of i.schema) [])

-- some upload is opened by this message
abbrev pub OpensSome : List ℕ → Type 0
OpensSome message = (table id : List ℕ) × (schema : SchemaTree) × Opens message table id schema

-- a message adds to so many batches, and they are not too many with what it adds
abbrev pub AddsWithin : SchemaTree → ℕ → List ℕ → Type 0
AddsWithin schema count message = (more : List Rows) × Adds schema message more × (count + length more ≤ batches_limit)

-- a head and a body lay out no batch, or there is one more than an upload may have
abbrev pub LayFault : SchemaTree → ℕ → Head → List ℕ → CallRefusal → Type 0
LayFault schema count head body refusal =
    ((fault : BatchFault) × IsToldOf schema head body fault × (refusal ≡ refusals.Batch fault))
    ⊎ ((count ≡ batches_limit) × (refusal ≡ refusals.TooManyBatches))

-- an upload with these batches behind its own
abbrev pub with_more : Upload → List Rows → Upload
with_more upload more =
    record { table = upload.table; id = upload.id; schema = upload.schema; batches = upload.batches ++ more }

-- whichever upload was on its way has these batches more
abbrev pub HoldsMore : List Rows → UploadBuilder → UploadBuilder → Type 0
HoldsMore more old new = (upload : Upload) → Holds old upload → Holds new (with_more upload more)

-- it is the same, but that these batches are kept, and that so many have come, with so many bytes
pub record IsCounted (old new : UploadBuilder) (batches : List Batch) (count size : ℕ) : Type 0 where
  pub table_is : new.table ≡ old.table
  pub id_is : new.id ≡ old.id
  pub schema_is : new.schema ≡ old.schema
  pub count_is : new.count ≡ count
  pub size_is : new.size ≡ size
  pub batches_are : new.batches.items ≡ batches

-- so many bytes are written of the batches with one more, or they are too much with it
abbrev pub SizeWith : UploadBuilder → Rows → ℕ → Type 0
SizeWith i rows size =
    ((i.size ≤ upload_limit) × FitsFrame (served_of i.id (batch_parts (schema_of i.schema) rows))
    × (size ≡ i.size + length (field_text (bytes_field 4 (batch_text (batch_parts (schema_of i.schema) rows))))))
    ⊎ (((upload_limit < i.size) ⊎ (¬ FitsFrame (served_of i.id (batch_parts (schema_of i.schema) rows))))
    × (upload_limit < size))

-- the same upload with what a message adds
pub record Grows (message : List ℕ) (old new : UploadBuilder) : Type 0 where
  pub more : List Rows
  pub adds : Adds (schema_of old.schema) message more
  pub holds : HoldsMore more old new

-- what the end of an upload gives
abbrev pub Finishes : Upload → Result (List ℕ) CallRefusal → Type 0
Finishes upload (Ok text) = IsUpload upload × (text ≡ upload_text upload)
Finishes upload (Err refusal) =
    ((¬ IsSmall upload) × (refusal ≡ refusals.TooLarge)) ⊎ (IsSmall upload × (refusal ≡ refusals.OutOfMemory))
