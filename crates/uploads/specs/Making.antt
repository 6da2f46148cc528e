-- Which upload a table's name, an upload's own, a schema and batches make, or why they make none. All limits are this
-- service's own.
use Rattle.std.specs.Prelude.{ℕ, ◌<◌, ◌≤◌, List, length, map}
use Rattle.std.specs.List.{AllByRecursion}
use Rattle.header_types.specs.Fields.{SchemaTree}
use Rattle.header_types.specs.Profile.{InProfile}
use Rattle.batch_columns.specs.Batches.{rows_of, IsBatchOf}
use Rattle.batch_columns.specs.declared.batch.Batch.{Batch}
use Rattle.table_types.specs.Uploads.{Upload, upload_text}
use Rattle.table_types.specs.Served.{upload_messages, schema_message}
use Rattle.table_types.specs.Valid.{IsTableName, FitsFrame, batches_limit, upload_limit}
use Rattle.uploads.specs.declared.upload_fault.UploadFault.{UploadFault}
use Rattle.uploads.specs.declared.upload_fault.UploadFault.TheVariants as fault

-- the upload of these parts
abbrev pub upload_of : List ℕ → List ℕ → SchemaTree → List Batch → Upload
upload_of table id schema batches =
    record { table = table; id = id; schema = schema; batches = map rows_of batches }

-- the schema is one that can be written and read back, and each batch is of it
pub record AreOfSchema (schema : SchemaTree) (batches : List Batch) : Type 0 where
  pub profile : InProfile schema
  pub each : AllByRecursion (IsBatchOf schema) batches

-- its encoding is not too long, nor is a message that is served of it
pub record IsSmall (upload : Upload) : Type 0 where
  pub short : length (upload_text upload) ≤ upload_limit
  pub schema_served : FitsFrame (schema_message upload.schema)
  pub batches_served : AllByRecursion FitsFrame (upload_messages upload)

-- an upload is made of these parts
pub record AreMade (table id : List ℕ) (schema : SchemaTree) (batches : List Batch) : Type 0 where
  pub named : IsTableName table
  pub few : length batches ≤ batches_limit
  pub of_schema : AreOfSchema schema batches
  pub small : IsSmall (upload_of table id schema batches)

-- This fault is told of these parts: the first that stands in them. Of memory only where none does.
abbrev pub AreRefused : List ℕ → List ℕ → SchemaTree → List Batch → UploadFault → Type 0
AreRefused table id schema batches fault.BadTable = ¬ IsTableName table
AreRefused table id schema batches fault.TooManyBatches = IsTableName table × (batches_limit < length batches)
AreRefused table id schema batches fault.ShapeDiffers =
    IsTableName table × (length batches ≤ batches_limit) × (¬ AreOfSchema schema batches)
AreRefused table id schema batches fault.TooLarge =
    IsTableName table × (length batches ≤ batches_limit) × AreOfSchema schema batches
    × (¬ IsSmall (upload_of table id schema batches))
AreRefused table id schema batches fault.OutOfMemory = AreMade table id schema batches
