-- Which upload is made of the lines of a text, what a put of them sends, and what it is told. What lines tell is that of
-- `json_rows`, an upload that of `table_types`, and a request and its answer those of `client_calls`.
use Rattle.std.specs.Prelude.{◌≡◌, ◌≢◌, ℕ, List, length, map, Option, Some, None, Result, Ok, Err}
use Rattle.std.specs.List.{AllByRecursion}
use Rattle.serde_json.specs.Data.{Data}
use Rattle.header_types.specs.Fields.{SchemaTree}
use Rattle.batch_columns.specs.declared.batch.Batch.{Batch}
use Rattle.batch_columns.specs.Batches.{rows_of}
use Rattle.table_types.specs.Uploads.{Upload}
use Rattle.table_types.specs.Valid.{IsUpload}
use Rattle.uploads.specs.declared.upload_fault.UploadFault.{UploadFault}
use Rattle.uploads.specs.Making.{AreRefused}
use Rattle.client_calls.specs.Answers.{Receives, Requests}
use Rattle.client_calls.specs.Requests.{put_request}
use Rattle.client_calls.specs.Results.{GivesVersion, HasVersion}
use Rattle.json_rows.specs.declared.fault.JsonFault.{JsonFault}
use Rattle.json_rows.specs.declared.fault.JsonFault.TheVariants.{NoRows}
use Rattle.json_rows.specs.Lines.{IsOfLines, TellsBatches, TellsSomeRow, TellsValues}
use Rattle.json_client.specs.declared.fault.RowCallFault.{RowCallFault}
use Rattle.json_client.specs.declared.fault.RowCallFault.TheVariants as faults

-- ---- uploads of rows

-- the schema is the one that was given; where none was, each of the values tells a row of it
abbrev pub IsSchemaFor : Option SchemaTree → List Data → SchemaTree → Type 0
IsSchemaFor (Some given) values schema = schema ≡ given
IsSchemaFor None values schema = AllByRecursion (TellsSomeRow schema.fields) values

-- the upload is one to this table, under this id, and its batches, one behind the other, are the rows that the
-- lines of the text tell
pub record IsUploadOfRows (table id : List ℕ) (given : Option SchemaTree) (text : List ℕ) (upload : Upload) : Type 0 where
  pub table_is : upload.table ≡ table
  pub id_is : upload.id ≡ id
  pub valid : IsUpload upload
  pub values : List Data
  pub told : TellsValues text values
  pub schema_is : IsSchemaFor given values upload.schema
  pub rows : TellsBatches upload.schema.fields values upload.batches

-- ---- where none is made

-- the rows that the lines tell make no upload, for this reason
pub record AreRefusedRows (table id : List ℕ) (given : Option SchemaTree) (text : List ℕ) (fault : UploadFault) : Type 0 where
  pub schema : SchemaTree
  pub batches : List Batch
  pub values : List Data
  pub told : TellsValues text values
  pub schema_is : IsSchemaFor given values schema
  pub rows : TellsBatches schema.fields values (map rows_of batches)
  pub refused : AreRefused table id schema batches fault

-- Where a schema was given, that a line tells no row of it is told of no text of which each line tells one, and never that there is
-- no line to make one of; where none was, that is told of the empty text alone.
abbrev pub TellsNoRows : Option SchemaTree → List ℕ → JsonFault → Type 0
TellsNoRows (Some given) text fault =
    (fault ≢ NoRows)
    × ((values : List Data) → TellsValues text values → AllByRecursion (TellsSomeRow given.fields) values → IsOfLines fault → ⊥)
TellsNoRows None text fault = fault ≡ NoRows → length text ≡ 0

abbrev pub MakesNoUpload : List ℕ → List ℕ → Option SchemaTree → List ℕ → RowCallFault → Type 0
MakesNoUpload table id given text (faults.Call fault) = ⊥
MakesNoUpload table id given text (faults.Rows fault) = TellsNoRows given text fault
MakesNoUpload table id given text (faults.Upload fault) = AreRefusedRows table id given text fault
MakesNoUpload table id given text faults.Output = ⊥

-- ---- what is sent and what is told

-- the request of an upload of the rows has gone out, as that of a put of the upload; of rows that make none nothing has
abbrev pub PutsRows : List ℕ → List ℕ → Option SchemaTree → List ℕ → Result ℕ RowCallFault → List ℕ → List ℕ → Type 0
PutsRows table id given text (Ok version) old new =
    (upload : Upload) × IsUploadOfRows table id given text upload × Requests (Ok version) (put_request upload) old new
PutsRows table id given text (Err (faults.Call fault)) old new =
    (upload : Upload) × IsUploadOfRows table id given text upload × Requests {T = ℕ} (Err fault) (put_request upload) old new
PutsRows table id given text (Err (faults.Rows fault)) old new = TellsNoRows given text fault × (new ≡ old)
PutsRows table id given text (Err (faults.Upload fault)) old new = AreRefusedRows table id given text fault × (new ≡ old)
PutsRows table id given text (Err faults.Output) old new = ⊥

-- what came back is the answer to an upload of this id; of rows that make none nothing was read
abbrev pub IsToldOfPut : List ℕ → Result ℕ RowCallFault → List ℕ → List ℕ → Type 0
IsToldOfPut id (Ok version) text rest = Receives (GivesVersion id) (HasVersion id) (Ok version) text rest
IsToldOfPut id (Err (faults.Call fault)) text rest = Receives (GivesVersion id) (HasVersion id) (Err fault) text rest
IsToldOfPut id (Err (faults.Rows fault)) text rest = rest ≡ text
IsToldOfPut id (Err (faults.Upload fault)) text rest = rest ≡ text
IsToldOfPut id (Err faults.Output) text rest = ⊥
