-- What the messages of an answer to a ticket say: Apache Arrow, "Flight.proto", `FlightData`, and "Arrow Flight RPC",
-- "Downloading Data". First comes a schema, and then what is served of each upload: a message a batch, each with the upload's own
-- name, the header of the batch and its one body; or, of an upload without batches, one message with the id alone. That
-- uploads are told apart by their ids is this service's own. These are the `answer_messages` of a version, where no two
-- uploads have one id.
use Rattle.std.specs.Prelude.{◌≡◌, ◌≢◌, ℕ, List, [], ◌∷◌, map}
use Rattle.std.specs.List.{AllByRecursion, flat_map}
use Rattle.header_types.specs.Fields.{SchemaTree}
use Rattle.header_types.specs.Profile.{InProfile}
use Rattle.header_types.specs.SameShape.{SameShape}
use Rattle.header_writing.specs.Written.{FitsSchema}
use Rattle.batch_types.specs.Cells.{Rows}
use Rattle.batch_types.specs.Written.{CanBeWritten}
use Rattle.table_types.specs.Uploads.{Upload}
use Rattle.table_types.specs.Served.{upload_messages, schema_message}
use Rattle.table_types.specs.Tables.{Version}
use Rattle.table_types.specs.Valid.{IsId, IsUpload}

-- what is served of an upload: its id, and its batches
pub record ServedUpload : Type 0 where
  pub id : List ℕ
  pub batches : List Rows

-- what an answer has: a schema, and what is served of each upload
pub record Downloaded : Type 0 where
  pub schema : SchemaTree
  pub uploads : List ServedUpload

-- an upload of this, to a table of which nothing is said
abbrev pub as_upload : SchemaTree → ServedUpload → Upload
as_upload schema served = record { table = []; id = served.id; schema = schema; batches = served.batches }

-- the messages in which it is served
abbrev pub served_messages : SchemaTree → ServedUpload → List (List ℕ)
served_messages schema served = upload_messages (as_upload schema served)

-- its id is such, and its batches are rows of the schema
pub record IsServed (schema : SchemaTree) (served : ServedUpload) : Type 0 where
  pub named : IsId served.id
  pub batches_written : AllByRecursion (CanBeWritten schema) served.batches

-- no two have one id
abbrev pub IdsDiffer : List ServedUpload → Type 0
IdsDiffer [] = Unit {0}
IdsDiffer (one ∷ others) = AllByRecursion (λ (other : ServedUpload). one.id ≢ other.id) others × IdsDiffer others

-- the messages are the schema's, and then those of each upload, of which no two have one id
pub record IsDownload (messages : List (List ℕ)) (downloaded : Downloaded) : Type 0 where
  pub messages_are : messages ≡ schema_message downloaded.schema ∷ flat_map (served_messages downloaded.schema) downloaded.uploads
  pub profile : InProfile downloaded.schema
  pub schema_fits : FitsSchema downloaded.schema
  pub each : AllByRecursion (IsServed downloaded.schema) downloaded.uploads
  pub ids_differ : IdsDiffer downloaded.uploads

-- ---- while the messages come

-- no two that stand side by side have one id
abbrev pub IdsChange : List ServedUpload → Type 0
IdsChange [] = Unit {0}
IdsChange (last ∷ []) = Unit {0}
IdsChange (one ∷ next ∷ others) = (one.id ≢ next.id) × IdsChange (next ∷ others)

-- as `IsDownload`, save that an id may come again further on: what follows one another under one id is of one upload, so that
-- the messages are of one list of uploads at most already
pub record IsGrouped (messages : List (List ℕ)) (downloaded : Downloaded) : Type 0 where
  pub messages_are : messages ≡ schema_message downloaded.schema ∷ flat_map (served_messages downloaded.schema) downloaded.uploads
  pub profile : InProfile downloaded.schema
  pub schema_fits : FitsSchema downloaded.schema
  pub each : AllByRecursion (IsServed downloaded.schema) downloaded.uploads
  pub ids_change : IdsChange downloaded.uploads

-- ---- versions

-- what is served of an upload of a version
abbrev pub served_of : Upload → ServedUpload
served_of upload = record { id = upload.id; batches = upload.batches }

abbrev pub downloaded_of : Version → Downloaded
downloaded_of version = record { schema = version.schema; uploads = map served_of version.uploads }

-- it is one that is taken, and it has the shape of the version's schema
abbrev pub IsOfVersion : SchemaTree → Upload → Type 0
IsOfVersion schema upload = IsUpload upload × SameShape upload.schema schema

-- a version of such uploads, of which no two have one id
pub record IsServedVersion (version : Version) : Type 0 where
  pub profile : InProfile version.schema
  pub schema_fits : FitsSchema version.schema
  pub each : AllByRecursion (IsOfVersion version.schema) version.uploads
  pub ids_differ : IdsDiffer (map served_of version.uploads)
