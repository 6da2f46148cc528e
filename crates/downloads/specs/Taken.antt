-- What the messages that came are, as the program has it.
use Rattle.std.specs.Prelude.{◌≡◌, ℕ, List, [], ◌++◌, map, Option, Some, None}
use Rattle.std.specs.List.{AllByRecursion}
use Rattle.header_types.specs.Fields.{SchemaTree}
use Rattle.header_types.specs.Profile.{InProfile}
use Rattle.header_types.specs.Views.{schema_of}
use Rattle.batch_columns.specs.Batches.{rows_of, IsBatchOf}
use Rattle.table_types.specs.Valid.{FitsFrame}
use Rattle.downloads.specs.declared.download.ServedUpload.{ServedUpload}
use Rattle.downloads.specs.declared.download.Download.{Download}
use Rattle.downloads.specs.declared.downloading.Downloading.{Downloading}
use Rattle.downloads.specs.declared.downloading.Downloading.TheVariants as come
use Rattle.downloads.specs.Downloads.{ServedUpload as Served, Downloaded, IsDownload, IsGrouped}

-- ---- a download

-- the upload: its id, and the rows of its batches
abbrev pub served_in : ServedUpload → Served
served_in upload = record { id = upload.id; batches = map rows_of upload.batches.items }

abbrev pub downloaded_in : Download → Downloaded
downloaded_in download =
    record { schema = schema_of download.schema; uploads = map served_in download.uploads.items }

-- each of its batches has the columns of the schema
abbrev pub HasBatchesOf : SchemaTree → ServedUpload → Type 0
HasBatchesOf schema upload = AllByRecursion (IsBatchOf schema) upload.batches.items

-- the messages are those of this download, whose batches have the columns of its schema
pub record GivesDownload (messages : List (List ℕ)) (download : Download) : Type 0 where
  pub is : IsDownload messages (downloaded_in download)
  pub columns : AllByRecursion (HasBatchesOf (schema_of download.schema)) download.uploads.items

-- the messages are those of some download
abbrev pub HasDownload : List (List ℕ) → Type 0
HasDownload messages = (downloaded : Downloaded) × IsDownload messages downloaded

-- the download of which these are the messages; or they are those of none
abbrev pub TellsDownload : List (List ℕ) → Option Download → Type 0
TellsDownload messages (Some download) = GivesDownload messages download
TellsDownload messages None = ¬ HasDownload messages

-- ---- messages that came

-- the messages group into the uploads of this download, whose batches have the columns of its schema
pub record GivesGrouped (messages : List (List ℕ)) (download : Download) : Type 0 where
  pub is : IsGrouped messages (downloaded_in download)
  pub columns : AllByRecursion (HasBatchesOf (schema_of download.schema)) download.uploads.items

-- a schema that came is in profile
abbrev pub IsReady : Downloading → Type 0
IsReady come.Begun = Unit {0}
IsReady (come.Reached download) = InProfile (schema_of download.schema)
IsReady come.Spoiled = Unit {0}

-- none came; or these group into the uploads of this; or they are those of no download, whatever follows them
abbrev pub AreTaken : Downloading → List (List ℕ) → Type 0
AreTaken come.Begun messages = messages ≡ []
AreTaken (come.Reached download) messages = GivesGrouped messages download
AreTaken come.Spoiled messages = (further : List (List ℕ)) → ¬ HasDownload (messages ++ further)

-- the messages came, each of which a frame has room for, and this was made of them
pub record HasTaken (downloading : Downloading) (messages : List (List ℕ)) : Type 0 where
  pub fit : AllByRecursion FitsFrame messages
  pub taken : AreTaken downloading messages
