-- Which uploads are taken. All limits are this service's own.
use Rattle.std.specs.Prelude.{◌≡◌, ◌⊎◌, ℕ, ◌<◌, ◌≤◌, ◌^◌, List, length}
use Rattle.std.specs.List.{AllByRecursion}
use Rattle.grpc_frames.specs.Frame.{payload_limit}
use Rattle.header_types.specs.Profile.{InProfile}
use Rattle.header_writing.specs.Written.{FitsSchema}
use Rattle.batch_types.specs.Written.{CanBeWritten}
use Rattle.table_types.specs.Uploads.{Upload, upload_text}
use Rattle.table_types.specs.Served.{upload_messages, schema_message}

-- ---- limits

-- the most bytes of a table's name
abbrev pub name_limit : ℕ
name_limit = 64

-- how many bytes the id of an upload has
abbrev pub id_size : ℕ
id_size = 16

-- the most batches of an upload
abbrev pub batches_limit : ℕ
batches_limit = 1024

-- the most bytes of an upload's encoding
abbrev pub upload_limit : ℕ
upload_limit = 16777216

-- ---- names

-- between two bytes, both among them
abbrev pub IsBetween : ℕ → ℕ → ℕ → Type 0
IsBetween first last byte = (first ≤ byte) × (byte ≤ last)

-- a digit, a letter of ASCII, `_`, `.` or `-`
abbrev pub IsNameByte : ℕ → Type 0
IsNameByte byte =
    IsBetween 48 57 byte ⊎ (IsBetween 65 90 byte ⊎ (IsBetween 97 122 byte ⊎ ((byte ≡ 95) ⊎ ((byte ≡ 46) ⊎ (byte ≡ 45)))))

pub record IsTableName (name : List ℕ) : Type 0 where
  pub some : 1 ≤ length name
  pub short : length name ≤ name_limit
  pub each : AllByRecursion IsNameByte name

pub record IsId (id : List ℕ) : Type 0 where
  pub whole : length id ≡ id_size
  pub bytes : AllByRecursion (λ byte. byte < 256) id

-- ---- uploads

-- a message that a frame has room for
abbrev pub FitsFrame : List ℕ → Type 0
FitsFrame message = length message ≤ payload_limit

-- Its id and its table's name are such; its schema can be written, and so can its batches, which are of it and not too many;
-- its encoding is not too long, nor is a message that is served of it.
pub record IsUpload (upload : Upload) : Type 0 where
  pub table_named : IsTableName upload.table
  pub named : IsId upload.id
  pub batches_few : length upload.batches ≤ batches_limit
  pub profile : InProfile upload.schema
  pub schema_fits : FitsSchema upload.schema
  pub batches_written : AllByRecursion (CanBeWritten upload.schema) upload.batches
  pub short : length (upload_text upload) ≤ upload_limit
  pub schema_served : FitsFrame (schema_message upload.schema)
  pub batches_served : AllByRecursion FitsFrame (upload_messages upload)
