-- What is served of an upload, made once, and the parts that it is made of.
use Rattle.std.specs.Prelude.{◌≡◌, ℕ, ◌≤◌, List, length}
use Rattle.header_types.specs.Fields.{SchemaTree}
use Rattle.header_types.specs.Profile.{InProfile}
use Rattle.batch_types.specs.Cells.{Rows}
use Rattle.batch_types.specs.Canonical.{canonical_body}
use Rattle.batch_types.specs.Written.{CanBeWritten}
use Rattle.table_types.specs.Uploads.{Upload, head_text}
use Rattle.table_types.specs.Valid.{upload_limit}
use Rattle.table_types.specs.Tables.{rows_of_upload}
use Rattle.table_versions.specs.declared.preparing.ServedFrames.{ServedFrames}
use Rattle.table_versions.specs.Ledger.{frames_of}

-- the bytes are the header that is written of these rows
pub record IsWrittenHead (bytes : List ℕ) (schema : SchemaTree) (rows : Rows) : Type 0 where
  pub profile : InProfile schema
  pub can : CanBeWritten schema rows
  pub short : length (canonical_body schema rows) ≤ upload_limit
  pub is : bytes ≡ head_text schema rows

-- the frames and the rows are those of the upload
pub record IsServed (upload : Upload) (served : ServedFrames) : Type 0 where
  pub frames : served.frames.items ≡ frames_of upload
  pub records : served.records ≡ rows_of_upload upload
