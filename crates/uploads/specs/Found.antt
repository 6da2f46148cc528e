-- What is found of a text without reading its schema and its batches: the fields of an upload in their one encoding, names
-- and limits. Protocol Buffers, "Encoding"; the limits are this service's own.
use Rattle.std.specs.Prelude.{◌≡◌, ◌≤◌, ℕ, List, [], ◌++◌, length}
use Rattle.std.specs.List.{AllByRecursion}
use Rattle.proto_fields.specs.Field.{field_text}
use Rattle.proto_messages.specs.Canonical.{bytes_field}
use Rattle.table_types.specs.Served.{data_text}
use Rattle.table_types.specs.Valid.{IsTableName, IsId, FitsFrame, batches_limit, upload_limit}
use Rattle.uploads.specs.Parts.{HasLeft, IsEncodedBatch, batch_text, served_of}

-- the encoded batches are few enough, and each is served in a frame
pub record AreServed (id : List ℕ) (batches : List (List ℕ × List ℕ)) : Type 0 where
  pub few : length batches ≤ batches_limit
  pub served : AllByRecursion (λ parts. FitsFrame (served_of id parts)) batches

-- the text begins with this encoded batch, which is served in a frame, and then this is left
pub record IsNext (id text : List ℕ) (parts : List ℕ × List ℕ) (rest : List ℕ) : Type 0 where
  pub is : text ≡ field_text (bytes_field 4 (batch_text parts)) ++ rest
  pub encoded : IsEncodedBatch parts
  pub served : FitsFrame (served_of id parts)

-- the text begins with the name of a table and that of an upload, and then this is left
pub record BeginsNamed (text table id rest : List ℕ) : Type 0 where
  pub parts : text ≡ field_text (bytes_field 1 table) ++ (field_text (bytes_field 2 id) ++ rest)
  pub table_named : IsTableName table
  pub named : IsId id

-- the text has these parts, which stand in it as those of an upload do, within all limits
pub record HasUploadParts (text table id schema batches : List ℕ) : Type 0 where
  pub parts : text ≡ field_text (bytes_field 1 table) ++ (field_text (bytes_field 2 id) ++ (field_text (bytes_field 3 schema) ++ batches))
  pub short : length text ≤ upload_limit
  pub table_named : IsTableName table
  pub named : IsId id
  pub schema_there : 1 ≤ length schema
  pub schema_served : FitsFrame (data_text schema [] [])
  pub list : List (List ℕ × List ℕ)
  pub left : HasLeft batches list
  pub batches_served : AreServed id list

-- the text has the fields of an upload
abbrev pub HasUploadFields : List ℕ → Type 0
HasUploadFields text = (table id schema batches : List ℕ) × HasUploadParts text table id schema batches
