-- The parts of an upload's encoding, one behind the other: Protocol Buffers, "Encoding", "Message Structure".
use Rattle.std.specs.Prelude.{◌≡◌, ◌<◌, ◌≤◌, ◌^◌, ℕ, List, [], ◌∷◌, ◌++◌, length, map, Option, None, Some}
use Rattle.std.specs.List.{AllByRecursion}
use Rattle.std.specs.Borrow.{Bor}
use Rattle.proto_fields.specs.Field.{IsFieldNumber, field_text, fields_text, present}
use Rattle.proto_messages.specs.Canonical.{bytes_field, canonical}
use Rattle.header_types.specs.Fields.{SchemaTree}
use Rattle.batch_types.specs.Cells.{Rows}
use Rattle.batch_types.specs.Canonical.{canonical_body}
use Rattle.table_types.specs.Uploads.{Upload, schema_text, head_text, batch_descriptor}
use Rattle.table_types.specs.Served.{data_text}

-- the text begins with the one encoding of a field with these bytes, and then this is left
pub record PartThen (number : ℕ) (text content rest : List ℕ) : Type 0 where
  pub parts : text ≡ field_text (bytes_field number content) ++ rest
  pub number_is : IsFieldNumber number
  pub fits : length content < 2 ^ 64

-- a batch as it is encoded: its header and its body
abbrev pub batch_parts : SchemaTree → Rows → List ℕ × List ℕ
batch_parts schema rows = (head_text schema rows, canonical_body schema rows)

-- those of all batches, in order
abbrev pub batches_parts : Upload → List (List ℕ × List ℕ)
batches_parts upload = map (batch_parts upload.schema) upload.batches

-- the field of a body, which is not written where it is empty
abbrev pub body_text : List ℕ → List ℕ
body_text body = fields_text (present (bytes_field 2 body ∷ []) ++ [])

abbrev pub batch_text : List ℕ × List ℕ → List ℕ
batch_text parts = canonical batch_descriptor (parts.0, (parts.1, tt))

-- the fields that are written of batches, one behind the other
abbrev pub batches_text : List (List ℕ × List ℕ) → List ℕ
batches_text batches = fields_text (map (λ parts. bytes_field 4 (batch_text parts)) batches)

-- the message that is served of an encoded batch, with the upload's id
abbrev pub served_of : List ℕ → List ℕ × List ℕ → List ℕ
served_of id parts = data_text parts.0 id parts.1

-- its header is not empty, and its encoding has a length of 64 bits
pub record IsEncodedBatch (parts : List ℕ × List ℕ) : Type 0 where
  pub headed : 1 ≤ length parts.0
  pub fits : length (batch_text parts) < 2 ^ 64

-- the text is what is written of these batches, and nothing else
pub record HasLeft (text : List ℕ) (batches : List (List ℕ × List ℕ)) : Type 0 where
  pub is : text ≡ batches_text batches
  pub each : AllByRecursion IsEncodedBatch batches

-- the text is the encoding of this upload, part by part
pub record HasParts (text table id schema batches : List ℕ) (upload : Upload) : Type 0 where
  pub table_is : table ≡ upload.table
  pub id_is : id ≡ upload.id
  pub schema_is : schema ≡ schema_text upload.schema
  pub batches_are : HasLeft batches (batches_parts upload)

-- the next of some batches was given, and the others are left; none where there is none
abbrev pub Gives : Option (Bor (List ℕ) × Bor (List ℕ)) → List ℕ → List (List ℕ × List ℕ) → Type 0
Gives result left [] = (result ≡ None) × HasLeft left []
Gives None left (parts ∷ rest) = ⊥
Gives (Some given) left (parts ∷ rest) = (given.0.now ≡ parts.0) × (given.1.now ≡ parts.1) × HasLeft left rest
