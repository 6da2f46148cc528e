-- What reading the schema and the batches of a text gives: Apache Arrow, "Arrow Columnar Format", "Encapsulated message
-- format".
use Rattle.std.specs.Prelude.{◌≡◌, ℕ, List, [], ◌∷◌}
use Rattle.std.specs.List.{AllByRecursion}
use Rattle.header_types.specs.Fields.{SchemaTree}
use Rattle.header_types.specs.Profile.{InProfile}
use Rattle.header_writing.specs.Written.{FitsSchema}
use Rattle.batch_types.specs.Cells.{Rows}
use Rattle.batch_types.specs.Canonical.{canonical_body}
use Rattle.batch_types.specs.Written.{CanBeWritten}
use Rattle.table_types.specs.Uploads.{schema_text, head_text}

-- the bytes are what is written of this schema
pub record IsSchemaText (bytes : List ℕ) (schema : SchemaTree) : Type 0 where
  pub profile : InProfile schema
  pub fits : FitsSchema schema
  pub is : bytes ≡ schema_text schema

-- the header and the body are those that are written of these rows
pub record AreRowsText (schema : SchemaTree) (parts : List ℕ × List ℕ) (rows : Rows) : Type 0 where
  pub can : CanBeWritten schema rows
  pub header_is : parts.0 ≡ head_text schema rows
  pub body_is : parts.1 ≡ canonical_body schema rows

-- so are all of these, one by one
abbrev pub AreBatchesText : SchemaTree → List (List ℕ × List ℕ) → List Rows → Type 0
AreBatchesText schema [] [] = Unit {0}
AreBatchesText schema [] (rows ∷ batches) = ⊥
AreBatchesText schema (parts ∷ list) [] = ⊥
AreBatchesText schema (parts ∷ list) (rows ∷ batches) = AreRowsText schema parts rows × AreBatchesText schema list batches
