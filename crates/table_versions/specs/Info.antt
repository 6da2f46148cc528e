-- What is told of the latest version of a table.
use Rattle.std.specs.Prelude.{◌≡◌, ℕ, Option, None, Some, List, [], ◌∷◌, length, string_bytes}
use Rattle.table_types.specs.Uploads.{Upload, schema_text}
use Rattle.table_types.specs.Answers.{answer_of}
use Rattle.table_types.specs.Tables.{rows_of_uploads}
use Rattle.table_versions.specs.declared.info.TableInfo.{TableInfo}
use Rattle.table_versions.specs.declared.table.Table.{Table}

-- the table of this name with these effective uploads, of which this is the first
pub record IsInfoOf (info : TableInfo) (name : List ℕ) (first : Upload) (counted : List Upload) : Type 0 where
  pub table : string_bytes info.table ≡ name
  pub version : info.version ≡ length counted
  pub records : info.records ≡ rows_of_uploads counted
  pub total_bytes : info.total_bytes ≡ length (answer_of (record { schema = first.schema; uploads = counted }))
  pub schema : info.schema.items ≡ schema_text first.schema

-- none of a table that has no effective upload, and else this
abbrev pub IsLatest : Option TableInfo → List ℕ → List Upload → Type 0
IsLatest None name counted = counted ≡ []
IsLatest (Some info) name [] = ⊥
IsLatest (Some info) name (first ∷ rest) = IsInfoOf info name first (first ∷ rest)

-- what is told of a table, as it is kept
pub record Describes (name : List ℕ) (table : Table) (info : TableInfo) : Type 0 where
  pub name_is : string_bytes info.table ≡ name
  pub version : info.version ≡ table.version
  pub records : info.records ≡ table.records
  pub total_bytes : info.total_bytes ≡ table.total_bytes
  pub schema : info.schema.items ≡ table.schema

-- the two say the same
pub record SaysSame (one other : TableInfo) : Type 0 where
  pub table : string_bytes one.table ≡ string_bytes other.table
  pub version : one.version ≡ other.version
  pub records : one.records ≡ other.records
  pub total_bytes : one.total_bytes ≡ other.total_bytes
  pub schema : one.schema.items ≡ other.schema.items

abbrev pub SaySame : Option TableInfo → Option TableInfo → Type 0
SaySame None None = Unit {0}
SaySame None (Some other) = ⊥
SaySame (Some one) None = ⊥
SaySame (Some one) (Some other) = SaysSame one other
