-- What is kept of a list of uploads, by look-ups: of each id the upload that came first under it, of each table its
-- latest version, and of each version the frames of its last upload.
use Rattle.std.specs.Prelude.{◌≡◌, ℕ, suc, ◌==◌, ◌&&◌, Bool, Option, None, Some, List, [], ◌∷◌, map, length}
use Rattle.std.specs.Prelude.{slice_get, String, string_bytes}
use Rattle.std.specs.declared.alloc.Global.{Global}
use Rattle.std.specs.List.{AllByRecursion, flat_map}
use Rattle.std.specs.Map.{lookup, keys_of}
use Rattle.std.specs.Option.{option_map}
use Rattle.std.specs.Str.{bytes_eq}
use Rattle.header_types.specs.Fields.{SchemaTree}
use Rattle.table_types.specs.Uploads.{Upload, upload_text, schema_text}
use Rattle.table_types.specs.Valid.{IsUpload}
use Rattle.table_types.specs.Served.{in_frame, upload_messages, schema_message}
use Rattle.table_types.specs.Answers.{answer_of}
use Rattle.table_types.specs.Tables.{Outcome, shape_text, effective, first_with_id, outcome_of}
use Rattle.table_types.specs.Tables.{table_names, rows_of_upload, rows_of_uploads}
use Rattle.table_versions.specs.declared.first.First.{First}
use Rattle.table_versions.specs.declared.frame_key.FrameKey.{FrameKey}
use Rattle.table_versions.specs.declared.table.Table.{Table}
use Rattle.table_versions.specs.declared.prepared.Part.{Part}
use Rattle.table_versions.specs.declared.prepared.Prepared.{Prepared}
use Rattle.table_versions.specs.Outcomes.{told}

-- ---- what is served

-- the frames of an upload, each by itself
abbrev pub frames_of : Upload → List (List ℕ)
frames_of upload = map in_frame (upload_messages upload)

-- their bytes, one behind the other
abbrev pub frames_text : Upload → List ℕ
frames_text upload = flat_map in_frame (upload_messages upload)

-- the frame with which an answer begins
abbrev pub schema_frame_of : SchemaTree → List ℕ
schema_frame_of schema = in_frame (schema_message schema)

-- ---- the three maps

abbrev pub FirstEntries : Type 0
FirstEntries = List (List ℕ × First)

abbrev pub TableEntries : Type 0
TableEntries = List (String Global × Table)

abbrev pub FrameEntries : Type 0
FrameEntries = List (FrameKey × List (List ℕ))

abbrev pub first_in : FirstEntries → List ℕ → Option First
first_in entries id = lookup (bytes_eq id) entries

abbrev pub table_in : TableEntries → List ℕ → Option Table
table_in entries name = lookup (λ key. bytes_eq name (string_bytes key)) entries

abbrev pub is_place : FrameKey → FrameKey → Bool
is_place a b = a.table == b.table && a.version == b.version

abbrev pub frames_in : FrameEntries → ℕ → ℕ → Option (List (List ℕ))
frames_in entries number version = lookup (is_place (record { table = number; version = version })) entries

abbrev pub names_in : TableEntries → List (List ℕ)
names_in entries = map string_bytes (keys_of entries)

-- ---- what they hold of uploads

-- the first of an id: its encoding, and what is told of it
abbrev pub seen_first : First → List ℕ × Outcome
seen_first first = (first.text, told first.outcome)

abbrev pub told_of_first : List Upload → Upload → List ℕ × Outcome
told_of_first uploads first = (upload_text first, outcome_of uploads first)

-- a table with these effective uploads, of which this is the first
pub record IsTableOf (table : Table) (first : Upload) (counted : List Upload) : Type 0 where
  pub schema : table.schema ≡ schema_text first.schema
  pub shape : table.shape ≡ shape_text first
  pub schema_frame : table.schema_frame ≡ schema_frame_of first.schema
  pub version : table.version ≡ length counted
  pub records : table.records ≡ rows_of_uploads counted
  pub total_bytes : table.total_bytes ≡ length (answer_of (record { schema = first.schema; uploads = counted }))

abbrev pub IsTable : Option Table → List Upload → Type 0
IsTable None [] = Unit {0}
IsTable None (first ∷ rest) = ⊥
IsTable (Some table) [] = ⊥
IsTable (Some table) (first ∷ rest) = IsTableOf table first (first ∷ rest)

-- the frames of these uploads stand at the versions from this one on
abbrev pub HasFrames : FrameEntries → ℕ → ℕ → List Upload → Type 0
HasFrames frames number version [] = Unit {0}
HasFrames frames number version (upload ∷ rest) =
    (frames_in frames number version ≡ Some (frames_of upload)) × HasFrames frames number (suc version) rest

-- Of each id, table and version this is kept; a table's number is its place among the names.
pub record IsLedger (first_uploads : FirstEntries) (tables : TableEntries) (frames : FrameEntries)
    (uploads : List Upload) : Type 0 where
  pub valid : AllByRecursion IsUpload uploads
  pub firsts_are : (id : List ℕ) → option_map seen_first (first_in first_uploads id)
      ≡ option_map (told_of_first uploads) (first_with_id id uploads)
  pub tables_are : (name : List ℕ) → IsTable (table_in tables name) (effective name uploads)
  pub numbers_are : (name : List ℕ) (table : Table) → table_in tables name ≡ Some table
      → slice_get (names_in tables) table.number ≡ Some name
  pub frames_are : (name : List ℕ) (table : Table) → table_in tables name ≡ Some table
      → HasFrames frames table.number 1 (effective name uploads)
  pub names_are : names_in tables ≡ table_names uploads

-- ---- what is ready to be taken

-- what an upload adds to its table
pub record IsPartOf (part : Part) (upload : Upload) : Type 0 where
  pub schema : part.schema ≡ schema_text upload.schema
  pub shape : part.shape ≡ shape_text upload
  pub schema_frame : part.schema_frame ≡ schema_frame_of upload.schema
  pub frames : part.frames ≡ frames_of upload
  pub bytes : part.bytes ≡ length (frames_text upload)
  pub records : part.records ≡ rows_of_upload upload

-- the upload, with all that taking it needs
pub record IsPrepared (prepared : Prepared) (upload : Upload) : Type 0 where
  pub valid : IsUpload upload
  pub id : prepared.id ≡ upload.id
  pub text : prepared.text ≡ upload_text upload
  pub table : string_bytes prepared.table ≡ upload.table
  pub part : IsPartOf prepared.part upload
