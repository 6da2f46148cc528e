-- What tables a list of uploads makes: which of them count, which version of its table each makes, and what is told of an
-- upload. All of it is of the whole list, in the order in which the uploads were agreed on. An upload counts once, by its
-- own id, whatever comes later under that id; and a table has one shape, that of the first upload that counts.
use Rattle.std.specs.Prelude.{ℕ, ◌+◌, suc, Bool, true, not, ◌&&◌, if◌then◌else◌, Option, None, Some, List, [], ◌∷◌, ◌++◌, length, take}
use Rattle.std.specs.Prelude.{nat_le}
use Rattle.std.specs.List.{sum_by, list_any}
use Rattle.std.specs.Str.{bytes_eq}
use Rattle.header_types.specs.Fields.{SchemaTree}
use Rattle.header_types.specs.SameShape.{bare_forest}
use Rattle.table_types.specs.Uploads.{Upload, upload_text, schema_text}

-- ---- one upload

abbrev pub has_id : List ℕ → Upload → Bool
has_id id upload = bytes_eq upload.id id

abbrev pub is_to : List ℕ → Upload → Bool
is_to table upload = bytes_eq upload.table table

-- a schema without any metadata
abbrev pub bare_schema : SchemaTree → SchemaTree
bare_schema schema = record { fields = bare_forest schema.fields; metadata = [] }

-- its schema without any metadata, as it is written
abbrev pub shape_text : Upload → List ℕ
shape_text upload = schema_text (bare_schema upload.schema)

abbrev pub has_shape : List ℕ → Upload → Bool
has_shape shape upload = bytes_eq (shape_text upload) shape

-- the same upload, as its encoding says
abbrev pub is_same : Upload → Upload → Bool
is_same one other = bytes_eq (upload_text one) (upload_text other)

-- ---- the uploads that count

-- those of a list that come first of their ids, where these came before it
abbrev pub firsts : List Upload → List Upload → List Upload
firsts before [] = []
firsts before (upload ∷ rest) =
    (if list_any (has_id upload.id) before then [] else upload ∷ []) ++ firsts (before ++ upload ∷ []) rest

-- it has the shape of the first of these, if there is one
abbrev pub fits : List Upload → Upload → Bool
fits [] upload = true
fits (first ∷ rest) upload = has_shape (shape_text first) upload

-- whether an upload counts where it stands, behind these uploads, of which those to its table count: it is the first of
-- its id, and has the shape of its table
abbrev pub counts_here : List Upload → List Upload → Upload → Bool
counts_here before counted upload = not (list_any (has_id upload.id) before) && fits counted upload

-- the uploads to a table that count, of a list behind these, of which those to the table count
abbrev pub counted_behind : List ℕ → List Upload → List Upload → List Upload → List Upload
counted_behind table before counted [] = []
counted_behind table before counted (upload ∷ rest) =
    if is_to table upload && counts_here before counted upload
    then upload ∷ counted_behind table (before ++ upload ∷ []) (counted ++ upload ∷ []) rest
    else counted_behind table (before ++ upload ∷ []) counted rest

-- the effective uploads to a table: those that count, each where it stands in the whole list
abbrev pub effective : List ℕ → List Upload → List Upload
effective table uploads = counted_behind table [] [] uploads

-- ---- versions

-- the schema with which a version is served, and its uploads in order
pub record Version : Type 0 where
  pub schema : SchemaTree
  pub uploads : List Upload

abbrev pub first_of_all : ℕ → List Upload → Option Version
first_of_all number [] = None
first_of_all number (upload ∷ rest) =
    if nat_le number (length (upload ∷ rest))
    then Some (record { schema = upload.schema; uploads = take number (upload ∷ rest) })
    else None

-- version `number` of a table: its first so many effective uploads, with the schema of the first; none where it has fewer
abbrev pub version_of : List ℕ → ℕ → List Upload → Option Version
version_of table number uploads = first_of_all number (effective table uploads)

-- ---- tables in order

-- the names of tables, each at its first upload of these, where no upload to it stands among these before them
abbrev pub names_after : List Upload → List Upload → List (List ℕ)
names_after before [] = []
names_after before (upload ∷ rest) =
    (if list_any (is_to upload.table) before then [] else upload.table ∷ []) ++ names_after (before ++ upload ∷ []) rest

-- The tables that there are, in the order of their first effective uploads: an upload is the first effective one of its
-- table where no other to it came first of its id.
abbrev pub table_names : List Upload → List (List ℕ)
table_names uploads = names_after [] (firsts [] uploads)

-- the rows of uploads, over all batches
abbrev pub rows_of_upload : Upload → ℕ
rows_of_upload upload = sum_by (λ rows. rows.count) upload.batches

abbrev pub rows_of_uploads : List Upload → ℕ
rows_of_uploads uploads = sum_by rows_of_upload uploads

-- ---- what is told of an upload

pub data Outcome : Type 0 where
  -- it is the last upload of this version of its table
  applied : ℕ → Outcome
  -- it has another shape than its table
  mismatched : Outcome
  -- another upload came first under its id
  conflicting : Outcome
  -- none of its id has come
  unknown : Outcome

-- the first with this id
abbrev pub first_with_id : List ℕ → List Upload → Option Upload
first_with_id id [] = None
first_with_id id (upload ∷ rest) = if has_id id upload then Some upload else first_with_id id rest

-- at which place it stands, from 1 on
abbrev pub place_from : ℕ → List ℕ → List Upload → Outcome
place_from place id [] = mismatched
place_from place id (upload ∷ rest) = if has_id id upload then applied place else place_from (suc place) id rest

abbrev pub told_of : Option Upload → Upload → List Upload → Outcome
told_of None upload counted = unknown
told_of (Some first) upload counted = if is_same first upload then place_from 1 upload.id counted else conflicting

abbrev pub outcome_of : List Upload → Upload → Outcome
outcome_of uploads upload = told_of (first_with_id upload.id uploads) upload (effective upload.table uploads)
