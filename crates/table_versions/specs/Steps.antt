-- What the steps change in what is kept, by which an upload whose id is new is taken.
use Rattle.std.specs.Prelude.{◌≡◌, ◌≢◌, ◌↔◌, ℕ, suc, ◌+◌, ◌^◌, ◌<◌, IsTrue, Bool, false, Option, None, Some, List, [], ◌∷◌}
use Rattle.std.specs.Prelude.{◌++◌, length}
use Rattle.std.specs.Str.{bytes_eq}
use Rattle.table_types.specs.Tables.{Outcome, applied, mismatched}
use Rattle.table_versions.specs.declared.first.First.{First}
use Rattle.table_versions.specs.declared.frame_key.FrameKey.{FrameKey}
use Rattle.table_versions.specs.declared.table.Table.{Table}
use Rattle.table_versions.specs.declared.prepared.Part.{Part}
use Rattle.table_versions.specs.Ledger.{FirstEntries, TableEntries, FrameEntries, first_in, table_in, is_place}
use Rattle.table_versions.specs.Ledger.{frames_in, names_in}

-- the first of an id is put, and the others are as before
pub record PutsFirst (old new : FirstEntries) (id : List ℕ) (first : First) : Type 0 where
  pub here : first_in new id ≡ Some first
  pub others : (other : List ℕ) → bytes_eq id other ≡ false → first_in new other ≡ first_in old other

-- a table is put, and the others are as before
pub record PutsTable (old new : TableEntries) (name : List ℕ) (table : Table) : Type 0 where
  pub here : table_in new name ≡ Some table
  pub others : (other : List ℕ) → bytes_eq name other ≡ false → table_in new other ≡ table_in old other

-- the frames of a version are put, and the others are as before
pub record PutsFrames (old new : FrameEntries) (place : FrameKey) (frames : List (List ℕ)) : Type 0 where
  pub here : frames_in new place.table place.version ≡ Some frames
  pub others : (number version : ℕ) → is_place place (record { table = number; version = version }) ≡ false
      → frames_in new number version ≡ frames_in old number version

-- a table of a new number with this part alone
pub record IsOpened (table : Table) (number : ℕ) (part : Part) : Type 0 where
  pub number_is : table.number ≡ number
  pub schema : table.schema ≡ part.schema
  pub shape : table.shape ≡ part.shape
  pub schema_frame : table.schema_frame ≡ part.schema_frame
  pub version : table.version ≡ 1
  pub records : table.records ≡ part.records
  pub total_bytes : table.total_bytes ≡ length part.schema_frame + part.bytes

-- a table with the rows and the bytes of one upload more
pub record IsGrown (old new : Table) (records bytes : ℕ) : Type 0 where
  pub number_is : new.number ≡ old.number
  pub schema : new.schema ≡ old.schema
  pub shape : new.shape ≡ old.shape
  pub schema_frame : new.schema_frame ≡ old.schema_frame
  pub version : new.version ≡ suc old.version
  pub records_are : new.records ≡ old.records + records
  pub total_bytes : new.total_bytes ≡ old.total_bytes + bytes

-- a table has room for the numbers of one upload more
abbrev pub HasRoomToGrow : Option Table → Part → Type 0
HasRoomToGrow None part = length part.schema_frame + part.bytes < 2 ^ 64
HasRoomToGrow (Some table) part =
    (table.version + 1 < 2 ^ 64) × (table.records + part.records < 2 ^ 64)
    × (table.total_bytes + part.bytes < 2 ^ 64)

-- whether the table is of this shape was told, and nothing where there is no table
abbrev pub TellsShape : Option Table → List ℕ → Option Bool → Type 0
TellsShape None shape like = like ≡ None
TellsShape (Some table) shape None = ⊥
TellsShape (Some table) shape (Some like) = IsTrue like ↔ (table.shape ≡ shape)

-- a table grew by one upload, and the version that this makes stands at the place
pub record Grows (tables more : TableEntries) (name : List ℕ) (old : Table) (records bytes : ℕ) (place : FrameKey)
    : Type 0 where
  pub grown : Table
  pub grows : PutsTable tables more name grown
  pub is_grown : IsGrown old grown records bytes
  pub place_table : place.table ≡ old.number
  pub place_version : place.version ≡ grown.version

-- the first upload to a table opened it
pub record OpensTable (tables more : TableEntries) (frames served : FrameEntries) (name : List ℕ) (part : Part)
    : Type 0 where
  pub table : Table
  pub place : FrameKey
  pub opens : PutsTable tables more name table
  pub serves : PutsFrames frames served place part.frames
  pub names : names_in more ≡ names_in tables ++ name ∷ []
  pub opened : IsOpened table (length (names_in tables)) part
  pub place_table : place.table ≡ length (names_in tables)
  pub place_version : place.version ≡ 1

-- a further upload to a table made the next version of it
pub record AddsVersion (tables more : TableEntries) (frames served : FrameEntries) (name : List ℕ) (part : Part)
    (old : Table) (version : ℕ) : Type 0 where
  pub place : FrameKey
  pub grows : Grows tables more name old part.records part.bytes place
  pub serves : PutsFrames frames served place part.frames
  pub names : names_in more ≡ names_in tables
  pub version_is : version ≡ place.version

-- an upload of another shape changed nothing
pub record ChangesNothing (tables more : TableEntries) (frames served : FrameEntries) : Type 0 where
  pub tables_stay : more ≡ tables
  pub frames_stay : served ≡ frames

-- a new upload opened its table, made the next version of it, or was of another shape
pub record Places (tables more : TableEntries) (frames served : FrameEntries) (name : List ℕ) (part : Part)
    (outcome : Outcome) : Type 0 where
  pub first : table_in tables name ≡ None → OpensTable tables more frames served name part × (outcome ≡ applied 1)
  pub like : (old : Table) → table_in tables name ≡ Some old → old.shape ≡ part.shape
      → (version : ℕ) × AddsVersion tables more frames served name part old version × (outcome ≡ applied version)
  pub unlike : (old : Table) → table_in tables name ≡ Some old
      → old.shape ≢ part.shape
      → ChangesNothing tables more frames served × (outcome ≡ mismatched)
