-- What a backend of tables may answer, by the uploads that its tables have taken: `table_types` has what tables these make,
-- and which versions and outcomes.
use Rattle.std.specs.Prelude.{◌≡◌, ◌≢◌, ◌⊎◌, ◌≤◌, ◌<◌, ◌++◌, ℕ, List, [], ◌∷◌, length, None, Some, map, string_bytes}
use Rattle.std.specs.List.{AllZip}
use Rattle.ballots.specs.declared.value.Value.{Value}
use Rattle.ballots.specs.declared.value.Value.TheVariants as agreed
use Rattle.table_types.specs.Uploads.{Upload, upload_text}
use Rattle.table_types.specs.Valid.{IsUpload}
use Rattle.table_types.specs.Answers.{answer_of}
use Rattle.table_types.specs.Tables.{effective, version_of, Outcome, applied, mismatched, conflicting, unknown, outcome_of}
use Rattle.table_types.specs.Tables.{table_names, rows_of_uploads}
use Rattle.table_versions.specs.Values.{AreUploadsIn}
use Rattle.table_versions.specs.State.{agreed_values_limit, TablesState, HasTaken, IsSame}
use Rattle.call_protocol.specs.declared.back_fault.BackFault.{BackFault}
use Rattle.call_protocol.specs.declared.back_fault.BackFault.TheVariants as faults
use Rattle.call_reading.specs.Requests.{Request, describes, shows, lists, serves, puts}
use Rattle.table_versions.specs.Info.{IsInfoOf}
use Rattle.flight_calls.specs.declared.table_description.TableDescription.{TableDescription}
use Rattle.flight_calls.specs.Replies.{BackAnswer, Description, described, shown, listed, served, decided, failed}

-- tables, where they are served, how many uploads they take, and the uploads that were handed over
pub record BackendState : Type 0 where
  pub tables : TablesState
  pub locations : List (List ℕ)
  pub slots : ℕ
  pub handed : List (List ℕ)

-- what is told of a table of which these uploads count
abbrev pub DescribesTable : List (List ℕ) → List ℕ → List Upload → Description → Type 0
DescribesTable locations table [] d = ⊥
DescribesTable locations table (first ∷ rest) d =
    d ≡ record {
      version = record { table = table; version = length (first ∷ rest) };
      records = rows_of_uploads (first ∷ rest);
      total_bytes = length (answer_of (record { schema = first.schema; uploads = first ∷ rest }));
      schema = first.schema;
      locations = locations;
    }

-- the same, as a value: the table of this name with these effective uploads, and where it is served
abbrev pub TellsLatest : List (List ℕ) → List ℕ → List Upload → TableDescription → Type 0
TellsLatest locations table [] found = ⊥
TellsLatest locations table (first ∷ rest) found =
    IsInfoOf found.info table first (first ∷ rest) × (map string_bytes found.locations.items ≡ locations)

-- no upload to the table counts; or one does, and memory was refused
abbrev pub TableFault : List Upload → BackFault → Type 0
TableFault counted fault =
    ((counted ≡ []) × (fault ≡ faults.NoTable)) ⊎ ((counted ≢ []) × (fault ≡ faults.OutOfMemory))

-- as many values were taken as may be
abbrev pub IsFull : BackendState → Type 0
IsFull state = (state.slots ≤ state.tables.taken) ⊎ (agreed_values_limit ≤ state.tables.taken)

-- nothing is known of the upload of this encoding
abbrev pub IsUnknown : List Upload → List ℕ → Type 0
IsUnknown uploads text = (upload : Upload) → IsUpload upload → upload_text upload ≡ text → outcome_of uploads upload ≡ unknown

-- nothing is known of an upload, and as many were taken as may be; or memory was refused
abbrev pub PutFault : BackendState → List Upload → List ℕ → BackFault → Type 0
PutFault state uploads text fault =
    (IsFull state × IsUnknown uploads text × (fault ≡ faults.SlotsSpent)) ⊎ (fault ≡ faults.OutOfMemory)

-- By these uploads, this is an answer to the request.
abbrev pub Answers : BackendState → List Upload → Request → BackAnswer → Type 0
Answers state uploads (describes table) (described d) = DescribesTable state.locations table (effective table uploads) d
Answers state uploads (describes table) (failed fault) = TableFault (effective table uploads) fault
Answers state uploads (shows table) (shown schema) =
    (first : Upload) × (rest : List Upload) × (effective table uploads ≡ first ∷ rest) × (schema ≡ first.schema)
Answers state uploads (shows table) (failed fault) = TableFault (effective table uploads) fault
Answers state uploads lists (listed all) =
    AllZip (λ name d. DescribesTable state.locations name (effective name uploads) d) (table_names uploads) all
Answers state uploads lists (failed fault) = fault ≡ faults.OutOfMemory
Answers state uploads (serves asked) (served version) = version_of asked.table asked.version uploads ≡ Some version
Answers state uploads (serves asked) (failed fault) =
    ((version_of asked.table asked.version uploads ≡ None) × (fault ≡ faults.Unavailable)) ⊎ (fault ≡ faults.OutOfMemory)
Answers state uploads (puts text) (decided outcome) =
    (upload : Upload) → IsUpload upload → upload_text upload ≡ text → outcome ≡ outcome_of uploads upload
Answers state uploads (puts text) (failed fault) = PutFault state uploads text fault
Answers state uploads request other = ⊥

-- the tables have taken values of uploads of which this holds
abbrev pub Stands : BackendState → (List Upload → Type 0) → Type 0
Stands state P =
    (values : List Value) × (uploads : List Upload) × HasTaken state.tables values × AreUploadsIn values uploads × P uploads

-- an answer by uploads that the tables have taken
abbrev pub MayAnswer : BackendState → Request → BackAnswer → Type 0
MayAnswer state request answer =
    Stands state (λ uploads. Answers state uploads request answer)

-- the same is held, at the same locations, and as many uploads are taken
pub record HoldsTheSame (old new : BackendState) : Type 0 where
  pub tables : IsSame old.tables new.tables
  pub locations : new.locations ≡ old.locations
  pub slots : new.slots ≡ old.slots

-- What tables are after a put of an upload of which this was told before, where so many uploads are taken: where nothing of its
-- name had come, there was room for one more, and they have taken one value more, which is that upload, behind the others; else
-- they hold the same.
abbrev pub Takes : Outcome → List ℕ → ℕ → TablesState → TablesState → Type 0
Takes unknown text slots old new =
    (old.taken < slots) × ((values : List Value) → HasTaken old values → HasTaken new (values ++ agreed.Upload text ∷ []))
Takes (applied version) text slots old new = IsSame old new
Takes mismatched text slots old new = IsSame old new
Takes conflicting text slots old new = IsSame old new

-- what a put leaves that did not fail
pub record Leaves (old : BackendState) (text : List ℕ) (new : BackendState) : Type 0 where
  pub tables : (values : List Value) (uploads : List Upload) (upload : Upload) → HasTaken old.tables values
      → AreUploadsIn values uploads → IsUpload upload → upload_text upload ≡ text
      → Takes (outcome_of uploads upload) text old.slots old.tables new.tables
  pub locations : new.locations ≡ old.locations
  pub slots : new.slots ≡ old.slots
