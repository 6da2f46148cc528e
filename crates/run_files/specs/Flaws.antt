-- What is wrong with a file that tells no schedule or no script: the first thing, in the order of the flaws.
use Rattle.std.specs.Prelude.{◌≡◌, ℕ, ◌≤◌, List, ◌∷◌, ◌++◌, length, codes, Some, None, Vec, Result, Ok, Err, IsUtf8}
use Rattle.std.specs.List.{AllZip}
use Rattle.std.specs.declared.alloc.Global.{Global}
use Rattle.serde_json.specs.Data.{Data}
use Rattle.serde_json.specs.Read.{read as read_text}
use Rattle.serde_json.specs.View.{view, items_of}
use Rattle.serde_json.specs.declared.value.Value.{Value}
use Rattle.ballots.specs.Majority.{IsMembers}
use Rattle.traces.specs.declared.config.Config.{Config}
use Rattle.traces.specs.Limits.{most_slots}
use Rattle.run_files.specs.declared.flaw.TextFlaw.{TextFlaw}
use Rattle.run_files.specs.declared.flaw.TextFlaw.TheVariants.{NotUtf8, NotJson}
use Rattle.run_files.specs.declared.flaw.ScheduleFlaw.{ScheduleFlaw}
use Rattle.run_files.specs.declared.flaw.ScheduleFlaw.TheVariants as schedule
use Rattle.run_files.specs.declared.flaw.ScriptFlaw.{ScriptFlaw}
use Rattle.run_files.specs.declared.flaw.ScriptFlaw.TheVariants as script
use Rattle.run_files.specs.declared.schedule_file.Schedule.{Schedule}
use Rattle.run_files.specs.declared.script.ClusterSize.{ClusterSize}
use Rattle.run_files.specs.declared.script.Script.{Script}
use Rattle.run_files.specs.JsonValues.{number_at, array_at}
use Rattle.run_files.specs.UploadValue.{MeansUpload}
use Rattle.run_files.specs.ScheduleFile.{TellsConfig, TellsEvent, MeansSchedule}
use Rattle.run_files.specs.ScriptFile.{node_count, TellsCall, MeansScript}

-- ---- the first of some items that tells nothing

-- the item at this place tells nothing, and so many stand before it, each of which tells something
pub record IsFirstUnfit {A B : Type 0} (Tells : A → B → Type 0) (items : List A) (place : ℕ) : Type 0 where
  pub before : List A
  pub item : A
  pub after : List A
  pub parts : items ≡ before ++ item ∷ after
  pub place_is : length before ≡ place
  pub told : List B
  pub each : AllZip Tells before told
  pub none : (b : B) → Tells item b → ⊥

-- what all of them tell, or the place of that one
abbrev pub ReadsItems : {A B : Type 0} → (A → B → Type 0) → List A → Result (Vec B Global) ℕ → Type 0
ReadsItems Tells items (Ok told) = AllZip Tells items told.items
ReadsItems Tells items (Err place) = IsFirstUnfit Tells items place

-- ---- the file as a value of JSON

abbrev pub IsTextFlaw : List ℕ → TextFlaw → Type 0
IsTextFlaw file NotUtf8 = IsUtf8 file → ⊥
IsTextFlaw file NotJson = IsUtf8 file × (read_text file ≡ None)

abbrev pub IsJson : List ℕ → Data → Type 0
IsJson file d = IsUtf8 file × (read_text file ≡ Some d)

abbrev pub ReadsText : List ℕ → Result Value TextFlaw → Type 0
ReadsText file (Ok value) = IsJson file (view value)
ReadsText file (Err flaw) = IsTextFlaw file flaw

-- ---- a schedule

-- there is an array at the name, of these items; or there is one
abbrev pub HasItems : List ℕ → Data → List Data → Type 0
HasItems name d items = array_at name d ≡ Some (items_of items)

abbrev pub HasArray : List ℕ → Data → Type 0
HasArray name d = (items : List Data) × HasItems name d items

-- there are so many members as there may be
abbrev pub TellsMembers : Data → ℕ → Type 0
TellsMembers d members = (number_at (codes "members") d ≡ Some members) × IsMembers members

-- what the nodes have in common is told
abbrev pub IsConfigured : Data → Type 0
IsConfigured d = (config : Config) × TellsConfig d config

-- an array `events` is there, and of the items of `uploads` the one at this place is not a valid upload
pub record HasBadUpload (d : Data) (place : ℕ) : Type 0 where
  pub configured : IsConfigured d
  pub events : HasArray (codes "events") d
  pub items : List Data
  pub there : HasItems (codes "uploads") d items
  pub first : IsFirstUnfit MeansUpload items place

-- the items of `uploads` tell uploads, and of the items of `events` the one at this place tells no event of these
pub record HasBadEvent (d : Data) (place : ℕ) : Type 0 where
  pub configured : IsConfigured d
  pub upload_items : List Data
  pub uploads_there : HasItems (codes "uploads") d upload_items
  pub uploads : List (List ℕ)
  pub uploads_mean : AllZip MeansUpload upload_items uploads
  pub items : List Data
  pub there : HasItems (codes "events") d items
  pub first : IsFirstUnfit (TellsEvent uploads) items place

-- this is the first thing that is wrong with the value
abbrev pub IsScheduleFlawIn : Data → ScheduleFlaw → Type 0
IsScheduleFlawIn d (schedule.Text flaw) = ⊥
IsScheduleFlawIn d schedule.Members = (members : ℕ) → TellsMembers d members → ⊥
IsScheduleFlawIn d schedule.SlotLimit =
    ((members : ℕ) × TellsMembers d members)
    × ((slots : ℕ) → number_at (codes "slot_limit") d ≡ Some slots → 1 ≤ slots → slots ≤ most_slots → ⊥)
IsScheduleFlawIn d schedule.Uploads = IsConfigured d × (array_at (codes "uploads") d ≡ None)
IsScheduleFlawIn d schedule.Events = IsConfigured d × HasArray (codes "uploads") d × (array_at (codes "events") d ≡ None)
IsScheduleFlawIn d (schedule.Upload place) = HasBadUpload d place
IsScheduleFlawIn d (schedule.Event place) = HasBadEvent d place

abbrev pub HasScheduleFlaw : List ℕ → ScheduleFlaw → Type 0
HasScheduleFlaw file flaw = (d : Data) × IsJson file d × IsScheduleFlawIn d flaw

-- this is the first thing that is wrong with the file
abbrev pub IsScheduleFlaw : List ℕ → ScheduleFlaw → Type 0
IsScheduleFlaw file (schedule.Text flaw) = IsTextFlaw file flaw
IsScheduleFlaw file schedule.Members = HasScheduleFlaw file schedule.Members
IsScheduleFlaw file schedule.SlotLimit = HasScheduleFlaw file schedule.SlotLimit
IsScheduleFlaw file schedule.Uploads = HasScheduleFlaw file schedule.Uploads
IsScheduleFlaw file schedule.Events = HasScheduleFlaw file schedule.Events
IsScheduleFlaw file (schedule.Upload place) = HasScheduleFlaw file (schedule.Upload place)
IsScheduleFlaw file (schedule.Event place) = HasScheduleFlaw file (schedule.Event place)

-- the schedule of the file, or what is wrong with it
abbrev pub ReadsSchedule : List ℕ → Result Schedule ScheduleFlaw → Type 0
ReadsSchedule file (Ok read) = MeansSchedule file read.config read.events.items
ReadsSchedule file (Err flaw) = IsScheduleFlaw file flaw

-- ---- a script

-- there are so many nodes
abbrev pub TellsNodes : Data → ClusterSize → Type 0
TellsNodes d nodes = number_at (codes "nodes") d ≡ Some (node_count nodes)

-- of the items of `calls` the one at this place tells no call of these nodes
pub record HasBadCall (d : Data) (place : ℕ) : Type 0 where
  pub nodes : ClusterSize
  pub counted : TellsNodes d nodes
  pub items : List Data
  pub there : HasItems (codes "calls") d items
  pub first : IsFirstUnfit (TellsCall nodes) items place

-- this is the first thing that is wrong with the value
abbrev pub IsScriptFlawIn : Data → ScriptFlaw → Type 0
IsScriptFlawIn d (script.Text flaw) = ⊥
IsScriptFlawIn d script.Nodes = (nodes : ClusterSize) → TellsNodes d nodes → ⊥
IsScriptFlawIn d script.Calls = ((nodes : ClusterSize) × TellsNodes d nodes) × (array_at (codes "calls") d ≡ None)
IsScriptFlawIn d (script.Call place) = HasBadCall d place

abbrev pub HasScriptFlaw : List ℕ → ScriptFlaw → Type 0
HasScriptFlaw file flaw = (d : Data) × IsJson file d × IsScriptFlawIn d flaw

-- this is the first thing that is wrong with the file
abbrev pub IsScriptFlaw : List ℕ → ScriptFlaw → Type 0
IsScriptFlaw file (script.Text flaw) = IsTextFlaw file flaw
IsScriptFlaw file script.Nodes = HasScriptFlaw file script.Nodes
IsScriptFlaw file script.Calls = HasScriptFlaw file script.Calls
IsScriptFlaw file (script.Call place) = HasScriptFlaw file (script.Call place)

-- the script of the file, or what is wrong with it
abbrev pub ReadsScript : List ℕ → Result Script ScriptFlaw → Type 0
ReadsScript file (Ok read) = MeansScript file read.nodes read.calls.items
ReadsScript file (Err flaw) = IsScriptFlaw file flaw
