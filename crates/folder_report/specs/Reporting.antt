-- What a server that resumes over the records of all nodes serves: Lamport, "Paxos Made Simple", section 2.2, where a
-- value is chosen once a majority accepted it at one ballot, and section 3, where the chosen values are carried out in
-- the order of their numbers, without a gap.
use Rattle.std.specs.Prelude.{◌≡◌, ℕ, ◌≤◌, List, length, map, slice_get, Some, string_bytes}
use Rattle.std.specs.List.{All, Contains}
use Rattle.std.specs.List.Sorted.{IsStrictlyIncreasing}
use Rattle.ballots.specs.Ballot.{Ballot}
use Rattle.ballots.specs.declared.acceptance.Acceptance.{Acceptance}
use Rattle.ballots.specs.declared.record.Record.{Record}
use Rattle.ballots.specs.declared.value.Value.{Value}
use Rattle.chosen_records.specs.Chosen.{Differ, IsChosenAt, Records}
use Rattle.table_types.specs.Tables.{effective, table_names}
use Rattle.table_types.specs.Uploads.{Upload}
use Rattle.table_versions.specs.Values.{AreUploadsIn}
use Rattle.folder_report.specs.declared.fault.ReportFault.{ReportFault}
use Rattle.folder_report.specs.declared.fault.ReportFault.TheVariants as fault
use Rattle.folder_report.specs.declared.report.FolderReport.{FolderReport}
use Rattle.folder_report.specs.declared.report.SlotReport.{SlotReport}
use Rattle.folder_report.specs.declared.report.SlotState.{SlotState}
use Rattle.folder_report.specs.declared.report.SlotState.TheVariants.{Undecided, Waiting}
use Rattle.folder_report.specs.declared.report.TableReport.{TableReport}

-- ---- what is chosen

-- a majority has recorded at one ballot of the slot that it accepted this value
abbrev pub IsChosenByRecords : ℕ → List (List Record) → ℕ → Value → Type 0
IsChosenByRecords members all slot value = (ballot : Ballot) × IsChosenAt members all slot ballot value

-- for no slot two values are chosen
abbrev pub HaveOneValue : ℕ → List (List Record) → Type 0
HaveOneValue members all =
    (slot : ℕ) (one other : Value) → IsChosenByRecords members all slot one → IsChosenByRecords members all slot other → one ≡ other

-- some node has recorded that it accepted something for the slot
abbrev pub IsAccepted : List (List Record) → ℕ → Type 0
IsAccepted all slot = (node : ℕ) × (accepted : Acceptance) × Records all node slot accepted

-- these values are chosen for the slots from 0 on, and none is for the slot behind them
pub record AreServed (members : ℕ) (all : List (List Record)) (values : List Value) : Type 0 where
  pub chosen : (slot : ℕ) (value : Value) → slice_get values slot ≡ Some value → IsChosenByRecords members all slot value
  pub ends : (value : Value) → IsChosenByRecords members all (length values) value → ⊥

-- ---- the tables that they make

abbrev pub told_table : TableReport → List ℕ × ℕ
told_table table = (string_bytes table.name, table.version)

-- the table of this name, with how many of its uploads count
abbrev pub latest_in : List Upload → List ℕ → List ℕ × ℕ
latest_in uploads name = (name, length (effective name uploads))

-- they are the tables of the uploads that the values hold, each with its latest version
pub record TellsTables (values : List Value) (tables : List TableReport) : Type 0 where
  pub uploads : List Upload
  pub are : AreUploadsIn values uploads
  pub told : map told_table tables ≡ map (latest_in uploads) (table_names uploads)

-- ---- the slots behind them

-- so the slot stands: it waits exactly where a value is chosen for it
abbrev pub StandsAs : ℕ → List (List Record) → ℕ → SlotState → Type 0
StandsAs members all slot Undecided = (value : Value) → IsChosenByRecords members all slot value → ⊥
StandsAs members all slot Waiting = (value : Value) × IsChosenByRecords members all slot value

-- it tells of a slot from this one on, for which something is accepted, how it stands
pub record TellsSlot (members : ℕ) (all : List (List Record)) (first : ℕ) (told : SlotReport) : Type 0 where
  pub behind : first ≤ told.slot
  pub accepted : IsAccepted all told.slot
  pub stands : StandsAs members all told.slot told.state

-- each slot from this one on for which something is accepted is told of, once and in order, and no other
pub record TellsSlots (members : ℕ) (all : List (List Record)) (first : ℕ) (slots : List SlotReport) : Type 0 where
  pub rising : IsStrictlyIncreasing (map (λ told. told.slot) slots)
  pub only : All (TellsSlot members all first) slots
  pub whole : (slot : ℕ) → first ≤ slot → IsAccepted all slot
      → (state : SlotState) × Contains slots (record { slot = slot; state = state })

-- ---- all of it

-- the report tells of these records
pub record Reports (members : ℕ) (all : List (List Record)) (report : FolderReport) : Type 0 where
  pub values : List Value
  pub served : AreServed members all values
  pub count : report.decided ≡ length values
  pub tables : TellsTables values report.tables.items
  pub slots : TellsSlots members all report.decided report.slots.items

-- a slot is told only where two values are recorded at one of its ballots
abbrev pub FaultTells : List (List Record) → ReportFault → Type 0
FaultTells all (fault.Differ slot) = Differ all slot
FaultTells all fault.OutOfMemory = Unit {0}
