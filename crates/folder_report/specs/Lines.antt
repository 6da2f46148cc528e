-- The lines that are printed of a report. Numbers are decimal; the words are this service's own.
use Rattle.std.specs.Prelude.{ℕ, List, ◌++◌, codes, decimal, string_bytes, Option, Result, Ok, Err}
use Rattle.std.specs.Io.KnownBytes.{Appends, Keeps}
use Rattle.std.specs.List.{flat_map}
use Rattle.grpc_frames.specs.FrameFaults.{IsBeginning}
use Rattle.folder_report.specs.declared.fault.WriteFault.{WriteFault}
use Rattle.folder_report.specs.declared.fault.WriteFault.TheVariants.{Io, OutOfMemory}
use Rattle.folder_report.specs.declared.report.FolderReport.{FolderReport}
use Rattle.folder_report.specs.declared.report.SlotReport.{SlotReport}
use Rattle.folder_report.specs.declared.report.SlotState.{SlotState}
use Rattle.folder_report.specs.declared.report.SlotState.TheVariants.{Undecided, Waiting}
use Rattle.folder_report.specs.declared.report.TableReport.{TableReport}

-- how many slots are decided from slot 0 on
abbrev pub decided_line : ℕ → List ℕ
decided_line decided = codes "slots " ++ (decimal decided ++ codes "\n")

-- a table's name, and its latest version
abbrev pub table_line : TableReport → List ℕ
table_line table =
    codes "table " ++ (string_bytes table.name ++ (codes " version " ++ (decimal table.version ++ codes "\n")))

abbrev pub state_text : SlotState → List ℕ
state_text Undecided = codes "undecided"
state_text Waiting = codes "decided, and served once the slots before it are"

-- a slot that is not served, and how it stands
abbrev pub slot_line : SlotReport → List ℕ
slot_line told = codes "slot " ++ (decimal told.slot ++ (codes " " ++ (state_text told.state ++ codes "\n")))

-- all lines
abbrev pub report_text : FolderReport → List ℕ
report_text report =
    decided_line report.decided ++ (flat_map table_line report.tables.items ++ flat_map slot_line report.slots.items)

-- what writing a text adds to what a writer holds: all of it; where memory is refused, nothing; and where a write
-- fails, a beginning of it
abbrev pub WritesText : List ℕ → Result (Unit {0}) WriteFault → Option (List ℕ) → Option (List ℕ) → Type 0
WritesText text (Ok done) old new = Appends old new text
WritesText text (Err OutOfMemory) old new = Keeps old new
WritesText text (Err Io) old new = (written : List ℕ) × IsBeginning written text × Appends old new written
