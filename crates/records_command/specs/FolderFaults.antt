-- The faults of the steps of showing a folder, and what they leave written. This service's own.
use Rattle.std.specs.Prelude.{◌≡◌, ℕ, ◌⊎◌, List, Option, Result, Ok, Err, ⊤}
use Rattle.std.specs.Io.KnownBytes.{Keeps, Appends}
use Rattle.grpc_frames.specs.FrameFaults.{IsBeginning}
use Rattle.ballots.specs.declared.record.Record.{Record}
use Rattle.record_sums.specs.Sums.{Fits}
use Rattle.record_sums.specs.Damage.{AreWhole}
use Rattle.folder_report.specs.declared.fault.ReportFault.{ReportFault}
use Rattle.folder_report.specs.declared.fault.ReportFault.TheVariants as reporting
use Rattle.records_command.specs.declared.fault.ShowFolderFault.{ShowFolderFault}
use Rattle.records_command.specs.declared.fault.ShowFolderFault.TheVariants as fault
use Rattle.record_sums.specs.declared.node_files.NodeFiles.{NodeFiles}
use Rattle.records_command.specs.Folders.{IsDamaged}

-- of one node: its files are damaged, or memory was refused
abbrev pub IsFaultAt : NodeFiles → ℕ → ShowFolderFault → Type 0
IsFaultAt files node (fault.Damaged named) = (named ≡ node) × (AreWhole files.records.items files.sums.items → ⊥)
IsFaultAt files node (fault.Mixed slot) = ⊥
IsFaultAt files node fault.Members = ⊥
IsFaultAt files node fault.OutOfMemory = ⊤
IsFaultAt files node fault.Io = ⊥

-- of records that were read: they do not fit their sums, or memory was refused
abbrev pub IsMisfitFault : List ℕ → List Record → ℕ → ShowFolderFault → Type 0
IsMisfitFault sums records node (fault.Damaged named) = (named ≡ node) × (Fits sums records → ⊥)
IsMisfitFault sums records node (fault.Mixed slot) = ⊥
IsMisfitFault sums records node fault.Members = ⊥
IsMisfitFault sums records node fault.OutOfMemory = ⊤
IsMisfitFault sums records node fault.Io = ⊥

-- of all nodes: the files of one are damaged, or memory was refused
abbrev pub IsReadFault : List NodeFiles → ShowFolderFault → Type 0
IsReadFault nodes (fault.Damaged node) = IsDamaged nodes node
IsReadFault nodes (fault.Mixed slot) = ⊥
IsReadFault nodes fault.Members = ⊥
IsReadFault nodes fault.OutOfMemory = ⊤
IsReadFault nodes fault.Io = ⊥

-- why nothing was reported, as such a fault
abbrev pub IsFaultOf : ReportFault → ShowFolderFault → Type 0
IsFaultOf (reporting.Differ slot) told = told ≡ fault.Mixed slot
IsFaultOf reporting.OutOfMemory told = told ≡ fault.OutOfMemory

-- a beginning of this text went out
pub record WritesBeginning (text : List ℕ) (old new : Option (List ℕ)) : Type 0 where
  pub written : List ℕ
  pub beginning : IsBeginning written text
  pub out : Appends old new written

-- What writing this text adds to what the writer holds, by how it ends.
abbrev pub WritesFolder : List ℕ → Result (Unit {0}) ShowFolderFault → Option (List ℕ) → Option (List ℕ) → Type 0
WritesFolder text (Ok done) old new = Appends old new text
WritesFolder text (Err (fault.Damaged node)) old new = ⊥
WritesFolder text (Err (fault.Mixed slot)) old new = ⊥
WritesFolder text (Err fault.Members) old new = ⊥
WritesFolder text (Err fault.OutOfMemory) old new = Keeps old new ⊎ WritesBeginning text old new
WritesFolder text (Err fault.Io) old new = WritesBeginning text old new
