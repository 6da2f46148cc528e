-- What showing the files of all nodes of a cluster gives. The words are this service's own.
use Rattle.std.specs.Prelude.{◌≡◌, ℕ, ◌+◌, ◌⊎◌, List, [], ◌∷◌, ◌++◌, length, codes, decimal, slice_get, Option, Some, Result, Ok, Err}
use Rattle.std.specs.Io.KnownBytes.{Keeps, Appends}
use Rattle.grpc_frames.specs.FrameFaults.{IsBeginning}
use Rattle.ballots.specs.Majority.{IsMembers}
use Rattle.ballots.specs.declared.record.Record.{Record}
use Rattle.chosen_records.specs.Chosen.{Differ}
use Rattle.disk_records.specs.RecordFile.{FileMeans}
use Rattle.record_sums.specs.Sums.{Fits}
use Rattle.record_sums.specs.Damage.{AreWhole}
use Rattle.folder_report.specs.declared.report.FolderReport.{FolderReport}
use Rattle.folder_report.specs.Reporting.{Reports}
use Rattle.folder_report.specs.Lines.{report_text}
use Rattle.records_command.specs.declared.fault.ShowFolderFault.{ShowFolderFault}
use Rattle.records_command.specs.declared.fault.ShowFolderFault.TheVariants as fault
use Rattle.record_sums.specs.declared.node_files.NodeFiles.{NodeFiles}

-- the node's file means these records, which fit their sums
abbrev pub Means : NodeFiles → List Record → Type 0
Means files own = FileMeans files.records.items own × Fits files.sums.items own

-- each node's files mean its records
abbrev pub AreMeant : List NodeFiles → List (List Record) → Type 0
AreMeant [] [] = Unit {0}
AreMeant [] (own ∷ later) = ⊥
AreMeant (files ∷ nodes) [] = ⊥
AreMeant (files ∷ nodes) (own ∷ later) = Means files own × AreMeant nodes later

-- a node's files are damaged
abbrev pub IsDamaged : List NodeFiles → ℕ → Type 0
IsDamaged nodes node =
    (files : NodeFiles) × (slice_get nodes node ≡ Some files) × (AreWhole files.records.items files.sums.items → ⊥)

-- ---- the lines

-- how many records a node has
abbrev pub node_line : ℕ → List Record → List ℕ
node_line node own = codes "node " ++ (decimal node ++ (codes " records " ++ (decimal (length own) ++ codes "\n")))

-- a line for each node, which are numbered from this number on
abbrev pub lines_from : ℕ → List (List Record) → List ℕ
lines_from node [] = []
lines_from node (own ∷ later) = node_line node own ++ lines_from (node + 1) later

abbrev pub folder_text : List (List Record) → FolderReport → List ℕ
folder_text all report = lines_from 0 all ++ report_text report

-- ---- what is written

-- these records are meant, and so they are reported
pub record IsReported (nodes : List NodeFiles) (all : List (List Record)) (report : FolderReport) : Type 0 where
  pub meant : AreMeant nodes all
  pub reports : Reports (length nodes) all report

-- the lines of what the files mean went out
pub record ShowsFolder (nodes : List NodeFiles) (old new : Option (List ℕ)) : Type 0 where
  pub all : List (List Record)
  pub report : FolderReport
  pub reported : IsReported nodes all report
  pub out : Appends old new (folder_text all report)

-- a beginning of these lines did
pub record ShowsFolderInPart (nodes : List NodeFiles) (old new : Option (List ℕ)) : Type 0 where
  pub all : List (List Record)
  pub report : FolderReport
  pub reported : IsReported nodes all report
  pub written : List ℕ
  pub beginning : IsBeginning written (folder_text all report)
  pub out : Appends old new written

-- the nodes' records have two values at one ballot of the slot
abbrev pub AreMixed : List NodeFiles → ℕ → Type 0
AreMixed nodes slot = (all : List (List Record)) × AreMeant nodes all × Differ all slot

-- What is added to what the writer holds, by how it ends: nothing where files mean no records that fit their sums, where these are of two
-- clusters, where no cluster has so many nodes, and where memory is refused before the lines are made.
abbrev pub FolderShows : List NodeFiles → Result (Unit {0}) ShowFolderFault → Option (List ℕ) → Option (List ℕ) → Type 0
FolderShows nodes (Ok done) old new = ShowsFolder nodes old new
FolderShows nodes (Err (fault.Damaged node)) old new = IsDamaged nodes node × Keeps old new
FolderShows nodes (Err (fault.Mixed slot)) old new = AreMixed nodes slot × Keeps old new
FolderShows nodes (Err fault.Members) old new = (IsMembers (length nodes) → ⊥) × Keeps old new
FolderShows nodes (Err fault.OutOfMemory) old new = Keeps old new ⊎ ShowsFolderInPart nodes old new
FolderShows nodes (Err fault.Io) old new = ShowsFolderInPart nodes old new

-- a run that ends with status 1: there is a fault
pub record FolderFails (nodes : List NodeFiles) (old new : Option (List ℕ)) : Type 0 where
  pub fault : ShowFolderFault
  pub shows : FolderShows nodes (Err fault) old new
