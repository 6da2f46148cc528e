-- What marking a node's file of records, and checking it against its mark, give. Marks and files are this service's own.
use Rattle.std.specs.Prelude.{◌≡◌, ℕ, ◌-◌, ◌<◌, ◌≤◌, List, length, take, Result, Ok, Err, MatchResult, ⊤}
use Rattle.cluster_identity.specs.Marks.{mark_of}
use Rattle.cluster_identity.specs.declared.file_mark.FileMark.{FileMark}
use Rattle.cluster_folder.specs.declared.fault.FolderFault.{FolderFault}
use Rattle.cluster_folder.specs.declared.fault.FolderFault.TheVariants as fault
use Rattle.cluster_folder.specs.Gates.{IsClosedGate}
use Rattle.cluster_folder.specs.declared.marking.MarkFault.{MarkFault}
use Rattle.cluster_folder.specs.declared.marking.MarkFault.TheVariants.{Device, OutOfMemory}

-- ---- the failures of the disk

-- by the fault: one at least where the file could not be read, and none otherwise
abbrev pub CountsFor : MarkFault → ℕ → ℕ → Type 0
CountsFor Device old new = old < new
CountsFor OutOfMemory old new = new ≡ old

abbrev pub Counts : {T : Type 0} → Result T MarkFault → ℕ → ℕ → Type 0
Counts result old new = MatchResult result (λ _. new ≡ old) (λ fault. CountsFor fault old new)

-- the fault of this node
abbrev pub fault_of : ℕ → MarkFault → FolderFault
fault_of number Device = fault.Device number
fault_of number OutOfMemory = fault.OutOfMemory

-- These are all the faults of a file that is marked, each of this node.
abbrev pub MarkCounts : ℕ → Result FileMark FolderFault → ℕ → ℕ → Type 0
MarkCounts number (Ok _) old new = new ≡ old
MarkCounts number (Err (fault.Device node)) old new = (node ≡ number) × (old < new)
MarkCounts number (Err fault.OutOfMemory) old new = new ≡ old
MarkCounts number (Err _) old new = ⊥

-- And these are those of one that is held against its mark.
abbrev pub CheckCounts : ℕ → Result (Unit {0}) FolderFault → ℕ → ℕ → Type 0
CheckCounts number (Ok _) old new = new ≡ old
CheckCounts number (Err (fault.Truncated node)) old new = (node ≡ number) × (new ≡ old)
CheckCounts number (Err (fault.Foreign node)) old new = (node ≡ number) × (new ≡ old)
CheckCounts number (Err (fault.Device node)) old new = (node ≡ number) × (old < new)
CheckCounts number (Err fault.OutOfMemory) old new = new ≡ old
CheckCounts number (Err _) old new = ⊥

-- ---- what is marked

-- where the file has a closed gate, this is the mark of the bytes before it
pub record IsMarkOfRecords (file : List ℕ) (mark : FileMark) : Type 0 where
  pub place : ℕ
  pub within : place ≤ length file - 1
  pub closed : (gate : ℕ) → IsClosedGate file gate → place ≡ gate
  pub marks : mark ≡ mark_of (take place file)

-- ---- what is checked

-- the file has as many bytes as the mark has
abbrev pub IsReached : List ℕ → FileMark → Type 0
IsReached file mark = mark.length ≤ length file

-- the first of them, as many, have this mark
abbrev pub IsMarked : List ℕ → FileMark → Type 0
IsMarked file mark = mark ≡ mark_of (take mark.length file)

-- Of a file that could not be read, or for which memory was refused, nothing is told.
abbrev pub CheckGives : ℕ → List ℕ → FileMark → Result (Unit {0}) FolderFault → Type 0
CheckGives number file mark (Ok _) = IsReached file mark × IsMarked file mark
CheckGives number file mark (Err (fault.Truncated node)) = (node ≡ number) × (IsReached file mark → ⊥)
CheckGives number file mark (Err (fault.Foreign node)) = (node ≡ number) × IsReached file mark × (IsMarked file mark → ⊥)
CheckGives number file mark (Err (fault.Device node)) = node ≡ number
CheckGives number file mark (Err fault.OutOfMemory) = ⊤
CheckGives number file mark (Err _) = ⊥
