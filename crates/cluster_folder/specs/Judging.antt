-- What the lengths of the files in a folder say of the servers that were there. The files are this service's own: a store leaves
-- a file of one byte where it has no record, and a longer one where it has; and a server puts down of each file how many bytes its
-- records had where it started, behind which there is a byte more.
use Rattle.std.specs.Prelude.{◌≡◌, ◌≢◌, ℕ, ◌<◌, ◌≤◌, Option, None, Some, IsSome, List, length, drop, slice_get, slice_index_or, Result, Ok, Err}
use Rattle.std.specs.List.{Any}
use Rattle.cluster_identity.specs.declared.file_mark.FileMark.{FileMark}
use Rattle.cluster_folder.specs.declared.fault.FolderFault.{FolderFault}
use Rattle.cluster_folder.specs.declared.fault.FolderFault.TheVariants as fault
use Rattle.cluster_folder.specs.declared.judging.FolderState.{FolderState}
use Rattle.cluster_folder.specs.declared.judging.FolderState.TheVariants.{New, Old}

-- it is there with more than a byte
abbrev pub HasRecords : Option ℕ → Type 0
HasRecords None = ⊥
HasRecords (Some size) = 1 < size

-- no server has been there
abbrev pub IsNew : List (Option ℕ) → Option (List FileMark) → Type 0
IsNew sizes None = Any HasRecords sizes → ⊥
IsNew sizes (Some marks) = ⊥

-- ---- another number of nodes

-- the file of a node is there that a cluster of so many has not
abbrev pub IsBeyond : ℕ → List (Option ℕ) → Type 0
IsBeyond count sizes = Any IsSome (drop count sizes)

abbrev pub IsOfOthers : ℕ → List (Option ℕ) → Option (List FileMark) → Type 0
IsOfOthers count sizes None = IsBeyond count sizes
IsOfOthers count sizes (Some marks) = length marks ≢ count

-- ---- one file

abbrev pub length_of : Option FileMark → ℕ
length_of None = 0
length_of (Some mark) = mark.length

-- how many bytes a server marked of the file of this node
abbrev pub marked_of : Option (List FileMark) → ℕ → ℕ
marked_of None number = 0
marked_of (Some marks) number = length_of (slice_get marks number)

-- it is there, and has more bytes than these
abbrev pub IsWhole : Option ℕ → ℕ → Type 0
IsWhole None marked = ⊥
IsWhole (Some size) marked = marked < size

-- it is there, and has no more
abbrev pub IsCut : Option ℕ → ℕ → Type 0
IsCut None marked = ⊥
IsCut (Some size) marked = size ≤ marked

abbrev pub FileGives : ℕ → Option ℕ → ℕ → Result (Unit {0}) FolderFault → Type 0
FileGives number size marked (Ok _) = IsWhole size marked
FileGives number size marked (Err fault.Folder) = ⊥
FileGives number size marked (Err (fault.Open node)) = ⊥
FileGives number size marked (Err (fault.Locked node)) = ⊥
FileGives number size marked (Err (fault.SumsOpen node)) = ⊥
FileGives number size marked (Err (fault.SumsLocked node)) = ⊥
FileGives number size marked (Err fault.IdentityDevice) = ⊥
FileGives number size marked (Err fault.IdentityDamaged) = ⊥
FileGives number size marked (Err fault.Members) = ⊥
FileGives number size marked (Err (fault.Missing node)) = (node ≡ number) × (size ≡ None)
FileGives number size marked (Err (fault.Truncated node)) = (node ≡ number) × IsCut size marked
FileGives number size marked (Err (fault.Foreign node)) = ⊥
FileGives number size marked (Err (fault.Device node)) = ⊥
FileGives number size marked (Err fault.OutOfMemory) = ⊥

-- ---- the files of all nodes

-- those of the nodes below this one are whole
abbrev pub AreWhole : ℕ → List (Option ℕ) → Option (List FileMark) → Type 0
AreWhole count sizes marks = (number : ℕ) → number < count → IsWhole (slice_index_or sizes number None) (marked_of marks number)

-- this one's is the first that is not
abbrev pub IsFirst : ℕ → ℕ → List (Option ℕ) → Option (List FileMark) → Type 0
IsFirst count node sizes marks = (node < count) × AreWhole node sizes marks

abbrev pub FilesGive : ℕ → List (Option ℕ) → Option (List FileMark) → Result (Unit {0}) FolderFault → Type 0
FilesGive count sizes marks (Ok _) = AreWhole count sizes marks
FilesGive count sizes marks (Err fault.Folder) = ⊥
FilesGive count sizes marks (Err (fault.Open node)) = ⊥
FilesGive count sizes marks (Err (fault.Locked node)) = ⊥
FilesGive count sizes marks (Err (fault.SumsOpen node)) = ⊥
FilesGive count sizes marks (Err (fault.SumsLocked node)) = ⊥
FilesGive count sizes marks (Err fault.IdentityDevice) = ⊥
FilesGive count sizes marks (Err fault.IdentityDamaged) = ⊥
FilesGive count sizes marks (Err fault.Members) = ⊥
FilesGive count sizes marks (Err (fault.Missing node)) =
    IsFirst count node sizes marks × (slice_index_or sizes node None ≡ None)
FilesGive count sizes marks (Err (fault.Truncated node)) =
    IsFirst count node sizes marks × IsCut (slice_index_or sizes node None) (marked_of marks node)
FilesGive count sizes marks (Err (fault.Foreign node)) = ⊥
FilesGive count sizes marks (Err (fault.Device node)) = ⊥
FilesGive count sizes marks (Err fault.OutOfMemory) = ⊥

-- ---- the folder

-- a server of so many nodes was there
abbrev pub IsOld : ℕ → List (Option ℕ) → Option (List FileMark) → Type 0
IsOld count sizes marks = (IsNew sizes marks → ⊥) × (IsOfOthers count sizes marks → ⊥)

abbrev pub JudgeGives : ℕ → List (Option ℕ) → Option (List FileMark) → Result FolderState FolderFault → Type 0
JudgeGives count sizes marks (Ok New) = IsNew sizes marks
JudgeGives count sizes marks (Ok Old) = IsOld count sizes marks × AreWhole count sizes marks
JudgeGives count sizes marks (Err fault.Members) = (IsNew sizes marks → ⊥) × IsOfOthers count sizes marks
JudgeGives count sizes marks (Err fault.Folder) = ⊥
JudgeGives count sizes marks (Err (fault.Open node)) = ⊥
JudgeGives count sizes marks (Err (fault.Locked node)) = ⊥
JudgeGives count sizes marks (Err (fault.SumsOpen node)) = ⊥
JudgeGives count sizes marks (Err (fault.SumsLocked node)) = ⊥
JudgeGives count sizes marks (Err fault.IdentityDevice) = ⊥
JudgeGives count sizes marks (Err fault.IdentityDamaged) = ⊥
JudgeGives count sizes marks (Err (fault.Missing node)) = IsOld count sizes marks × FilesGive count sizes marks (Err (fault.Missing node))
JudgeGives count sizes marks (Err (fault.Truncated node)) = IsOld count sizes marks × FilesGive count sizes marks (Err (fault.Truncated node))
JudgeGives count sizes marks (Err (fault.Foreign node)) = ⊥
JudgeGives count sizes marks (Err (fault.Device node)) = ⊥
JudgeGives count sizes marks (Err fault.OutOfMemory) = ⊥
