-- What runs of calls on a disk leave: POSIX, "write" and "fsync", and this service's own format of a file.
use Rattle.std.specs.Prelude.{◌≡◌, ◌⊎◌, ℕ, ◌+◌, ◌<◌, List, take, Result, Ok, Err, MatchResult, ⊤, Vec}
use Rattle.std.specs.declared.alloc.Global.{Global}
use Rattle.ballots.specs.declared.record.Record.{Record}
use Rattle.stable_records.specs.Found.{Found}
use Rattle.stable_records.specs.declared.fault.StoreFault.{StoreFault}
use Rattle.stable_records.specs.declared.fault.StoreFault.TheVariants.{Device, Damaged, Broken, OutOfMemory}
use Rattle.disk_records.specs.declared.reading.FileRecords.{FileRecords}
use Rattle.disk_records.specs.RecordFile.{IsClosedAt, FileMeans, FileGives, with_block}
use Rattle.disk_records.specs.Reading.{MeansNothing}
use Rattle.disk_records.specs.Disk.{LeavesOnly}

-- the disk's own failures by an answer's fault: one at least for a device's failure, and none for another
abbrev pub CountsFor : StoreFault → ℕ → ℕ → Type 0
CountsFor Device old new = old < new
CountsFor Damaged old new = new ≡ old
CountsFor Broken old new = ⊥
CountsFor OutOfMemory old new = new ≡ old

abbrev pub CountsDevice : {T : Type 0} → Result T StoreFault → ℕ → ℕ → Type 0
CountsDevice result old new = MatchResult result (λ _. new ≡ old) (λ fault. CountsFor fault old new)

-- the file is these bytes, all of which stand
pub record IsSettled (content : List ℕ) (may_leave : List ℕ → Type 0) (file : List ℕ) : Type 0 where
  pub bytes : content ≡ file
  pub stands : LeavesOnly file may_leave

-- What a crash leaves while a block is added behind a closed gate: all up to that gate and with it, or the whole block
-- behind a gate of any byte.
abbrev pub IsAddedOrNot : List ℕ → ℕ → List ℕ → List ℕ → Type 0
IsAddedOrNot content gate block file =
    (take (gate + 1) file ≡ take (gate + 1) content) ⊎ ((byte : ℕ) × (file ≡ with_block content gate byte block))

-- what a read of a whole file gives behind a sync: its bytes, all of which stand; or a fault
abbrev pub ReadsBytes : Result (Vec ℕ Global) StoreFault → List ℕ → List ℕ → (List ℕ → Type 0) → Type 0
ReadsBytes (Ok bytes) old new may_leave = (bytes.items ≡ old) × IsSettled new may_leave old
ReadsBytes (Err Device) old new may_leave = ⊤
ReadsBytes (Err Damaged) old new may_leave = ⊥
ReadsBytes (Err Broken) old new may_leave = ⊥
ReadsBytes (Err OutOfMemory) old new may_leave = IsSettled new may_leave old

-- ---- a file is recalled

-- the closed gate behind these records stands at this place, and all of the file stands
pub record IsRecovered (content : List ℕ) (may_leave : List ℕ → Type 0) (records : List Record)
    (gate : ℕ) : Type 0 where
  pub closed : IsClosedAt content records gate
  pub stands : LeavesOnly content may_leave

-- By cases of the answer: the records that the file meant, with a closed gate behind them; or a fault, and but for a
-- failure of the disk the file is as it was, and stands.
abbrev pub Recovers : Result FileRecords StoreFault → List ℕ → List ℕ → (List ℕ → Type 0) → Type 0
Recovers (Ok read) old new may_leave =
    FileMeans old read.records.items × IsRecovered new may_leave read.records.items read.gate
Recovers (Err Device) old new may_leave = ⊤
Recovers (Err Damaged) old new may_leave = MeansNothing (FileMeans old) × IsSettled new may_leave old
Recovers (Err Broken) old new may_leave = ⊥
Recovers (Err OutOfMemory) old new may_leave = IsSettled new may_leave old

-- what a recall finds in this file, it might have found before
abbrev pub GivesAsBefore : (List ℕ → Type 0) → List ℕ → Type 0
GivesAsBefore may_leave file =
    (before : List ℕ) × may_leave before × ((found : Found) → FileGives file found → FileGives before found)
