-- What reading the file of sums gives, and what writing its beginning leaves.
use Rattle.std.specs.Prelude.{◌≡◌, ℕ, List, Option, Some, None, Result, Ok, Err, ⊤, Vec}
use Rattle.std.specs.declared.alloc.Global.{Global}
use Rattle.ballots.specs.declared.record.Record.{Record}
use Rattle.stable_records.specs.declared.fault.StoreFault.{StoreFault}
use Rattle.stable_records.specs.declared.fault.StoreFault.TheVariants.{Device, Damaged, Broken, OutOfMemory}
use Rattle.disk_records.specs.Disk.{written_at}
use Rattle.record_sums.specs.Sums.{Fits, IsFirstMisfit}
use Rattle.record_sums.specs.Entering.{AreEntries}

-- all its bytes, or a fault; the file is as before, unless a call of the disk failed
abbrev pub ReadsAll : Result (Vec ℕ Global) StoreFault → List ℕ → List ℕ → Type 0
ReadsAll (Ok bytes) old new = (bytes.items ≡ old) × (new ≡ old)
ReadsAll (Err Device) old new = ⊤
ReadsAll (Err Damaged) old new = ⊥
ReadsAll (Err Broken) old new = ⊥
ReadsAll (Err OutOfMemory) old new = new ≡ old

-- the file once it begins with this text, where there is one to be written
abbrev pub with_text : List ℕ → Option (Vec ℕ Global) → List ℕ
with_text file None = file
with_text file (Some text) = written_at file 0 text.items

-- by cases of the answer: entries of these records, which the bytes fit; or that they do not; or memory was refused
abbrev pub Compares : Result (Vec (List ℕ) Global) StoreFault → List ℕ → List Record → Type 0
Compares (Ok entries) found records = AreEntries entries.items records × Fits found records
Compares (Err Device) found records = ⊥
Compares (Err Damaged) found records = (number : ℕ) × IsFirstMisfit found records number
Compares (Err Broken) found records = ⊥
Compares (Err OutOfMemory) found records = ⊤
