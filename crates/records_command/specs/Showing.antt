-- What showing the records of a file gives.
use Rattle.std.specs.Prelude.{◌≡◌, ℕ, ◌⊎◌, List, Option, Result, Ok, Err}
use Rattle.std.specs.Io.KnownBytes.{Keeps, Appends}
use Rattle.grpc_frames.specs.FrameFaults.{IsBeginning}
use Rattle.ballots.specs.declared.record.Record.{Record}
use Rattle.disk_records.specs.RecordFile.{FileMeans}
use Rattle.record_sums.specs.Sums.{Fits}
use Rattle.record_sums.specs.Damage.{AreWhole}
use Rattle.records_command.specs.declared.fault.ShowFault.{ShowFault}
use Rattle.records_command.specs.declared.fault.ShowFault.TheVariants.{Damaged, OutOfMemory, Io}
use Rattle.records_command.specs.Lines.{lines_of}

-- the file means these records, which fit their sums, and their lines went out
pub record ShowsAll (file sums : List ℕ) (old new : Option (List ℕ)) : Type 0 where
  pub records : List Record
  pub means : FileMeans file records
  pub fits : Fits sums records
  pub out : Appends old new (lines_of records)

-- the file means records, which fit their sums, and a beginning of their lines went out
pub record ShowsInPart (file sums : List ℕ) (old new : Option (List ℕ)) : Type 0 where
  pub records : List Record
  pub means : FileMeans file records
  pub fits : Fits sums records
  pub written : List ℕ
  pub beginning : IsBeginning written (lines_of records)
  pub out : Appends old new written

-- a fault that comes while lines are written
abbrev pub IsOfWriting : ShowFault → Type 0
IsOfWriting fault = (fault ≡ OutOfMemory) ⊎ (fault ≡ Io)

-- What is added to what the writer holds, by how it ends: nothing where the file means no records that fit these sums, and where
-- memory is refused before they are read and compared.
abbrev pub Shows : List ℕ → List ℕ → Result (Unit {0}) ShowFault → Option (List ℕ) → Option (List ℕ) → Type 0
Shows file sums (Ok done) old new = ShowsAll file sums old new
Shows file sums (Err Damaged) old new = (AreWhole file sums → ⊥) × Keeps old new
Shows file sums (Err OutOfMemory) old new = Keeps old new ⊎ ShowsInPart file sums old new
Shows file sums (Err Io) old new = ShowsInPart file sums old new

-- the lines of these records went out, a beginning of them, or nothing
pub record WritesPart (records : List Record) (old new : Option (List ℕ)) : Type 0 where
  pub written : List ℕ
  pub beginning : IsBeginning written (lines_of records)
  pub out : Appends old new written

-- So it is of records that were read: nothing goes out where they do not fit these sums.
abbrev pub ShowsRead : List ℕ → List Record → Result (Unit {0}) ShowFault → Option (List ℕ) → Option (List ℕ) → Type 0
ShowsRead sums records (Ok done) old new = Fits sums records × Appends old new (lines_of records)
ShowsRead sums records (Err Damaged) old new = (Fits sums records → ⊥) × Keeps old new
ShowsRead sums records (Err OutOfMemory) old new = Keeps old new ⊎ (Fits sums records × WritesPart records old new)
ShowsRead sums records (Err Io) old new = Fits sums records × WritesPart records old new

-- a run that ends with status 1: there is a fault
pub record ShowFails (file sums : List ℕ) (old new : Option (List ℕ)) : Type 0 where
  pub fault : ShowFault
  pub shows : Shows file sums (Err fault) old new
