-- What a reading of a file gives, by cases on its answer. A file is read whole: this service's own format.
use Rattle.std.specs.Prelude.{◌≡◌, ℕ, ◌^◌, ◌<◌, ◌≤◌, List, [], ◌∷◌, ◌++◌, length, Result, Ok, Err, ⊤}
use Rattle.byteorder.specs.Endian.{little_bytes}
use Rattle.ballots.specs.declared.record.Record.{Record}
use Rattle.ballots.specs.declared.fault.MessageFault.{MessageFault}
use Rattle.ballots.specs.declared.fault.MessageFault.TheVariants.{Wire, BadKind, OutOfRange, OutOfMemory as RefusedMemory}
use Rattle.stable_records.specs.declared.fault.StoreFault.{StoreFault}
use Rattle.stable_records.specs.declared.fault.StoreFault.TheVariants.{Device, Damaged, Broken, OutOfMemory}
use Rattle.disk_records.specs.RecordFile.{IsBlock, IsClosedAt, FileMeans}

-- The records are those that the file means, and a longer file's closed gate is at this place.
pub record ReadsRecords (file : List ℕ) (records : List Record) (gate : ℕ) : Type 0 where
  pub means : FileMeans file records
  pub place : 1 < length file → IsClosedAt file records gate
  pub fresh : length file ≤ 1 → gate ≡ 0

-- there is nothing of which this holds
abbrev pub MeansNothing : {T : Type 0} → (T → Type 0) → Type 0
MeansNothing {T = T} Means = (meant : T) → Means meant → ⊥

-- by cases of an answer: what is read, or that there is nothing to be read, or memory was refused
abbrev pub Reads : {T : Type 0} → (T → Type 0) → Type 0 → Result T StoreFault → Type 0
Reads Gives Nothing (Ok read) = Gives read
Reads Gives Nothing (Err Device) = ⊥
Reads Gives Nothing (Err Damaged) = Nothing
Reads Gives Nothing (Err Broken) = ⊥
Reads Gives Nothing (Err OutOfMemory) = ⊤

-- ---- the steps of a reading

-- the bytes are a length, so many bytes, and a byte at least behind them
pub record IsCut (bytes text later : List ℕ) : Type 0 where
  pub fits : length text < 2 ^ 32
  pub parts : bytes ≡ little_bytes 4 (length text) ++ (text ++ later)
  pub goes_on : 0 < length later

abbrev pub IsUncut : List ℕ → Type 0
IsUncut bytes = (text : List ℕ) (later : List ℕ) → IsCut bytes text later → ⊥

-- a block of this record stands here, and more behind it
pub record BeginsWith (bytes : List ℕ) (told : Record) (later : List ℕ) : Type 0 where
  pub block : List ℕ
  pub spells : IsBlock block told
  pub parts : bytes ≡ block ++ later
  pub goes_on : 0 < length later

abbrev pub BeginsWithNone : List ℕ → Type 0
BeginsWithNone bytes = (told : Record) (later : List ℕ) → BeginsWith bytes told later → ⊥

-- a block stands here whose record is the last of these
pub record TakesBlock (bytes : List ℕ) (old new : List Record) (later : List ℕ) : Type 0 where
  pub told : Record
  pub begins : BeginsWith bytes told later
  pub pushed : new ≡ old ++ told ∷ []

-- a fault of a record's bytes is damage of the file, but for want of memory
abbrev pub IsReadAs : MessageFault → StoreFault → Type 0
IsReadAs (Wire _) fault = fault ≡ Damaged
IsReadAs BadKind fault = fault ≡ Damaged
IsReadAs OutOfRange fault = fault ≡ Damaged
IsReadAs RefusedMemory fault = fault ≡ OutOfMemory
