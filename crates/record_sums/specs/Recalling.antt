-- What a recall finds and leaves, in the store of the records and in the file of their sums. This service's own.
use Rattle.std.specs.Prelude.{◌≡◌, ℕ, ◌⊎◌, List, Option, Some, None, Result, Ok, Err, ⊤, Vec, IsTrue, true, false}
use Rattle.std.specs.declared.alloc.Global.{Global}
use Rattle.ballots.specs.declared.record.Record.{Record}
use Rattle.stable_records.specs.declared.fault.StoreFault.{StoreFault}
use Rattle.stable_records.specs.declared.fault.StoreFault.TheVariants.{Device, Damaged, Broken, OutOfMemory}
use Rattle.stable_records.specs.Found.{Found, FindsOnly, FindsNoMore}
use Rattle.record_sums.specs.Sums.{Fits, IsEntered, IsFirstMisfit}
use Rattle.record_sums.specs.Reading.{with_text}

-- By cases of the answer: the file fits the records, and has all their sums once it begins with the text that is missing, and no other;
-- or it has one that is not its record's; or memory was refused. Nothing is written. Where a call of the disk failed, nothing is said.
abbrev pub ComparesAll : Result (Option (Vec ℕ Global)) StoreFault → List ℕ → List ℕ → List Record → Type 0
ComparesAll (Ok missing) old new records = (new ≡ old) × Fits old records × IsEntered (with_text old missing) records
ComparesAll (Err Device) old new records = ⊤
ComparesAll (Err Damaged) old new records = (new ≡ old) × ((number : ℕ) × IsFirstMisfit old records number)
ComparesAll (Err Broken) old new records = ⊥
ComparesAll (Err OutOfMemory) old new records = new ≡ old

-- a recall that was Ok: the file fits the records, nothing was written, and it has all their sums once what is missing is
pub record IsCompared (old new : List ℕ) (missing : Option (Vec ℕ Global)) (records : List Record) : Type 0 where
  pub same : new ≡ old
  pub fits : Fits old records
  pub entered : IsEntered (with_text new missing) records

-- What a recall of the store with the records found, where it was Ok; else the recall's fault is that store's.
abbrev pub RecallsOf : Result (Vec Record Global) StoreFault → (Found → Type 0) → (Found → Type 0) → Type 0
RecallsOf (Ok records) old new = old (Some records.items) × FindsOnly new records.items
RecallsOf (Err Device) old new = FindsNoMore old new
RecallsOf (Err Damaged) old new = FindsNoMore old new
RecallsOf (Err Broken) old new = ⊥
RecallsOf (Err OutOfMemory) old new = FindsNoMore old new

-- the store may find no records, or such that do not fit their sums in this file
abbrev pub MayBeDamaged : (Found → Type 0) → List ℕ → Type 0
MayBeDamaged finds sums =
    finds None ⊎ ((records : List Record) × (number : ℕ) × finds (Some records) × IsFirstMisfit sums records number)

-- of a store that tells nothing of its content, anything follows
pub nothing_is_told : {P : Type 0} → IsTrue false → P
nothing_is_told told =
    let same : false ≡ true = told in
    absurd (cc)
