-- A file recalled: what it means, and what a crash leaves meanwhile.
use Rattle.std.proofs.Common.{◌≡◌, inl, inr, ℕ, ◌≤◌, List, [], Result, Err, Some, None, refl, sym, ap, subst, ◌∙◌, arith, length}
use Rattle.std.specs.Result.{IsErrAnd}
use Rattle.std.proofs.lemmas.Result.{err_from_is_err_and}
use Rattle.stable_records.specs.declared.fault.StoreFault.{StoreFault}
use Rattle.stable_records.specs.declared.fault.StoreFault.TheVariants.{Device, Damaged, Broken, OutOfMemory}
use Rattle.stable_records.specs.Found.{Found}
use Rattle.disk_records.specs.declared.reading.FileRecords.{FileRecords}
use Rattle.disk_records.specs.RecordFile.{FileMeans, FileGives}
use Rattle.disk_records.specs.Reading.{MeansNothing}
use Rattle.disk_records.specs.DiskCalls.{IsSettled, Recovers, GivesAsBefore}
use Rattle.disk_records.proofs.Readings.{Tells}

recovers_fault : (fault : StoreFault) (old new : List ℕ) (may_leave : List ℕ → Type 0)
    → Tells (MeansNothing (FileMeans old)) fault
    → IsSettled new may_leave old → Recovers (Err fault) old new may_leave
recovers_fault Device old new may_leave tells same = tt
recovers_fault Damaged old new may_leave tells same = (tells, same)
recovers_fault Broken old new may_leave tells same = absurd tells
recovers_fault OutOfMemory old new may_leave tells same = same

-- a file that is read with a fault
pub recovers_err : (answer : Result FileRecords StoreFault) (fault : StoreFault) (file old new : List ℕ)
    (may_leave : List ℕ → Type 0)
    → IsErrAnd answer (λ f. f ≡ fault) → Tells (MeansNothing (FileMeans file)) fault → file ≡ old
    → IsSettled new may_leave old → Recovers answer old new may_leave
recovers_err answer fault file old new may_leave is tells bytes same =
    let p = err_from_is_err_and answer is in
    let P : Result FileRecords StoreFault → Type 0 = λ r. Recovers r old new may_leave in
    let Q : List ℕ → Type 0 = λ l. Tells (MeansNothing (FileMeans l)) fault in
    subst P (sym (p.1 ∙ ap (λ (f : StoreFault). Err f) p.2)) (recovers_fault fault old new may_leave
    (subst Q bytes tells) same)

-- new files mean the same
short_gives : (file other : List ℕ) → length file ≤ 1 → length other ≤ 1 → (found : Found) → FileGives file found
    → FileGives other found
short_gives file other short too (Some records) (inl means) = inl (too, means.1)
short_gives file other short too (Some records) (inr means) = let long = means.0 in absurd (omega (arith, short, long))
short_gives file other short too None nothing = absurd (nothing [] (inl (short, refl)))

pub gives_the_same : (may_leave : List ℕ → Type 0) (file : List ℕ) → may_leave file → GivesAsBefore may_leave file
gives_the_same may_leave file here = (file, here, λ found gives. gives)

pub gives_none_too : (may_leave : List ℕ → Type 0) (old file : List ℕ) → may_leave old → length old ≤ 1
    → length file ≤ 1
    → GivesAsBefore may_leave file
gives_none_too may_leave old file here short too = (old, here, short_gives file old too short)
