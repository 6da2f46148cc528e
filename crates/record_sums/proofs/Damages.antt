-- A file and its sums that are whole, or are not.
use Rattle.std.proofs.Common.{◌≡◌, ℕ, List, length, Option, Some, None, MatchOption, Result, Ok, Err, IfOk, refl, subst}
use Rattle.std.specs.Option.{IfSome}
use Rattle.ballots.specs.declared.record.Record.{Record}
use Rattle.disk_records.specs.RecordFile.{FileMeans}
use Rattle.record_sums.specs.Sums.{Fits, IsFirstMisfit}
use Rattle.record_sums.specs.declared.damage.Damage.{Damage}
use Rattle.record_sums.specs.Damage.{AreWhole, IsMisfitSo}

-- a file means one list of records
abbrev pub MeansOne : Type 0
MeansOne = (file : List ℕ) (records other : List Record) → FileMeans file records → FileMeans file other → records ≡ other

whole_or_not : MeansOne → (file sums : List ℕ) (records : List Record) (found : Option Damage) → FileMeans file records
    → (found ≡ None → Fits sums records)
    → IfSome found (λ damage. (number : ℕ) × IsFirstMisfit sums records number × IsMisfitSo number (length records) damage.kind)
    → MatchOption found (AreWhole file sums) (λ _. AreWhole file sums → ⊥)
whole_or_not one file sums records None means fits misfit = (records, means, fits refl)
whole_or_not one file sums records (Some damage) means fits misfit =
    λ whole. subst (Fits sums) (one file whole.0 records whole.1 means) whole.2 misfit.0 misfit.1.misfit

pub is_whole : {E : Type 0} → MeansOne → (file sums : List ℕ) (records : List Record) (result : Result (Option Damage) E) → FileMeans file records
    → IfOk result (λ found. found ≡ None → Fits sums records)
    → IfOk result (λ found. IfSome found (λ damage. (number : ℕ) × IsFirstMisfit sums records number × IsMisfitSo number (length records) damage.kind))
    → IfOk result (λ found. MatchOption found (AreWhole file sums) (λ _. AreWhole file sums → ⊥))
is_whole one file sums records (Ok found) means fits misfit = whole_or_not one file sums records found means fits misfit
is_whole one file sums records (Err fault) means fits misfit = tt
