-- A node's two files: its records and their sums. This service's own.
use Rattle.std.specs.Prelude.{ℕ, ◌<◌, ◌≤◌, List, length}
use Rattle.ballots.specs.declared.record.Record.{Record}
use Rattle.disk_records.specs.RecordFile.{FileMeans}
use Rattle.record_sums.specs.Sums.{Fits, IsFirstMisfit}
use Rattle.record_sums.specs.declared.damage.DamageKind.{DamageKind}
use Rattle.record_sums.specs.declared.damage.DamageKind.TheVariants.{NoRecord, Changed, Closed}

-- the file means records, and these fit their sums
abbrev pub AreWhole : List ℕ → List ℕ → Type 0
AreWhole file sums = (records : List Record) × FileMeans file records × Fits sums records

-- a record is not the one that was kept, or one that was kept is not there
abbrev pub IsMisfitSo : ℕ → ℕ → DamageKind → Type 0
IsMisfitSo number count NoRecord = ⊥
IsMisfitSo number count Changed = number < count
IsMisfitSo number count Closed = count ≤ number

-- the file means records, and so is the first misfit of their sums
pub record HasMisfit (file sums : List ℕ) (kind : DamageKind) : Type 0 where
  pub records : List Record
  pub means : FileMeans file records
  pub number : ℕ
  pub first : IsFirstMisfit sums records number
  pub is_so : IsMisfitSo number (length records) kind

-- it means no records, or has such a misfit
abbrev pub IsDamagedSo : List ℕ → List ℕ → DamageKind → Type 0
IsDamagedSo file sums NoRecord = (records : List Record) → FileMeans file records → ⊥
IsDamagedSo file sums Changed = HasMisfit file sums Changed
IsDamagedSo file sums Closed = HasMisfit file sums Closed
