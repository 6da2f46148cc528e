-- A store on a disk: which records a recall may find, and when it may keep one. Lamport, "Paxos Made Simple", section
-- 2.5; the file is this service's own.
use Rattle.std.specs.Prelude.{◌≡◌, ℕ, ◌+◌, ◌<◌, ◌^◌, Bool, List, Option, Some, None, IsTrue, is_some}
use Rattle.std.proofs.Common.{arith, refl, subst, ap}
use Rattle.std.proofs.lemmas.Bool.{false≢true}
use Rattle.std.specs.Coded.{Coded-set, coded_list, coded_ℕ, ×_prop, Π_prop, le_prop}
use mathlib.Core.HLevel.{Σ_prop_path}
use mathlib.Core.Logic.{∥∥₁_elim, ∥∥₁_prop, inl, inr}
use Rattle.ballots.specs.declared.record.Record.{Record}
use Rattle.ballots.specs.contracts.record.Record.{the_row}
use Rattle.stable_records.specs.Found.{Found, FindsOnly}
use Rattle.stable_records.specs.declared.fault.StoreFault.{StoreFault}
use Rattle.stable_records.specs.declared.fault.StoreFault.TheVariants.{Device, Damaged, Broken, OutOfMemory}
use Rattle.disk_records.specs.RecordFile.{IsClosedAt, FileMeans, FileGives}
use Rattle.disk_records.specs.Disk.{LeavesOnly}

-- what is found in one of the files that a crash may leave
abbrev pub FoundIn : (List ℕ → Type 0) → Found → Type 0
FoundIn may_leave found = (file : List ℕ) × may_leave file × FileGives file found

-- A keep may write behind the closed gate at this place: the file has its records in front of it, means these alone,
-- and stands.
pub record IsReadyAt (content : List ℕ) (may_leave : List ℕ → Type 0) (gate : ℕ) : Type 0 where
  pub records : List Record
  pub closed : IsClosedAt content records gate
  pub means : FileMeans content records
  pub alone : (other : List Record) → FileMeans content other → other ≡ records
  pub stands : LeavesOnly content may_leave

-- where a closed gate is known, a keep may write there; what the disk does not tell is not claimed
pub record IsGateOf (tells : Bool) (content : List ℕ) (may_leave : List ℕ → Type 0) (gate : ℕ) : Type 0 where
  pub place : gate < 2 ^ 63
  pub ready : IsTrue tells → ∥ IsReadyAt content may_leave gate ∥₁

-- what a fault of a recall leaves known of the closed gate, and of the count of refusals
abbrev pub Notes : StoreFault → Option ℕ → Option ℕ → ℕ → ℕ → Type 0
Notes Device old new before after = (new ≡ None) × (after ≡ before)
Notes Damaged old new before after = (new ≡ old) × (after ≡ before + 1)
Notes Broken old new before after = (new ≡ old) × (after ≡ before)
Notes OutOfMemory old new before after = (new ≡ old) × (after ≡ before)

-- ---- that this is as a store's has to be

pub Records-set : IsSet (List Record)
Records-set = Coded-set (coded_list (the_row).coded)

-- a file means these records in one way
pub FileMeans-prop : (file : List ℕ) (records : List Record) → IsProp (FileMeans file records)
FileMeans-prop file records (inl a) (inl b) = ap (λ x. inl x) (×_prop le_prop (Records-set _ _) a b)
FileMeans-prop file records (inl a) (inr b) = let short = a.0 in let long = b.0 in absurd (omega (arith, short, long))
FileMeans-prop file records (inr a) (inl b) = let short = b.0 in let long = a.0 in absurd (omega (arith, short, long))
FileMeans-prop file records (inr a) (inr b) = ap (λ x. inr x) (×_prop le_prop ∥∥₁_prop a b)

-- the file means these records alone
abbrev pub MeansAlone : List ℕ → List Record → Type 0
MeansAlone file records = FileMeans file records × ((other : List Record) → FileMeans file other → other ≡ records)

MeansAlone-prop : (file : List ℕ) (records : List Record) → IsProp (MeansAlone file records)
MeansAlone-prop file records =
    ×_prop (FileMeans-prop file records) (Π_prop (λ other. Π_prop (λ means. Records-set other records)))

one_alone : (file : List ℕ) → IsProp ((records : List Record) × MeansAlone file records)
one_alone file a b = Σ_prop_path (MeansAlone-prop file) (b.1.1 a.0 a.1.0)

-- the records of a store that is ready
pub records_of : (content : List ℕ) (may_leave : List ℕ → Type 0) (gate : ℕ) → ∥ IsReadyAt content may_leave gate ∥₁
    → (records : List Record) × MeansAlone content records
records_of content may_leave gate ready = ∥∥₁_elim ready (one_alone content) (λ r. (r.records, (r.means, r.alone)))

pub stands_of : (content : List ℕ) (may_leave : List ℕ → Type 0) (gate : ℕ) → ∥ IsReadyAt content may_leave gate ∥₁
    → LeavesOnly content may_leave
stands_of content may_leave gate ready file left =
    ∥∥₁_elim ready (Coded-set (coded_list coded_ℕ) file content) (λ r. r.stands file left)

gives_alone : (file : List ℕ) (records : List Record) → MeansAlone file records → (found : Found) → FileGives file found
    → found ≡ Some records
gives_alone file records alone (Some other) means = ap (λ l. Some l) (alone.1 other means)
gives_alone file records alone None nothing = absurd (nothing records alone.0)

-- where one file is all that a crash leaves, its records are found alone
pub finds_alone : (content : List ℕ) (may_leave : List ℕ → Type 0) (records : List Record) → MeansAlone content records
    → may_leave content → LeavesOnly content may_leave → FindsOnly (FoundIn may_leave) records
finds_alone content may_leave records alone here only = record {
  these = (content, here, alone.0);
  nothing_else = λ found found_here.
      let P : List ℕ → Type 0 = λ l. FileGives l found in
      gives_alone content records alone found (subst P (only found_here.0 found_here.1) found_here.2);
}

-- where a gate is known, one list of records is found
pub one_is_found : (tells : Bool) (content : List ℕ) (may_leave : List ℕ → Type 0) (gate : Option ℕ)
    → ((place : ℕ) → gate ≡ Some place → IsGateOf tells content may_leave place) → may_leave content → IsTrue tells
    → IsTrue (is_some gate) → (records : List Record) × FindsOnly (FoundIn may_leave) records
one_is_found tells content may_leave None known here told ready = absurd (false≢true ready)
one_is_found tells content may_leave (Some place) known here told ready =
    let at = (known place refl).ready told in
    let records = records_of content may_leave place at in
    (records.0, finds_alone content may_leave records.0 records.1 here (stands_of content may_leave place at))

-- what is found now is found since an earlier moment, and since this moment nothing else
pub found_now : (may_leave since : List ℕ → Type 0) (found : Found) → ((file : List ℕ) → may_leave file → since file)
    → FoundIn may_leave found → FoundIn since found
found_now may_leave since found counts here = (here.0, counts here.0 here.1, here.2)
