-- A store's crashes, by those of its disk; and what a recall leaves.
use Rattle.std.proofs.Common.{◌≡◌, inl, inr, ℕ, Bool, IsTrue, List, Option, Some, None, Err, sym, subst, ◌∙◌}
use Rattle.std.specs.Prelude.{IsErrOf}
use mathlib.Core.Logic.{∥∥₁_map}
use Rattle.ballots.specs.declared.record.Record.{Record}
use Rattle.stable_records.specs.declared.fault.StoreFault.{StoreFault}
use Rattle.stable_records.specs.declared.fault.StoreFault.TheVariants.{Device, Damaged, Broken, OutOfMemory}
use Rattle.stable_records.specs.Found.{Found, FindsNoMore}
use Rattle.stable_records.specs.Calls.{Recalls}
use Rattle.stable_records.specs.Moments.{AnyCrashLeaves}
use Rattle.disk_records.specs.RecordFile.{FileMeans, FileGives}
use Rattle.disk_records.specs.Reading.{MeansNothing}
use Rattle.disk_records.specs.Disk.{CrashLeaves}
use Rattle.disk_records.specs.DiskCalls.{IsSettled, IsRecovered, Recovers, GivesAsBefore}
use Rattle.disk_records.specs.Ready.{FoundIn, IsReadyAt, IsGateOf, Notes}
use Rattle.disk_records.proofs.CallerLemmas.{closed_means}
use Rattle.disk_records.proofs.Keeping.{FilesMeanOne}

pub store_crash : {S D : Type 0} (disk : S → D) (moment : D → ℕ) (since : D → ℕ → List ℕ → Type 0) (old new : S)
    (P : List ℕ → Type 0) (Q : Found → Type 0)
    → CrashLeaves (moment (disk old)) (moment (disk new)) (since (disk old)) (since (disk new)) P
    → ((file : List ℕ) → P file → (found : Found) → FileGives file found → Q found)
    → AnyCrashLeaves (λ s. moment (disk s)) (λ s t. FoundIn (since (disk s) t)) old new Q
store_crash disk moment since old new P Q crash shows = record {
  later = crash.later;
  leaves = λ found here. shows here.0 (crash.leaves here.0 here.1) found here.2;
  before = λ t found le here. elim (crash.before t here.0 le here.1) [
    | inl past ↦ inl (here.0, past, here.2)
    | inr now ↦ inr (shows here.0 now found here.2)
  ];
  remembers = λ t found le here. (here.0, crash.remembers t here.0 le here.1, here.2);
}

-- ---- a recall

-- a recall finds nothing in these files that it might not have found before
pub finds_no_more : (old new : List ℕ → Type 0) → ((file : List ℕ) → new file → GivesAsBefore old file)
    → FindsNoMore (FoundIn old) (FoundIn new)
finds_no_more old new as_before found here =
    let before = as_before here.0 here.1 in (before.0, before.1, before.2 found here.2)

pub recalls_fault : (fault : StoreFault) (old new : List ℕ) (may_leave may_be_left : List ℕ → Type 0) → may_leave old
    → FindsNoMore (FoundIn may_leave) (FoundIn may_be_left) → Recovers (Err fault) old new may_be_left
    → Recalls (Err fault) (FoundIn may_leave) (FoundIn may_be_left)
recalls_fault Device old new may_leave may_be_left here no_more recovers = no_more
recalls_fault Damaged old new may_leave may_be_left here no_more recovers = ((old, here, recovers.0), no_more)
recalls_fault Broken old new may_leave may_be_left here no_more recovers = absurd recovers
recalls_fault OutOfMemory old new may_leave may_be_left here no_more recovers = no_more

pub damaged_means_nothing : {T : Type 0} (fault : StoreFault) (old new : List ℕ) (may_leave : List ℕ → Type 0)
    → Recovers (Err fault) old new may_leave → IsErrOf {T = T} (Err fault) Damaged → MeansNothing (FileMeans old)
damaged_means_nothing Device old new may_leave recovers is = absurd (cc)
damaged_means_nothing Damaged old new may_leave recovers is = recovers.0
damaged_means_nothing Broken old new may_leave recovers is = absurd recovers
damaged_means_nothing OutOfMemory old new may_leave recovers is = absurd (cc)

-- ---- the closed gate after a recall

pub gate_recovered : FilesMeanOne → (content : List ℕ) (may_leave : List ℕ → Type 0) (records : List Record) (gate : ℕ)
    → IsRecovered content may_leave records gate → IsReadyAt content may_leave gate
gate_recovered one content may_leave records gate r =
    let means = closed_means content records gate r.closed in
    record {
      records = records;
      closed = r.closed;
      means = means;
      alone = λ other also. one content other records also means;
      stands = r.stands;
    }

ready_stays : (old new : List ℕ) (may_leave may_be_left : List ℕ → Type 0) (gate : ℕ) → IsSettled new may_be_left old
    → IsReadyAt old may_leave gate → IsReadyAt new may_be_left gate
ready_stays old new may_leave may_be_left gate settled r =
    let P : List ℕ → Type 0 = λ l. IsReadyAt l may_be_left gate in
    let same : IsReadyAt old may_be_left gate =
    record { records = r.records; closed = r.closed; means = r.means; alone = r.alone; stands = settled.stands } in
    subst P (sym settled.bytes) same

gate_stays : (tells : Bool) (old new : List ℕ) (may_leave may_be_left : List ℕ → Type 0) (gate : ℕ)
    → (IsTrue tells → IsSettled new may_be_left old) → IsGateOf tells old may_leave gate
    → IsGateOf tells new may_be_left gate
gate_stays tells old new may_leave may_be_left gate settled is = record {
  place = is.place;
  ready = λ told. ∥∥₁_map (is.ready told) (ready_stays old new may_leave may_be_left gate (settled told));
}

pub gate_noted : (tells : Bool) (fault : StoreFault) (old new : List ℕ) (may_leave may_be_left : List ℕ → Type 0)
    (known noted : Option ℕ) (before after : ℕ) → Notes fault known noted before after
    → (IsTrue tells → Recovers (Err fault) old new may_be_left)
    → ((place : ℕ) → known ≡ Some place → IsGateOf tells old may_leave place)
    → (place : ℕ) → noted ≡ Some place → IsGateOf tells new may_be_left place
gate_noted tells Device old new may_leave may_be_left known noted before after notes recovers was place is =
    absurd (none_is_not_some place (sym notes.0 ∙ is))
  where
    none_is_not_some : (place : ℕ) → None ≡ Some place → ⊥
    none_is_not_some place e = cc
gate_noted tells Damaged old new may_leave may_be_left known noted before after notes recovers was place is =
    gate_stays tells old new may_leave may_be_left place (λ told. (recovers told).1) (was place (sym notes.0 ∙ is))
gate_noted tells Broken old new may_leave may_be_left known noted before after notes recovers was place is =
    let known_here = was place (sym notes.0 ∙ is) in
    record { place = known_here.place; ready = λ told. absurd (recovers told) }
gate_noted tells OutOfMemory old new may_leave may_be_left known noted before after notes recovers was place is =
    gate_stays tells old new may_leave may_be_left place recovers (was place (sym notes.0 ∙ is))

pub same_place : (gate place : ℕ) → Some gate ≡ Some place → gate ≡ place
same_place gate place e = cc
