-- What the calls of a store answer and leave, by cases of the answer (Lamport, "Paxos Made Simple", section 2.5; the
-- faults are this service's own).
use Rattle.std.specs.Prelude.{◌≡◌, ℕ, ◌<◌, Bool, false, IsTrue, Some, None, Result, Ok, Err, MatchResult, Vec}
use Rattle.std.specs.declared.alloc.Global.{Global}
use Rattle.ballots.specs.declared.record.Record.{Record}
use Rattle.stable_records.specs.declared.fault.StoreFault.{StoreFault}
use Rattle.stable_records.specs.declared.fault.StoreFault.TheVariants.{Device, Damaged, Broken, OutOfMemory}
use Rattle.stable_records.specs.Found.{Found, FindsOnly, FindsNoMore, FindsSame}
use Rattle.stable_records.specs.Found.{IsWithOrWithout, AddsRecord, MayAddRecord}

-- ---- the count of faults

-- each fault raises the count, but want of memory
abbrev pub RaisesCount : StoreFault → ℕ → ℕ → Type 0
RaisesCount Device old new = old < new
RaisesCount Damaged old new = old < new
RaisesCount Broken old new = old < new
RaisesCount OutOfMemory old new = new ≡ old

-- by its answer, a call raises the count of faults or leaves it: nothing but a fault raises it
abbrev pub CountsFault : {T : Type 0} → Result T StoreFault → ℕ → ℕ → Type 0
CountsFault result old new = MatchResult result (λ _. new ≡ old) (λ fault. RaisesCount fault old new)

-- ---- whether the store is ready: a recall was Ok, and no answer since then was Device

-- whether a store is ready before and after a keep: it is Broken exactly where it isn't, and after Device it isn't
abbrev pub ReadyAfterKeep : {T : Type 0} → Result T StoreFault → Bool → Bool → Type 0
ReadyAfterKeep (Ok _) old new = IsTrue old × IsTrue new
ReadyAfterKeep (Err Device) old new = IsTrue old × (new ≡ false)
ReadyAfterKeep (Err Damaged) old new = ⊥
ReadyAfterKeep (Err Broken) old new = (old ≡ false) × (new ≡ false)
ReadyAfterKeep (Err OutOfMemory) old new = IsTrue old × IsTrue new

-- whether a store is ready before and after a recall: it is after Ok, and after Device it isn't
abbrev pub ReadyAfterRecall : {T : Type 0} → Result T StoreFault → Bool → Bool → Type 0
ReadyAfterRecall (Ok _) old new = IsTrue new
ReadyAfterRecall (Err Device) old new = new ≡ false
ReadyAfterRecall (Err Damaged) old new = new ≡ old
ReadyAfterRecall (Err Broken) old new = ⊥
ReadyAfterRecall (Err OutOfMemory) old new = new ≡ old

-- ---- what is found afterwards

-- A keep that is Ok adds the record. After Device it may have been added, or not; any other answer changes nothing.
abbrev pub Keeps : {T : Type 0} → Record → Result T StoreFault → (Found → Type 0) → (Found → Type 0) → Type 0
Keeps last (Ok _) old new = AddsRecord last old new
Keeps last (Err Device) old new = MayAddRecord last old new
Keeps last (Err Damaged) old new = ⊥
Keeps last (Err Broken) old new = FindsSame old new
Keeps last (Err OutOfMemory) old new = FindsSame old new

-- A recall that is Ok gives records that could be found, and from then on these alone are. It is Damaged only where
-- what stands there may mean no records. A recall that fails leaves nothing to be found that was not found before.
abbrev pub Recalls : Result (Vec Record Global) StoreFault → (Found → Type 0) → (Found → Type 0) → Type 0
Recalls (Ok records) old new = old (Some records.items) × FindsOnly new records.items
Recalls (Err Device) old new = FindsNoMore old new
Recalls (Err Damaged) old new = old None × FindsNoMore old new
Recalls (Err Broken) old new = ⊥
Recalls (Err OutOfMemory) old new = FindsNoMore old new

-- What a crash in the midst of a keep may leave to be found, by the answer that the call would have given.
abbrev pub LeftInKeep : {T : Type 0} → Record → Result T StoreFault → (Found → Type 0) → Found → Type 0
LeftInKeep last (Ok _) old found = IsWithOrWithout last old found
LeftInKeep last (Err Device) old found = IsWithOrWithout last old found
LeftInKeep last (Err Damaged) old found = ⊥
LeftInKeep last (Err Broken) old found = old found
LeftInKeep last (Err OutOfMemory) old found = old found
