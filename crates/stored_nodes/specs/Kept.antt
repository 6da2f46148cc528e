-- A store with the records that it kept: Lamport, "Paxos Made Simple", section 2.5, where a node that restarts has what it
-- recorded before it answered. Faults of a store are this service's own.
use Rattle.std.specs.Prelude.{◌≡◌, ◌⊎◌, ℕ, ◌<◌, Bool, true, IsTrue, IsOk, Option, None, Some, List, ◌∷◌, [], ◌++◌, Result, Ok, Err}
use Rattle.ballots.specs.declared.record.Record.{Record}
use Rattle.stable_records.specs.declared.fault.StoreFault.{StoreFault}
use Rattle.stable_records.specs.declared.fault.StoreFault.TheVariants as store
use Rattle.stable_records.specs.Found.{Found, FindsOnly}
use Rattle.stable_records.specs.Calls.{RaisesCount, ReadyAfterRecall}
use Rattle.histories.specs.Following.{with_due}
use Rattle.stored_nodes.specs.declared.fault.StoredNodeFault.{StoredNodeFault}
use Rattle.stored_nodes.specs.declared.fault.StoredNodeFault.TheVariants.{OutOfMemory, Store, Lost}

-- ---- what the store may have

-- These are the records that were kept, with the one that is in doubt behind them, or without it.
abbrev pub MayBeThere : List Record → Option Record → List Record → Type 0
MayBeThere kept doubted records = (recovered : Bool) × (records ≡ with_due recovered kept doubted)

-- Nothing else is found. It is said twice negated, since what a type keeps has to be a fact that can stand in one way alone.
abbrev pub FindsKept : (Found → Type 0) → List Record → Option Record → Type 0
FindsKept finds kept doubted =
    (found : Found) → finds found → (((records : List Record) × MayBeThere kept doubted records × (found ≡ Some records)) → ⊥) → ⊥

-- whether the record in doubt is among these, and nothing where they are others
abbrev pub RecoversAs : (kept : List Record) → (doubted : Option Record) → (records : List Record) → Option Bool → Type 0
RecoversAs kept doubted records None = MayBeThere kept doubted records → ⊥
RecoversAs kept doubted records (Some recovered) = records ≡ with_due recovered kept doubted

-- ---- what the calls of a store leave

-- A record is kept behind the others; or it is in doubt, where the store failed and says nothing of it; or nothing changes.
abbrev pub KeepLeaves : {T : Type 0} → Record → Result T StoreFault → (old new : List Record) → (doubted : Option Record) → Type 0
KeepLeaves last (Ok _) old new doubted = (new ≡ old ++ last ∷ []) × (doubted ≡ None)
KeepLeaves last (Err store.Device) old new doubted = (new ≡ old) × (doubted ≡ Some last)
KeepLeaves last (Err store.Damaged) old new doubted = ⊥
KeepLeaves last (Err store.Broken) old new doubted = (new ≡ old) × (doubted ≡ None)
KeepLeaves last (Err store.OutOfMemory) old new doubted = (new ≡ old) × (doubted ≡ None)

-- The fault of the seat, by counts of the store's faults before and after: the store's own raises it; records are lost only
-- where the store does not tell what it has; and want of memory leaves it.
abbrev pub CountsNodeFault : (tells : Bool) → StoredNodeFault → (old new : ℕ) → Type 0
CountsNodeFault tells OutOfMemory old new = new ≡ old
CountsNodeFault tells (Store fault) old new = old < new
CountsNodeFault tells Lost old new = (IsTrue tells → ⊥) × (new ≡ old)

-- By its answer, a recall leaves the count or raises it: the store's own fault raises it, but not its want of memory; records are
-- lost only where the store does not tell what it has; and want of memory for the node leaves it.
abbrev pub CountsRecall : {T : Type 0} → (tells : Bool) → Result T StoredNodeFault → (old new : ℕ) → Type 0
CountsRecall tells (Ok _) old new = new ≡ old
CountsRecall tells (Err OutOfMemory) old new = new ≡ old
CountsRecall tells (Err (Store fault)) old new = RaisesCount fault old new
CountsRecall tells (Err Lost) old new = (IsTrue tells → ⊥) × (new ≡ old)

-- The store was asked: it is ready where it gave records back, whichever they are, and else as its own fault leaves it.
abbrev pub ReadyAfterRecover : {T : Type 0} → Result T StoredNodeFault → (old new : Bool) → Type 0
ReadyAfterRecover (Ok _) old new = IsTrue new
ReadyAfterRecover (Err OutOfMemory) old new = IsTrue new
ReadyAfterRecover (Err (Store fault)) old new = ReadyAfterRecall {T = Unit {0}} (Err fault) old new
ReadyAfterRecover (Err Lost) old new = IsTrue new

-- These records were found in the store, and from then on they alone are.
abbrev pub AreRecalled : (old new : Found → Type 0) → List Record → Type 0
AreRecalled old new records = old (Some records) × FindsOnly new records

-- Likewise of the record that is due, if one is.
abbrev pub DueLeaves : {T : Type 0} → Option Record → Result T StoreFault → (old new : List Record) → (doubted : Option Record) → Type 0
DueLeaves None result old new doubted = IsOk result × (new ≡ old) × (doubted ≡ None)
DueLeaves (Some last) result old new doubted = KeepLeaves last result old new doubted

-- The record that is due was kept, if one is; or it was not kept, or is in doubt.
abbrev pub KeepsDue : {T : Type 0} → Option Record → Result T StoreFault → (old new : List Record) → (doubted : Option Record) → Type 0
KeepsDue due (Ok _) old new doubted = (new ≡ with_due true old due) × (doubted ≡ None)
KeepsDue due (Err _) old new doubted = (new ≡ old) × ((doubted ≡ None) ⊎ (doubted ≡ due))

-- The records of a node that went down, with the one that was due, or without it; of this one nobody knows where it is in doubt.
abbrev pub HasKept : (kept : List Record) → (doubted : Option Record) → (records : List Record) → (due : Option Record) → Type 0
HasKept kept None records due = MayBeThere records due kept
HasKept kept (Some last) records due = (kept ≡ records) × (due ≡ Some last)
