-- How a node starts again from the records that its store has, and what a crash in the midst of a step leaves: Lamport,
-- "Paxos Made Simple", section 2.5, where a node that restarts has what it recorded before it answered. The faults of stores
-- are this service's own.
use Rattle.std.specs.Prelude.{◌≡◌, ◌≢◌, ℕ, Bool, IsTrue, Option, None, Some, List, [], ◌∷◌, ◌++◌, Result, Ok, Err, slice_get, Vec}
use Rattle.std.specs.declared.alloc.Global.{Global}
use Rattle.ballots.specs.declared.message.Message.{Message}
use Rattle.ballots.specs.declared.record.Record.{Record}
use Rattle.stable_records.specs.declared.fault.StoreFault.{StoreFault}
use Rattle.stable_records.specs.Found.{Found, FindsOnly, IsWithOrWithout}
use Rattle.stable_records.specs.Calls.{Recalls, RaisesCount, ReadyAfterRecall}
use Rattle.agreement_rules.specs.Views.{AgreementConfig, started_with}
use Rattle.histories.specs.Due.{Input}
use Rattle.histories.specs.Due as input
use Rattle.histories.specs.Event.{Event}
use Rattle.histories.specs.Event as event
use Rattle.histories.specs.EventResult as results
use Rattle.histories.specs.History.{Step}
use Rattle.histories.specs.Following.{UpOrDown, IsUp, Reaches}
use Rattle.histories.specs.Owning.{own}
use Rattle.histories.specs.Keeping.{AreKept}
use Rattle.node_core.specs.State.{NodeState, CanStart, Starts}
use Rattle.node_core.specs.declared.reopening.OpenFault.{OpenFault}
use Rattle.node_core.specs.declared.reopening.OpenFault.TheVariants.{Store, OutOfRange, OutOfMemory}

-- ---- a node that is opened with the records of its store

-- a recall that failed
abbrev pub failed : StoreFault → Result (Vec Record Global) StoreFault
failed fault = Err fault

-- These records were recalled. Where the store tells what it has, they could be found before, and since then they alone are.
pub record WereRecalled (tells : Bool) (old new : Found → Type 0) (records : List Record) : Type 0 where
  pub found : IsTrue tells → old (Some records)
  pub nothing_else : IsTrue tells → FindsOnly new records

-- What a reopening gives: the node with the records that were recalled, and nothing else; or the recall failed; or the records
-- are none of this member; or memory for the node was refused.
abbrev pub ReopenGives : (tells : Bool) → AgreementConfig → ℕ → (old new : Found → Type 0) → Result NodeState OpenFault → Type 0
ReopenGives tells config me old new (Ok state) =
    (records : List Record) × WereRecalled tells old new records × Starts config me records state
ReopenGives tells config me old new (Err (Store fault)) = IsTrue tells → Recalls (failed fault) old new
ReopenGives tells config me old new (Err OutOfRange) =
    (records : List Record) × WereRecalled tells old new records × (CanStart config me records → ⊥)
ReopenGives tells config me old new (Err OutOfMemory) =
    (records : List Record) × WereRecalled tells old new records × CanStart config me records

-- The store's count of faults: a recall that failed raises it, unless memory was refused, and nothing else does.
abbrev pub CountsReopening : Result NodeState OpenFault → (old new : ℕ) → Type 0
CountsReopening (Ok state) old new = new ≡ old
CountsReopening (Err (Store fault)) old new = RaisesCount fault old new
CountsReopening (Err OutOfRange) old new = new ≡ old
CountsReopening (Err OutOfMemory) old new = new ≡ old

-- whether the store is ready: it is wherever its records were recalled
abbrev pub ReadyAfterReopening : Result NodeState OpenFault → (old new : Bool) → Type 0
ReadyAfterReopening (Ok state) old new = IsTrue new
ReadyAfterReopening (Err (Store fault)) old new = ReadyAfterRecall (failed fault) old new
ReadyAfterReopening (Err OutOfRange) old new = IsTrue new
ReadyAfterReopening (Err OutOfMemory) old new = IsTrue new

-- ---- a crash in the midst of a step

-- the event that cuts an input short at this node, where these messages were sent; a put keeps no record, and has none
abbrev pub IsCutOf : List Message → ℕ → Event → Input → Type 0
IsCutOf sent node cut (input.Put text) = ⊥
IsCutOf sent node cut (input.Tick left) = cut ≡ event.TickCut node left
IsCutOf sent node cut (input.Deliver m) =
    (number : ℕ) × (cut ≡ event.DeliverCut node number) × (slice_get sent number ≡ Some m)

-- What a crash leaves to be found in a step in which this record is due: what was found before, with the record behind it or
-- without it; and where none is due, what was found before.
abbrev pub MayBeLeft : (due : Option Record) → (finds : Found → Type 0) → Found → Type 0
MayBeLeft None finds found = finds found
MayBeLeft (Some last) finds found = IsWithOrWithout last finds found

abbrev pub done : Event → Step
done e = record { event = e; result = results.Done }

-- The history goes on by these steps, which leave the node up with these records, the ones that it kept in the whole history,
-- and with nothing else; and all other nodes as they were.
pub record GoesOnWith (config : AgreementConfig) (sent : List Message) (steps more : List Step) (recovered asked : List Bool)
    (seats : ℕ → UpOrDown) (node : ℕ) (records : List Record) : Type 0 where
  pub after : ℕ → UpOrDown
  pub reaches : Reaches config sent (steps ++ more) (recovered ++ asked) after
  pub opened : after node ≡ IsUp (started_with records)
  pub others : (other : ℕ) → other ≢ node → after other ≡ seats other
  pub kept : AreKept config (IsUp (started_with [])) (own node sent (steps ++ more) (recovered ++ asked)) records

-- What is found is the records that the node kept in the history that goes on by these steps and a restart.
abbrev pub IsKeptThrough : AgreementConfig → List Message → (steps more : List Step) → (recovered asked : List Bool)
    → (seats : ℕ → UpOrDown) → (node : ℕ) → Found → Type 0
IsKeptThrough config sent steps more recovered asked seats node found =
    (was : Bool) × (records : List Record) × (found ≡ Some records)
    × GoesOnWith config sent steps (more ++ done (event.Restart node) ∷ []) recovered (asked ++ was ∷ []) seats node records
