-- What is due to an input, done by a node with its store: Lamport, "Paxos Made Simple", section 2.5, where a node records what
-- it answers before it does. Inputs are this service's own.
use Rattle.std.specs.Prelude.{◌≡◌, ◌≢◌, ◌⊎◌, ℕ, Bool, true, false, Option, None, Some, List, ◌++◌, length, slice_get, Result, Ok, Err}
use Rattle.ballots.specs.declared.record.Record.{Record}
use Rattle.ballots.specs.declared.message.Message.{Message}
use Rattle.stable_records.specs.declared.fault.StoreFault.{StoreFault}
use Rattle.stable_records.specs.declared.fault.StoreFault.TheVariants as store
use Rattle.agreement_rules.specs.Views.{AgreementConfig, Views}
use Rattle.agreement_rules.specs.Due.{Plan, Plans, IsMessageOf}
use Rattle.histories.specs.Due.{Input, IsDue, InputKeeps}
use Rattle.histories.specs.Event.{Event}
use Rattle.histories.specs.EventResult.{EventResult}
use Rattle.histories.specs.Following.{UpOrDown, IsUp, IsDown, with_due, InputGives, SendsGives, RestartGives, UpGives}
use Rattle.agreement.specs.declared.refusal.Refusal.{Refusal}
use Rattle.agreement.specs.declared.refusal.Refusal.TheVariants as refusal
use Rattle.node_core.specs.State.{NodeState, NodeHas}
use Rattle.node_core.specs.Plans.{IsRefused}
use Rattle.node_events.specs.declared.event_result.EventResult.{EventResult as Told}
use Rattle.node_events.specs.declared.event_result.Reason.{Reason}
use Rattle.node_events.specs.declared.event_result.Reason.TheVariants.{OutOfRange, SlotsSpent, RoundsSpent, OutOfMemory, Down, NotSent}
use Rattle.node_events.specs.Told.{result_of}
use Rattle.stored_nodes.specs.declared.fault.StoredNodeFault.{StoredNodeFault}
use Rattle.stored_nodes.specs.declared.fault.StoredNodeFault.TheVariants as fault
use Rattle.stored_nodes.specs.Kept.{KeepsDue}
use Rattle.stored_nodes.specs.State.{StoredNodeState, IsPlaced, Leaves, Stands, StandsUp, StandsDown, SendsFor, IsAsBefore, BreaksFor, StoredNodeFails, StoredNodeAnswers}

-- ---- what a node is handed

-- a copy of the message of this number, or why the node is handed none; memory is wanted only for a message that it takes
abbrev pub HandsMessage : AgreementConfig → List Message → ℕ → Result Message Reason → Type 0
HandsMessage config sent number (Ok m) = slice_get sent number ≡ Some m
HandsMessage config sent number (Err OutOfRange) =
    (m : Message) × (slice_get sent number ≡ Some m) × (IsMessageOf config m → ⊥)
HandsMessage config sent number (Err SlotsSpent) = ⊥
HandsMessage config sent number (Err RoundsSpent) = ⊥
HandsMessage config sent number (Err OutOfMemory) = (m : Message) × (slice_get sent number ≡ Some m) × IsMessageOf config m
HandsMessage config sent number (Err Down) = ⊥
HandsMessage config sent number (Err NotSent) = slice_get sent number ≡ None

-- ---- a node and its store

-- The node did what is due: its record stands behind those that were kept, and its messages behind those that were sent.
pub record IsDone (old new : NodeState) (views : Views) (input : Input) (records kept : List Record) (doubted : Option Record)
    (before after : List Message) (count : ℕ) : Type 0 where
  pub plan : Plan
  pub due : IsDue old.agreement.config old.agreement.me views input (Plans plan)
  pub has : NodeHas new plan.after
  pub recorded : kept ≡ with_due true records plan.kept
  pub certain : doubted ≡ None
  pub sent : after ≡ before ++ plan.sends
  pub counted : count ≡ length plan.sends

-- It did nothing, and all is as it was.
pub record IsLeft (new : NodeState) (views : Views) (records kept : List Record) (doubted : Option Record) (before after : List Message) : Type 0 where
  pub has : NodeHas new views
  pub unrecorded : kept ≡ records
  pub certain : doubted ≡ None
  pub unsent : after ≡ before

-- The record that is due was not kept, or is in doubt, and nothing was sent.
pub record IsDoubted (old : NodeState) (views : Views) (input : Input) (records kept : List Record) (doubted : Option Record)
    (before after : List Message) : Type 0 where
  pub last : Record
  pub keeps : InputKeeps old.agreement.config old.agreement.me views input (Some last)
  pub unrecorded : kept ≡ records
  pub in_doubt : (doubted ≡ None) ⊎ (doubted ≡ Some last)
  pub unsent : after ≡ before

-- What is due was done, or refused; or memory was refused for its messages; or the store failed.
abbrev pub TakeGives : (old new : NodeState) → Views → Input → (records kept : List Record) → (doubted : Option Record)
    → (before after : List Message) → Result (Result ℕ Refusal) StoredNodeFault → Type 0
TakeGives old new views input records kept doubted before after (Ok (Ok count)) =
    IsDone old new views input records kept doubted before after count
TakeGives old new views input records kept doubted before after (Ok (Err refusal)) =
    IsRefused old views input refusal × IsLeft new views records kept doubted before after
TakeGives old new views input records kept doubted before after (Err fault.OutOfMemory) =
    SendsFor old.agreement.config old.agreement.me views input × IsLeft new views records kept doubted before after
TakeGives old new views input records kept doubted before after (Err (fault.Store why)) =
    IsDoubted old views input records kept doubted before after
TakeGives old new views input records kept doubted before after (Err fault.Lost) = ⊥

-- no record is in doubt, but where the store failed
abbrev pub DoubtsNone : {T : Type 0} → Result T StoredNodeFault → Option Record → Type 0
DoubtsNone (Ok _) doubted = doubted ≡ None
DoubtsNone (Err fault.OutOfMemory) doubted = doubted ≡ None
DoubtsNone (Err (fault.Store why)) doubted = Unit {0}
DoubtsNone (Err fault.Lost) doubted = doubted ≡ None

-- what a fault of the store is to the input: want of memory refuses it
abbrev pub IsNotKept : StoreFault → Result (Result ℕ Refusal) StoredNodeFault → Type 0
IsNotKept store.Device result = result ≡ Err (fault.Store store.Device)
IsNotKept store.Damaged result = result ≡ Err (fault.Store store.Damaged)
IsNotKept store.Broken result = result ≡ Err (fault.Store store.Broken)
IsNotKept store.OutOfMemory result = result ≡ Ok (Err refusal.OutOfMemory)

-- the record that is due, if one is, was kept or not as is told, and nothing else was done
abbrev pub KeepsAlone : {T : Type 0} → NodeState → Views → Input → (records kept : List Record) → (doubted : Option Record)
    → Result T StoreFault → Type 0
KeepsAlone node views input records kept doubted result =
    (due : Option Record) × InputKeeps node.agreement.config node.agreement.me views input due
    × KeepsDue due result records kept doubted

-- ---- a seat

-- a node that is up takes an input, and sends
abbrev pub StepApplies : {S : Type 0} → (old new : StoredNodeState S) → (before after : List Message) → Input → EventResult → Type 0
StepApplies old new before after input given =
    (views : Views) → IsPlaced old → StandsUp old views
    → Leaves old new before after given
    (InputGives old.config old.me views input (SendsGives after (length before) views) given)

-- or the store fails, and the node is down
pub record StepBreaks {S : Type 0} (old new : StoredNodeState S) (views : Views) (input : Input) (before after : List Message) : Type 0 where
  pub left : UpOrDown
  pub breaks : BreaksFor old.config old.me views input left
  pub stands : Stands new left
  pub placed : IsPlaced new
  pub me_is : new.me ≡ old.me
  pub config_is : new.config ≡ old.config
  pub unsent : after ≡ before

-- or memory is refused for its messages
abbrev pub StepAnswers : {S : Type 0} → (old new : StoredNodeState S) → (before after : List Message) → Input → Result Told StoredNodeFault → Type 0
StepAnswers old new before after input (Ok given) = StepApplies old new before after input (result_of given)
StepAnswers old new before after input (Err fault.OutOfMemory) =
    (views : Views) → IsPlaced old → StandsUp old views
    → IsAsBefore old new (IsUp views) before after × SendsFor old.config old.me views input
StepAnswers old new before after input (Err (fault.Store why)) =
    (views : Views) → IsPlaced old → StandsUp old views → StepBreaks old new views input before after
StepAnswers old new before after input (Err fault.Lost) = (views : Views) → IsPlaced old → StandsUp old views → ⊥

-- an event of a node that is up is applied
abbrev pub UpApplies : {S : Type 0} → (old new : StoredNodeState S) → (before after : List Message) → Event → EventResult → Type 0
UpApplies old new before after e given =
    (views : Views) → IsPlaced old → StandsUp old views
    → Leaves old new before after given (UpGives old.config after (length before) false views e given)

-- of a node that is up, what an event gives
abbrev pub UpAnswers : {S : Type 0} → (old new : StoredNodeState S) → (before after : List Message)
    → Event → Result Told StoredNodeFault → Type 0
UpAnswers old new before after e (Ok given) = UpApplies old new before after e (result_of given)
UpAnswers old new before after e (Err why) =
    (views : Views) → IsPlaced old → StandsUp old views → StoredNodeFails old new (IsUp views) before after e why

-- a node that was up is down, and the record that is due, if one is, was kept as is told
pub record IsCut {S T : Type 0} (old new : StoredNodeState S) (views : Views) (input : Input) (result : Result T StoreFault) : Type 0 where
  pub due : Option Record
  pub keeps : InputKeeps old.config old.me views input due
  pub down : new.node ≡ None
  pub kept : KeepsDue due result old.records new.records new.doubted
  pub me_is : new.me ≡ old.me
  pub config_is : new.config ≡ old.config

abbrev pub CutApplies : {S T : Type 0} → (old new : StoredNodeState S) → Input → Result T StoreFault → Type 0
CutApplies old new input result = (views : Views) → StandsUp old views → IsCut old new views input result

-- a node that is up answers a client, or goes down; whatever was sent before, nothing goes out
abbrev pub QuietApplies : {S : Type 0} → (old new : StoredNodeState S) → Event → EventResult → Type 0
QuietApplies old new e given = (before : List Message) → UpApplies old new before before e given

-- ---- a restart

-- the seat has this node in place of the one that it had, or none, and nothing else changes
pub record HasNode {S : Type 0} (old new : StoredNodeState S) (node : Option NodeState) : Type 0 where
  pub node_is : new.node ≡ node
  pub me_is : new.me ≡ old.me
  pub config_is : new.config ≡ old.config
  pub records_are : new.records ≡ old.records
  pub doubted_is : new.doubted ≡ old.doubted

-- the node is opened with the records that were kept, or down; whatever was sent before, nothing goes out
abbrev pub RestartApplies : {S : Type 0} → (old new : StoredNodeState S) → EventResult → Type 0
RestartApplies old new given =
    (seat : UpOrDown) (before : List Message) → IsPlaced old → Stands old seat
    → (recovered : Bool) × Leaves old new before before given (RestartGives recovered seat given)

-- or the store fails or has lost records, and the seat stands as it stood
abbrev pub RestartAnswers : {S : Type 0} → (old new : StoredNodeState S) → Result Told StoredNodeFault → Type 0
RestartAnswers old new (Ok given) = RestartApplies old new (result_of given)
RestartAnswers old new (Err why) =
    (why ≢ fault.OutOfMemory)
    × ((seat : UpOrDown) (before : List Message) → IsPlaced old → Stands old seat → IsAsBefore old new seat before before)

-- an event of a node that is down; whatever was sent before, nothing goes out
abbrev pub DownAnswers : {S : Type 0} → (old new : StoredNodeState S) → Event
    → Result Told StoredNodeFault → Type 0
DownAnswers old new e result =
    (records : List Record) (due : Option Record) (before : List Message) → IsPlaced old → StandsDown old records due
    → StoredNodeAnswers old new (IsDown records due) before before e result
