-- A node with the store of its records, and how it stands for a node of a history: Lamport, "Paxos Made Simple", section 2.5,
-- where a node that restarts has the records that it kept. That it goes down between a record and all else is this
-- service's own.
use Rattle.std.specs.Prelude.{◌≡◌, ◌≢◌, ℕ, ◌<◌, Bool, Option, None, Some, List, [], ◌++◌, length, slice_get, Result, Ok, Err}
use Rattle.std.specs.List.{AllByRecursion}
use Rattle.std.specs.Option.{IfSome}
use Rattle.ballots.specs.declared.record.Record.{Record}
use Rattle.ballots.specs.declared.message.Message.{Message}
use Rattle.agreement_rules.specs.Views.{AgreementConfig, Views}
use Rattle.agreement_rules.specs.Due.{Plan, Plans}
use Rattle.histories.specs.Due.{Input, IsDue, InputKeeps}
use Rattle.histories.specs.Due as input
use Rattle.histories.specs.Event.{Event, node_of}
use Rattle.histories.specs.Event as event
use Rattle.histories.specs.EventResult.{EventResult, count_of}
use Rattle.histories.specs.Following.{UpOrDown, IsUp, IsDown, NodeGives, IsAsked}
use Rattle.node_core.specs.State.{NodeState, NodeHas, IsRecordOf}
use Rattle.node_events.specs.declared.event_result.EventResult.{EventResult as Told}
use Rattle.node_events.specs.Told.{result_of}
use Rattle.stored_nodes.specs.declared.fault.StoredNodeFault.{StoredNodeFault}
use Rattle.stored_nodes.specs.declared.fault.StoredNodeFault.TheVariants.{OutOfMemory, Store, Lost}
use Rattle.stored_nodes.specs.Kept.{HasKept}

pub record StoredNodeState (S : Type 0) : Type 0 where
  pub me : ℕ
  pub config : AgreementConfig
  pub store : S
  -- those that its store kept
  pub records : List Record
  -- the one of which nobody knows whether its store kept it
  pub doubted : Option Record
  -- there is none while it is down
  pub node : Option NodeState

-- it is a member, and what it kept is of its configuration
pub record IsPlaced {S : Type 0} (state : StoredNodeState S) : Type 0 where
  pub member : state.me < state.config.members
  pub records_are : AllByRecursion (IsRecordOf state.config) state.records
  pub doubted_is : IfSome state.doubted (IsRecordOf state.config)

-- the node is this one, and has these views
pub record StandsUp {S : Type 0} (state : StoredNodeState S) (views : Views) : Type 0 where
  pub node : NodeState
  pub up : state.node ≡ Some node
  pub me_is : node.agreement.me ≡ state.me
  pub config_is : node.agreement.config ≡ state.config
  pub has : NodeHas node views
  pub kept : state.records ≡ views.records
  pub certain : state.doubted ≡ None

-- the store kept these records, and the one that was due where the node went down, or not
pub record StandsDown {S : Type 0} (state : StoredNodeState S) (records : List Record) (due : Option Record) : Type 0 where
  pub down : state.node ≡ None
  pub kept : HasKept state.records state.doubted records due

abbrev pub Stands : {S : Type 0} → StoredNodeState S → UpOrDown → Type 0
Stands state (IsUp views) = StandsUp state views
Stands state (IsDown records due) = StandsDown state records due

-- ---- an event that is applied

-- Where these messages were sent before, as many more go out as is told, and the seat stands as its rules say.
pub record Leaves {S : Type 0} (old new : StoredNodeState S) (before after : List Message) (given : EventResult) (Gives : UpOrDown → Type 0) : Type 0 where
  pub more : List Message
  pub behind : after ≡ before ++ more
  pub counted : length more ≡ count_of given
  pub left : UpOrDown
  pub gives : Gives left
  pub stands : Stands new left
  pub placed : IsPlaced new
  pub me_is : new.me ≡ old.me
  pub config_is : new.config ≡ old.config

-- Of a node that stood as this seat, where these messages were sent before: the event gives this by the node's rules, as many
-- messages more go out as it tells, and the node stands as the event leaves the seat.
abbrev pub StoredNodeApplies : {S : Type 0} → (old new : StoredNodeState S) → UpOrDown → (before after : List Message) → Event → EventResult → Type 0
StoredNodeApplies old new seat before after e given =
    (recovered : Bool) × IsAsked e recovered
    × Leaves old new before after given (NodeGives old.config after (length before) recovered seat e given)

-- ---- an event that is not, for want of memory

-- the event hands the node this input, where these messages were sent before
abbrev pub IsHanded : List Message → Event → Input → Type 0
IsHanded sent (event.Put node text) asked = asked ≡ input.Put text
IsHanded sent (event.Tick node left) asked = asked ≡ input.Tick left
IsHanded sent (event.Deliver node number) asked =
    (m : Message) × (slice_get sent number ≡ Some m) × (asked ≡ input.Deliver m)
IsHanded sent (event.TickCut node left) asked = ⊥
IsHanded sent (event.DeliverCut node number) asked = ⊥
IsHanded sent (event.Restart node) asked = ⊥
IsHanded sent (event.Get node table version) asked = ⊥
IsHanded sent (event.Info node table) asked = ⊥
IsHanded sent (event.Outcome node text) asked = ⊥

-- messages are due to the input
abbrev pub SendsFor : AgreementConfig → ℕ → Views → Input → Type 0
SendsFor config me views of = (plan : Plan) × IsDue config me views of (Plans plan) × (plan.sends ≢ [])

-- messages are due to the event of a node that is up, where these were sent before
abbrev pub UpSends : AgreementConfig → List Message → Views → Event → Type 0
UpSends config sent views (event.Put node text) = ⊥
UpSends config sent views (event.Tick node left) = SendsFor config node views (input.Tick left)
UpSends config sent views (event.Deliver node number) =
    (m : Message) × (slice_get sent number ≡ Some m) × SendsFor config node views (input.Deliver m)
UpSends config sent views (event.TickCut node left) = ⊥
UpSends config sent views (event.DeliverCut node number) = ⊥
UpSends config sent views (event.Restart node) = ⊥
UpSends config sent views (event.Get node table version) = ⊥
UpSends config sent views (event.Info node table) = ⊥
UpSends config sent views (event.Outcome node text) = ⊥

-- and of any node: one that is down sends none
abbrev pub StoredNodeSends : AgreementConfig → List Message → UpOrDown → Event → Type 0
StoredNodeSends config sent (IsUp views) e = UpSends config sent views e
StoredNodeSends config sent (IsDown records due) e = ⊥

-- the seat stands as it stood, with the same records, and nothing more was sent
pub record IsAsBefore {S : Type 0} (old new : StoredNodeState S) (seat : UpOrDown) (before after : List Message) : Type 0 where
  pub stands : Stands new seat
  pub records_are : new.records ≡ old.records
  pub placed : IsPlaced new
  pub me_is : new.me ≡ old.me
  pub config_is : new.config ≡ old.config
  pub unsent : after ≡ before

-- ---- an event that is not, since the store failed

-- the record that is due to the input is not kept, or in doubt, and the node is down
abbrev pub BreaksFor : AgreementConfig → ℕ → Views → Input → UpOrDown → Type 0
BreaksFor config me views of left =
    (last : Record) × InputKeeps config me views of (Some last) × (left ≡ IsDown views.records (Some last))

-- the store failed in the event of a node that is up, where these messages were sent before
abbrev pub UpBreaks : AgreementConfig → List Message → Views → Event → UpOrDown → Type 0
UpBreaks config sent views (event.Put node text) left = ⊥
UpBreaks config sent views (event.Tick node passed) left = BreaksFor config node views (input.Tick passed) left
UpBreaks config sent views (event.Deliver node number) left =
    (m : Message) × (slice_get sent number ≡ Some m) × BreaksFor config node views (input.Deliver m) left
UpBreaks config sent views (event.TickCut node passed) left = ⊥
UpBreaks config sent views (event.DeliverCut node number) left = ⊥
UpBreaks config sent views (event.Restart node) left = left ≡ IsUp views
UpBreaks config sent views (event.Get node table version) left = ⊥
UpBreaks config sent views (event.Info node table) left = ⊥
UpBreaks config sent views (event.Outcome node text) left = ⊥

abbrev pub IsRestart : Event → Type 0
IsRestart e = (node : ℕ) × (e ≡ event.Restart node)

-- and of any node: one that is down restarts, or is down
abbrev pub StoredNodeBreaks : AgreementConfig → List Message → UpOrDown → Event → UpOrDown → Type 0
StoredNodeBreaks config sent (IsUp views) e left = UpBreaks config sent views e left
StoredNodeBreaks config sent (IsDown records due) e left = IsRestart e × (left ≡ IsDown records due)

-- the seat stands as the failure leaves it, and nothing more was sent
pub record IsBroken {S : Type 0} (old new : StoredNodeState S) (seat : UpOrDown) (before after : List Message) (e : Event) : Type 0 where
  pub left : UpOrDown
  pub breaks : StoredNodeBreaks old.config before seat e left
  pub stands : Stands new left
  pub placed : IsPlaced new
  pub me_is : new.me ≡ old.me
  pub config_is : new.config ≡ old.config
  pub unsent : after ≡ before

-- ---- what an event gives

-- The event is not applied. Memory is refused for messages that are due, and all is as before; or the store failed; or a restart
-- was given other records than were kept, and all is as before.
abbrev pub StoredNodeFails : {S : Type 0} → (old new : StoredNodeState S) → UpOrDown → (before after : List Message) → Event → StoredNodeFault → Type 0
StoredNodeFails old new seat before after e OutOfMemory =
    IsAsBefore old new seat before after × StoredNodeSends old.config before seat e
StoredNodeFails old new seat before after e (Store why) = IsBroken old new seat before after e
StoredNodeFails old new seat before after e Lost = IsRestart e × IsAsBefore old new seat before after

abbrev pub StoredNodeAnswers : {S : Type 0} → (old new : StoredNodeState S) → UpOrDown → (before after : List Message) → Event
    → Result Told StoredNodeFault → Type 0
StoredNodeAnswers old new seat before after e (Ok given) = StoredNodeApplies old new seat before after e (result_of given)
StoredNodeAnswers old new seat before after e (Err why) = StoredNodeFails old new seat before after e why
