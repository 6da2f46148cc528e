-- The nodes of a run, each with the store of its records.
use Rattle.std.specs.Prelude.{◌≡◌, ℕ, List, length, Some, slice_get, Result, Ok, Err}
use Rattle.ballots.specs.declared.record.Record.{Record}
use Rattle.ballots.specs.declared.message.Message.{Message}
use Rattle.agreement_rules.specs.Views.{AgreementConfig}
use Rattle.histories.specs.Event.{Event}
use Rattle.histories.specs.Following.{UpOrDown}
use Rattle.node_events.specs.declared.event_result.EventResult.{EventResult as Told}
use Rattle.node_events.specs.Told.{result_of}
use Rattle.stored_nodes.specs.State.{StoredNodeState, IsPlaced, Stands, StoredNodeApplies, IsAsBefore, StoredNodeSends}

-- a node with a store in memory, which contracts see as the list of its records
abbrev pub MemorySeat : Type 0
MemorySeat = StoredNodeState (List Record)

-- this is the node of the number, of this configuration, as a history has it
pub record IsSeatOf (config : AgreementConfig) (number : ℕ) (state : MemorySeat) (seat : UpOrDown) : Type 0 where
  pub placed : IsPlaced state
  pub me : state.me ≡ number
  pub config_is : state.config ≡ config
  pub stands : Stands state seat

-- The event is applied; or memory is refused for messages that are due, and all is as before.
abbrev pub MemorySeatAnswers : {E : Type 0} → (old new : MemorySeat) → UpOrDown → (before after : List Message) → Event → Result Told E → Type 0
MemorySeatAnswers old new seat before after e (Ok given) = StoredNodeApplies old new seat before after e (result_of given)
MemorySeatAnswers old new seat before after e (Err _) =
    IsAsBefore old new seat before after × StoredNodeSends old.config before seat e

-- there is one of each member, as a history has them
pub record AreSeated (states : List MemorySeat) (config : AgreementConfig) (seats : ℕ → UpOrDown) : Type 0 where
  pub one_each : length states ≡ config.members
  pub each : (number : ℕ) (state : MemorySeat) → slice_get states number ≡ Some state
      → IsSeatOf config number state (seats number)
