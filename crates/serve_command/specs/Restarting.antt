-- Nodes that have started again over old records, and where a journal of theirs begins.
use Rattle.std.specs.Prelude.{◌≡◌, ℕ, ◌<◌, List, length, slice_index_or}
use Rattle.flight_service.specs.parts.histories.specs.Following.{UpOrDown}
use Rattle.stored_nodes.specs.State.{StoredNodeState, IsPlaced}
use Rattle.flight_service.specs.parts.traces.specs.declared.config.Config.{Config}
use Rattle.flight_service.specs.parts.traces.specs.Told.{config_of}
use Rattle.flight_service.specs.journal.specs.Journaled.{seats_in}
use Rattle.flight_service.specs.seats.specs.State.{StandsSo}

-- it is of this configuration, and stands as the list has it
pub record IsAtStart {S : Type 0} (config : Config) (start : List UpOrDown) (node : StoredNodeState S) : Type 0 where
  pub config_is : node.config ≡ config_of config
  pub placed : IsPlaced node
  pub stands : StandsSo node (seats_in start node.me)

abbrev pub AreAtStart : {S : Type 0} → Config → List UpOrDown → List (StoredNodeState S) → Type 0
AreAtStart config start nodes =
    (number : ℕ) (d : StoredNodeState _) → number < length nodes → IsAtStart config start (slice_index_or nodes number d)
