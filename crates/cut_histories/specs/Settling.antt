-- Nodes that went down behind a record, as if they had sent the message first that the record stands behind: Lamport,
-- "Paxos Made Simple", section 2.5, where an acceptor records what it answers before it answers. Others can't tell a
-- message that was never sent from one that is late.
use Rattle.std.specs.Prelude.{◌≡◌, ℕ, ◌<◌, ◌≤◌, Bool, true, false, Some, None, List, filter}
use Rattle.std.specs.List.{Contains}
use Rattle.ballots.specs.declared.message.Message.{Message}
use Rattle.ballots.specs.declared.record.Record.{Record}
use Rattle.agreement_rules.specs.Views.{AgreementConfig}
use Rattle.agreement_rules.specs.Keeping.{record_of}
use Rattle.histories.specs.Event.{Event}
use Rattle.histories.specs.Event as event
use Rattle.histories.specs.History.{Step}
use Rattle.histories.specs.Following.{UpOrDown, IsUp, IsDown, with_due, recovered_in, Reaches}

-- Nothing is in doubt at a node that is down: the record that was due is found, and is one of its records, or is lost.
abbrev pub settled : Bool → UpOrDown → UpOrDown
settled found (IsUp views) = IsUp views
settled found (IsDown records due) = IsDown (with_due found records due) None

-- the node sent the message that this record stands behind
abbrev pub IsSaid : List Message → ℕ → Record → Type 0
IsSaid sent node kept = (m : Message) × Contains sent m × (m.sender ≡ node) × (record_of m ≡ Some kept)

-- a client handed it in, or asked it
abbrev pub is_of_a_client : Event → Bool
is_of_a_client (event.Put node text) = true
is_of_a_client (event.Tick node left) = false
is_of_a_client (event.Deliver node number) = false
is_of_a_client (event.TickCut node left) = false
is_of_a_client (event.DeliverCut node number) = false
is_of_a_client (event.Restart node) = false
is_of_a_client (event.Get node table version) = true
is_of_a_client (event.Info node table) = true
is_of_a_client (event.Outcome node text) = true

-- what clients did, and what it gave
abbrev pub of_clients : List Step → List Step
of_clients steps = filter (λ (step : Step). is_of_a_client step.event) steps

-- Another history leaves the nodes as these steps did, where `found` says of each node that is down whether the record
-- is found that was due there; and each record that a member then has stands behind a message that was sent.
pub record MayHaveSent (config : AgreementConfig) (sent : List Message) (steps : List Step) (seats : ℕ → UpOrDown)
    (found : ℕ → Bool) : Type 0 where
  pub other_sent : List Message
  pub other_steps : List Step
  pub other_recovered : List Bool
  pub other_seats : ℕ → UpOrDown
  pub reached : Reaches config other_sent other_steps other_recovered other_seats
  pub settles : (node : ℕ) → other_seats node ≡ settled (found node) (seats node)
  -- who is no member is as it was
  pub outside : (node : ℕ) → config.members ≤ node → other_seats node ≡ seats node
  pub said : (node : ℕ) (kept : Record) → node < config.members → Contains (recovered_in (found node) (seats node)) kept
      → IsSaid other_sent node kept
  -- all that was sent was sent there too
  pub sends : (m : Message) → Contains sent m → Contains other_sent m
  -- clients did the same, and were answered the same
  pub clients : of_clients other_steps ≡ of_clients steps
