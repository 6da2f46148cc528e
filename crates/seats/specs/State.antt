-- A node that runs beside others: its store, what it did itself, and how that agrees with the journal of all (Lamport, "Paxos
-- Made Simple", section 2.5, for what a node keeps). That nodes share a journal is this service's own.
use Rattle.std.specs.Prelude.{◌≡◌, ◌⊎◌, ℕ, Bool, IsTrue, IsSome, Option, None, List}
use Rattle.journal.specs.parts.ballots.specs.declared.record.Record.{Record}
use Rattle.journal.specs.parts.agreement_rules.specs.Views.{Views}
use Rattle.journal.specs.parts.table_types.specs.Uploads.{Upload}
use Rattle.journal.specs.parts.histories.specs.Texts.{HasUploads}
use Rattle.journal.specs.parts.histories.specs.Following.{UpOrDown, IsUp, IsDown}
use Rattle.journal.specs.parts.histories.specs.Owning.{OwnEntry, OwnReaches}
use Rattle.node_core.specs.State.{NodeState, NodeHas}
use Rattle.stored_nodes.specs.State.{StoredNodeState, IsPlaced, StandsUp}
use Rattle.journal.specs.parts.traces.specs.declared.config.Config.{Config}
use Rattle.journal.specs.parts.traces.specs.Told.{config_of}
use Rattle.journal.specs.Journaled.{seats_in, Journaled, own_in}

pub record RunningSeat (S : Type 0) : Type 0 where
  pub config : Config
  -- how it was where its own entries begin
  pub start : UpOrDown
  -- the node with its store
  pub node : StoredNodeState S
  -- what it did, by its own entries
  pub own : List OwnEntry
  -- whether it holds these
  pub keeps : Bool
  -- the log of all nodes' own entries, where it knows it
  pub known : Option (List OwnEntry)

-- It is down with these records, without the one that was due where it went down; of this one nobody knows whether its
-- store has it, or the store has it not.
pub record StandsDownWith {S : Type 0} (state : StoredNodeState S) (records : List Record) (due : Option Record) : Type 0 where
  pub down : state.node ≡ None
  pub kept : state.records ≡ records
  pub doubt : (state.doubted ≡ None) ⊎ (state.doubted ≡ due)

abbrev pub StandsSo : {S : Type 0} → StoredNodeState S → UpOrDown → Type 0
StandsSo state (IsUp views) = StandsUp state views
StandsSo state (IsDown records due) = StandsDownWith state records due

-- its own entries leave it so, and so it stands
pub record IsLedTo {S : Type 0} (seat : RunningSeat S) (stood : UpOrDown) : Type 0 where
  pub config_is : seat.node.config ≡ config_of seat.config
  pub placed : IsPlaced seat.node
  pub led : OwnReaches (config_of seat.config) seat.start seat.own stood
  pub stands : StandsSo seat.node stood

-- The seat's own entries leave this node these views, which it stands by, and these uploads are those of its prefix.
pub record IsLedNode {S : Type 0} (seat : RunningSeat S) (node : NodeState) : Type 0 where
  pub views : Views
  pub led : IsLedTo seat (IsUp views)
  pub has : NodeHas node views
  pub uploads : List Upload
  pub are : HasUploads node.agreement.config.members views.learner_calls uploads

abbrev pub IsLed : {S : Type 0} → RunningSeat S → Type 0
IsLed seat = (stood : UpOrDown) × IsLedTo seat stood

-- both have one configuration, the node starts so, and the journal has just these own entries of it
abbrev pub HasOwn : Config → ℕ → UpOrDown → List OwnEntry → Journaled → Type 0
HasOwn config me start own journal =
    (journal.trace.config ≡ config) × (own_in me journal ≡ own) × (seats_in journal.start me ≡ start)

abbrev pub Agrees : {S : Type 0} → RunningSeat S → Journaled → Type 0
Agrees seat journal = HasOwn seat.config seat.node.me seat.start seat.own journal

-- whether they agree can be told: both hold their entries, or both know the log of their name
abbrev pub CanTell : {S : Type 0} → RunningSeat S → Journaled → Type 0
CanTell seat journal = (IsTrue seat.keeps × IsTrue journal.whole) ⊎ (IsSome seat.known × IsSome journal.log)

abbrev pub IsSeenToAgree : {S : Type 0} → RunningSeat S → Journaled → Type 0
IsSeenToAgree seat journal = Agrees seat journal × CanTell seat journal
