-- What contracts see of a journal of running nodes: where its nodes start, a trace from there on, and of each restart whether
-- the node had back the record that was due where it went down (Lamport, "Paxos Made Simple", section 2.5). That nodes share a
-- journal is this service's own.
use Rattle.std.specs.Prelude.{◌≡◌, ℕ, ◌<◌, ◌≤◌, Bool, IsTrue, Option, List, [], ◌∷◌, ◌++◌, length, slice_index_or}
use Rattle.node_parts.specs.ballots.specs.declared.message.Message.{Message}
use Rattle.node_parts.specs.histories.specs.Event.{node_of}
use Rattle.node_parts.specs.histories.specs.EventResult.{count_of}
use Rattle.node_parts.specs.histories.specs.Following.{UpOrDown, NodeGives, IsAsked, at_first}
use Rattle.node_parts.specs.histories.specs.Owning.{OwnEntry, own, entries_of, OwnReaches}
use Rattle.node_parts.specs.traces.specs.declared.step.Step.{Step}
use Rattle.node_parts.specs.traces.specs.Told.{config_of, event_of, result_of, step_of, steps_of}
use Rattle.journal.specs.Kept.{Kept}
use Rattle.node_parts.specs.traces.specs.Traced.{Traced, TellsAsBefore, TellsMore, HasRoomFor, TraceReachesFrom}

-- how a node starts: as the list has it, or with nothing where the list ends
abbrev pub seats_in : List UpOrDown → ℕ → UpOrDown
seats_in start node = slice_index_or start node (at_first node)

pub record Journaled : Type 0 where
  -- how each node is where its steps begin
  pub start : List UpOrDown
  pub trace : Traced
  -- of each step, whether it restarted a node that had back the record that was due where it went down
  pub recovered : List Bool
  -- how many more of these it takes without memory
  pub room : ℕ
  -- whether it holds all of its steps and messages
  pub whole : Bool
  -- so many messages, the first ones, it holds no more
  pub forgotten : ℕ
  -- the log of all nodes' own entries, where it knows it
  pub log : Option (List OwnEntry)
  -- how far that log has been seen to go on without it, once it has
  pub outrun : Option (List OwnEntry)

-- what a journal is seen to be that keeps these steps, knows this log, and has seen it go on so far
abbrev pub journaled : List UpOrDown → Kept → (log outrun : Option (List OwnEntry)) → Journaled
journaled start kept log outrun = record {
  start = start;
  trace = kept.recalled.trace;
  recovered = kept.recalled.recovered;
  room = kept.recalled.room;
  whole = kept.whole;
  forgotten = kept.recalled.forgotten;
  log = log;
  outrun = outrun;
}

-- each step followed by the nodes' rules from the start and those before, and they left the nodes so or so
abbrev pub HasFollowed : Journaled → Type 0
HasFollowed journal = (seats : ℕ → UpOrDown) × TraceReachesFrom (seats_in journal.start) journal.trace journal.recovered seats

-- it tells what it told before
pub record TellsSame (old new : Journaled) : Type 0 where
  pub start_is : new.start ≡ old.start
  pub trace : TellsAsBefore old.trace new.trace
  pub recovered_is : new.recovered ≡ old.recovered
  pub whole_is : new.whole ≡ old.whole
  pub forgotten_is : new.forgotten ≡ old.forgotten
  pub log_is : new.log ≡ old.log
  pub outrun_is : new.outrun ≡ old.outrun

-- there is room for one step more, and for so many messages
abbrev pub HasRoom : Journaled → ℕ → Type 0
HasRoom journal count = HasRoomFor journal.trace count × (0 < journal.room)

-- one step more, and behind the messages that were sent those that it sent
pub record HasEntry (old : Journaled) (step : Step) (more : List Message) (recovered : Bool) (new : Journaled) : Type 0 where
  pub start_is : new.start ≡ old.start
  pub trace : TellsMore old.trace step more new.trace
  pub recovered_is : new.recovered ≡ old.recovered ++ recovered ∷ []
  pub whole_is : new.whole ≡ old.whole

-- it holds all of its steps, and has as many as its configuration allows
abbrev pub IsFull : Journaled → Type 0
IsFull journal = IsTrue journal.whole × (journal.trace.config.journal_limit ≤ length journal.trace.steps)

-- what one node did, by its own entries
abbrev pub own_in : ℕ → Journaled → List OwnEntry
own_in node journal = own node journal.trace.sent (steps_of journal.trace.steps) journal.recovered

-- By what its own entries leave it, the node of the step gives this by its rules, and is left so; and as many messages go out as
-- it tells.
pub record IsNext (journal : Journaled) (step : Step) (more : List Message) (recovered : Bool) (old new : UpOrDown) : Type 0 where
  pub member : node_of (event_of step.event) < journal.trace.config.members
  pub led : OwnReaches (config_of journal.trace.config) (seats_in journal.start (node_of (event_of step.event)))
      (own_in (node_of (event_of step.event)) journal) old
  pub gives : NodeGives (config_of journal.trace.config) (journal.trace.sent ++ more) (length journal.trace.sent) recovered old
      (event_of step.event) (result_of step.result) new
  pub asked : IsAsked (event_of step.event) recovered
  pub counted : length more ≡ count_of (result_of step.result)

-- it may be entered
abbrev pub MayEnter : Journaled → Step → List Message → Bool → Type 0
MayEnter journal step more recovered = (old : UpOrDown) × (new : UpOrDown) × IsNext journal step more recovered old new

-- The own entries of each node grow by those of the step, and with these they leave the node of the step as its rules do.
pub record EntersOwn (old : Journaled) (step : Step) (more : List Message) (recovered : Bool) (new : Journaled) : Type 0 where
  pub grows : (node : ℕ) → node < old.trace.config.members
      → own_in node new ≡ own_in node old ++ entries_of node new.trace.sent (step_of step) recovered
  pub leaves : (was left : UpOrDown) → IsNext old step more recovered was left
      → OwnReaches (config_of old.trace.config) (seats_in old.start (node_of (event_of step.event)))
      (own_in (node_of (event_of step.event)) new) left
