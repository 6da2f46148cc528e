-- What contracts see of a trace, the history that it tells, and what its steps reach.
use Rattle.std.specs.Prelude.{◌≡◌, ℕ, ◌≤◌, ◌<◌, Bool, List, [], ◌∷◌, ◌++◌, length}
use Rattle.ballots.specs.declared.message.Message.{Message}
use Rattle.histories.specs.EventResult.{count_of}
use Rattle.histories.specs.Following.{UpOrDown, StepFollows, IsAsked, ReachesFrom, at_first}
use Rattle.histories.specs.History.{History}
use Rattle.traces.specs.declared.config.Config.{Config}
use Rattle.traces.specs.declared.step.Step.{Step}
use Rattle.traces.specs.Told.{config_of, event_of, result_of, step_of, steps_of}

pub record Traced : Type 0 where
  pub config : Config
  -- in the order of sending
  pub sent : List Message
  pub steps : List Step
  -- how many more of each it takes without memory
  pub message_room : ℕ
  pub step_room : ℕ

-- this is what it tells, whatever room it has
pub record Tells (trace : Traced) (config : Config) (sent : List Message) (steps : List Step) : Type 0 where
  pub config_is : trace.config ≡ config
  pub sent_is : trace.sent ≡ sent
  pub steps_are : trace.steps ≡ steps

-- it tells what it told before
abbrev pub TellsAsBefore : Traced → Traced → Type 0
TellsAsBefore old new = Tells new old.config old.sent old.steps

-- there is room for one step more, and for so many messages
abbrev pub HasRoomFor : Traced → ℕ → Type 0
HasRoomFor trace count = (0 < trace.step_room) × (count ≤ trace.message_room)

abbrev pub history_of : Traced → History
history_of trace = record { config = config_of trace.config; sent = trace.sent; steps = steps_of trace.steps }

-- one step more, and behind the messages that were sent those that it sent
abbrev pub TellsMore : Traced → Step → List Message → Traced → Type 0
TellsMore old step more new = Tells new old.config (old.sent ++ more) (old.steps ++ step ∷ [])

-- Its steps follow one another from where the nodes start so, send its messages and no others, and leave the nodes so. For each
-- restart `recovered` says whether the record that was due where its node went down was recovered.
abbrev pub TraceReachesFrom : (ℕ → UpOrDown) → Traced → List Bool → (ℕ → UpOrDown) → Type 0
TraceReachesFrom start trace recovered seats =
    ReachesFrom (config_of trace.config) start trace.sent (steps_of trace.steps) recovered seats

-- likewise from the first on
abbrev pub TraceReaches : Traced → List Bool → (ℕ → UpOrDown) → Type 0
TraceReaches trace recovered seats = TraceReachesFrom at_first trace recovered seats

-- Behind the trace, of which the nodes are left as `old`, the step follows that sends these messages, and leaves them as `new`.
pub record StepFollowsBehind (trace : Traced) (old : ℕ → UpOrDown) (step : Step) (more : List Message) (was : Bool) (new : ℕ → UpOrDown) : Type 0 where
  pub follows : StepFollows (config_of trace.config) (trace.sent ++ more) (length trace.sent) old (step_of step) was new
  pub asked : IsAsked (event_of step.event) was
  pub counted : length more ≡ count_of (result_of step.result)
