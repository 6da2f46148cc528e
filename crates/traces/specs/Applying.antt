-- What one event does to nodes, and what events that are applied one after the other reach.
use Rattle.std.specs.Prelude.{◌≡◌, ℕ, Bool, List, ◌++◌, length, map, take, Result, Ok, Err}
use Rattle.ballots.specs.declared.message.Message.{Message}
use Rattle.agreement_rules.specs.Views.{AgreementConfig}
use Rattle.histories.specs.EventResult.{count_of}
use Rattle.histories.specs.Following.{UpOrDown, StepFollows, IsAsked}
use Rattle.node_events.specs.declared.event.Event.{Event}
use Rattle.node_events.specs.declared.event_result.EventResult.{EventResult}
use Rattle.traces.specs.declared.config.Config.{Config as RunConfig}
use Rattle.traces.specs.declared.step.Step.{Step}
use Rattle.traces.specs.Told.{event_of, result_of}
use Rattle.traces.specs.Traced.{Traced, TraceReaches}

-- Of nodes that had this, where these messages were sent before: the event is a step by the nodes' rules that gives this,
-- as many messages more go out as it tells, and the nodes have what it leaves them.
pub record AppliesTo (Have : (ℕ → UpOrDown) → Type 0) (config : AgreementConfig) (seats : ℕ → UpOrDown) (before after : List Message) (event : Event) (given : EventResult) : Type 0 where
  pub more : List Message
  pub behind : after ≡ before ++ more
  pub counted : length more ≡ count_of (result_of given)
  pub recovered : Bool
  pub asked : IsAsked (event_of event) recovered
  pub left : ℕ → UpOrDown
  pub follows : StepFollows config after (length before) seats
      (record { event = event_of event; result = result_of given }) recovered left
  pub have : Have left

-- The event is applied; or memory is refused, and the nodes have what they had, and nothing more was sent.
abbrev pub Answers : {E : Type 0} → (Have : (ℕ → UpOrDown) → Type 0) → AgreementConfig → (ℕ → UpOrDown) → (before after : List Message) → Event
    → Result EventResult E → Type 0
Answers Have config seats before after event (Ok given) = AppliesTo Have config seats before after event given
Answers Have config seats before after event (Err _) = Have seats × (after ≡ before)

-- These events were applied, one for one and in order, they gave what the trace tells, and the nodes have what they left
-- them.
pub record HasCome (Have : (ℕ → UpOrDown) → Type 0) (trace : Traced) (events : List Event) : Type 0 where
  pub recovered : List Bool
  pub seats : ℕ → UpOrDown
  pub reached : TraceReaches trace recovered seats
  pub have : Have seats
  pub one_for_one : map (λ (step : Step). step.event) trace.steps ≡ events

-- A beginning of these events was applied, and the nodes have what it left them.
pub record HasBegun (Have : (ℕ → UpOrDown) → Type 0) (config : RunConfig) (events : List Event) : Type 0 where
  pub count : ℕ
  pub trace : Traced
  pub config_is : trace.config ≡ config
  pub come : HasCome Have trace (take count events)
