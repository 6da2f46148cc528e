-- What a run promises.
use Rattle.std.specs.Prelude.{◌≡◌, List, map}
use Rattle.lawful_histories.specs.Lawful.{IsLawful}
use Rattle.histories.specs.Following.{Follows}
use Rattle.safe_histories.specs.Safe.{IsSafe}
use Rattle.traces.specs.declared.config.Config.{Config}
use Rattle.node_events.specs.declared.event.Event.{Event}
use Rattle.traces.specs.declared.step.Step.{Step}
use Rattle.traces.specs.Traced.{Traced, history_of}

-- The trace is that of these events: each stands there once and in order, with what nodes that follow their rules gave;
-- what was sent is lawful; and clients may rely on what was answered.
pub record IsRunOf (config : Config) (events : List Event) (trace : Traced) : Type 0 where
  pub configured : trace.config ≡ config
  pub one_for_one : map (λ (step : Step). step.event) trace.steps ≡ events
  pub follows : Follows (history_of trace)
  pub lawful : IsLawful trace.config.members trace.sent
  pub safe : IsSafe (history_of trace)
