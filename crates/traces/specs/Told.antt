-- A run's configuration and steps, told as those of histories.
use Rattle.std.specs.Prelude.{List, map}
use Rattle.agreement_rules.specs.Views.{AgreementConfig as HistoryConfig}
use Rattle.histories.specs.History.{Step as HistoryStep}
pub use Rattle.node_events.specs.Told.{event_of, result_of}
use Rattle.traces.specs.declared.config.Config.{Config}
use Rattle.traces.specs.declared.step.Step.{Step}

abbrev pub config_of : Config → HistoryConfig
config_of config = record { members = config.members; slot_limit = config.slot_limit }

abbrev pub step_of : Step → HistoryStep
step_of step = record { event = event_of step.event; result = result_of step.result }

abbrev pub steps_of : List Step → List HistoryStep
steps_of steps = map step_of steps
