-- A history: what happened, and all messages that were sent. A sent message stays for good, for all nodes.
use Rattle.std.specs.Prelude.{List}
use Rattle.ballots.specs.declared.message.Message.{Message}
use Rattle.histories.specs.Event.{Event}
use Rattle.histories.specs.EventResult.{EventResult}
use Rattle.agreement_rules.specs.Views.{AgreementConfig}

pub record Step : Type 0 where
  pub event : Event
  pub result : EventResult

pub record History : Type 0 where
  pub config : AgreementConfig
  -- in the order of sending
  pub sent : List Message
  pub steps : List Step
