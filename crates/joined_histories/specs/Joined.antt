-- Histories that are told in two parts: one that went before, of which only what it left the nodes is known, and a tail, whose
-- steps go on from there. A message of the tail has the number that it has in the tail.
use Rattle.std.specs.Prelude.{◌≡◌, ℕ, ◌+◌, Bool, List, ◌++◌, length, map}
use Rattle.histories.specs.Event.{Event}
use Rattle.histories.specs.Event as event
use Rattle.histories.specs.EventResult.{EventResult}
use Rattle.histories.specs.EventResult as results
use Rattle.histories.specs.History.{Step, History}
use Rattle.histories.specs.Following.{UpOrDown, Reaches}
use Rattle.agreement_rules.specs.Views.{AgreementConfig}

-- so many messages were sent before all that the event's number counts
abbrev pub moved_event : ℕ → Event → Event
moved_event count (event.Put node text) = event.Put node text
moved_event count (event.Tick node left) = event.Tick node left
moved_event count (event.Deliver node number) = event.Deliver node (count + number)
moved_event count (event.TickCut node left) = event.TickCut node left
moved_event count (event.DeliverCut node number) = event.DeliverCut node (count + number)
moved_event count (event.Restart node) = event.Restart node
moved_event count (event.Get node table version) = event.Get node table version
moved_event count (event.Info node table) = event.Info node table
moved_event count (event.Outcome node text) = event.Outcome node text

abbrev pub moved_result : ℕ → EventResult → EventResult
moved_result count (results.Sent first sends) = results.Sent (count + first) sends
moved_result count results.Done = results.Done
moved_result count (results.Answer bytes) = results.Answer bytes
moved_result count results.Unavailable = results.Unavailable
moved_result count (results.Info version) = results.Info version
moved_result count results.NoTable = results.NoTable
moved_result count (results.Outcome outcome) = results.Outcome outcome
moved_result count (results.Refused reason) = results.Refused reason

-- the same step behind so many messages
abbrev pub moved : ℕ → Step → Step
moved count step = record { event = moved_event count step.event; result = moved_result count step.result }

-- all that happened: the messages and steps of the tail stand behind those of before
abbrev pub joined : History → History → History
joined before tail = record {
  config = before.config;
  sent = before.sent ++ tail.sent;
  steps = before.steps ++ map (moved (length before.sent)) tail.steps;
}

-- The history follows the nodes' rules, and leaves the nodes as they start here.
pub record Precedes (config : AgreementConfig) (start : ℕ → UpOrDown) (before : History) : Type 0 where
  pub config_is : before.config ≡ config
  pub recovered : List Bool
  pub reached : Reaches config before.sent before.steps recovered start
