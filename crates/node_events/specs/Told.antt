-- The program's events, and what they gave, told as those of histories.
use Rattle.table_versions.specs.Outcomes.{told}
use Rattle.histories.specs.Event as event
use Rattle.histories.specs.EventResult as results
use Rattle.node_events.specs.declared.event.Event.{Event}
use Rattle.node_events.specs.declared.event.Event.TheVariants.{Put, Tick, Deliver, TickCut, DeliverCut, Restart, Get, Info, Outcome}
use Rattle.node_events.specs.declared.event_result.EventResult.{EventResult}
use Rattle.node_events.specs.declared.event_result.EventResult.TheVariants as given
use Rattle.node_events.specs.declared.event_result.Reason.{Reason}
use Rattle.node_events.specs.declared.event_result.Reason.TheVariants.{OutOfRange, SlotsSpent, RoundsSpent, OutOfMemory, Down, NotSent}

-- an upload is told by its encoding, and a ticket by the version that it is for
abbrev pub event_of : Event → event.Event
event_of (Put node upload) = event.Put node upload
event_of (Tick node left) = event.Tick node left
event_of (Deliver node number) = event.Deliver node number
event_of (TickCut node left) = event.TickCut node left
event_of (DeliverCut node number) = event.DeliverCut node number
event_of (Restart node) = event.Restart node
event_of (Get node ticket) = event.Get node ticket.table ticket.version
event_of (Info node table) = event.Info node table
event_of (Outcome node upload) = event.Outcome node upload

abbrev pub reason_of : Reason → results.Reason
reason_of OutOfRange = results.OutOfRange
reason_of SlotsSpent = results.SlotsSpent
reason_of RoundsSpent = results.RoundsSpent
reason_of OutOfMemory = results.OutOfMemory
reason_of Down = results.Down
reason_of NotSent = results.NotSent

abbrev pub result_of : EventResult → results.EventResult
result_of (given.Sent first count) = results.Sent first count
result_of given.Done = results.Done
result_of (given.Answer bytes) = results.Answer bytes
result_of given.Unavailable = results.Unavailable
result_of (given.Info version) = results.Info version
result_of given.NoTable = results.NoTable
result_of (given.Outcome outcome) = results.Outcome (told outcome)
result_of (given.Refused reason) = results.Refused (reason_of reason)
