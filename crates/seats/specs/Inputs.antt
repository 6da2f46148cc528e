-- What comes to a running node, as an input of the rules and as an event of a history. Inputs are this service's own.
use Rattle.std.specs.Prelude.{◌≡◌, ℕ, Option, None, Some, List, slice_get}
use Rattle.journal.specs.parts.ballots.specs.declared.message.Message.{Message}
use Rattle.journal.specs.parts.histories.specs.Due.{Input}
use Rattle.journal.specs.parts.histories.specs.Due as owed
use Rattle.journal.specs.parts.node_events.specs.declared.event.Event.{Event}
use Rattle.journal.specs.parts.node_events.specs.declared.event.Event.TheVariants as event
use Rattle.journal.specs.parts.node_events.specs.declared.event_result.EventResult.{EventResult}
use Rattle.journal.specs.parts.node_events.specs.declared.event_result.EventResult.TheVariants as results
use Rattle.journal.specs.Recalled.{held_at}
use Rattle.journal.specs.Journaled.{Journaled}
use Rattle.seats.specs.declared.input.SeatInput.{SeatInput}
use Rattle.seats.specs.declared.input.SeatInput.TheVariants.{Put, Tick, Deliver}

abbrev pub input_of : SeatInput → Input
input_of (Put upload) = owed.Put upload
input_of (Tick left) = owed.Tick left
input_of (Deliver number message) = owed.Deliver message

-- the event at this node
abbrev pub event_at : ℕ → SeatInput → Event
event_at node (Put upload) = event.Put node upload
event_at node (Tick left) = event.Tick node left
event_at node (Deliver number message) = event.Deliver node number

-- what it gives where it is done, and so many messages go out from this number on
abbrev pub given_for : SeatInput → (first count : ℕ) → EventResult
given_for (Put upload) first count = results.Done
given_for (Tick left) first count = results.Sent first count
given_for (Deliver number message) first count = results.Sent first count

-- the event where the node goes down in the midst of it; a put has none
abbrev pub IsCutAt : ℕ → SeatInput → Event → Type 0
IsCutAt node (Put upload) cut = ⊥
IsCutAt node (Tick left) cut = cut ≡ event.TickCut node left
IsCutAt node (Deliver number message) cut = cut ≡ event.DeliverCut node number

-- the message that is delivered, if one is
abbrev pub handed_by : SeatInput → Option Message
handed_by (Put upload) = None
handed_by (Tick left) = None
handed_by (Deliver number message) = Some message

-- the message that is delivered is the one of its number
abbrev pub IsSentIn : List Message → SeatInput → Type 0
IsSentIn sent (Put upload) = Unit {0}
IsSentIn sent (Tick left) = Unit {0}
IsSentIn sent (Deliver number message) = slice_get sent number ≡ Some message

-- likewise, and the journal holds it
abbrev pub IsHeldIn : Journaled → SeatInput → Type 0
IsHeldIn journal (Put upload) = Unit {0}
IsHeldIn journal (Tick left) = Unit {0}
IsHeldIn journal (Deliver number message) = held_at journal.forgotten journal.trace.sent number ≡ Some message
