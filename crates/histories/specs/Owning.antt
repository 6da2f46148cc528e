-- What one node did in a history: its own entries, each with the messages themselves in the place of their numbers, so that a
-- node can hold them by itself. Queries change no node, and have no entry.
use Rattle.std.specs.Prelude.{◌≡◌, ℕ, ◌==◌, ◌&&◌, not, Bool, true, false, if◌then◌else◌, Option, None, Some, List, [], ◌∷◌, take, drop, slice_get}
use Rattle.std.specs.Option.{option_and_then}
use Rattle.ballots.specs.declared.message.Message.{Message}
use Rattle.agreement_rules.specs.Views.{AgreementConfig}
use Rattle.histories.specs.Event.{Event, node_of}
use Rattle.histories.specs.Event as event
use Rattle.histories.specs.EventResult.{EventResult, Reason}
use Rattle.histories.specs.EventResult as results
use Rattle.histories.specs.History.{Step}
use Rattle.histories.specs.Following.{UpOrDown, NodeGives, IsAsked}

pub record OwnEntry : Type 0 where
  pub step : Step
  -- of a restart: whether the record was recovered that was due where the node went down
  pub recovered : Bool
  -- the message that it was handed
  pub handed : Option Message
  -- the messages that it sent
  pub sends : List Message

abbrev pub is_query : Event → Bool
is_query (event.Put node text) = false
is_query (event.Tick node left) = false
is_query (event.Deliver node number) = false
is_query (event.TickCut node left) = false
is_query (event.DeliverCut node number) = false
is_query (event.Restart node) = false
is_query (event.Get node table version) = true
is_query (event.Info node table) = true
is_query (event.Outcome node text) = true

-- the event is one of this node that may change it
abbrev pub concerns : ℕ → Event → Bool
concerns node e = node_of e == node && not (is_query e)

-- the number of the message that the event hands over
abbrev pub number_in : Event → Option ℕ
number_in (event.Put node text) = None
number_in (event.Tick node left) = None
number_in (event.Deliver node number) = Some number
number_in (event.TickCut node left) = None
number_in (event.DeliverCut node number) = Some number
number_in (event.Restart node) = None
number_in (event.Get node table version) = None
number_in (event.Info node table) = None
number_in (event.Outcome node text) = None

-- the node was down, or the message was not sent yet
abbrev pub turned_away_for : Reason → Bool
turned_away_for results.OutOfRange = false
turned_away_for results.SlotsSpent = false
turned_away_for results.RoundsSpent = false
turned_away_for results.OutOfMemory = false
turned_away_for results.Down = true
turned_away_for results.NotSent = true

abbrev pub is_turned_away : EventResult → Bool
is_turned_away (results.Sent first count) = false
is_turned_away results.Done = false
is_turned_away (results.Answer bytes) = false
is_turned_away results.Unavailable = false
is_turned_away (results.Info version) = false
is_turned_away results.NoTable = false
is_turned_away (results.Outcome outcome) = false
is_turned_away (results.Refused reason) = turned_away_for reason

-- the message that the node was handed in the step, if it looked at one
abbrev pub handed_in : List Message → Step → Option Message
handed_in sent step =
    if is_turned_away step.result then None else option_and_then (λ number. slice_get sent number) (number_in step.event)

-- the messages that went out
abbrev pub sends_in : List Message → EventResult → List Message
sends_in sent (results.Sent first count) = take count (drop first sent)
sends_in sent results.Done = []
sends_in sent (results.Answer bytes) = []
sends_in sent results.Unavailable = []
sends_in sent (results.Info version) = []
sends_in sent results.NoTable = []
sends_in sent (results.Outcome outcome) = []
sends_in sent (results.Refused reason) = []

abbrev pub entry_of : List Message → Step → Bool → OwnEntry
entry_of sent step recovered = record {
  step = step;
  recovered = recovered;
  handed = handed_in sent step;
  sends = sends_in sent step.result;
}

-- the entries of one step: one, or none where it does not concern the node
abbrev pub entries_of : ℕ → List Message → Step → Bool → List OwnEntry
entries_of node sent step recovered =
    if concerns node step.event then entry_of sent step recovered ∷ [] else []

-- the node's own entries in a history of these messages and steps
abbrev pub own : ℕ → List Message → List Step → List Bool → List OwnEntry
own node sent [] recovered = []
own node sent (step ∷ steps) [] = []
own node sent (step ∷ steps) (recovered ∷ more) =
    if concerns node step.event then entry_of sent step recovered ∷ own node sent steps more
    else own node sent steps more

-- In some history of messages the node's rules make the entry of the node that was so, and leave it so.
pub record Leads (config : AgreementConfig) (old : UpOrDown) (entry : OwnEntry) (new : UpOrDown) : Type 0 where
  pub sent : List Message
  pub next : ℕ
  pub gives : NodeGives config sent next entry.recovered old entry.step.event entry.step.result new
  pub asked : IsAsked entry.step.event entry.recovered
  pub handed_is : handed_in sent entry.step ≡ entry.handed
  pub sends_are : sends_in sent entry.step.result ≡ entry.sends

-- these entries, one after the other, leave the node so
abbrev pub OwnReaches : AgreementConfig → UpOrDown → List OwnEntry → UpOrDown → Type 0
OwnReaches config seat [] last = last ≡ seat
OwnReaches config seat (entry ∷ entries) last =
    (after : UpOrDown) × Leads config seat entry after × OwnReaches config after entries last
