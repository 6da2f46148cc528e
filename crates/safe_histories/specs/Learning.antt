-- What a history shows of a node: whether it is up, and what it has learned, by what was delivered to it since its last
-- restart. Lamport, "Paxos Made Simple", sections 2.3 and 3. Nothing here speaks of what a node keeps.
use Rattle.std.specs.Prelude.{◌≡◌, ◌⊎◌, ℕ, ◌==◌, ◌&&◌, ◌||◌, not, Bool, true, false, if◌then◌else◌, Option, None, Some, List, [], ◌∷◌, length, slice_get, filter_map}
use Rattle.std.specs.Option.{option_and_then}
use Rattle.std.specs.List.{Contains, list_any, sum_by}
use Rattle.ballots.specs.Ballot.{Ballot}
use Rattle.ballots.specs.declared.value.Value.{Value}
use Rattle.ballots.specs.declared.message.Message.{Message}
use Rattle.lawful_histories.specs.Majorities.{MajorityOf}
use Rattle.lawful_histories.specs.Messages.{accepted, decided}
use Rattle.table_types.specs.Uploads.{Upload}
use Rattle.histories.specs.Texts.{AreUploadsIn}
use Rattle.histories.specs.Event.{Event}
use Rattle.histories.specs.Event as event
use Rattle.histories.specs.EventResult.{EventResult, count_of, is_done}
use Rattle.histories.specs.EventResult as results
use Rattle.histories.specs.History.{Step}

-- ---- restarts and cuts

-- the event is a restart of the node
abbrev pub is_restart_of : ℕ → Event → Bool
is_restart_of node (event.Put other text) = false
is_restart_of node (event.Tick other left) = false
is_restart_of node (event.Deliver other number) = false
is_restart_of node (event.TickCut other left) = false
is_restart_of node (event.DeliverCut other number) = false
is_restart_of node (event.Restart other) = other == node
is_restart_of node (event.Get other table version) = false
is_restart_of node (event.Info other table) = false
is_restart_of node (event.Outcome other text) = false

-- the event is a cut of the node
abbrev pub is_cut_of : ℕ → Event → Bool
is_cut_of node (event.Put other text) = false
is_cut_of node (event.Tick other left) = false
is_cut_of node (event.Deliver other number) = false
is_cut_of node (event.TickCut other left) = other == node
is_cut_of node (event.DeliverCut other number) = other == node
is_cut_of node (event.Restart other) = false
is_cut_of node (event.Get other table version) = false
is_cut_of node (event.Info other table) = false
is_cut_of node (event.Outcome other text) = false

-- the node was restarted
abbrev pub brings_up : ℕ → Step → Bool
brings_up node step = is_restart_of node step.event && is_done step.result

-- the node went down: by a cut, or where a restart was refused
abbrev pub brings_down : ℕ → Step → Bool
brings_down node step =
    (is_cut_of node step.event && is_done step.result) || (is_restart_of node step.event && not (is_done step.result))

-- the steps behind the node's last restart, all of them where it was never restarted
abbrev pub since_restart : ℕ → List Step → List Step
since_restart node [] = []
since_restart node (step ∷ steps) =
    if list_any (brings_up node) steps then since_restart node steps
    else (if brings_up node step then steps else step ∷ steps)

-- the node is up: nothing brought it down since its last restart
abbrev pub Runs : ℕ → List Step → Type 0
Runs node steps = list_any (brings_down node) (since_restart node steps) ≡ false

-- ---- what was sent

-- how many messages went out in these steps
abbrev pub sent_before : List Step → ℕ
sent_before steps = sum_by (λ (step : Step). count_of step.result) steps

-- ---- what it was told

-- the number of the message that the event hands to the node
abbrev pub handed_to : ℕ → Event → Option ℕ
handed_to node (event.Put other text) = None
handed_to node (event.Tick other left) = None
handed_to node (event.Deliver other number) = if other == node then Some number else None
handed_to node (event.TickCut other left) = None
handed_to node (event.DeliverCut other number) = None
handed_to node (event.Restart other) = None
handed_to node (event.Get other table version) = None
handed_to node (event.Info other table) = None
handed_to node (event.Outcome other text) = None

-- the event was not refused
abbrev pub is_taken : EventResult → Bool
is_taken (results.Sent first count) = true
is_taken results.Done = true
is_taken (results.Answer bytes) = true
is_taken results.Unavailable = true
is_taken (results.Info version) = true
is_taken results.NoTable = true
is_taken (results.Outcome outcome) = true
is_taken (results.Refused reason) = false

-- the message that the step delivered to the node; a refused delivery and a cut deliver nothing
abbrev pub delivered_in : List Message → ℕ → Step → Option Message
delivered_in sent node step =
    if is_taken step.result then option_and_then (λ number. slice_get sent number) (handed_to node step.event) else None

-- all that was delivered to it since its last restart
abbrev pub heard_since_restart : List Message → List Step → ℕ → List Message
heard_since_restart sent steps node = filter_map (delivered_in sent node) (since_restart node steps)

-- It has learned the value for the slot: that it was decided, or that a majority accepted it at one ballot.
abbrev pub HasLearned : ℕ → List Message → List Step → ℕ → ℕ → Value → Type 0
HasLearned members sent steps node slot value =
    ((sender : ℕ) × Contains (heard_since_restart sent steps node) (decided sender slot value))
    ⊎ ((ballot : Ballot) × MajorityOf members (λ a. Contains (heard_since_restart sent steps node) (accepted a slot ballot value)))

-- ---- its prefix

-- the values of the slots 0, 1, .. up to the first of which it has learned nothing
pub record HasLearnedPrefix (members : ℕ) (sent : List Message) (steps : List Step) (node : ℕ) (values : List Value) : Type 0 where
  pub learned : (slot : ℕ) (value : Value) → slice_get values slot ≡ Some value
      → HasLearned members sent steps node slot value
  pub gap : (value : Value) → HasLearned members sent steps node (length values) value → ⊥

-- the uploads of that prefix
pub record HasTables (members : ℕ) (sent : List Message) (steps : List Step) (node : ℕ) (uploads : List Upload) : Type 0 where
  pub values : List Value
  pub prefix : HasLearnedPrefix members sent steps node values
  pub are : AreUploadsIn values uploads
