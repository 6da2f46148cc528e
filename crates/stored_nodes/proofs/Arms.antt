-- An event of a seat, by whether its node is up or down.
use Rattle.std.proofs.Common.{◌≡◌, ◌≢◌, refl, sym, ap, subst, ◌∙◌, ℕ, true, false, Bool, Option, None, Some, Result, Ok, Err, List, length}
use Rattle.std.specs.Option.{is_some}
use Rattle.ballots.specs.declared.message.Message.{Message}
use Rattle.ballots.specs.declared.record.Record.{Record}
use Rattle.histories.specs.Event.{node_of}
use Rattle.histories.specs.Event as events
use Rattle.histories.specs.EventResult.{EventResult}
use Rattle.histories.specs.EventResult as results
use Rattle.histories.specs.Following.{UpOrDown, IsUp, IsDown, DownGives, NodeGives, IsAsked}
use Rattle.node_events.specs.declared.event.Event.{Event}
use Rattle.node_events.specs.declared.event.Event.TheVariants.{Put, Tick, Deliver, TickCut, DeliverCut, Restart, Get, Info, Outcome}
use Rattle.node_events.specs.declared.event_result.EventResult.{EventResult as Told}
use Rattle.node_events.specs.Told.{event_of, result_of}
use Rattle.stored_nodes.specs.declared.fault.StoredNodeFault.{StoredNodeFault}
use Rattle.stored_nodes.specs.declared.fault.StoredNodeFault.TheVariants as fault
use Rattle.stored_nodes.specs.State.{StoredNodeState, IsPlaced, Stands, StandsDown, IsAsBefore, StoredNodeBreaks, StoredNodeApplies, StoredNodeFails, StoredNodeAnswers}
use Rattle.stored_nodes.specs.Steps.{UpApplies, UpAnswers, DownAnswers, RestartAnswers}
use Rattle.stored_nodes.proofs.Leaving.{quiet}

none_is_some : {X : Type 0} (x : X) → None ≡ Some x → ⊥
none_is_some x same = cc

true_is_false : true ≡ false → ⊥
true_is_false same = cc

pub none_by : {X : Type 0} (found : Option X) → is_some found ≡ false → found ≡ None
none_by None is = refl
none_by (Some x) is = absurd (true_is_false is)

pub not_none : {X : Type 0} (found : Option X) → is_some found ≡ true → found ≡ None → ⊥
not_none None is none = true_is_false (sym is)
not_none (Some x) is none = none_is_some x (sym none)

-- the event is one of this node
pub as_mine : {S : Type 0} (old new : StoredNodeState S) (before after : List Message) (given : EventResult) (event mine : events.Event) → event ≡ mine → UpApplies old new before after mine given → UpApplies old new before after event given
as_mine old new before after given event mine is applies = subst (λ (e : events.Event). UpApplies old new before after e given) (sym is) applies

pub as_my_answer : {S : Type 0} (old new : StoredNodeState S) (before after : List Message) (answer : Result Told StoredNodeFault) (event mine : events.Event) → event ≡ mine
    → UpAnswers old new before after mine answer → UpAnswers old new before after event answer
as_my_answer old new before after answer event mine is applies = subst (λ (e : events.Event). UpAnswers old new before after e answer) (sym is) applies

-- of no event is it asked whether a record was recovered, or it was not
asked_false : (event : events.Event) → IsAsked event false
asked_false (events.Put node text) = refl
asked_false (events.Tick node left) = refl
asked_false (events.Deliver node number) = refl
asked_false (events.TickCut node left) = refl
asked_false (events.DeliverCut node number) = refl
asked_false (events.Restart node) = tt
asked_false (events.Get node table version) = refl
asked_false (events.Info node table) = refl
asked_false (events.Outcome node text) = refl

-- of which node it is
pub is_mine : {S : Type 0} (state : StoredNodeState S) (event told : Event) → event ≡ told → node_of (event_of event) ≡ state.me → node_of (event_of told) ≡ state.me
is_mine state event told is mine = subst (λ (e : Event). node_of (event_of e) ≡ state.me) is mine

-- a node that is down refuses all but a restart
refuses : (records : List Record) (due : Option Record) (event : Event) (given : EventResult) → ((node : ℕ) → event ≡ Restart node → ⊥) → given ≡ results.Refused results.Down
    → DownGives false (IsDown records due) (event_of event) given (IsDown records due)
refuses records due (Put node upload) given not is = (is, refl)
refuses records due (Tick node left) given not is = (is, refl)
refuses records due (Deliver node number) given not is = (is, refl)
refuses records due (TickCut node left) given not is = (is, refl)
refuses records due (DeliverCut node number) given not is = (is, refl)
refuses records due (Restart node) given not is = absurd (not node refl)
refuses records due (Get node ticket) given not is = (is, refl)
refuses records due (Info node table) given not is = (is, refl)
refuses records due (Outcome node upload) given not is = (is, refl)

pub for_down : {S : Type 0} (state : StoredNodeState S) (event : Event) (given : EventResult) → ((node : ℕ) → event ≡ Restart node → ⊥) → given ≡ results.Refused results.Down
    → (records : List Record) (due : Option Record) (before : List Message) → IsPlaced state → StandsDown state records due
    → StoredNodeApplies state state (IsDown records due) before before (event_of event) given
for_down state event given not is records due before placed stands = (
  false,
  asked_false (event_of event),
  quiet state state before given (NodeGives state.config before (length before) false (IsDown records due) (event_of event) given) (IsDown records due)
      (ap results.count_of is) (refuses records due event given not is) stands placed refl refl,
)

-- a node is up, or it is down
pub for_up : {S : Type 0} (old new : StoredNodeState S) (before after : List Message) (event : events.Event) (answer : Result Told StoredNodeFault) → (old.node ≡ None → ⊥)
    → UpAnswers old new before after event answer → IsPlaced old → (seat : UpOrDown) → Stands old seat → StoredNodeAnswers old new seat before after event answer
for_up old new before after event (Ok given) up applies placed (IsUp views) stands = (false, asked_false event, applies views placed stands)
for_up old new before after event (Err why) up applies placed (IsUp views) stands = applies views placed stands
for_up old new before after event answer up applies placed (IsDown records due) stands = absurd (up stands.down)

pub for_any_down : {S : Type 0} (old new : StoredNodeState S) (before : List Message) (event : events.Event) (answer : Result Told StoredNodeFault) → old.node ≡ None
    → DownAnswers old new event answer → IsPlaced old → (seat : UpOrDown) → Stands old seat → StoredNodeAnswers old new seat before before event answer
for_any_down old new before event answer down applies placed (IsUp views) stands = absurd (none_is_some stands.node (sym down ∙ stands.up))
for_any_down old new before event answer down applies placed (IsDown records due) stands = applies records due before placed stands

-- ---- a restart

-- the store failed in a restart, or lost records
restart_fails : {S : Type 0} (old new : StoredNodeState S) (seat : UpOrDown) (before : List Message) (node : ℕ) (why : StoredNodeFault)
    → (why ≢ fault.OutOfMemory) → StoredNodeBreaks old.config before seat (events.Restart node) seat
    → IsAsBefore old new seat before before → StoredNodeFails old new seat before before (events.Restart node) why
restart_fails old new seat before node fault.OutOfMemory differs breaks same = absurd (differs refl)
restart_fails old new seat before node (fault.Store why) differs breaks same = record {
  left = seat;
  breaks = breaks;
  stands = same.stands;
  placed = same.placed;
  me_is = same.me_is;
  config_is = same.config_is;
  unsent = same.unsent;
}
restart_fails old new seat before node fault.Lost differs breaks same = ((node, refl), same)

pub up_restarts : {S : Type 0} (old new : StoredNodeState S) (before : List Message) (answer : Result Told StoredNodeFault)
    → RestartAnswers old new answer → UpAnswers old new before before (events.Restart old.me) answer
up_restarts old new before (Ok given) restarts = λ views placed up. (restarts (IsUp views) before placed up).1
up_restarts old new before (Err why) (differs, same) = λ views placed up.
    restart_fails old new (IsUp views) before old.me why differs refl (same (IsUp views) before placed up)

pub down_restarts : {S : Type 0} (old new : StoredNodeState S) (node : ℕ) (answer : Result Told StoredNodeFault)
    → RestartAnswers old new answer → DownAnswers old new (events.Restart node) answer
down_restarts old new node (Ok given) restarts = λ records due before placed was.
    (let gives = restarts (IsDown records due) before placed was in (gives.0, tt, gives.1))
down_restarts old new node (Err why) (differs, same) = λ records due before placed was.
    restart_fails old new (IsDown records due) before node why differs ((node, refl), refl) (same (IsDown records due) before placed was)
