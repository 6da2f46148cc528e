-- What two receipts of one journal are worth, from what its history is worth.
use Rattle.std.proofs.Common.{◌≡◌, ◌⊎◌, ℕ, ◌<◌, ◌≤◌, inl, inr, refl, Bool, false, List, [], Option, None, Some, slice_get, sym, ap, subst, ◌∙◌}
use Rattle.std.proofs.lemmas.Option.{slice_get-map}
use Rattle.std.specs.Option.{option_map}
use Rattle.node_parts.specs.table_types.specs.Uploads.{Upload}
use Rattle.node_parts.specs.table_versions.specs.declared.outcome.Outcome.TheVariants.{Applied}
use Rattle.node_parts.specs.table_types.specs.Tables.{applied}
use Rattle.node_parts.specs.histories.specs.Texts.{IsTextOf}
use Rattle.node_parts.specs.histories.specs.Event as events
use Rattle.node_parts.specs.histories.specs.EventResult as results
use Rattle.node_parts.specs.histories.specs.EventResult.{EventResult as HistoryResult}
use Rattle.node_parts.specs.histories.specs.History.{Step as HistoryStep, History}
use Rattle.node_parts.specs.histories.specs.Following.{UpOrDown, Follows, ReachesFrom}
use Rattle.node_parts.specs.safe_histories.specs.Learning.{brings_up, brings_down}
use Rattle.node_parts.specs.agreement_rules.specs.Views.{AgreementConfig}
use Rattle.node_parts.specs.safe_histories.specs.Safe.{IsStep, SameTicketSameBytes, AcknowledgedStandsOnce}
use Rattle.node_parts.specs.joined_histories.specs.Joined.{Precedes}
use Rattle.node_parts.specs.node_events.specs.declared.event.Event.{Event}
use Rattle.node_parts.specs.node_events.specs.declared.event.Event.TheVariants.{Get, Outcome as AsksOutcome}
use Rattle.node_parts.specs.node_events.specs.declared.event_result.EventResult.{EventResult}
use Rattle.node_parts.specs.node_events.specs.declared.event_result.EventResult.TheVariants.{Answer, Outcome as TellsOutcome, Refused}
use Rattle.node_parts.specs.node_events.specs.declared.event_result.Reason.TheVariants.{OutOfMemory}
use Rattle.node_parts.specs.node_events.specs.Told.{event_of, result_of}
use Rattle.node_parts.specs.traces.specs.declared.step.Step.{Step}
use Rattle.node_parts.specs.traces.specs.Told.{config_of, step_of, steps_of}
use Rattle.node_parts.specs.traces.specs.Traced.{Traced, history_of, TraceReachesFrom}
use Rattle.journal.specs.declared.receipt.Receipt.{Receipt}
use Rattle.journal.specs.Journaled.{seats_in, Journaled, HasFollowed}
use Rattle.journal.specs.Receipts.{step_told, IsReceiptOf, SameBytes, StandsOnce, AreWorth, IsFresh}

-- ---- the law that is cited, and what it is asked of

-- what the steps of a trace are worth to clients
pub record KeepsPromises (steps : List HistoryStep) : Type 0 where
  pub tickets : SameTicketSameBytes steps
  pub acknowledged : AcknowledgedStandsOnce steps

-- where its nodes started with nothing
pub follows : (journal : Journaled) → journal.start ≡ [] → HasFollowed journal → Follows (history_of journal.trace)
follows journal nothing followed = record {
  recovered = journal.recovered;
  seats = followed.0;
  reached = subst (λ (start : List UpOrDown). TraceReachesFrom (seats_in start) journal.trace journal.recovered followed.0) nothing followed.1;
}

-- ---- a receipt as a step of the history

told_step : (steps : List Step) (place : ℕ) (step : Step) → slice_get steps place ≡ Some step → slice_get (steps_of steps) place ≡ Some (step_of step)
told_step steps place step is = slice_get-map step_of steps place ∙ ap (λ (o : Option Step). option_map step_of o) is

told_as : (trace : Traced) (receipt : Receipt) (e : Event) (g : EventResult) → IsReceiptOf trace receipt → receipt.event ≡ e → receipt.answer ≡ g
    → IsStep (steps_of trace.steps) receipt.number (event_of e) (result_of g)
told_as trace receipt e g is event_is answer_is =
    subst (λ (x : Event). IsStep (steps_of trace.steps) receipt.number (event_of x) (result_of g)) event_is
    (subst (λ (y : EventResult). IsStep (steps_of trace.steps) receipt.number (event_of receipt.event) (result_of y)) answer_is
    (told_step trace.steps receipt.number (step_told receipt) is))

-- ---- what two are worth

same_bytes : (trace : Traced) (one other : Receipt) → KeepsPromises (steps_of trace.steps) → IsReceiptOf trace one → IsReceiptOf trace other → SameBytes one other
same_bytes trace one other safe is too ticket x y answers answers_too =
    safe.tickets one.number other.number answers.node answers_too.node ticket.version ticket.table x y
    (told_as trace one (Get answers.node ticket) (Answer x) is answers.event_is answers.answer_is)
    (told_as trace other (Get answers_too.node ticket) (Answer y) too answers_too.event_is answers_too.answer_is)

stands_once : (trace : Traced) (one other : Receipt) → KeepsPromises (steps_of trace.steps) → IsReceiptOf trace one → IsReceiptOf trace other → StandsOnce one other
stands_once trace one other safe is too upload number ticket bytes told of_table late answers =
    let asked : IsStep (steps_of trace.steps) other.number (events.Get answers.node upload.table ticket.version) (results.Answer bytes) =
    subst (λ (t : List ℕ). IsStep (steps_of trace.steps) other.number (events.Get answers.node t ticket.version) (results.Answer bytes)) of_table
    (told_as trace other (Get answers.node ticket) (Answer bytes) too answers.event_is answers.answer_is) in
    safe.acknowledged one.number other.number told.node answers.node number ticket.version told.text bytes upload told.is_text
    (told_as trace one (AsksOutcome told.node told.text) (TellsOutcome (Applied number)) is told.event_is told.answer_is) late asked

pub are_worth : (trace : Traced) (one other : Receipt) → KeepsPromises (steps_of trace.steps) → IsReceiptOf trace one → IsReceiptOf trace other → AreWorth one other
are_worth trace one other safe is too = record {
  same_bytes = same_bytes trace one other safe is too;
  stands_once = stands_once trace one other safe is too;
  stands_once_too = stands_once trace other one safe too is;
}

-- ---- a node that goes on answers

abbrev pub Fresh : Type 0
Fresh = (config : AgreementConfig) (start seats : ℕ → UpOrDown) (before tail : History) (recovered : List Bool)
    (i j node number version : ℕ) (text : List ℕ) (upload : Upload) (given : HistoryResult)
    → Precedes config start before → ReachesFrom config start tail.sent tail.steps recovered seats → IsTextOf text upload
    → IsStep tail.steps i (events.Outcome node text) (results.Outcome (applied number)) → i < j
    → ((k : ℕ) (step : HistoryStep) → i < k → k < j → slice_get tail.steps k ≡ Some step
    → (brings_up node step ≡ false) × (brings_down node step ≡ false)) → version ≤ number
    → IsStep tail.steps j (events.Get node upload.table version) given
    → ((bytes : List ℕ) × (given ≡ results.Answer bytes)) ⊎ (given ≡ results.Refused results.OutOfMemory)

abbrev pub LosesNothing : Type 0
LosesNothing = (x y : EventResult) → result_of x ≡ result_of y → x ≡ y

none_is_some : {X : Type 0} (x : X) → None ≡ Some x → ⊥
none_is_some x same = cc

some_same : {X : Type 0} (x y : X) → Some x ≡ Some y → x ≡ y
some_same x y same = cc

-- a step of the history is one of the trace
told_by : (found : Option Step) (step : HistoryStep) → option_map step_of found ≡ Some step → (told : Step) × (found ≡ Some told) × (step_of told ≡ step)
told_by None step is = absurd (none_is_some step is)
told_by (Some told) step is = (told, refl, some_same (step_of told) step is)

-- nothing brought the node up or down between these two
abbrev Unmoved : Traced → ℕ → ℕ → ℕ → Type 0
Unmoved trace node first last = (between : ℕ) (step : Step) → first < between → between < last → slice_get trace.steps between ≡ Some step
    → (brings_up node (step_of step) ≡ false) × (brings_down node (step_of step) ≡ false)

unmoved : (trace : Traced) (node first last : ℕ) → Unmoved trace node first last → (k : ℕ) (step : HistoryStep) → first < k → k < last → slice_get (steps_of trace.steps) k ≡ Some step
    → (brings_up node step ≡ false) × (brings_down node step ≡ false)
unmoved trace node first last still k step above below is =
    let told = told_by (slice_get trace.steps k) step (sym (slice_get-map step_of trace.steps k) ∙ is) in
    subst (λ (s : HistoryStep). (brings_up node s ≡ false) × (brings_down node s ≡ false)) told.2 (still k told.0 above below told.1)

-- and what it gives is told by the receipt
given_back : LosesNothing → (given : EventResult) → ((bytes : List ℕ) × (result_of given ≡ results.Answer bytes)) ⊎ (result_of given ≡ results.Refused results.OutOfMemory)
    → ((bytes : List ℕ) × (given ≡ Answer bytes)) ⊎ (given ≡ Refused OutOfMemory)
given_back loses given (inl (bytes, is)) = inl (bytes, loses given (Answer bytes) is)
given_back loses given (inr is) = inr (loses given (Refused OutOfMemory) is)

pub is_fresh : Fresh → LosesNothing → (journal : Journaled) (before : History) (one other : Receipt) → HasFollowed journal → Precedes (config_of journal.trace.config) (seats_in journal.start) before → IsReceiptOf journal.trace one → IsReceiptOf journal.trace other → IsFresh journal.trace one other
is_fresh fresh loses journal before one other followed precedes is too node text upload number ticket is_text event_is answer_is asks of_table early earlier still =
    let steps = steps_of journal.trace.steps in
    let asked : IsStep steps other.number (events.Get node upload.table ticket.version) (result_of other.answer) =
    subst (λ (t : List ℕ). IsStep steps other.number (events.Get node t ticket.version) (result_of other.answer)) of_table
    (told_as journal.trace other (Get node ticket) other.answer too asks refl) in
    given_back loses other.answer
    (fresh (config_of journal.trace.config) (seats_in journal.start) followed.0 before (history_of journal.trace) journal.recovered one.number other.number node number ticket.version text upload
    (result_of other.answer) precedes followed.1 is_text
    (told_as journal.trace one (AsksOutcome node text) (TellsOutcome (Applied number)) is event_is answer_is) earlier
    (unmoved journal.trace node one.number other.number still) early asked)
