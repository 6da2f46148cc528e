-- Events that are applied one after the other.
use Rattle.std.proofs.Common.{◌≡◌, ℕ, Bool, List, [], ◌∷◌, ◌++◌, length, map, Result, Ok, Err, OnErr, refl, sym, ap, subst, ◌∙◌}
use Rattle.std.proofs.lemmas.List.{map_push}
use Rattle.ballots.specs.declared.message.Message.{Message}
use Rattle.lawful_histories.specs.Lawful.{IsLawful}
use Rattle.agreement_rules.specs.Views.{AgreementConfig as HistoryConfig}
use Rattle.histories.specs.EventResult.{count_of}
use Rattle.histories.specs.History.{Step as HistoryStep, History}
use Rattle.histories.specs.Following.{UpOrDown, IsAsked, StepFollows, Reaches, Follows, at_first}
use Rattle.safe_histories.specs.Safe.{IsSafe}
use Rattle.node_events.specs.declared.event.Event.{Event}
use Rattle.traces.specs.declared.config.Config.{Config}
use Rattle.traces.specs.declared.step.Step.{Step}
use Rattle.traces.specs.Told.{config_of, step_of, steps_of}
use Rattle.traces.specs.Traced.{Traced, Tells, TellsMore, history_of, TraceReaches, StepFollowsBehind}
use Rattle.traces.specs.Applying.{AppliesTo, HasCome}
use Rattle.traces.specs.Runs.{IsRunOf}

-- ---- the laws that are cited

abbrev pub Starts : Type 0
Starts = (config : HistoryConfig) → Reaches config [] [] [] at_first

abbrev pub GoesOn : Type 0
GoesOn = (config : HistoryConfig) (sent more : List Message) (steps : List HistoryStep) (recovered : List Bool) (seats new : ℕ → UpOrDown) (step : HistoryStep) (was : Bool)
    → Reaches config sent steps recovered seats → StepFollows config (sent ++ more) (length sent) seats step was new → IsAsked step.event was → length more ≡ count_of step.result
    → Reaches config (sent ++ more) (steps ++ step ∷ []) (recovered ++ was ∷ []) new

-- ---- the start, a step more, the end

-- what it tells reaches this, and so the trace does
reached_as : (trace : Traced) (config : Config) (sent : List Message) (steps : List Step) (recovered : List Bool) (seats : ℕ → UpOrDown) → Tells trace config sent steps
    → Reaches (config_of config) sent (steps_of steps) recovered seats → TraceReaches trace recovered seats
reached_as trace config sent steps recovered seats tells reached =
    subst (λ (c : Config). Reaches (config_of c) trace.sent (steps_of trace.steps) recovered seats) (sym tells.config_is)
    (subst (λ (l : List Message). Reaches (config_of config) l (steps_of trace.steps) recovered seats) (sym tells.sent_is)
    (subst (λ (l : List Step). Reaches (config_of config) sent (steps_of l) recovered seats) (sym tells.steps_are) reached))

pub at_start : Starts → (Have : (ℕ → UpOrDown) → Type 0) (config : Config) (trace : Traced) → Tells trace config [] [] → Have at_first → HasCome Have trace []
at_start starts Have config trace tells have = record {
  recovered = [];
  seats = at_first;
  reached = reached_as trace config [] [] [] at_first tells (starts (config_of config));
  have = have;
  one_for_one = ap (λ (l : List Step). map (λ (s : Step). s.event) l) tells.steps_are;
}

-- a step more behind a trace
pub reaches_more : GoesOn → (trace next : Traced) (step : Step) (more : List Message) (recovered : List Bool) (seats new : ℕ → UpOrDown) (was : Bool) → TellsMore trace step more next
    → TraceReaches trace recovered seats → StepFollowsBehind trace seats step more was new → TraceReaches next (recovered ++ was ∷ []) new
reaches_more goes_on trace next step more recovered seats new was tells reached behind =
    let config = config_of trace.config in
    reached_as next trace.config (trace.sent ++ more) (trace.steps ++ step ∷ []) (recovered ++ was ∷ []) new tells
    (subst (λ (l : List HistoryStep). Reaches config (trace.sent ++ more) l (recovered ++ was ∷ []) new) (sym (map_push step_of trace.steps step))
    (goes_on config trace.sent more (steps_of trace.steps) recovered seats new (step_of step) was reached behind.follows behind.asked behind.counted))

pub come_more : GoesOn → (Old New : (ℕ → UpOrDown) → Type 0) (trace next : Traced) (after : List Message) (events : List Event) (step : Step)
    → ((seats : ℕ → UpOrDown) → Old seats → AppliesTo New (config_of trace.config) seats trace.sent after step.event step.result) → HasCome Old trace events
    → Tells next trace.config after (trace.steps ++ step ∷ []) → HasCome New next (events ++ step.event ∷ [])
come_more goes_on Old New trace next after events step applies come tells =
    let now = applies come.seats come.have in
    let config = config_of trace.config in
    let behind : StepFollowsBehind trace come.seats step now.more now.recovered now.left = record {
      follows = subst (λ (l : List Message). StepFollows config l (length trace.sent) come.seats (step_of step) now.recovered now.left) now.behind now.follows;
      asked = now.asked;
      counted = now.counted;
    } in
    let tells_more : TellsMore trace step now.more next = record { config_is = tells.config_is; sent_is = tells.sent_is ∙ now.behind; steps_are = tells.steps_are } in
    record {
      recovered = come.recovered ++ now.recovered ∷ [];
      seats = now.left;
      reached = reaches_more goes_on trace next step now.more come.recovered come.seats now.left now.recovered tells_more come.reached behind;
      have = now.have;
      one_for_one = ap (λ (l : List Step). map (λ (s : Step). s.event) l) tells.steps_are ∙ (map_push (λ (s : Step). s.event) trace.steps step ∙ ap (λ (l : List Event). l ++ step.event ∷ []) come.one_for_one);
    }

pub come_to_end : ((history : History) → Follows history → IsLawful history.config.members history.sent) → ((history : History) → Follows history → IsSafe history)
    → (Have : (ℕ → UpOrDown) → Type 0) (config : Config) (trace : Traced) (events : List Event) → trace.config ≡ config → HasCome Have trace events → IsRunOf config events trace
come_to_end lawful safe Have config trace events configured come =
    let follows : Follows (history_of trace) = record { recovered = come.recovered; seats = come.seats; reached = come.reached } in
    record {
      configured = configured;
      one_for_one = come.one_for_one;
      follows = follows;
      lawful = lawful (history_of trace) follows;
      safe = safe (history_of trace) follows;
    }

-- ---- nodes that have what they had

pub kept_come : (Old New : (ℕ → UpOrDown) → Type 0) (trace : Traced) (events : List Event) → ((seats : ℕ → UpOrDown) → Old seats → New seats) → HasCome Old trace events → HasCome New trace events
kept_come Old New trace events kept come = record {
  recovered = come.recovered;
  seats = come.seats;
  reached = come.reached;
  have = kept come.seats come.have;
  one_for_one = come.one_for_one;
}

pub any_err : {T E : Type 0} (P : Type 0) (result : Result T E) → P → OnErr result P
any_err P (Ok x) h = tt
any_err P (Err e) h = h
