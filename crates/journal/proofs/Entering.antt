-- A step that is entered: it follows behind the steps before, and leaves its node so, as its own entries do.
use Rattle.std.proofs.Common.{◌≡◌, ℕ, ◌<◌, Bool, if◌then◌else◌, Option, List, [], ◌∷◌, ◌++◌, length, refl, sym, ap, subst, ◌∙◌}
use Rattle.std.proofs.lemmas.Bool.{eq-eqb}
use Rattle.std.proofs.lemmas.List.{map_push}
use Rattle.node_parts.specs.ballots.specs.declared.message.Message.{Message}
use Rattle.node_parts.specs.agreement_rules.specs.Views.{AgreementConfig}
use Rattle.node_parts.specs.histories.specs.Event.{node_of}
use Rattle.node_parts.specs.histories.specs.History.{Step as HistoryStep}
use Rattle.node_parts.specs.histories.specs.Following.{UpOrDown, NodeGives, StepFollows, ReachesFrom, with_seat}
use Rattle.node_parts.specs.histories.specs.Owning.{OwnEntry, own, entries_of, OwnReaches}
use Rattle.node_parts.specs.traces.specs.declared.step.Step.{Step}
use Rattle.node_parts.specs.traces.specs.declared.config.Config.{Config as RunConfig}
use Rattle.node_parts.specs.traces.specs.Told.{config_of, event_of, result_of, step_of, steps_of}
use Rattle.node_parts.specs.traces.specs.Traced.{Tells, TraceReachesFrom, StepFollowsBehind}
use Rattle.journal.specs.Recalled.{Recalled}
use Rattle.journal.specs.Kept.{Kept}
use Rattle.journal.specs.Journaled.{seats_in, Journaled, journaled, HasFollowed, HasEntry, IsNext, own_in}

-- ---- the laws that are cited

abbrev pub StartsNowhere : Type 0
StartsNowhere = (config : AgreementConfig) (start : ℕ → UpOrDown) → ReachesFrom config start [] [] [] start

abbrev pub StepsAlone : Type 0
StepsAlone = (config : AgreementConfig) (sent : List Message) (next : ℕ) (seats : ℕ → UpOrDown) (step : HistoryStep) (recovered : Bool) (seat : UpOrDown) → node_of step.event < config.members
    → NodeGives config sent next recovered (seats (node_of step.event)) step.event step.result seat
    → StepFollows config sent next seats step recovered (with_seat seats (node_of step.event) seat)

abbrev pub OwnDecides : Type 0
OwnDecides = (config : AgreementConfig) (start : ℕ → UpOrDown) (sent : List Message) (steps : List HistoryStep) (recovered : List Bool) (seats : ℕ → UpOrDown) (node : ℕ) (seat : UpOrDown) → node < config.members
    → ReachesFrom config start sent steps recovered seats → OwnReaches config (start node) (own node sent steps recovered) seat
    → ReachesFrom config start sent steps recovered (with_seat seats node seat)

abbrev pub OwnLeaves : Type 0
OwnLeaves = (config : AgreementConfig) (start : ℕ → UpOrDown) (sent : List Message) (steps : List HistoryStep) (recovered : List Bool) (seats : ℕ → UpOrDown) (node : ℕ) → node < config.members
    → ReachesFrom config start sent steps recovered seats → OwnReaches config (start node) (own node sent steps recovered) (seats node)

abbrev pub OwnGrows : Type 0
OwnGrows = (config : AgreementConfig) (start : ℕ → UpOrDown) (sent more : List Message) (steps : List HistoryStep) (recovered : List Bool) (seats : ℕ → UpOrDown) (step : HistoryStep) (was : Bool) (node : ℕ)
    → node < config.members → ReachesFrom config start sent steps recovered seats
    → own node (sent ++ more) (steps ++ step ∷ []) (recovered ++ was ∷ []) ≡ own node sent steps recovered ++ entries_of node (sent ++ more) step was

-- ---- the start

pub starts : StartsNowhere → (config : RunConfig) (journal : Journaled) → journal.trace.config ≡ config → journal.trace.sent ≡ [] → journal.trace.steps ≡ [] → journal.recovered ≡ []
    → HasFollowed journal
starts nowhere config journal config_is sent_is steps_are recovered_is = (
  seats_in journal.start,
  subst (λ (c : RunConfig). ReachesFrom (config_of c) (seats_in journal.start) journal.trace.sent (steps_of journal.trace.steps) journal.recovered (seats_in journal.start)) (sym config_is)
      (subst (λ (ms : List Message). ReachesFrom (config_of config) (seats_in journal.start) ms (steps_of journal.trace.steps) journal.recovered (seats_in journal.start)) (sym sent_is)
      (subst (λ (ss : List Step). ReachesFrom (config_of config) (seats_in journal.start) [] (steps_of ss) journal.recovered (seats_in journal.start)) (sym steps_are)
      (subst (λ (rs : List Bool). ReachesFrom (config_of config) (seats_in journal.start) [] [] rs (seats_in journal.start)) (sym recovered_is) (nowhere (config_of config) (seats_in journal.start))))),
)

-- likewise of steps that are kept, whichever log the journal knows
pub starts_kept : StartsNowhere → (config : RunConfig) (start : List UpOrDown) (kept : Kept) (steps : Recalled) (log outrun : Option (List OwnEntry)) → kept.recalled ≡ steps
    → Tells steps.trace config [] [] → steps.recovered ≡ [] → HasFollowed (journaled start kept log outrun)
starts_kept nowhere config start kept steps log outrun is tells none =
    starts nowhere config (journaled start kept log outrun)
    (ap (λ (r : Recalled). r.trace.config) is ∙ tells.config_is)
    (ap (λ (r : Recalled). r.trace.sent) is ∙ tells.sent_is)
    (ap (λ (r : Recalled). r.trace.steps) is ∙ tells.steps_are)
    (ap (λ (r : Recalled). r.recovered) is ∙ none)

-- ---- a step more

own_seat : (seats : ℕ → UpOrDown) (node : ℕ) (seat : UpOrDown) → with_seat seats node seat node ≡ seat
own_seat seats node seat = ap (λ (b : Bool). if b then seat else seats node) (eq-eqb node node refl)

-- the nodes before and behind it
pub record Enters (journal : Journaled) (step : Step) (more : List Message) (recovered : Bool) (new : UpOrDown) : Type 0 where
  pub before : ℕ → UpOrDown
  pub behind : ℕ → UpOrDown
  pub reached : TraceReachesFrom (seats_in journal.start) journal.trace journal.recovered before
  pub follows : StepFollowsBehind journal.trace before step more recovered behind
  pub leaves : behind (node_of (event_of step.event)) ≡ new

pub enters : StepsAlone → OwnDecides → (journal : Journaled) (step : Step) (more : List Message) (recovered : Bool) (old new : UpOrDown)
    → HasFollowed journal → IsNext journal step more recovered old new → Enters journal step more recovered new
enters alone decides journal step more recovered old new followed next =
    let node = node_of (event_of step.event) in
    let config = config_of journal.trace.config in
    let seated = with_seat followed.0 node old in
    record {
      before = seated;
      behind = with_seat seated node new;
      reached = decides config (seats_in journal.start) journal.trace.sent (steps_of journal.trace.steps) journal.recovered followed.0 node old next.member followed.1 next.led;
      follows = record {
        follows = alone config (journal.trace.sent ++ more) (length journal.trace.sent) seated (step_of step) recovered new next.member
            (subst (λ (s : UpOrDown). NodeGives config (journal.trace.sent ++ more) (length journal.trace.sent) recovered s (event_of step.event) (result_of step.result) new)
            (sym (own_seat followed.0 node old)) next.gives);
        asked = next.asked;
        counted = next.counted;
      };
      leaves = own_seat seated node new;
    }

-- the steps of a journal with an entry more, in its history
told_more : (old : Journaled) (step : Step) (steps : List Step) → steps ≡ old.trace.steps ++ step ∷ [] → steps_of steps ≡ steps_of old.trace.steps ++ step_of step ∷ []
told_more old step steps is = ap (λ (ss : List Step). steps_of ss) is ∙ map_push step_of old.trace.steps step

-- a node's own entries grow by those of the step
pub own_grows : OwnGrows → (old next : Journaled) (step : Step) (more : List Message) (recovered : Bool) (node : ℕ) → HasFollowed old → HasEntry old step more recovered next
    → node < old.trace.config.members → own_in node next ≡ own_in node old ++ entries_of node next.trace.sent (step_of step) recovered
own_grows grows old next step more recovered node followed entry member =
    let config = config_of old.trace.config in
    subst (λ (ms : List Message). own node ms (steps_of next.trace.steps) next.recovered ≡ own_in node old ++ entries_of node ms (step_of step) recovered) (sym entry.trace.sent_is)
    (subst (λ (ss : List HistoryStep). own node (old.trace.sent ++ more) ss next.recovered ≡ own_in node old ++ entries_of node (old.trace.sent ++ more) (step_of step) recovered)
    (sym (told_more old step next.trace.steps entry.trace.steps_are))
    (subst (λ (rs : List Bool). own node (old.trace.sent ++ more) (steps_of old.trace.steps ++ step_of step ∷ []) rs ≡ own_in node old ++ entries_of node (old.trace.sent ++ more) (step_of step) recovered)
    (sym entry.recovered_is)
    (grows config (seats_in old.start) old.trace.sent more (steps_of old.trace.steps) old.recovered followed.0 (step_of step) recovered node member followed.1)))

-- and they leave it as the step does
pub own_leaves : OwnLeaves → (old next : Journaled) (step : Step) (more : List Message) (recovered : Bool) (new : UpOrDown) (enters : Enters old step more recovered new)
    → next.trace.config ≡ old.trace.config → TraceReachesFrom (seats_in old.start) next.trace next.recovered enters.behind → node_of (event_of step.event) < old.trace.config.members
    → OwnReaches (config_of old.trace.config) (seats_in old.start (node_of (event_of step.event))) (own_in (node_of (event_of step.event)) next) new
own_leaves leaves old next step more recovered new enters config_is reached member =
    let node = node_of (event_of step.event) in
    subst (λ (s : UpOrDown). OwnReaches (config_of old.trace.config) (seats_in old.start node) (own_in node next) s) enters.leaves
    (leaves (config_of old.trace.config) (seats_in old.start) next.trace.sent (steps_of next.trace.steps) next.recovered enters.behind node member
    (subst (λ (c : RunConfig). ReachesFrom (config_of c) (seats_in old.start) next.trace.sent (steps_of next.trace.steps) next.recovered enters.behind) config_is reached))
