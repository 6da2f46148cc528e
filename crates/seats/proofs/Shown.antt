-- What a journal shows of a node that agrees with it.
use Rattle.std.proofs.Common.{◌≡◌, ◌↔◌, ℕ, ◌<◌, Bool, if◌then◌else◌, Option, None, Some, List, refl, sym, ap, subst, ◌∙◌}
use Rattle.std.proofs.lemmas.Bool.{eq-eqb}
use Rattle.journal.specs.parts.ballots.specs.declared.message.Message.{Message}
use Rattle.journal.specs.parts.ballots.specs.declared.value.Value.{Value}
use Rattle.journal.specs.parts.ballots.specs.declared.record.Record.{Record}
use Rattle.journal.specs.parts.agreement_rules.specs.Views.{AgreementConfig, Views, HasPrefix}
use Rattle.journal.specs.parts.histories.specs.History.{Step, History}
use Rattle.journal.specs.parts.histories.specs.Following.{UpOrDown, IsUp, ReachesFrom, with_seat}
use Rattle.journal.specs.parts.histories.specs.Following as following
use Rattle.journal.specs.parts.histories.specs.Owning.{own, OwnReaches}
use Rattle.journal.specs.parts.safe_histories.specs.Learning.{Runs, HasLearnedPrefix}
use Rattle.journal.specs.parts.joined_histories.specs.Joined.{joined, Precedes}
use Rattle.journal.specs.parts.traces.specs.Told.{config_of, steps_of}
use Rattle.journal.specs.parts.traces.specs.Traced.{history_of}
use Rattle.journal.specs.Journaled.{seats_in, Journaled, HasFollowed}
use Rattle.seats.specs.State.{RunningSeat, IsLedTo, IsLed, Agrees}
use Rattle.seats.specs.Steps.{IsDown}
use Rattle.seats.proofs.Leading.{member_in, config_in, led_in}

-- ---- the laws that are cited

abbrev pub OwnDecides : Type 0
OwnDecides = (config : AgreementConfig) (start : ℕ → UpOrDown) (sent : List Message) (steps : List Step) (recovered : List Bool) (seats : ℕ → UpOrDown) (node : ℕ) (seat : UpOrDown) → node < config.members
    → ReachesFrom config start sent steps recovered seats → OwnReaches config (start node) (own node sent steps recovered) seat
    → ReachesFrom config start sent steps recovered (with_seat seats node seat)

abbrev pub UpIsShown : Type 0
UpIsShown = (config : AgreementConfig) (start seats : ℕ → UpOrDown) (before tail : History) (recovered : List Bool) (node : ℕ) → Precedes config start before
    → ReachesFrom config start tail.sent tail.steps recovered seats → node < config.members → ((views : Views) × (seats node ≡ IsUp views)) ↔ Runs node (joined before tail).steps

abbrev pub PrefixIsShown : Type 0
PrefixIsShown = (config : AgreementConfig) (start seats : ℕ → UpOrDown) (before tail : History) (recovered : List Bool) (node : ℕ) (views : Views) (values : List Value) → Precedes config start before
    → ReachesFrom config start tail.sent tail.steps recovered seats → node < config.members → seats node ≡ IsUp views
    → HasPrefix config.members views.learner_calls values ↔ HasLearnedPrefix config.members (joined before tail).sent (joined before tail).steps node values

-- ---- the node in the history

own_seat : (seats : ℕ → UpOrDown) (node : ℕ) (seat : UpOrDown) → with_seat seats node seat node ≡ seat
own_seat seats node seat = ap (λ (b : Bool). if b then seat else seats node) (eq-eqb node node refl)

-- the journal may as well have left it so
reached : {S : Type 0} → OwnDecides → (seat : RunningSeat S) (journal : Journaled) (stood : UpOrDown) → (followed : HasFollowed journal) → IsLedTo seat stood → Agrees seat journal
    → ReachesFrom (config_of journal.trace.config) (seats_in journal.start) journal.trace.sent (steps_of journal.trace.steps) journal.recovered (with_seat followed.0 seat.node.me stood)
reached decides seat journal stood followed led agrees =
    decides (config_of journal.trace.config) (seats_in journal.start) journal.trace.sent (steps_of journal.trace.steps) journal.recovered followed.0 seat.node.me stood
    (member_in seat journal stood led agrees) followed.1 (led_in seat journal stood led agrees)

none_is_some : {X : Type 0} (x : X) → None ≡ Some x → ⊥
none_is_some x is = cc

down_is_up : (views : Views) (records : List Record) (due : Option Record) → following.IsDown records due ≡ IsUp views → ⊥
down_is_up views records due is = cc

up_shown : {S : Type 0} → OwnDecides → UpIsShown → (seat : RunningSeat S) (journal : Journaled) (stood : UpOrDown) → HasFollowed journal → IsLedTo seat stood → Agrees seat journal
    → (before : History) → Precedes (config_of journal.trace.config) (seats_in journal.start) before
    → ((views : Views) × (stood ≡ IsUp views)) ↔ Runs seat.node.me (joined before (history_of journal.trace)).steps
up_shown decides shown seat journal stood followed led agrees before precedes =
    let is = shown (config_of journal.trace.config) (seats_in journal.start) (with_seat followed.0 seat.node.me stood) before (history_of journal.trace) journal.recovered seat.node.me precedes
    (reached decides seat journal stood followed led agrees) (member_in seat journal stood led agrees) in (
      λ up. is.0 (up.0, own_seat followed.0 seat.node.me stood ∙ up.1),
      λ runs. (let up = is.1 runs in (up.0, sym (own_seat followed.0 seat.node.me stood) ∙ up.1)),
    )

pub runs_shown : {S : Type 0} → OwnDecides → UpIsShown → (seat : RunningSeat S) (journal : Journaled) → HasFollowed journal → IsLed seat → Agrees seat journal
    → (before : History) → Precedes (config_of journal.trace.config) (seats_in journal.start) before
    → (IsDown seat → ⊥) ↔ Runs seat.node.me (joined before (history_of journal.trace)).steps
runs_shown decides shown seat journal followed (IsUp views, led) agrees before precedes =
    let is = up_shown decides shown seat journal (IsUp views) followed led agrees before precedes in (
      λ up. is.0 (views, refl),
      λ runs down. none_is_some led.stands.node (sym down ∙ led.stands.up),
    )
runs_shown decides shown seat journal followed (following.IsDown records due, led) agrees before precedes =
    let is = up_shown decides shown seat journal (following.IsDown records due) followed led agrees before precedes in (
      λ up. absurd (up led.stands.down),
      λ runs down. (let up = is.1 runs in down_is_up up.0 records due up.1),
    )

pub prefix_shown : {S : Type 0} → OwnDecides → PrefixIsShown → (seat : RunningSeat S) (journal : Journaled) (views : Views) (values : List Value) → HasFollowed journal
    → IsLedTo seat (IsUp views) → Agrees seat journal → (before : History) → Precedes (config_of journal.trace.config) (seats_in journal.start) before
    → HasPrefix seat.node.config.members views.learner_calls values
    ↔ HasLearnedPrefix seat.node.config.members (joined before (history_of journal.trace)).sent (joined before (history_of journal.trace)).steps seat.node.me values
prefix_shown decides shown seat journal views values followed led agrees before precedes =
    subst (λ (c : AgreementConfig). HasPrefix c.members views.learner_calls values
    ↔ HasLearnedPrefix c.members (joined before (history_of journal.trace)).sent (joined before (history_of journal.trace)).steps seat.node.me values)
    (sym (config_in seat journal (IsUp views) led agrees))
    (shown (config_of journal.trace.config) (seats_in journal.start) (with_seat followed.0 seat.node.me (IsUp views)) before (history_of journal.trace) journal.recovered seat.node.me views values precedes
    (reached decides seat journal (IsUp views) followed led agrees) (member_in seat journal (IsUp views) led agrees) (own_seat followed.0 seat.node.me (IsUp views)))
