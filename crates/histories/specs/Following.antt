-- Which histories follow the rules of the nodes: each step is what is due of its node alone, by what the steps before left
-- that node. So any list of events is a history: deliveries in any order, as often as it likes, or never; nodes that go down
-- between a record and all that follows from it; nodes that start again.
use Rattle.std.specs.Prelude.{◌≡◌, ◌≢◌, ◌⊎◌, ℕ, ◌+◌, ◌<◌, ◌≤◌, ◌==◌, if◌then◌else◌, Bool, true, false, Option, None, Some, IsSome, List, [], ◌∷◌, ◌++◌, length, take, drop, slice_get}
use Rattle.ballots.specs.declared.message.Message.{Message}
use Rattle.ballots.specs.declared.record.Record.{Record}
use Rattle.table_types.specs.Uploads.{Upload}
use Rattle.table_types.specs.Tables.{Version, version_of, effective, outcome_of}
use Rattle.table_types.specs.Answers.{answer_of}
use Rattle.agreement_rules.specs.Views.{AgreementConfig, Views, started_with}
use Rattle.agreement_rules.specs.Due.{Refusal, Plan, Due, Refuses, Plans}
use Rattle.agreement_rules.specs.Due as due
use Rattle.histories.specs.Texts.{IsTextOf, HasUploads}
use Rattle.histories.specs.Due.{Input, IsDue, InputKeeps}
use Rattle.histories.specs.Due as input
use Rattle.histories.specs.Event.{Event, node_of}
use Rattle.histories.specs.Event as event
use Rattle.histories.specs.EventResult.{Reason, EventResult, count_of}
use Rattle.histories.specs.EventResult as results
use Rattle.histories.specs.History.{Step, History}

-- ---- a node

-- It is up, and has this; or it is down, with the records that it kept and the record that was due where it went down, of
-- which nobody knows whether it was kept.
pub data UpOrDown : Type 0 where
  IsUp : Views → UpOrDown
  IsDown : List Record → Option Record → UpOrDown

-- the record that was due is recovered, or it is not
abbrev pub with_due : Bool → List Record → Option Record → List Record
with_due recovered records None = records
with_due true records (Some due) = records ++ due ∷ []
with_due false records (Some due) = records

-- the records that a restart has
abbrev pub recovered_in : Bool → UpOrDown → List Record
recovered_in recovered (IsUp views) = views.records
recovered_in recovered (IsDown records due) = with_due recovered records due

-- it went down, or was down
abbrev pub down : UpOrDown → UpOrDown
down (IsUp views) = IsDown views.records None
down (IsDown records due) = IsDown records due

-- ---- what an event of a node that is up gives, and how it leaves the node

-- the name of a refusal in a history
abbrev pub reason_of : Refusal → Reason
reason_of due.OutOfRange = results.OutOfRange
reason_of due.SlotsSpent = results.SlotsSpent
reason_of due.RoundsSpent = results.RoundsSpent
reason_of due.OutOfMemory = results.OutOfMemory

-- memory was refused, and the node is as before
abbrev pub WantsMemory : Views → EventResult → UpOrDown → Type 0
WantsMemory views given seat = (given ≡ results.Refused results.OutOfMemory) × (seat ≡ IsUp views)

-- a put that is due
abbrev pub PutGives : Views → Due → EventResult → UpOrDown → Type 0
PutGives views (Refuses refusal) given seat = (given ≡ results.Refused (reason_of refusal)) × (seat ≡ IsUp views)
PutGives views (Plans plan) given seat = (given ≡ results.Done) × (seat ≡ IsUp plan.after)

-- a tick or a delivery that is due; the messages that go out are the next ones of the history
abbrev pub SendsGives : List Message → ℕ → Views → Due → EventResult → UpOrDown → Type 0
SendsGives sent next views (Refuses refusal) given seat =
    (given ≡ results.Refused (reason_of refusal)) × (seat ≡ IsUp views)
SendsGives sent next views (Plans plan) given seat =
    (given ≡ results.Sent next (length plan.sends)) × (take (length plan.sends) (drop next sent) ≡ plan.sends)
    × (seat ≡ IsUp plan.after)

-- no refusal is due to the input
abbrev pub IsAllowed : AgreementConfig → ℕ → Views → Input → Type 0
IsAllowed config node views input = (refusal : Refusal) → IsDue config node views input (Refuses refusal) → ⊥

-- what is due to the input; memory may be refused where no refusal is due
abbrev pub InputGives : AgreementConfig → ℕ → Views → Input → (Due → EventResult → UpOrDown → Type 0) → EventResult → UpOrDown → Type 0
InputGives config node views input Gives given seat =
    ((due : Due) × IsDue config node views input due × Gives due given seat)
    ⊎ (IsAllowed config node views input × WantsMemory views given seat)

-- the node goes down where its record is due, if one is; whether it was kept the next restart tells
abbrev pub CutGives : AgreementConfig → ℕ → Views → Input → EventResult → UpOrDown → Type 0
CutGives config node views input given seat =
    (given ≡ results.Done)
    × ((kept : Option Record) × InputKeeps config node views input kept × (seat ≡ IsDown views.records kept))

-- the message of a delivery was sent before, or was not
abbrev pub Delivers : List Message → ℕ → ℕ → (Message → EventResult → UpOrDown → Type 0) → Views → EventResult → UpOrDown → Type 0
Delivers sent next number Gives views given seat =
    ((m : Message) × (number < next) × (slice_get sent number ≡ Some m) × Gives m given seat)
    ⊎ ((next ≤ number) × (given ≡ results.Refused results.NotSent) × (seat ≡ IsUp views))

-- an answer is that of the version in the tables of the node's prefix, and there is none exactly where they have none
abbrev pub GetGives : List Upload → List ℕ → ℕ → EventResult → Type 0
GetGives uploads table version given =
    ((found : Version) × (version_of table version uploads ≡ Some found) × (given ≡ results.Answer (answer_of found)))
    ⊎ ((version_of table version uploads ≡ None) × (given ≡ results.Unavailable))

abbrev pub InfoGives : List Upload → List ℕ → EventResult → Type 0
InfoGives uploads table given =
    ((0 < length (effective table uploads)) × (given ≡ results.Info (length (effective table uploads))))
    ⊎ ((effective table uploads ≡ []) × (given ≡ results.NoTable))

abbrev pub OutcomeGives : List Upload → List ℕ → EventResult → Type 0
OutcomeGives uploads text given =
    (upload : Upload) × IsTextOf text upload × (given ≡ results.Outcome (outcome_of uploads upload))

-- likewise, and where there is an answer, memory for it may be refused
abbrev pub GetGivesIfAble : List Upload → List ℕ → ℕ → EventResult → Type 0
GetGivesIfAble uploads table version given =
    GetGives uploads table version given
    ⊎ (IsSome (version_of table version uploads) × (given ≡ results.Refused results.OutOfMemory))

abbrev pub InfoGivesIfAble : List Upload → List ℕ → EventResult → Type 0
InfoGivesIfAble uploads table given =
    InfoGives uploads table given
    ⊎ ((effective table uploads ≢ []) × (given ≡ results.Refused results.OutOfMemory))

-- a query is answered from the tables of the node's prefix, and changes nothing
abbrev pub QueryGives : AgreementConfig → Views → (List Upload → EventResult → Type 0) → EventResult → UpOrDown → Type 0
QueryGives config views Gives given seat =
    (uploads : List Upload) × HasUploads config.members views.learner_calls uploads × Gives uploads given
    × (seat ≡ IsUp views)

-- A restart gives a node with the records that it has and nothing else; where it wants memory, the node is down.
-- `recovered` says whether the record that was due where the node went down is among them.
abbrev pub RestartGives : Bool → UpOrDown → EventResult → UpOrDown → Type 0
RestartGives recovered old given seat =
    ((given ≡ results.Done) × (seat ≡ IsUp (started_with (recovered_in recovered old))))
    ⊎ ((given ≡ results.Refused results.OutOfMemory) × (seat ≡ down old))

abbrev pub UpGives : AgreementConfig → List Message → ℕ → Bool → Views → Event → EventResult → UpOrDown → Type 0
UpGives config sent next recovered views (event.Put node text) given seat =
    InputGives config node views (input.Put text) (PutGives views) given seat
UpGives config sent next recovered views (event.Tick node left) given seat =
    InputGives config node views (input.Tick left) (SendsGives sent next views) given seat
UpGives config sent next recovered views (event.Deliver node number) given seat =
    Delivers sent next number
    (λ m. InputGives config node views (input.Deliver m) (SendsGives sent next views)) views given seat
UpGives config sent next recovered views (event.TickCut node left) given seat =
    CutGives config node views (input.Tick left) given seat
UpGives config sent next recovered views (event.DeliverCut node number) given seat =
    Delivers sent next number (λ m. CutGives config node views (input.Deliver m)) views given seat
UpGives config sent next recovered views (event.Restart node) given seat =
    RestartGives recovered (IsUp views) given seat
UpGives config sent next recovered views (event.Get node table version) given seat =
    QueryGives config views (λ uploads. GetGivesIfAble uploads table version) given seat
UpGives config sent next recovered views (event.Info node table) given seat =
    QueryGives config views (λ uploads. InfoGivesIfAble uploads table) given seat
UpGives config sent next recovered views (event.Outcome node text) given seat =
    QueryGives config views (λ uploads. OutcomeGives uploads text) given seat

-- ---- one step

-- the node is down, and stays so
abbrev pub RefusesAsDown : UpOrDown → EventResult → UpOrDown → Type 0
RefusesAsDown old given seat = (given ≡ results.Refused results.Down) × (seat ≡ old)

-- a node that is down refuses all but a restart
abbrev pub DownGives : Bool → UpOrDown → Event → EventResult → UpOrDown → Type 0
DownGives recovered old (event.Put node text) given seat = RefusesAsDown old given seat
DownGives recovered old (event.Tick node left) given seat = RefusesAsDown old given seat
DownGives recovered old (event.Deliver node number) given seat = RefusesAsDown old given seat
DownGives recovered old (event.TickCut node left) given seat = RefusesAsDown old given seat
DownGives recovered old (event.DeliverCut node number) given seat = RefusesAsDown old given seat
DownGives recovered old (event.Restart node) given seat = RestartGives recovered old given seat
DownGives recovered old (event.Get node table version) given seat = RefusesAsDown old given seat
DownGives recovered old (event.Info node table) given seat = RefusesAsDown old given seat
DownGives recovered old (event.Outcome node text) given seat = RefusesAsDown old given seat

abbrev pub NodeGives : AgreementConfig → List Message → ℕ → Bool → UpOrDown → Event → EventResult → UpOrDown → Type 0
NodeGives config sent next recovered (IsUp views) e given seat = UpGives config sent next recovered views e given seat
NodeGives config sent next recovered (IsDown records due) e given seat =
    DownGives recovered (IsDown records due) e given seat

-- whether a record was recovered is asked at a restart, and of no other event
abbrev pub IsAsked : Event → Bool → Type 0
IsAsked (event.Put node text) recovered = recovered ≡ false
IsAsked (event.Tick node left) recovered = recovered ≡ false
IsAsked (event.Deliver node number) recovered = recovered ≡ false
IsAsked (event.TickCut node left) recovered = recovered ≡ false
IsAsked (event.DeliverCut node number) recovered = recovered ≡ false
IsAsked (event.Restart node) recovered = Unit {0}
IsAsked (event.Get node table version) recovered = recovered ≡ false
IsAsked (event.Info node table) recovered = recovered ≡ false
IsAsked (event.Outcome node text) recovered = recovered ≡ false

-- The step is an event of a member, and all other nodes are as before; or of a node that is none, and nothing changes.
abbrev pub StepFollows : AgreementConfig → List Message → ℕ → (ℕ → UpOrDown) → Step → Bool → (ℕ → UpOrDown) → Type 0
StepFollows config sent next old step recovered new =
    ((node_of step.event < config.members)
    × NodeGives config sent next recovered (old (node_of step.event)) step.event step.result (new (node_of step.event))
    × ((other : ℕ) → other ≢ node_of step.event → new other ≡ old other))
    ⊎ ((config.members ≤ node_of step.event) × (step.result ≡ results.Refused results.OutOfRange)
    × ((other : ℕ) → new other ≡ old other))

-- ---- all steps

-- these steps follow from here on, one after the other, and leave the nodes so; the messages from `next` on are those that
-- they send
abbrev pub StepsReach : AgreementConfig → List Message → (ℕ → UpOrDown) → ℕ → List Step → List Bool → (ℕ → UpOrDown) → Type 0
StepsReach config sent seats next [] recovered last = (recovered ≡ []) × (next ≡ length sent) × (last ≡ seats)
StepsReach config sent seats next (step ∷ steps) [] last = ⊥
StepsReach config sent seats next (step ∷ steps) (recovered ∷ more) last =
    (after : ℕ → UpOrDown) × StepFollows config sent next seats step recovered after × IsAsked step.event recovered
    × StepsReach config sent after (next + count_of step.result) steps more last

-- These steps follow one another from where the nodes start so, send these messages and no others, and leave the nodes so. For
-- each restart `recovered` says whether the record that was due where its node went down was recovered.
abbrev pub ReachesFrom : AgreementConfig → (ℕ → UpOrDown) → List Message → List Step → List Bool → (ℕ → UpOrDown) → Type 0
ReachesFrom config start sent steps recovered seats = StepsReach config sent start 0 steps recovered seats

-- at first every node is up and has nothing
abbrev pub at_first : ℕ → UpOrDown
at_first node = IsUp (started_with [])

-- likewise from the first on
abbrev pub Reaches : AgreementConfig → List Message → List Step → List Bool → (ℕ → UpOrDown) → Type 0
Reaches config sent steps recovered seats = ReachesFrom config at_first sent steps recovered seats

-- For each restart somebody says whether the record that was due was recovered, and every step follows.
pub record Follows (history : History) : Type 0 where
  pub recovered : List Bool
  pub seats : ℕ → UpOrDown
  pub reached : Reaches history.config history.sent history.steps recovered seats

-- the node is so, and all others are as before
abbrev pub with_seat : (ℕ → UpOrDown) → ℕ → UpOrDown → (ℕ → UpOrDown)
with_seat seats node seat other = if other == node then seat else seats other
