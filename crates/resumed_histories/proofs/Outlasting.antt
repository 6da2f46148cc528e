-- What clients did before all nodes started again stands in a history that precedes the nodes as they have started.
use Rattle.std.proofs.Common.{◌≡◌, ℕ, zero, suc, ◌<◌, ◌≤◌, Bool, true, false, cond, None, Some, List, [], ◌∷◌, ◌++◌, slice_get, refl, sym, ap, subst, ◌∙◌, arith}
use Rattle.std.specs.List.{Contains}
use Rattle.std.proofs.lemmas.List.{append-nil}
use Rattle.std.proofs.lemmas.List.Elements.{filter-append, Contains-append_left, Contains-append_right}
use Rattle.ballots.specs.declared.message.Message.{Message}
use Rattle.ballots.specs.Message.{message}
use Rattle.ballots.specs.declared.acceptance.Acceptance.{Acceptance}
use Rattle.ballots.specs.declared.record.Record.{Record}
use Rattle.ballots.specs.declared.record.Record.TheVariants.{Accepted as HasAccepted}
use Rattle.ballots.specs.declared.message.Body.TheVariants.{Accepted}
use Rattle.agreement_rules.specs.Views.{AgreementConfig, Views, started_with}
use Rattle.histories.specs.Event.{Event}
use Rattle.histories.specs.Event as event
use Rattle.histories.specs.History.{Step, History}
use Rattle.histories.specs.Following.{UpOrDown, IsUp, recovered_in, Reaches}
use Rattle.joined_histories.specs.Joined.{Precedes}
use Rattle.cut_histories.specs.Settling.{is_of_a_client, of_clients, MayHaveSent}
use Rattle.resumed_histories.specs.StartingOver.{Hears, StartsOver, StartsOrHands, IsRecorded}

-- ---- restarts and deliveries are no client's

no_clients : (e : Event) → StartsOrHands e → is_of_a_client e ≡ false
no_clients (event.Put node text) is = absurd is
no_clients (event.Tick node left) is = absurd is
no_clients (event.Deliver node number) is = refl
no_clients (event.TickCut node left) is = absurd is
no_clients (event.DeliverCut node number) is = absurd is
no_clients (event.Restart node) is = refl
no_clients (event.Get node table version) is = absurd is
no_clients (event.Info node table) is = absurd is
no_clients (event.Outcome node text) is = absurd is

in_front : {X : Type 0} (x : X) (xs : List X) → Contains (x ∷ xs) x
in_front x xs = Contains-append_left (x ∷ []) xs x (0, omega arith, refl)

behind_front : {X : Type 0} (y x : X) (xs : List X) → Contains xs x → Contains (y ∷ xs) x
behind_front y x xs has = Contains-append_right (y ∷ []) xs x has

none_of_clients : (steps : List Step) → ((step : Step) → Contains steps step → StartsOrHands step.event) → of_clients steps ≡ []
none_of_clients [] each = refl
none_of_clients (s ∷ steps) each =
    ap (λ (b : Bool). cond b (s ∷ of_clients steps) (of_clients steps)) (no_clients s.event (each s (in_front s steps)))
    ∙ none_of_clients steps (λ step has. each step (behind_front s step steps has))

more_of_clients : (steps more : List Step) → ((step : Step) → Contains more step → StartsOrHands step.event) → of_clients (steps ++ more) ≡ of_clients steps
more_of_clients steps more each =
    filter-append (λ (step : Step). is_of_a_client step.event) steps more
    ∙ (ap (λ (ss : List Step). of_clients steps ++ ss) (none_of_clients more each) ∙ append-nil (of_clients steps))

-- ---- the laws that are cited

abbrev pub StartsAnew : Type 0
StartsAnew = (config : AgreementConfig) (left start : ℕ → UpOrDown) (before : History) (recovered : ℕ → Bool) (told : List Message)
    → Precedes config left before → ((m : Message) → Contains told m → Contains before.sent m) → StartsOver config left recovered told start
    → (more : List Step) × ((step : Step) → Contains more step → StartsOrHands step.event)
    × Precedes config start (record { config = config; sent = before.sent; steps = before.steps ++ more })

abbrev pub CutsSend : Type 0
CutsSend = (config : AgreementConfig) (sent : List Message) (steps : List Step) (recovered : List Bool) (seats : ℕ → UpOrDown) (found : ℕ → Bool)
    → Reaches config sent steps recovered seats → MayHaveSent config sent steps seats found

abbrev pub SameRecords : Type 0
SameRecords = (config : AgreementConfig) (sent : List Message) (steps : List Step) (seats : ℕ → UpOrDown) (found : ℕ → Bool) (other : MayHaveSent config sent steps seats found)
    (node : ℕ) (recovered : Bool) → recovered_in recovered (other.other_seats node) ≡ recovered_in (found node) (seats node)

abbrev pub SameOutside : Type 0
SameOutside = (config : AgreementConfig) (sent : List Message) (steps : List Step) (seats : ℕ → UpOrDown) (found : ℕ → Bool) (other : MayHaveSent config sent steps seats found)
    (node : ℕ) → config.members ≤ node → other.other_seats node ≡ seats node

abbrev pub AcceptedSent : Type 0
AcceptedSent = (config : AgreementConfig) (sent : List Message) (steps : List Step) (seats : ℕ → UpOrDown) (found : ℕ → Bool) (other : MayHaveSent config sent steps seats found)
    (node slot : ℕ) (told : Acceptance) → node < config.members → Contains (recovered_in (found node) (seats node)) (HasAccepted slot told)
    → Contains other.other_sent (message node slot (Accepted told))

-- ---- the history that precedes

-- some history precedes such nodes, and clients did the same in it
pub record HasPreceded (config : AgreementConfig) (start : ℕ → UpOrDown) (before : History) : Type 0 where
  pub whole : History
  pub precedes : Precedes config start whole
  pub clients : of_clients whole.steps ≡ of_clients before.steps

pub preceded : StartsAnew → CutsSend → SameRecords → SameOutside → AcceptedSent → (config : AgreementConfig) (left start : ℕ → UpOrDown) (before : History) (recovered : ℕ → Bool) (told : List Message)
    → Precedes config left before → ((m : Message) → Contains told m → IsRecorded config left recovered m) → StartsOver config left recovered told start
    → HasPreceded config start before
preceded anew cuts records outside accepted config left start before recovered told precedes recorded starts =
    let other = cuts config before.sent before.steps precedes.recovered left recovered precedes.reached in
    let settled : History = record { config = config; sent = other.other_sent; steps = other.other_steps } in
    let settles : Precedes config other.other_seats settled = record { config_is = refl; recovered = other.other_recovered; reached = other.reached } in
    let there : StartsOver config other.other_seats recovered told start = record {
      members = λ node member.
          subst (λ (rs : List Record). (views : Views) × (start node ≡ IsUp views) × Hears config node (started_with rs) told views)
          (sym (records config before.sent before.steps left recovered other node (recovered node))) (starts.members node member);
      others = λ node out. starts.others node out ∙ sym (outside config before.sent before.steps left recovered other node out);
    } in
    let heard : (m : Message) → Contains told m → Contains other.other_sent m = λ m has.
    (let is = recorded m has in
    subst (λ (x : Message). Contains other.other_sent x) (sym is.tells)
    (accepted config before.sent before.steps left recovered other m.sender m.slot is.accepted is.member is.has)) in
    let more = anew config other.other_seats start settled recovered told settles heard there in
    record {
      whole = record { config = config; sent = other.other_sent; steps = other.other_steps ++ more.0 };
      precedes = more.2;
      clients = more_of_clients other.other_steps more.0 more.1 ∙ other.clients;
    }

-- ---- a step of a client stands there too

none_is_some : {X : Type 0} (x : X) → None ≡ Some x → ⊥
none_is_some x same = cc

some_same : {X : Type 0} (x y : X) → Some x ≡ Some y → x ≡ y
some_same x y same = cc

kept_step : (s step : Step) (steps : List Step) (b : Bool) → is_of_a_client s.event ≡ b → is_of_a_client step.event ≡ true → s ≡ step
    → (place : ℕ) × (slice_get (cond b (s ∷ of_clients steps) (of_clients steps)) place ≡ Some step)
kept_step s step steps true is client same = (0, ap Some same)
kept_step s step steps false is client same = absurd (let no : false ≡ true = sym is ∙ ap (λ (x : Step). is_of_a_client x.event) same ∙ client in cc)

later_step : (s step : Step) (steps : List Step) (b : Bool) → (place : ℕ) × (slice_get (of_clients steps) place ≡ Some step)
    → (place : ℕ) × (slice_get (cond b (s ∷ of_clients steps) (of_clients steps)) place ≡ Some step)
later_step s step steps true found = (suc found.0, found.1)
later_step s step steps false found = found

into_clients : (steps : List Step) (place : ℕ) (step : Step) → is_of_a_client step.event ≡ true → slice_get steps place ≡ Some step
    → (at : ℕ) × (slice_get (of_clients steps) at ≡ Some step)
into_clients [] place step client is = absurd (none_is_some step is)
into_clients (s ∷ steps) zero step client is = kept_step s step steps (is_of_a_client s.event) refl client (some_same s step is)
into_clients (s ∷ steps) (suc place) step client is = later_step s step steps (is_of_a_client s.event) (into_clients steps place step client is)

out_step : (s step : Step) (steps : List Step) (b : Bool) (at : ℕ) → slice_get (cond b (s ∷ of_clients steps) (of_clients steps)) at ≡ Some step
    → ((k : ℕ) → slice_get (of_clients steps) k ≡ Some step → (place : ℕ) × (slice_get steps place ≡ Some step))
    → (place : ℕ) × (slice_get (s ∷ steps) place ≡ Some step)
out_step s step steps true zero is rest = (0, is)
out_step s step steps true (suc at) is rest = (let found = rest at is in (suc found.0, found.1))
out_step s step steps false at is rest = (let found = rest at is in (suc found.0, found.1))

out_of_clients : (steps : List Step) (at : ℕ) (step : Step) → slice_get (of_clients steps) at ≡ Some step → (place : ℕ) × (slice_get steps place ≡ Some step)
out_of_clients [] at step is = absurd (none_is_some step is)
out_of_clients (s ∷ steps) at step is = out_step s step steps (is_of_a_client s.event) at is (λ k found. out_of_clients steps k step found)

pub stands_there : (whole steps : List Step) → of_clients whole ≡ of_clients steps → (place : ℕ) (step : Step) → is_of_a_client step.event ≡ true → slice_get steps place ≡ Some step
    → (at : ℕ) × (slice_get whole at ≡ Some step)
stands_there whole steps same place step client is =
    let found = into_clients steps place step client is in
    out_of_clients whole found.0 step (ap (λ (ss : List Step). slice_get ss found.0) same ∙ found.1)
