-- A node's own entries: they keep what stood when the history grows, and they leave the node as the history may leave it.
use Rattle.std.proofs.Common.{◌≡◌, ℕ, ◌+◌, ◌<◌, ◌⊎◌, inl, inr, ◌==◌, ◌&&◌, not, Bool, true, false, if◌then◌else◌, List, [], ◌∷◌, ◌++◌, length, take, drop, slice_get, Option, Some, None, refl, sym, ap, ap₂, subst, ◌∙◌, arith}
use Rattle.std.specs.Option.{option_and_then}
use Rattle.std.proofs.lemmas.Bool.{cases_eq, eqb-true, eqb-false}
use Rattle.ballots.specs.declared.message.Message.{Message}
use Rattle.agreement_rules.specs.Views.{AgreementConfig, Views}
use Rattle.agreement_rules.specs.Due.{Due, Refuses, Plans}
use Rattle.histories.specs.Due.{Input, IsDue}
use Rattle.agreement_rules.specs.Due as due
use Rattle.histories.specs.Due as input
use Rattle.histories.specs.Event.{Event, node_of}
use Rattle.histories.specs.Event as event
use Rattle.histories.specs.EventResult.{EventResult, Reason, count_of}
use Rattle.histories.specs.EventResult as results
use Rattle.histories.specs.History.{Step}
use Rattle.histories.specs.Following.{UpOrDown, IsUp, IsDown, reason_of, SendsGives, InputGives, RestartGives, UpGives, RefusesAsDown, DownGives, NodeGives, IsAsked, StepFollows, StepsReach}
use Rattle.histories.specs.Owning.{OwnEntry, is_query, concerns, number_in, is_turned_away, handed_in, sends_in, entry_of, entries_of, own, OwnReaches}
use Rattle.histories.proofs.Reached.{get_with_more, taken_with_more}

-- ---- what is given to a node that is up

abbrev pub is_sent : EventResult → Bool
is_sent (results.Sent first count) = true
is_sent results.Done = false
is_sent (results.Answer bytes) = false
is_sent results.Unavailable = false
is_sent (results.Info version) = false
is_sent results.NoTable = false
is_sent (results.Outcome outcome) = false
is_sent (results.Refused reason) = false

-- nothing goes out, and no message was looked for in vain
abbrev pub Rests : EventResult → Type 0
Rests given = ((s : List Message) → sends_in s given ≡ []) × (is_turned_away given ≡ false) × (is_sent given ≡ false)

rests_by : (given other : EventResult) → given ≡ other → Rests other → Rests given
rests_by given other is rests = subst Rests (sym is) rests

never_away : (refusal : due.Refusal) → Rests (results.Refused (reason_of refusal))
never_away due.OutOfRange = (λ s. refl, refl, refl)
never_away due.SlotsSpent = (λ s. refl, refl, refl)
never_away due.RoundsSpent = (λ s. refl, refl, refl)
never_away due.OutOfMemory = (λ s. refl, refl, refl)

-- messages go out behind those that were sent, or nothing does
pub data Goes (sent : List Message) (next : ℕ) (given : EventResult) : Type 0 where
  out : (ms : List Message) → given ≡ results.Sent next (length ms) → take (length ms) (drop next sent) ≡ ms → Goes sent next given
  nothing : Rests given → Goes sent next given

module _ (config : AgreementConfig) (sent : List Message) (next : ℕ) where
  of_step : (views : Views) (due : Due) (given : EventResult) (new : UpOrDown) → SendsGives sent next views due given new → Goes sent next given
  of_step views (Refuses refusal) given new (is, same) = nothing (rests_by given (results.Refused (reason_of refusal)) is (never_away refusal))
  of_step views (Plans plan) given new (is, placed, same) = out plan.sends is placed

  pub of_input : (node : ℕ) (views : Views) (asked : Input) (given : EventResult) (new : UpOrDown) → InputGives config node views asked (SendsGives sent next views) given new → Goes sent next given
  of_input node views asked given new (inl (due, is_due, gives)) = of_step views due given new gives
  of_input node views asked given new (inr (allowed, (is, same))) = nothing (rests_by given (results.Refused results.OutOfMemory) is (λ s. refl, refl, refl))

pub not_away : (sent : List Message) (next : ℕ) (given : EventResult) → Goes sent next given → is_turned_away given ≡ false
not_away sent next given (out ms is placed) = ap is_turned_away is
not_away sent next given (nothing rests) = rests.1

pub false_is_true : false ≡ true → ⊥
false_is_true same = cc

away_is_not : (given other : EventResult) → given ≡ other → is_turned_away other ≡ true → is_turned_away given ≡ false → ⊥
away_is_not given other is away not = false_is_true (sym not ∙ ap is_turned_away is ∙ away)

-- ---- entries keep what stood

sends_stay : (sent more : List Message) (next : ℕ) (given : EventResult) → Goes sent next given → sends_in (sent ++ more) given ≡ sends_in sent given
sends_stay sent more next given (out ms is placed) =
    ap (sends_in (sent ++ more)) is ∙ taken_with_more sent more ms next placed ∙ sym placed ∙ sym (ap (sends_in sent) is)
sends_stay sent more next given (nothing rests) = rests.0 (sent ++ more) ∙ sym (rests.0 sent)

sends_rest : (sent more : List Message) (given other : EventResult) → given ≡ other → ((s : List Message) → sends_in s other ≡ []) → sends_in (sent ++ more) given ≡ sends_in sent given
sends_rest sent more given other is none = ap (sends_in (sent ++ more)) is ∙ none (sent ++ more) ∙ sym (none sent) ∙ sym (ap (sends_in sent) is)

pub handed_away : (s : List Message) (e : Event) (given other : EventResult) → given ≡ other → is_turned_away other ≡ true → handed_in s (record { event = e; result = given }) ≡ None
handed_away s e given other is away =
    ap (λ (b : Bool). if b then None else option_and_then (λ number. slice_get s number) (number_in e)) (ap is_turned_away is ∙ away)

pub handed_there : (s : List Message) (e : Event) (given : EventResult) (number : ℕ) (m : Message) → is_turned_away given ≡ false → number_in e ≡ Some number → slice_get s number ≡ Some m
    → handed_in s (record { event = e; result = given }) ≡ Some m
handed_there s e given number m not is there =
    ap (λ (b : Bool). if b then None else option_and_then (λ n. slice_get s n) (number_in e)) not
    ∙ ap (λ (o : Option ℕ). option_and_then (λ n. slice_get s n) o) is ∙ there

handed_nothing : (s : List Message) (e : Event) (given : EventResult) (b : Bool) → number_in e ≡ None
    → (if b then None else option_and_then (λ number. slice_get s number) (number_in e)) ≡ None
handed_nothing s e given true is = refl
handed_nothing s e given false is = ap (λ (o : Option ℕ). option_and_then (λ n. slice_get s n) o) is

-- both stay
record Stays (sent more : List Message) (e : Event) (given : EventResult) : Type 0 where
  handed : handed_in (sent ++ more) (record { event = e; result = given }) ≡ handed_in sent (record { event = e; result = given })
  sends : sends_in (sent ++ more) given ≡ sends_in sent given

module _ (config : AgreementConfig) (sent more : List Message) (next : ℕ) where
  hands_nothing : (e : Event) (given : EventResult) → number_in e ≡ None → sends_in (sent ++ more) given ≡ sends_in sent given → Stays sent more e given
  hands_nothing e given is sends = record {
    handed = handed_nothing (sent ++ more) e given (is_turned_away given) is ∙ sym (handed_nothing sent e given (is_turned_away given) is);
    sends = sends;
  }

  is_away : (e : Event) (given other : EventResult) → given ≡ other → is_turned_away other ≡ true → ((s : List Message) → sends_in s other ≡ []) → Stays sent more e given
  is_away e given other is away none = record {
    handed = handed_away (sent ++ more) e given other is away ∙ sym (handed_away sent e given other is away);
    sends = sends_rest sent more given other is none;
  }

  hands_over : (e : Event) (given : EventResult) (number : ℕ) (m : Message) → is_turned_away given ≡ false → number_in e ≡ Some number → slice_get sent number ≡ Some m
      → sends_in (sent ++ more) given ≡ sends_in sent given → Stays sent more e given
  hands_over e given number m not is there sends = record {
    handed = handed_there (sent ++ more) e given number m not is (get_with_more sent more number m there) ∙ sym (handed_there sent e given number m not is there);
    sends = sends;
  }

  up_stays : (found : Bool) (views : Views) (e : Event) (given : EventResult) (new : UpOrDown) → is_query e ≡ false → UpGives config sent next found views e given new → Stays sent more e given
  up_stays found views (event.Put node text) given new changes (inl (Refuses refusal, is_due, (is, same))) =
      hands_nothing (event.Put node text) given refl (sends_rest sent more given (results.Refused (reason_of refusal)) is (λ s. refl))
  up_stays found views (event.Put node text) given new changes (inl (Plans plan, is_due, (is, same))) =
      hands_nothing (event.Put node text) given refl (sends_rest sent more given results.Done is (λ s. refl))
  up_stays found views (event.Put node text) given new changes (inr (allowed, (is, same))) =
      hands_nothing (event.Put node text) given refl (sends_rest sent more given (results.Refused results.OutOfMemory) is (λ s. refl))
  up_stays found views (event.Tick node left) given new changes gives =
      hands_nothing (event.Tick node left) given refl (sends_stay sent more next given (of_input config sent next node views (input.Tick left) given new gives))
  up_stays found views (event.Deliver node number) given new changes (inl (m, lt, there, gives)) =
      let goes = of_input config sent next node views (input.Deliver m) given new gives in
      hands_over (event.Deliver node number) given number m (not_away sent next given goes) refl there (sends_stay sent more next given goes)
  up_stays found views (event.Deliver node number) given new changes (inr (late, is, same)) =
      is_away (event.Deliver node number) given (results.Refused results.NotSent) is refl (λ s. refl)
  up_stays found views (event.TickCut node left) given new changes gives =
      hands_nothing (event.TickCut node left) given refl (sends_rest sent more given results.Done gives.0 (λ s. refl))
  up_stays found views (event.DeliverCut node number) given new changes (inl (m, lt, there, gives)) =
      hands_over (event.DeliverCut node number) given number m (ap is_turned_away gives.0) refl there (sends_rest sent more given results.Done gives.0 (λ s. refl))
  up_stays found views (event.DeliverCut node number) given new changes (inr (late, is, same)) =
      is_away (event.DeliverCut node number) given (results.Refused results.NotSent) is refl (λ s. refl)
  up_stays found views (event.Restart node) given new changes (inl (is, same)) =
      hands_nothing (event.Restart node) given refl (sends_rest sent more given results.Done is (λ s. refl))
  up_stays found views (event.Restart node) given new changes (inr (is, same)) =
      hands_nothing (event.Restart node) given refl (sends_rest sent more given (results.Refused results.OutOfMemory) is (λ s. refl))
  up_stays found views (event.Get node table version) given new changes gives = absurd (false_is_true (sym changes))
  up_stays found views (event.Info node table) given new changes gives = absurd (false_is_true (sym changes))
  up_stays found views (event.Outcome node text) given new changes gives = absurd (false_is_true (sym changes))

  down_stays : (e : Event) (given : EventResult) (old new : UpOrDown) → RefusesAsDown old given new → Stays sent more e given
  down_stays e given old new (is, same) = is_away e given (results.Refused results.Down) is refl (λ s. refl)

  restarts_stay : (node : ℕ) (found : Bool) (old : UpOrDown) (given : EventResult) (new : UpOrDown) → RestartGives found old given new → Stays sent more (event.Restart node) given
  restarts_stay node found old given new (inl (is, same)) =
      hands_nothing (event.Restart node) given refl (sends_rest sent more given results.Done is (λ s. refl))
  restarts_stay node found old given new (inr (is, same)) =
      hands_nothing (event.Restart node) given refl (sends_rest sent more given (results.Refused results.OutOfMemory) is (λ s. refl))

  seat_stays : (found : Bool) (old : UpOrDown) (e : Event) (given : EventResult) (new : UpOrDown) → is_query e ≡ false → NodeGives config sent next found old e given new → Stays sent more e given
  seat_stays found (IsUp views) e given new changes gives = up_stays found views e given new changes gives
  seat_stays found (IsDown records due) (event.Put node text) given new changes gives = down_stays (event.Put node text) given (IsDown records due) new gives
  seat_stays found (IsDown records due) (event.Tick node left) given new changes gives = down_stays (event.Tick node left) given (IsDown records due) new gives
  seat_stays found (IsDown records due) (event.Deliver node number) given new changes gives = down_stays (event.Deliver node number) given (IsDown records due) new gives
  seat_stays found (IsDown records due) (event.TickCut node left) given new changes gives = down_stays (event.TickCut node left) given (IsDown records due) new gives
  seat_stays found (IsDown records due) (event.DeliverCut node number) given new changes gives = down_stays (event.DeliverCut node number) given (IsDown records due) new gives
  seat_stays found (IsDown records due) (event.Restart node) given new changes gives = restarts_stay node found (IsDown records due) given new gives
  seat_stays found (IsDown records due) (event.Get node table version) given new changes gives = down_stays (event.Get node table version) given (IsDown records due) new gives
  seat_stays found (IsDown records due) (event.Info node table) given new changes gives = down_stays (event.Info node table) given (IsDown records due) new gives
  seat_stays found (IsDown records due) (event.Outcome node text) given new changes gives = down_stays (event.Outcome node text) given (IsDown records due) new gives

  pub entry_stays : (found : Bool) (old : UpOrDown) (step : Step) (new : UpOrDown) → is_query step.event ≡ false → NodeGives config sent next found old step.event step.result new
      → entry_of (sent ++ more) step found ≡ entry_of sent step found
  entry_stays found old step new changes gives =
      let stays = seat_stays found old step.event step.result new changes gives in
      ap (λ (h : Option Message). record { step = step; recovered = found; handed = h; sends = sends_in (sent ++ more) step.result }) stays.handed
      ∙ ap (λ (l : List Message). record { step = step; recovered = found; handed = handed_in sent step; sends = l }) stays.sends

-- ---- which steps concern a node

both : (a b : Bool) → (a && not b) ≡ true → (a ≡ true) × (b ≡ false)
both true false is = (refl, refl)
both true true is = absurd (false_is_true is)
both false b is = absurd (false_is_true is)

either : (a b : Bool) → (a && not b) ≡ false → (a ≡ false) ⊎ (b ≡ true)
either false b is = inl refl
either true true is = inr refl
either true false is = absurd (false_is_true (sym is))

pub concerned_node : (node : ℕ) (e : Event) → concerns node e ≡ true → node_of e ≡ node
concerned_node node e is = eqb-true (node_of e) node (both (node_of e == node) (is_query e) is).0

pub concerned_changes : (node : ℕ) (e : Event) → concerns node e ≡ true → is_query e ≡ false
concerned_changes node e is = (both (node_of e == node) (is_query e) is).1

pub unconcerned_asks : (node : ℕ) (e : Event) → concerns node e ≡ false → node ≡ node_of e → is_query e ≡ true
unconcerned_asks node e is same = elim (either (node_of e == node) (is_query e) is) as (λ _. is_query e ≡ true) [
  | inl other ↦ absurd (eqb-false (node_of e) node other (sym same))
  | inr asks ↦ asks
]

module _ (config : AgreementConfig) (sent : List Message) (next : ℕ) where
  up_asks : (found : Bool) (views : Views) (e : Event) (given : EventResult) (new : UpOrDown) → is_query e ≡ true → UpGives config sent next found views e given new → new ≡ IsUp views
  up_asks found views (event.Put node text) given new asks gives = absurd (false_is_true asks)
  up_asks found views (event.Tick node left) given new asks gives = absurd (false_is_true asks)
  up_asks found views (event.Deliver node number) given new asks gives = absurd (false_is_true asks)
  up_asks found views (event.TickCut node left) given new asks gives = absurd (false_is_true asks)
  up_asks found views (event.DeliverCut node number) given new asks gives = absurd (false_is_true asks)
  up_asks found views (event.Restart node) given new asks gives = absurd (false_is_true asks)
  up_asks found views (event.Get node table version) given new asks (uploads, has, gives, same) = same
  up_asks found views (event.Info node table) given new asks (uploads, has, gives, same) = same
  up_asks found views (event.Outcome node text) given new asks (uploads, has, gives, same) = same

  down_asks : (found : Bool) (old : UpOrDown) (e : Event) (given : EventResult) (new : UpOrDown) → is_query e ≡ true → DownGives found old e given new → new ≡ old
  down_asks found old (event.Put node text) given new asks gives = absurd (false_is_true asks)
  down_asks found old (event.Tick node left) given new asks gives = absurd (false_is_true asks)
  down_asks found old (event.Deliver node number) given new asks gives = absurd (false_is_true asks)
  down_asks found old (event.TickCut node left) given new asks gives = absurd (false_is_true asks)
  down_asks found old (event.DeliverCut node number) given new asks gives = absurd (false_is_true asks)
  down_asks found old (event.Restart node) given new asks gives = absurd (false_is_true asks)
  down_asks found old (event.Get node table version) given new asks gives = gives.1
  down_asks found old (event.Info node table) given new asks gives = gives.1
  down_asks found old (event.Outcome node text) given new asks gives = gives.1

  seat_asks : (found : Bool) (old : UpOrDown) (e : Event) (given : EventResult) (new : UpOrDown) → is_query e ≡ true → NodeGives config sent next found old e given new → new ≡ old
  seat_asks found (IsUp views) e given new asks gives = up_asks found views e given new asks gives
  seat_asks found (IsDown records due) e given new asks gives = down_asks found (IsDown records due) e given new asks gives

  module _ (node : ℕ) (member : node < config.members) (seats : ℕ → UpOrDown) (step : Step) (found : Bool) (after : ℕ → UpOrDown) where
    pub unconcerned : concerns node step.event ≡ false → StepFollows config sent next seats step found after → after node ≡ seats node
    unconcerned is (inl (one, gives, others)) = elim (cases_eq node (node_of step.event)) as (λ _. after node ≡ seats node) [
      | inl same ↦
          subst (λ (n : ℕ). after n ≡ seats n) (sym same)
          (seat_asks found (seats (node_of step.event)) step.event step.result (after (node_of step.event)) (unconcerned_asks node step.event is same) gives)
      | inr differs ↦ others node differs
    ]
    unconcerned is (inr (outside, is_out, same)) = same node

    pub concerned : concerns node step.event ≡ true → StepFollows config sent next seats step found after
        → NodeGives config sent next found (seats node) step.event step.result (after node)
    concerned is (inl (one, gives, others)) =
        subst (λ (n : ℕ). NodeGives config sent next found (seats n) step.event step.result (after n)) (concerned_node node step.event is) gives
    concerned is (inr (outside, is_out, same)) = absurd (omega (arith, member, outside, concerned_node node step.event is))

-- ---- what the entries leave

module _ (config : AgreementConfig) (sent : List Message) (node : ℕ) (member : node < config.members) where
  leaves_step : (seats last after : ℕ → UpOrDown) (next : ℕ) (step : Step) (found : Bool) (entries : List OwnEntry) (b : Bool) → concerns node step.event ≡ b
      → StepFollows config sent next seats step found after → IsAsked step.event found → OwnReaches config (after node) entries (last node)
      → OwnReaches config (seats node) (if b then entry_of sent step found ∷ entries else entries) (last node)
  leaves_step seats last after next step found entries true is follows asked rest = (
    after node,
    record {
      sent = sent;
      next = next;
      gives = concerned config sent next node member seats step found after is follows;
      asked = asked;
      handed_is = refl;
      sends_are = refl;
    },
    rest,
  )
  leaves_step seats last after next step found entries false is follows asked rest =
      subst (λ (x : UpOrDown). OwnReaches config x entries (last node)) (unconcerned config sent next node member seats step found after is follows) rest

  pub own_leaves : (steps : List Step) (found : List Bool) (seats last : ℕ → UpOrDown) (next : ℕ) → StepsReach config sent seats next steps found last
      → OwnReaches config (seats node) (own node sent steps found) (last node)
  own_leaves [] found seats last next (none, end, same) = ap (λ (f : ℕ → UpOrDown). f node) same
  own_leaves (s ∷ steps) [] seats last next reaches = absurd reaches
  own_leaves (s ∷ steps) (f ∷ found) seats last next (after, one, asked, rest) =
      leaves_step seats last after next s f (own node sent steps found) (concerns node s.event) refl one asked
      (own_leaves steps found after last (next + count_of s.result) rest)

-- ---- how they grow

module _ (config : AgreementConfig) (sent more : List Message) (node : ℕ) (member : node < config.members) (step : Step) (was : Bool) where
  grow_step : (seats after : ℕ → UpOrDown) (next : ℕ) (s : Step) (f : Bool) (new old : List OwnEntry) (b : Bool) → concerns node s.event ≡ b
      → StepFollows config sent next seats s f after → new ≡ old ++ entries_of node (sent ++ more) step was
      → (if b then entry_of (sent ++ more) s f ∷ new else new) ≡ (if b then entry_of sent s f ∷ old else old) ++ entries_of node (sent ++ more) step was
  grow_step seats after next s f new old true is follows rest =
      ap₂ (λ (x : OwnEntry) (xs : List OwnEntry). x ∷ xs)
      (entry_stays config sent more next f (seats node) s (after node) (concerned_changes node s.event is) (concerned config sent next node member seats s f after is follows)) rest
  grow_step seats after next s f new old false is follows rest = rest

  pub own_grows : (steps : List Step) (found : List Bool) (seats last : ℕ → UpOrDown) (next : ℕ) → StepsReach config sent seats next steps found last
      → own node (sent ++ more) (steps ++ step ∷ []) (found ++ was ∷ []) ≡ own node sent steps found ++ entries_of node (sent ++ more) step was
  own_grows [] [] seats last next (none, end, same) = refl
  own_grows [] (f ∷ found) seats last next (none, end, same) = absurd (cc)
  own_grows (s ∷ steps) [] seats last next reaches = absurd reaches
  own_grows (s ∷ steps) (f ∷ found) seats last next (after, one, asked, rest) =
      grow_step seats after next s f (own node (sent ++ more) (steps ++ step ∷ []) (found ++ was ∷ [])) (own node sent steps found) (concerns node s.event) refl one
      (own_grows steps found after last (next + count_of s.result) rest)
