-- A node's own entries follow in each history that has them: what a node does is by what it has alone, so that a history that
-- leaves a node in one way may as well leave it as its own entries do.
use mathlib.Core.Path.{fun_ext}
use Rattle.std.proofs.Common.{◌≡◌, ◌≢◌, ℕ, ◌+◌, ◌<◌, ◌≤◌, inl, inr, Bool, true, false, if◌then◌else◌, List, [], ◌∷◌, length, slice_get, Some, refl, sym, ap, subst, ◌∙◌, arith}
use Rattle.std.proofs.lemmas.Bool.{cases_eq}
use Rattle.ballots.specs.declared.message.Message.{Message}
use Rattle.agreement_rules.specs.Views.{AgreementConfig, Views}
use Rattle.agreement_rules.specs.Due.{Due, Refuses, Plans}
use Rattle.histories.specs.Due.{Input, IsDue}
use Rattle.agreement_rules.specs.Due as due
use Rattle.histories.specs.Due as input
use Rattle.histories.specs.Event.{Event, node_of}
use Rattle.histories.specs.Event as event
use Rattle.histories.specs.EventResult.{EventResult, count_of}
use Rattle.histories.specs.EventResult as results
use Rattle.histories.specs.History.{Step}
use Rattle.histories.specs.Following.{UpOrDown, IsUp, IsDown, SendsGives, InputGives, UpGives, NodeGives, IsAsked, StepFollows, StepsReach, with_seat}
use Rattle.histories.specs.Owning.{concerns, number_in, is_turned_away, handed_in, sends_in, entry_of, own, OwnReaches}
use Rattle.histories.proofs.Reached.{own_seat, other_seat}
use Rattle.histories.proofs.Learning.{Alike, question_again, alike_then}
use Rattle.histories.proofs.Own.{Goes, out, nothing, is_sent, of_input, not_away, false_is_true, handed_there, concerned_node, concerned_changes, concerned, unconcerned, unconcerned_asks}

-- ---- what the history tells of the step

some_same : {X : Type 0} (x y : X) → Some x ≡ Some y → x ≡ y
some_same x y same = cc

away_differs : (given other : EventResult) → given ≡ other → is_turned_away other ≡ true → is_turned_away given ≡ false → ⊥
away_differs given other is away not = false_is_true (sym not ∙ ap is_turned_away is ∙ away)

-- the message was sent before, and what goes out stands behind what was sent
record Handed (sent : List Message) (next number : ℕ) (given : EventResult) : Type 0 where
  message : Message
  before : number < next
  there : slice_get sent number ≡ Some message

module _ (config : AgreementConfig) (sent : List Message) (next : ℕ) where
  ticked : (found : Bool) (seat : UpOrDown) (node left : ℕ) (given : EventResult) (after : UpOrDown) → NodeGives config sent next found seat (event.Tick node left) given after
      → is_turned_away given ≡ false → Goes sent next given
  ticked found (IsUp views) node left given after gives not = of_input config sent next node views (input.Tick left) given after gives
  ticked found (IsDown records due) node left given after (is, same) not = absurd (away_differs given (results.Refused results.Down) is refl not)

  delivered : (found : Bool) (seat : UpOrDown) (node number : ℕ) (given : EventResult) (after : UpOrDown) → NodeGives config sent next found seat (event.Deliver node number) given after
      → is_turned_away given ≡ false → Goes sent next given × Handed sent next number given
  delivered found (IsUp views) node number given after (inl (m, lt, there, gives)) not =
      (of_input config sent next node views (input.Deliver m) given after gives, record { message = m; before = lt; there = there })
  delivered found (IsUp views) node number given after (inr (late, is, same)) not = absurd (away_differs given (results.Refused results.NotSent) is refl not)
  delivered found (IsDown records due) node number given after (is, same) not = absurd (away_differs given (results.Refused results.Down) is refl not)

  delivered_late : (found : Bool) (seat : UpOrDown) (node number : ℕ) (given : EventResult) (after : UpOrDown) → NodeGives config sent next found seat (event.Deliver node number) given after
      → given ≡ results.Refused results.NotSent → next ≤ number
  delivered_late found (IsUp views) node number given after (inl (m, lt, there, gives)) away =
      absurd (away_differs given (results.Refused results.NotSent) away refl (not_away sent next given (of_input config sent next node views (input.Deliver m) given after gives)))
  delivered_late found (IsUp views) node number given after (inr (late, is, same)) away = late
  delivered_late found (IsDown records due) node number given after (is, same) away =
      absurd (let no : results.Refused results.Down ≡ results.Refused results.NotSent = sym is ∙ away in cc)

  cut : (found : Bool) (seat : UpOrDown) (node number : ℕ) (given : EventResult) (after : UpOrDown) → NodeGives config sent next found seat (event.DeliverCut node number) given after
      → is_turned_away given ≡ false → Handed sent next number given
  cut found (IsUp views) node number given after (inl (m, lt, there, gives)) not = record { message = m; before = lt; there = there }
  cut found (IsUp views) node number given after (inr (late, is, same)) not = absurd (away_differs given (results.Refused results.NotSent) is refl not)
  cut found (IsDown records due) node number given after (is, same) not = absurd (away_differs given (results.Refused results.Down) is refl not)

  cut_late : (found : Bool) (seat : UpOrDown) (node number : ℕ) (given : EventResult) (after : UpOrDown) → NodeGives config sent next found seat (event.DeliverCut node number) given after
      → given ≡ results.Refused results.NotSent → next ≤ number
  cut_late found (IsUp views) node number given after (inl (m, lt, there, gives)) away =
      absurd (let no : results.Done ≡ results.Refused results.NotSent = sym gives.0 ∙ away in cc)
  cut_late found (IsUp views) node number given after (inr (late, is, same)) away = late
  cut_late found (IsDown records due) node number given after (is, same) away =
      absurd (let no : results.Refused results.Down ≡ results.Refused results.NotSent = sym is ∙ away in cc)

-- ---- the same entry, of a node that has something else

module _ (config : AgreementConfig) (sent elsewhere : List Message) (next there : ℕ) (given : EventResult) (sends : sends_in elsewhere given ≡ sends_in sent given) where
  goes_again : (views : Views) (plan : due.Plan) (new : UpOrDown) → Goes sent next given → SendsGives elsewhere there views (Plans plan) given new
      → SendsGives sent next views (Plans plan) given new
  goes_again views plan new (out ms is placed) (was, stood, same) =
      let both : results.Sent there (length plan.sends) ≡ results.Sent next (length ms) = sym was ∙ is in
      let counts : length plan.sends ≡ length ms = cc in
      let now : given ≡ results.Sent next (length plan.sends) = is ∙ ap (results.Sent next) (sym counts) in
      (now, sym (ap (sends_in sent) now) ∙ sym sends ∙ ap (sends_in elsewhere) was ∙ stood, same)
  goes_again views plan new (nothing rests) (was, stood, same) = absurd (false_is_true (sym rests.2 ∙ ap is_sent was))

  input_again : (node : ℕ) (views : Views) (asked : Input) (new : UpOrDown) → Goes sent next given → InputGives config node views asked (SendsGives elsewhere there views) given new
      → InputGives config node views asked (SendsGives sent next views) given new
  input_again node views asked new goes (inl (Refuses refusal, is_due, gives)) = inl (Refuses refusal, is_due, gives)
  input_again node views asked new goes (inl (Plans plan, is_due, gives)) = inl (Plans plan, is_due, goes_again views plan new goes gives)
  input_again node views asked new goes (inr wants) = inr wants

  same_message : (e : Event) (number : ℕ) (m : Message) → is_turned_away given ≡ false → number_in e ≡ Some number
      → handed_in elsewhere (record { event = e; result = given }) ≡ handed_in sent (record { event = e; result = given }) → slice_get elsewhere number ≡ Some m
      → Handed sent next number given → slice_get sent number ≡ Some m
  same_message e number m not is same was handed =
      let both : Some m ≡ Some handed.message =
      sym (handed_there elsewhere e given number m not is was) ∙ same ∙ handed_there sent e given number handed.message not is handed.there in
      handed.there ∙ sym both

  up_again : (found : Bool) (views : Views) (seat : UpOrDown) (e : Event) (new after : UpOrDown)
      → handed_in elsewhere (record { event = e; result = given }) ≡ handed_in sent (record { event = e; result = given })
      → UpGives config elsewhere there found views e given new → NodeGives config sent next found seat e given after → UpGives config sent next found views e given new
  up_again found views seat (event.Put node text) new after same gives shown = gives
  up_again found views seat (event.Tick node left) new after same gives shown =
      let not = not_away elsewhere there given (of_input config elsewhere there node views (input.Tick left) given new gives) in
      input_again node views (input.Tick left) new (ticked config sent next found seat node left given after shown not) gives
  up_again found views seat (event.Deliver node number) new after same (inl (m, lt, was, gives)) shown =
      let not = not_away elsewhere there given (of_input config elsewhere there node views (input.Deliver m) given new gives) in
      let now = delivered config sent next found seat node number given after shown not in
      inl (
        m,
        now.1.before,
        same_message (event.Deliver node number) number m not refl same was now.1,
        input_again node views (input.Deliver m) new now.0 gives,
      )
  up_again found views seat (event.Deliver node number) new after same (inr (late, is, stays)) shown =
      inr (delivered_late config sent next found seat node number given after shown is, is, stays)
  up_again found views seat (event.TickCut node left) new after same gives shown = gives
  up_again found views seat (event.DeliverCut node number) new after same (inl (m, lt, was, gives)) shown =
      let not : is_turned_away given ≡ false = ap is_turned_away gives.0 in
      let now = cut config sent next found seat node number given after shown not in
      inl (m, now.before, same_message (event.DeliverCut node number) number m not refl same was now, gives)
  up_again found views seat (event.DeliverCut node number) new after same (inr (late, is, stays)) shown =
      inr (cut_late config sent next found seat node number given after shown is, is, stays)
  up_again found views seat (event.Restart node) new after same gives shown = gives
  up_again found views seat (event.Get node table version) new after same gives shown = gives
  up_again found views seat (event.Info node table) new after same gives shown = gives
  up_again found views seat (event.Outcome node text) new after same gives shown = gives

  seat_again : (found : Bool) (old seat : UpOrDown) (e : Event) (new after : UpOrDown)
      → handed_in elsewhere (record { event = e; result = given }) ≡ handed_in sent (record { event = e; result = given })
      → NodeGives config elsewhere there found old e given new → NodeGives config sent next found seat e given after → NodeGives config sent next found old e given new
  seat_again found (IsUp views) seat e new after same gives shown = up_again found views seat e new after same gives shown
  seat_again found (IsDown records due) seat e new after same gives shown = gives

-- ---- one step

module _ (config : AgreementConfig) (sent : List Message) (node : ℕ) (member : node < config.members) where
  -- all other nodes are as the history has them
  abbrev Besides : (ℕ → UpOrDown) → (ℕ → UpOrDown) → Type 0
  Besides old seats = (other : ℕ) → other ≢ node → old other ≡ seats other

  module _ (seats after old : ℕ → UpOrDown) (next : ℕ) (step : Step) (found : Bool) (besides : Besides old seats) where
    others_stay : (x : UpOrDown) → ((other : ℕ) → other ≢ node_of step.event → after other ≡ seats other) → (node ≢ node_of step.event → x ≡ old node)
        → (other : ℕ) → other ≢ node_of step.event → with_seat after node x other ≡ old other
    others_stay x others stays other differs = elim (cases_eq other node) as (λ _. with_seat after node x other ≡ old other) [
      | inl own ↦
          subst (λ (n : ℕ). with_seat after node x n ≡ old n) (sym own)
          (own_seat after node x ∙ stays (λ same. differs (own ∙ same)))
      | inr away ↦ other_seat after node other x away ∙ others other differs ∙ sym (besides other away)
    ]

    replaced_own : (x : UpOrDown) → node ≡ node_of step.event → NodeGives config sent next found (old node) step.event step.result x
        → NodeGives config sent next found (old (node_of step.event)) step.event step.result (with_seat after node x (node_of step.event))
    replaced_own x same gives =
        subst (λ (n : ℕ). NodeGives config sent next found (old n) step.event step.result (with_seat after node x n)) same
        (subst (λ (s : UpOrDown). NodeGives config sent next found (old node) step.event step.result s) (sym (own_seat after node x)) gives)

    replaced_other : (x : UpOrDown) → node ≢ node_of step.event → NodeGives config sent next found (seats (node_of step.event)) step.event step.result (after (node_of step.event))
        → NodeGives config sent next found (old (node_of step.event)) step.event step.result (with_seat after node x (node_of step.event))
    replaced_other x differs gives =
        let away : node_of step.event ≢ node = λ same. differs (sym same) in
        subst (λ (s : UpOrDown). NodeGives config sent next found s step.event step.result (with_seat after node x (node_of step.event))) (sym (besides (node_of step.event) away))
        (subst (λ (s : UpOrDown). NodeGives config sent next found (seats (node_of step.event)) step.event step.result s) (sym (other_seat after node (node_of step.event) x away)) gives)

    replaced : (x : UpOrDown) → StepFollows config sent next seats step found after
        → (node ≡ node_of step.event → NodeGives config sent next found (old node) step.event step.result x) → (node ≢ node_of step.event → x ≡ old node)
        → StepFollows config sent next old step found (with_seat after node x)
    replaced x (inl (one, gives, others)) own stays = inl (
      one,
      elim (cases_eq node (node_of step.event)) as (λ _. NodeGives config sent next found (old (node_of step.event)) step.event step.result (with_seat after node x (node_of step.event))) [
        | inl same ↦ replaced_own x same (own same)
        | inr differs ↦ replaced_other x differs gives
      ],
      others_stay x others stays,
    )
    replaced x (inr (outside, is, all_stay)) own stays =
        let apart : node ≢ node_of step.event = λ same. absurd (omega (arith, member, outside, same)) in
        inr (
          outside,
          is,
          λ other. elim (cases_eq other (node_of step.event)) as (λ _. with_seat after node x other ≡ old other) [
            | inl same ↦
                let away : other ≢ node = λ own. apart (sym own ∙ same) in
                other_seat after node other x away ∙ all_stay other ∙ sym (besides other away)
            | inr differs ↦ others_stay x (λ o _. all_stay o) stays other differs
          ],
        )

  -- ---- all steps

  module _ (last : ℕ → UpOrDown) (seat : UpOrDown) where
    go_step : (seats after old : ℕ → UpOrDown) (next : ℕ) (steps : List Step) (found : List Bool) (step : Step) (f : Bool) (b : Bool) → concerns node step.event ≡ b
        → Besides old seats → Alike (old node) (seats node) → StepFollows config sent next seats step f after → IsAsked step.event f
        → ((x : UpOrDown) → Alike x (after node) → OwnReaches config x (own node sent steps found) seat
        → StepsReach config sent (with_seat after node x) (next + count_of step.result) steps found (with_seat last node seat))
        → OwnReaches config (old node) (if b then entry_of sent step f ∷ own node sent steps found else own node sent steps found) seat
        → StepsReach config sent old next (step ∷ steps) (f ∷ found) (with_seat last node seat)
    go_step seats after old next steps found step f true is besides alike follows asked rest (x, leads, later) =
        let shown = concerned config sent next node member seats step f after is follows in
        let gives : NodeGives config sent next f (old node) step.event step.result x =
        seat_again config sent leads.sent next leads.next step.result leads.sends_are f (old node) (seats node) step.event x (after node) leads.handed_is leads.gives shown in (
          with_seat after node x,
          replaced seats after old next step f besides x follows (λ same. gives) (λ differs. absurd (differs (sym (concerned_node node step.event is)))),
          asked,
          rest x (alike_then config sent next f (old node) (seats node) step.event step.result x (after node) (concerned_changes node step.event is) alike gives shown) later,
        )
    go_step seats after old next steps found step f false is besides alike follows asked rest later =
        let stays = unconcerned config sent next node member seats step f after is follows in (
          with_seat after node (old node),
          replaced seats after old next step f besides (old node) follows (λ same. question_step seats after old next step f is alike follows same) (λ differs. refl),
          asked,
          rest (old node) (subst (λ (s : UpOrDown). Alike (old node) s) (sym stays) alike) later,
        )
      where
        question_step : (seats after old : ℕ → UpOrDown) (next : ℕ) (step : Step) (f : Bool) → concerns node step.event ≡ false → Alike (old node) (seats node)
            → StepFollows config sent next seats step f after → node ≡ node_of step.event → NodeGives config sent next f (old node) step.event step.result (old node)
        question_step seats after old next step f is alike (inl (one, gives, others)) same =
            question_again config sent next f (old node) (seats node) step.event step.result (after node) (unconcerned_asks node step.event is same) alike
            (subst (λ (n : ℕ). NodeGives config sent next f (seats n) step.event step.result (after n)) (sym same) gives)
        question_step seats after old next step f is alike (inr (outside, is_out, all_stay)) same = absurd (omega (arith, member, outside, same))

    at_end : (seats old : ℕ → UpOrDown) → Besides old seats → last ≡ seats → seat ≡ old node → with_seat last node seat ≡ old
    at_end seats old besides same own_is = fun_ext (λ k. elim (cases_eq k node) as (λ _. with_seat last node seat k ≡ old k) [
      | inl own ↦ subst (λ (n : ℕ). with_seat last node seat n ≡ old n) (sym own) (own_seat last node seat ∙ own_is)
      | inr away ↦ other_seat last node k seat away ∙ ap (λ (f : ℕ → UpOrDown). f k) same ∙ sym (besides k away)
    ])

    pub reach_again : (steps : List Step) (found : List Bool) (seats old : ℕ → UpOrDown) (next : ℕ) → Besides old seats → Alike (old node) (seats node)
        → StepsReach config sent seats next steps found last → OwnReaches config (old node) (own node sent steps found) seat
        → StepsReach config sent old next steps found (with_seat last node seat)
    reach_again [] found seats old next besides alike (none, end, same) own_is = (none, end, at_end seats old besides same own_is)
    reach_again (s ∷ steps) [] seats old next besides alike reaches own_is = absurd reaches
    reach_again (s ∷ steps) (f ∷ found) seats old next besides alike (after, one, asked, rest) own_is =
        go_step seats after old next steps found s f (concerns node s.event) refl besides alike one asked
        (λ x x_alike x_own.
        reach_again steps found after (with_seat after node x) (next + count_of s.result) (λ other away. other_seat after node other x away)
        (subst (λ (t : UpOrDown). Alike t (after node)) (sym (own_seat after node x)) x_alike) rest
        (subst (λ (t : UpOrDown). OwnReaches config t (own node sent steps found) seat) (sym (own_seat after node x)) x_own))
        own_is
