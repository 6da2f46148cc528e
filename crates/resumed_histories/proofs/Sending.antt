-- What a node sends, it sends in its own name.
use Rattle.std.proofs.Common.{◌≡◌, ℕ, Bool, true, false, List, [], length, take, drop, inl, inr, refl, sym, ap, subst, ◌∙◌, arith}
use Rattle.std.specs.List.{Contains}
use Rattle.std.proofs.lemmas.List.Elements.{All-take, All-drop, All-contains, All-contains_itself}
use Rattle.ballots.specs.declared.message.Message.{Message}
use Rattle.ballots.specs.declared.message.Body.{Body}
use Rattle.ballots.specs.declared.message.Body.TheVariants as body
use Rattle.agreement_rules.specs.Views.{AgreementConfig, Views}
use Rattle.agreement_rules.specs.Due.{Plan, Refuses, Plans, TickIsDue, PartIsDue, has_seen}
use Rattle.histories.specs.Due.{BodyIsDue}
use Rattle.histories.specs.Due as input
use Rattle.histories.specs.Event.{Event, node_of}
use Rattle.histories.specs.Event as event
use Rattle.histories.specs.EventResult.{EventResult}
use Rattle.histories.specs.EventResult as results
use Rattle.histories.specs.Following.{UpOrDown, IsUp, IsDown, reason_of, SendsGives, InputGives, UpGives, RestartGives, DownGives, NodeGives}
use Rattle.histories.specs.Owning.{is_query, sends_in}

-- what goes out of a step is among all that was sent
pub sent_in_step : (sent : List Message) (given : EventResult) (m : Message) → Contains (sends_in sent given) m → Contains sent m
sent_in_step sent (results.Sent first count) m has =
    All-contains (Contains sent) (take count (drop first sent)) m
    (All-take (Contains sent) count (drop first sent) (All-drop (Contains sent) first sent (All-contains_itself sent))) has
sent_in_step sent results.Done m has = absurd (omega (arith, has.1))
sent_in_step sent (results.Answer bytes) m has = absurd (omega (arith, has.1))
sent_in_step sent results.Unavailable m has = absurd (omega (arith, has.1))
sent_in_step sent (results.Info version) m has = absurd (omega (arith, has.1))
sent_in_step sent results.NoTable m has = absurd (omega (arith, has.1))
sent_in_step sent (results.Outcome outcome) m has = absurd (omega (arith, has.1))
sent_in_step sent (results.Refused reason) m has = absurd (omega (arith, has.1))

-- ---- what the law of replies says

abbrev pub PartsAnswer : Type 0
PartsAnswer = (config : AgreementConfig) (me : ℕ) (views : Views) (sender slot : ℕ) (said : Body) (plan : Plan) (m : Message)
    → PartIsDue config me views sender slot said plan → Contains plan.sends m → m.sender ≡ me

abbrev pub TicksSay : Type 0
TicksSay = (config : AgreementConfig) (me : ℕ) (views : Views) (left : ℕ) (plan : Plan) (m : Message)
    → TickIsDue config me views left (Plans plan) → Contains plan.sends m → m.sender ≡ me

none_sent : (ms : List Message) (m : Message) → ms ≡ [] → Contains ms m → ⊥
none_sent ms m none has = absurd (omega (arith, has.1, ap length none))

module _ (parts : PartsAnswer) (ticks : TicksSay) (config : AgreementConfig) (sent : List Message) (next : ℕ) (m : Message) where
  body_own : (me : ℕ) (views : Views) (sender slot : ℕ) (said : Body) (plan : Plan) → BodyIsDue config me views sender slot said plan
      → Contains plan.sends m → m.sender ≡ me
  body_own me views sender slot (body.Prepare ballot) plan is_due has = parts config me views sender slot (body.Prepare ballot) plan m is_due has
  body_own me views sender slot (body.Promise ballot report) plan is_due has = parts config me views sender slot (body.Promise ballot report) plan m is_due has
  body_own me views sender slot (body.Nack ballot promised) plan is_due has = parts config me views sender slot (body.Nack ballot promised) plan m is_due has
  body_own me views sender slot (body.Accept proposal) plan is_due has = parts config me views sender slot (body.Accept proposal) plan m is_due has
  body_own me views sender slot (body.Accepted told) plan (uploads, left, holds, waits, is) has =
      absurd (none_sent plan.sends m (ap (λ (p : Plan). p.sends) is) has)
  body_own me views sender slot body.Ask plan is_due has = parts config me views sender slot body.Ask plan m is_due has
  body_own me views sender slot (body.Decided value) plan (uploads, left, holds, waits, is) has =
      absurd (none_sent plan.sends m (ap (λ (p : Plan). p.sends) is) has)

  module _ (given : EventResult) (new : UpOrDown) (has : Contains (sends_in sent given) m) where
    -- nothing goes out of this
    quiet : (other : EventResult) → given ≡ other → sends_in sent other ≡ [] → ⊥
    quiet other is none = none_sent (sends_in sent given) m (ap (sends_in sent) is ∙ none) has

    planned : (plan : Plan) → given ≡ results.Sent next (length plan.sends) → take (length plan.sends) (drop next sent) ≡ plan.sends → Contains plan.sends m
    planned plan is placed = subst (λ (ms : List Message). Contains ms m) (ap (sends_in sent) is ∙ placed) has

    tick_own : (node : ℕ) (views : Views) (left : ℕ) → InputGives config node views (input.Tick left) (SendsGives sent next views) given new → m.sender ≡ node
    tick_own node views left (inl (Refuses refusal, is_due, (is, same))) = absurd (quiet (results.Refused (reason_of refusal)) is refl)
    tick_own node views left (inl (Plans plan, is_due, (is, placed, same))) = ticks config node views left plan m is_due (planned plan is placed)
    tick_own node views left (inr (allowed, (is, same))) = absurd (quiet (results.Refused results.OutOfMemory) is refl)

    delivery_own : (node : ℕ) (views : Views) (handed : Message) → InputGives config node views (input.Deliver handed) (SendsGives sent next views) given new
        → m.sender ≡ node
    delivery_own node views handed (inl (Refuses refusal, is_due, (is, same))) = absurd (quiet (results.Refused (reason_of refusal)) is refl)
    delivery_own node views handed (inl (Plans plan, (is_of, is_due), (is, placed, same))) =
        body_own node (has_seen views handed) handed.sender handed.slot handed.body plan is_due (planned plan is placed)
    delivery_own node views handed (inr (allowed, (is, same))) = absurd (quiet (results.Refused results.OutOfMemory) is refl)

    restart_own : (recovered : Bool) (old : UpOrDown) → RestartGives recovered old given new → ⊥
    restart_own recovered old (inl (is, same)) = quiet results.Done is refl
    restart_own recovered old (inr (is, same)) = quiet (results.Refused results.OutOfMemory) is refl

    question_own : (e : Event) → is_query e ≡ false → is_query e ≡ true → ⊥
    question_own e not asks = let no : false ≡ true = sym not ∙ asks in cc

    up_own : (recovered : Bool) (views : Views) (e : Event) → is_query e ≡ false → UpGives config sent next recovered views e given new → m.sender ≡ node_of e
    up_own recovered views (event.Put node text) not (inl (Refuses refusal, is_due, (is, same))) = absurd (quiet (results.Refused (reason_of refusal)) is refl)
    up_own recovered views (event.Put node text) not (inl (Plans plan, is_due, (is, same))) = absurd (quiet results.Done is refl)
    up_own recovered views (event.Put node text) not (inr (allowed, (is, same))) = absurd (quiet (results.Refused results.OutOfMemory) is refl)
    up_own recovered views (event.Tick node left) not gives = tick_own node views left gives
    up_own recovered views (event.Deliver node number) not (inl (handed, before, there, gives)) = delivery_own node views handed gives
    up_own recovered views (event.Deliver node number) not (inr (late, is, same)) = absurd (quiet (results.Refused results.NotSent) is refl)
    up_own recovered views (event.TickCut node left) not gives = absurd (quiet results.Done gives.0 refl)
    up_own recovered views (event.DeliverCut node number) not (inl (handed, before, there, gives)) = absurd (quiet results.Done gives.0 refl)
    up_own recovered views (event.DeliverCut node number) not (inr (late, is, same)) = absurd (quiet (results.Refused results.NotSent) is refl)
    up_own recovered views (event.Restart node) not gives = absurd (restart_own recovered (IsUp views) gives)
    up_own recovered views (event.Get node table version) not gives = absurd (question_own (event.Get node table version) not refl)
    up_own recovered views (event.Info node table) not gives = absurd (question_own (event.Info node table) not refl)
    up_own recovered views (event.Outcome node text) not gives = absurd (question_own (event.Outcome node text) not refl)

    down_sends_none : (recovered : Bool) (old : UpOrDown) (e : Event) → DownGives recovered old e given new → ⊥
    down_sends_none recovered old (event.Put node text) (is, same) = quiet (results.Refused results.Down) is refl
    down_sends_none recovered old (event.Tick node left) (is, same) = quiet (results.Refused results.Down) is refl
    down_sends_none recovered old (event.Deliver node number) (is, same) = quiet (results.Refused results.Down) is refl
    down_sends_none recovered old (event.TickCut node left) (is, same) = quiet (results.Refused results.Down) is refl
    down_sends_none recovered old (event.DeliverCut node number) (is, same) = quiet (results.Refused results.Down) is refl
    down_sends_none recovered old (event.Restart node) gives = restart_own recovered old gives
    down_sends_none recovered old (event.Get node table version) (is, same) = quiet (results.Refused results.Down) is refl
    down_sends_none recovered old (event.Info node table) (is, same) = quiet (results.Refused results.Down) is refl
    down_sends_none recovered old (event.Outcome node text) (is, same) = quiet (results.Refused results.Down) is refl

    pub seat_own : (recovered : Bool) (old : UpOrDown) (e : Event) → is_query e ≡ false → NodeGives config sent next recovered old e given new → m.sender ≡ node_of e
    seat_own recovered (IsUp views) e not gives = up_own recovered views e not gives
    seat_own recovered (IsDown records due) e not gives = absurd (down_sends_none recovered (IsDown records due) e gives)
