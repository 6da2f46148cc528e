-- Each event leaves a seat that is as the history shows with it.
use Rattle.std.proofs.Common.{◌≡◌, ℕ, ◌<◌, inl, inr, ◌||◌, ◌&&◌, ◌==◌, Bool, true, false, if◌then◌else◌, List, [], ◌∷◌, ◌++◌, length, Option, Some, None, slice_get, refl, sym, ap, subst, ◌∙◌, eq-eqb, arith}
use Rattle.std.specs.Option.{option_and_then}
use Rattle.std.proofs.lemmas.Bool.{cases_eq}
use Rattle.std.proofs.lemmas.List.{append-nil}
use Rattle.ballots.specs.declared.message.Message.{Message}
use Rattle.ballots.specs.declared.record.Record.{Record}
use Rattle.table_types.specs.Uploads.{Upload}
use Rattle.histories.specs.Event.{Event, node_of}
use Rattle.histories.specs.Event as event
use Rattle.histories.specs.EventResult.{EventResult, Reason}
use Rattle.histories.specs.EventResult as results
use Rattle.histories.specs.History.{Step}
use Rattle.agreement_rules.specs.Views.{AgreementConfig, Views, started_with}
use Rattle.agreement_rules.specs.Due.{Refuses, Plans}
use Rattle.histories.specs.Due as input
use Rattle.histories.specs.Following.{UpOrDown, IsUp, IsDown, down, recovered_in, reason_of, PutGives, SendsGives, InputGives, CutGives, Delivers, QueryGives, RestartGives, UpGives, RefusesAsDown, DownGives, NodeGives, StepFollows, at_first, GetGivesIfAble, InfoGivesIfAble, OutcomeGives}
use Rattle.safe_histories.specs.Learning.{is_taken, brings_up, brings_down, delivered_in}
use Rattle.safe_histories.proofs.Restarts.{nothing_either_way, step_of, elsewhere}
use Rattle.safe_histories.proofs.Running.{put_tells, tick_tells, message_tells, Agrees, restarted, goes_on, goes_down, stays_down, others_agree}

module _ (sent : List Message) (done : List Step) where
  -- as the seat of the event's node is behind it
  abbrev After : Event → EventResult → UpOrDown → Type 0
  After e given seat = Agrees sent (done ++ step_of e given ∷ []) (node_of e) seat

  with_it : (e : Event) (given was : EventResult) (seat other : UpOrDown) → given ≡ was → seat ≡ other → After e was other → After e given seat
  with_it e given was seat other same also after = subst (λ (g : EventResult). After e g seat) (sym same) (subst (After e was) (sym also) after)

  -- nothing is delivered, and its learner is told nothing
  quietly : (e : Event) (given : EventResult) (views after : Views) → brings_up (node_of e) (step_of e given) ≡ false → brings_down (node_of e) (step_of e given) ≡ false
      → delivered_in sent (node_of e) (step_of e given) ≡ None → after.learner_calls ≡ views.learner_calls → Agrees sent done (node_of e) (IsUp views) → After e given (IsUp after)
  quietly e given views after no_up no_down nothing same agrees =
      goes_on sent done (node_of e) (step_of e given) views after None no_up no_down nothing (same ∙ sym (append-nil views.learner_calls)) agrees

  -- ---- refusals and cuts

  abbrev refusal : Reason → EventResult
  refusal reason = results.Refused reason

  it_is : (node : ℕ) → (node == node) ≡ true
  it_is node = eq-eqb node node refl

  -- a refused event that is no restart leaves the node as it was
  pub refused : (e : Event) (reason : Reason) (views : Views) → brings_up (node_of e) (step_of e (refusal reason)) ≡ false
      → brings_down (node_of e) (step_of e (refusal reason)) ≡ false → Agrees sent done (node_of e) (IsUp views) → After e (refusal reason) (IsUp views)
  refused e reason views no_up no_down agrees = quietly e (refusal reason) views views no_up no_down refl refl agrees

  cut_down : (node : ℕ) (e : Event) (records : List Record) (due : Option Record) → node_of e ≡ node → brings_up (node_of e) (step_of e results.Done) ≡ false
      → brings_down (node_of e) (step_of e results.Done) ≡ true → After e results.Done (IsDown records due)
  cut_down node e records due is no_up is_down = goes_down sent done (node_of e) (step_of e results.Done) records due no_up is_down

  -- ---- a node that is up

  module _ (config : AgreementConfig) (next : ℕ) (recovered : Bool) (views : Views) where
    put_agrees : (node : ℕ) (text : List ℕ) (given : EventResult) (seat : UpOrDown) → Agrees sent done node (IsUp views)
        → InputGives config node views (input.Put text) (PutGives views) given seat → After (event.Put node text) given seat
    put_agrees node text given seat agrees (inl (Refuses refusal, is, (gives, stays))) =
        with_it (event.Put node text) given (results.Refused (reason_of refusal)) seat (IsUp views) gives stays
        (refused (event.Put node text) (reason_of refusal) views refl refl agrees)
    put_agrees node text given seat agrees (inl (Plans plan, is, (gives, stays))) =
        with_it (event.Put node text) given results.Done seat (IsUp plan.after) gives stays
        (quietly (event.Put node text) results.Done views plan.after refl refl refl (put_tells config views text plan is) agrees)
    put_agrees node text given seat agrees (inr (allowed, (gives, stays))) =
        with_it (event.Put node text) given (results.Refused results.OutOfMemory) seat (IsUp views) gives stays
        (refused (event.Put node text) results.OutOfMemory views refl refl agrees)

    tick_agrees : (node left : ℕ) (given : EventResult) (seat : UpOrDown) → Agrees sent done node (IsUp views)
        → InputGives config node views (input.Tick left) (SendsGives sent next views) given seat → After (event.Tick node left) given seat
    tick_agrees node left given seat agrees (inl (Refuses refusal, is, (gives, stays))) =
        with_it (event.Tick node left) given (results.Refused (reason_of refusal)) seat (IsUp views) gives stays
        (refused (event.Tick node left) (reason_of refusal) views refl refl agrees)
    tick_agrees node left given seat agrees (inl (Plans plan, is, (gives, goes, stays))) =
        let out = results.Sent next (length plan.sends) in
        with_it (event.Tick node left) given out seat (IsUp plan.after) gives stays
        (quietly (event.Tick node left) out views plan.after refl refl refl (tick_tells config node views left plan is) agrees)
    tick_agrees node left given seat agrees (inr (allowed, (gives, stays))) =
        with_it (event.Tick node left) given (results.Refused results.OutOfMemory) seat (IsUp views) gives stays
        (refused (event.Tick node left) results.OutOfMemory views refl refl agrees)

    handed_here : (node number first count : ℕ) (m : Message) → slice_get sent number ≡ Some m
        → delivered_in sent node (step_of (event.Deliver node number) (results.Sent first count)) ≡ Some m
    handed_here node number first count m is =
        ap (λ b. option_and_then (λ n. slice_get sent n) (if b then Some number else None)) (it_is node) ∙ is

    delivery_agrees : (node number : ℕ) (m : Message) (given : EventResult) (seat : UpOrDown) → slice_get sent number ≡ Some m → Agrees sent done node (IsUp views)
        → InputGives config node views (input.Deliver m) (SendsGives sent next views) given seat → After (event.Deliver node number) given seat
    delivery_agrees node number m given seat there agrees (inl (Refuses refusal, is, (gives, stays))) =
        with_it (event.Deliver node number) given (results.Refused (reason_of refusal)) seat (IsUp views) gives stays
        (refused (event.Deliver node number) (reason_of refusal) views refl refl agrees)
    delivery_agrees node number m given seat there agrees (inl (Plans plan, is, (gives, goes, stays))) =
        let out = results.Sent next (length plan.sends) in
        with_it (event.Deliver node number) given out seat (IsUp plan.after) gives stays
        (goes_on sent done node (step_of (event.Deliver node number) out) views plan.after (Some m) refl refl
        (handed_here node number next (length plan.sends) m there) (message_tells config node views m plan is) agrees)
    delivery_agrees node number m given seat there agrees (inr (allowed, (gives, stays))) =
        with_it (event.Deliver node number) given (results.Refused results.OutOfMemory) seat (IsUp views) gives stays
        (refused (event.Deliver node number) results.OutOfMemory views refl refl agrees)

    deliver_agrees : (node number : ℕ) (given : EventResult) (seat : UpOrDown) → Agrees sent done node (IsUp views)
        → Delivers sent next number (λ m. InputGives config node views (input.Deliver m) (SendsGives sent next views)) views given seat
        → After (event.Deliver node number) given seat
    deliver_agrees node number given seat agrees (inl (m, before, there, gives)) = delivery_agrees node number m given seat there agrees gives
    deliver_agrees node number given seat agrees (inr (past, gives, stays)) =
        with_it (event.Deliver node number) given (results.Refused results.NotSent) seat (IsUp views) gives stays
        (refused (event.Deliver node number) results.NotSent views refl refl agrees)

    cut_is : (node : ℕ) → ((node == node) && true || false && false) ≡ true
    cut_is node = ap (λ b. b && true || false && false) (it_is node)

    no_cut_is : (b : Bool) → (b && false || false && true) ≡ false
    no_cut_is true = refl
    no_cut_is false = refl

    tick_cut_agrees : (node left : ℕ) (given : EventResult) (seat : UpOrDown) → CutGives config node views (input.Tick left) given seat → After (event.TickCut node left) given seat
    tick_cut_agrees node left given seat (gives, (kept, keeps, stays)) =
        with_it (event.TickCut node left) given results.Done seat (IsDown views.records kept) gives stays
        (cut_down node (event.TickCut node left) views.records kept refl refl (cut_is node))

    delivery_cut_agrees : (node number : ℕ) (m : Message) (given : EventResult) (seat : UpOrDown) → CutGives config node views (input.Deliver m) given seat
        → After (event.DeliverCut node number) given seat
    delivery_cut_agrees node number m given seat (gives, (kept, keeps, stays)) =
        with_it (event.DeliverCut node number) given results.Done seat (IsDown views.records kept) gives stays
        (cut_down node (event.DeliverCut node number) views.records kept refl refl (cut_is node))

    deliver_cut_agrees : (node number : ℕ) (given : EventResult) (seat : UpOrDown) → Agrees sent done node (IsUp views)
        → Delivers sent next number (λ m. CutGives config node views (input.Deliver m)) views given seat → After (event.DeliverCut node number) given seat
    deliver_cut_agrees node number given seat agrees (inl (m, before, there, cut)) = delivery_cut_agrees node number m given seat cut
    deliver_cut_agrees node number given seat agrees (inr (past, gives, stays)) =
        with_it (event.DeliverCut node number) given (results.Refused results.NotSent) seat (IsUp views) gives stays
        (refused (event.DeliverCut node number) results.NotSent views refl (no_cut_is (node == node)) agrees)

    -- a query changes nothing
    asked_agrees : (e : Event) (given : EventResult) (seat : UpOrDown) (Gives : List Upload → EventResult → Type 0) → brings_up (node_of e) (step_of e given) ≡ false
        → brings_down (node_of e) (step_of e given) ≡ false → delivered_in sent (node_of e) (step_of e given) ≡ None → Agrees sent done (node_of e) (IsUp views)
        → QueryGives config views Gives given seat → After e given seat
    asked_agrees e given seat Gives no_up no_down nothing agrees (uploads, has, gives, stays) =
        subst (After e given) (sym stays) (quietly e given views views no_up no_down nothing refl agrees)

  -- ---- restarts

  up_is : (node : ℕ) → ((node == node) && true) ≡ true
  up_is node = ap (λ b. b && true) (it_is node)

  no_up_is : (b : Bool) → (b && false) ≡ false
  no_up_is true = refl
  no_up_is false = refl

  failed_is : (node : ℕ) → (false && false || (node == node) && true) ≡ true
  failed_is node = ap (λ b. false && false || b && true) (it_is node)

  down_of : (old seat : UpOrDown) → seat ≡ down old → (records : List Record) × (due : Option Record) × (seat ≡ IsDown records due)
  down_of (IsUp views) seat is = (views.records, None, is)
  down_of (IsDown records due) seat is = (records, due, is)

  pub restart_agrees : (recovered : Bool) (node : ℕ) (old : UpOrDown) (given : EventResult) (seat : UpOrDown) → RestartGives recovered old given seat → After (event.Restart node) given seat
  restart_agrees recovered node old given seat (inl (gives, stays)) =
      with_it (event.Restart node) given results.Done seat (IsUp (started_with (recovered_in recovered old))) gives stays
      (restarted sent done node (step_of (event.Restart node) results.Done) (recovered_in recovered old) (up_is node))
  restart_agrees recovered node old given seat (inr (gives, stays)) =
      let is = down_of old seat stays in
      let out = results.Refused results.OutOfMemory in
      with_it (event.Restart node) given out seat (IsDown is.0 is.1) gives is.2
      (goes_down sent done node (step_of (event.Restart node) out) is.0 is.1 (no_up_is (node == node)) (failed_is node))

  -- ---- all events

  up_agrees : (config : AgreementConfig) (next : ℕ) (recovered : Bool) (views : Views) (e : Event) (given : EventResult) (seat : UpOrDown) → Agrees sent done (node_of e) (IsUp views)
      → UpGives config sent next recovered views e given seat → After e given seat
  up_agrees config next recovered views (event.Put node text) given seat agrees gives = put_agrees config next recovered views node text given seat agrees gives
  up_agrees config next recovered views (event.Tick node left) given seat agrees gives = tick_agrees config next recovered views node left given seat agrees gives
  up_agrees config next recovered views (event.Deliver node number) given seat agrees gives = deliver_agrees config next recovered views node number given seat agrees gives
  up_agrees config next recovered views (event.TickCut node left) given seat agrees gives = tick_cut_agrees config next recovered views node left given seat gives
  up_agrees config next recovered views (event.DeliverCut node number) given seat agrees gives = deliver_cut_agrees config next recovered views node number given seat agrees gives
  up_agrees config next recovered views (event.Restart node) given seat agrees gives = restart_agrees recovered node (IsUp views) given seat gives
  up_agrees config next recovered views (event.Get node table version) given seat agrees gives =
      asked_agrees config next recovered views (event.Get node table version) given seat (λ uploads. GetGivesIfAble uploads table version) refl refl
      (nothing_either_way (is_taken given)) agrees gives
  up_agrees config next recovered views (event.Info node table) given seat agrees gives =
      asked_agrees config next recovered views (event.Info node table) given seat (λ uploads. InfoGivesIfAble uploads table) refl refl
      (nothing_either_way (is_taken given)) agrees gives
  up_agrees config next recovered views (event.Outcome node text) given seat agrees gives =
      asked_agrees config next recovered views (event.Outcome node text) given seat (λ uploads. OutcomeGives uploads text) refl refl
      (nothing_either_way (is_taken given)) agrees gives

  refused_down : (e : Event) (given : EventResult) (seat : UpOrDown) (records : List Record) (due : Option Record) → brings_up (node_of e) (step_of e given) ≡ false
      → Agrees sent done (node_of e) (IsDown records due) → RefusesAsDown (IsDown records due) given seat → After e given seat
  refused_down e given seat records due no_up agrees (gives, stays) =
      subst (After e given) (sym stays) (stays_down sent done (node_of e) (step_of e given) records due no_up agrees)

  down_agrees : (recovered : Bool) (records : List Record) (due : Option Record) (e : Event) (given : EventResult) (seat : UpOrDown) → Agrees sent done (node_of e) (IsDown records due)
      → DownGives recovered (IsDown records due) e given seat → After e given seat
  down_agrees recovered records due (event.Put node text) given seat agrees gives = refused_down (event.Put node text) given seat records due refl agrees gives
  down_agrees recovered records due (event.Tick node left) given seat agrees gives = refused_down (event.Tick node left) given seat records due refl agrees gives
  down_agrees recovered records due (event.Deliver node number) given seat agrees gives = refused_down (event.Deliver node number) given seat records due refl agrees gives
  down_agrees recovered records due (event.TickCut node left) given seat agrees gives = refused_down (event.TickCut node left) given seat records due refl agrees gives
  down_agrees recovered records due (event.DeliverCut node number) given seat agrees gives =
      refused_down (event.DeliverCut node number) given seat records due refl agrees gives
  down_agrees recovered records due (event.Restart node) given seat agrees gives = restart_agrees recovered node (IsDown records due) given seat gives
  down_agrees recovered records due (event.Get node table version) given seat agrees gives =
      refused_down (event.Get node table version) given seat records due refl agrees gives
  down_agrees recovered records due (event.Info node table) given seat agrees gives = refused_down (event.Info node table) given seat records due refl agrees gives
  down_agrees recovered records due (event.Outcome node text) given seat agrees gives = refused_down (event.Outcome node text) given seat records due refl agrees gives

  seat_agrees : (config : AgreementConfig) (next : ℕ) (recovered : Bool) (old : UpOrDown) (e : Event) (given : EventResult) (seat : UpOrDown) → Agrees sent done (node_of e) old
      → NodeGives config sent next recovered old e given seat → After e given seat
  seat_agrees config next recovered (IsUp views) e given seat agrees gives = up_agrees config next recovered views e given seat agrees gives
  seat_agrees config next recovered (IsDown records due) e given seat agrees gives = down_agrees recovered records due e given seat agrees gives

  -- ---- all nodes

  abbrev pub AllAgree : ℕ → List Step → (ℕ → UpOrDown) → Type 0
  AllAgree members steps seats = (node : ℕ) → node < members → Agrees sent steps node (seats node)

  pub step_agrees : (config : AgreementConfig) (next : ℕ) (recovered : Bool) (old new : ℕ → UpOrDown) (step : Step) → AllAgree config.members done old
      → StepFollows config sent next old step recovered new → AllAgree config.members (done ++ step ∷ []) new
  step_agrees config next recovered old new step all (inl (member, gives, others)) = λ node within.
      elim (cases_eq node (node_of step.event)) as (λ _. Agrees sent (done ++ step ∷ []) node (new node)) [
        | inl same ↦ subst (λ (n : ℕ). Agrees sent (done ++ step ∷ []) n (new n)) (sym same)
            (seat_agrees config next recovered (old (node_of step.event)) step.event step.result (new (node_of step.event)) (all (node_of step.event) member) gives)
        | inr apart ↦ subst (Agrees sent (done ++ step ∷ []) node) (sym (others node apart))
            (others_agree sent done node step (old node) (elsewhere sent node step.event step.result apart) (all node within))
      ]
  step_agrees config next recovered old new step all (inr (past, gives, same)) = λ node within.
      subst (Agrees sent (done ++ step ∷ []) node) (sym (same node))
      (others_agree sent done node step (old node) (elsewhere sent node step.event step.result (λ is. absurd (omega (arith, is, within, past)))) (all node within))

-- at first every node runs, and has heard nothing
pub agree_at_first : (sent : List Message) (members : ℕ) → AllAgree sent [] members [] at_first
agree_at_first sent members node within = (refl, refl)
