-- The cut at which an acceptance was due, and the start behind it that found its record.
use Rattle.std.proofs.Common.{◌≡◌, ℕ, zero, suc, ◌<◌, inl, inr, ◌==◌, ◌&&◌, not, Bool, true, false, if◌then◌else◌, Option, None, Some, List, [], ◌∷◌, slice_get, refl, sym, ap, ap₂, ◌∙◌, arith}
use Rattle.std.proofs.lemmas.Bool.{eqb-true, eq-eqb}
use Rattle.ballots.specs.Message.{message}
use Rattle.ballots.specs.declared.acceptance.Acceptance.{Acceptance}
use Rattle.ballots.specs.declared.record.Record.{Record}
use Rattle.ballots.specs.declared.record.Record.TheVariants.{Began, Promised, Accepted as HasAccepted}
use Rattle.ballots.specs.declared.message.Message.{Message}
use Rattle.ballots.specs.declared.message.Body.{Body}
use Rattle.ballots.specs.declared.message.Body.TheVariants as body
use Rattle.agreement_rules.specs.Views.{AgreementConfig, Views}
use Rattle.agreement_rules.specs.Due.{Plan, Due, Refuses, Plans, Attempts, AsksFrom, AimIsDue, TickKeeps, BodyKeeps, MessageKeeps, record_due}
use Rattle.histories.specs.Event.{Event, node_of, is_restart}
use Rattle.histories.specs.Event as event
use Rattle.histories.specs.EventResult.{EventResult, is_done}
use Rattle.histories.specs.EventResult as results
use Rattle.histories.specs.History.{Step}
use Rattle.histories.specs.Following.{UpOrDown, IsUp, IsDown, NodeGives}
use Rattle.histories.specs.Owning.{is_query, concerns, is_turned_away, handed_in, entry_of, own}
use Rattle.histories.specs.Keeping.{restarts, is_recovered, IsDueAtCut}
use Rattle.safe_histories.specs.Safe.{IsStep}

pub true_is_false : (b : Bool) → b ≡ true → b ≡ false → ⊥
true_is_false b set clear = let same : true ≡ false = sym set ∙ clear in cc

pub both : (a b : Bool) → (a && b) ≡ true → (a ≡ true) × (b ≡ true)
both true b is = (refl, is)
both false b is = absurd (true_is_false false is refl)

some_same : {X : Type 0} (x y : X) → Some x ≡ Some y → x ≡ y
some_same x y same = cc

none_is_some : {X : Type 0} (x : X) → None ≡ Some x → ⊥
none_is_some x same = cc

-- ---- what concerns a node

pub of_the_node : (node : ℕ) (e : Event) → concerns node e ≡ true → node_of e ≡ node
of_the_node node e is = eqb-true (node_of e) node (both (node_of e == node) (not (is_query e)) is).0

not_true : (b : Bool) → not b ≡ true → b ≡ false
not_true true is = absurd (true_is_false false is refl)
not_true false is = refl

pub no_question : (node : ℕ) (e : Event) → concerns node e ≡ true → is_query e ≡ false
no_question node e is = not_true (is_query e) (both (node_of e == node) (not (is_query e)) is).1

restart_concerns : (node : ℕ) → concerns node (event.Restart node) ≡ true
restart_concerns node = ap (λ (b : Bool). b && true) (eq-eqb node node refl)

-- ---- the next start

restart_is : (e : Event) → is_restart e ≡ true → e ≡ event.Restart (node_of e)
restart_is (event.Put node text) is = absurd (true_is_false false is refl)
restart_is (event.Tick node left) is = absurd (true_is_false false is refl)
restart_is (event.Deliver node number) is = absurd (true_is_false false is refl)
restart_is (event.TickCut node left) is = absurd (true_is_false false is refl)
restart_is (event.DeliverCut node number) is = absurd (true_is_false false is refl)
restart_is (event.Restart node) is = refl
restart_is (event.Get node table version) is = absurd (true_is_false false is refl)
restart_is (event.Info node table) is = absurd (true_is_false false is refl)
restart_is (event.Outcome node text) is = absurd (true_is_false false is refl)

done_is : (given : EventResult) → is_done given ≡ true → given ≡ results.Done
done_is (results.Sent first count) is = absurd (true_is_false false is refl)
done_is results.Done is = refl
done_is (results.Answer bytes) is = absurd (true_is_false false is refl)
done_is results.Unavailable is = absurd (true_is_false false is refl)
done_is (results.Info version) is = absurd (true_is_false false is refl)
done_is results.NoTable is = absurd (true_is_false false is refl)
done_is (results.Outcome outcome) is = absurd (true_is_false false is refl)
done_is (results.Refused reason) is = absurd (true_is_false false is refl)

-- the first start of the node among these steps found the record
pub record FoundNext (node : ℕ) (steps : List Step) (recovered : List Bool) : Type 0 where
  pub start : ℕ
  pub at_start : IsStep steps start (event.Restart node) results.Done
  pub first : (place : ℕ) → place < start → IsStep steps place (event.Restart node) results.Done → ⊥
  pub found : slice_get recovered start ≡ Some true

module _ (node : ℕ) (sent : List Message) where
  abbrev Started : Step
  Started = record { event = event.Restart node; result = results.Done }

  found_later : (step : Step) (steps : List Step) (was : Bool) (recovered : List Bool) → (step ≡ Started → ⊥) → FoundNext node steps recovered
      → FoundNext node (step ∷ steps) (was ∷ recovered)
  found_later step steps was recovered other next = record {
    start = suc next.start;
    at_start = next.at_start;
    first = earlier;
    found = next.found;
  }
    where
      earlier : (place : ℕ) → place < suc next.start → IsStep (step ∷ steps) place (event.Restart node) results.Done → ⊥
      earlier zero within is = other (some_same step Started is)
      earlier (suc place) within is = next.first place (omega (arith, within)) is

  started : (step : Step) → concerns node step.event ≡ true → restarts step ≡ true → step ≡ Started
  started step own is =
      let starts = both (is_restart step.event) (is_done step.result) is in
      ap₂ (λ (e : Event) (given : EventResult). record { event = e; result = given })
      (restart_is step.event starts.0 ∙ ap event.Restart (of_the_node node step.event own)) (done_is step.result starts.1)

  found_here : (step : Step) (steps : List Step) (was : Bool) (recovered : List Bool) → step ≡ Started → was ≡ true
      → FoundNext node (step ∷ steps) (was ∷ recovered)
  found_here step steps was recovered is shown = record {
    start = 0;
    at_start = ap Some is;
    first = λ place none. absurd (omega (arith, none));
    found = ap Some shown;
  }

  own_next : (step : Step) (steps : List Step) (was : Bool) (recovered : List Bool) (b : Bool) → concerns node step.event ≡ true → restarts step ≡ b
      → (if b then was else is_recovered (own node sent steps recovered)) ≡ true → (is_recovered (own node sent steps recovered) ≡ true → FoundNext node steps recovered)
      → FoundNext node (step ∷ steps) (was ∷ recovered)
  own_next step steps was recovered true mine is shown rest = found_here step steps was recovered (started step mine is) shown
  own_next step steps was recovered false mine is shown rest =
      found_later step steps was recovered (λ (same : step ≡ Started). true_is_false (restarts step) (ap restarts same) is) (rest shown)

  step_next : (step : Step) (steps : List Step) (was : Bool) (recovered : List Bool) (b : Bool) → concerns node step.event ≡ b
      → is_recovered (if b then entry_of sent step was ∷ own node sent steps recovered else own node sent steps recovered) ≡ true
      → (is_recovered (own node sent steps recovered) ≡ true → FoundNext node steps recovered) → FoundNext node (step ∷ steps) (was ∷ recovered)
  step_next step steps was recovered true mine shown rest = own_next step steps was recovered (restarts step) mine refl shown rest
  step_next step steps was recovered false mine shown rest =
      found_later step steps was recovered
      (λ (same : step ≡ Started). true_is_false (concerns node step.event) (ap (λ (s : Step). concerns node s.event) same ∙ restart_concerns node) mine) (rest shown)

  pub next_found : (steps : List Step) (recovered : List Bool) → is_recovered (own node sent steps recovered) ≡ true → FoundNext node steps recovered
  next_found [] recovered shown = absurd (true_is_false false shown refl)
  next_found (step ∷ steps) [] shown = absurd (true_is_false false shown refl)
  next_found (step ∷ steps) (was ∷ recovered) shown =
      step_next step steps was recovered (concerns node step.event) refl shown (next_found steps recovered)

-- ---- the cut

-- the node was handed this where it went down
pub record IsCutAt (sent : List Message) (slot : ℕ) (told : Acceptance) (e : Event) (given : EventResult) : Type 0 where
  pub number : ℕ
  pub sender : ℕ
  pub cut : e ≡ event.DeliverCut (node_of e) number
  pub done : given ≡ results.Done
  pub handed : slice_get sent number ≡ Some (message sender slot (body.Accept told))

module _ (slot : ℕ) (told : Acceptance) where
  abbrev Kept : Record
  Kept = HasAccepted slot told

  began_differs : (ballot : _) → Some (Began ballot) ≡ Some Kept → ⊥
  began_differs ballot same = cc

  module _ (config : AgreementConfig) where
    asks_keep_none : (me : ℕ) (views : Views) (from : ℕ) (plan : Plan) → AimIsDue config me views (AsksFrom from) (Plans plan) → plan.kept ≡ None
    asks_keep_none me views from plan (inl (within, is)) = ap (λ (p : Plan). p.kept) is
    asks_keep_none me views from plan (inr (outside, is)) = ap (λ (p : Plan). p.kept) is

    aims_accept_none : (me : ℕ) (views : Views) (aim : _) (due : Due) → AimIsDue config me views aim due → record_due due ≡ Some Kept → ⊥
    aims_accept_none me views aim (Refuses refusal) is_due is = none_is_some Kept is
    aims_accept_none me views (Attempts at value) (Plans plan) (highest, within, is_highest, below, same) is =
        began_differs _ (sym (ap (λ (p : Plan). p.kept) same) ∙ is)
    aims_accept_none me views (AsksFrom from) (Plans plan) is_due is = none_is_some Kept (sym (asks_keep_none me views from plan is_due) ∙ is)

    ticks_accept_none : (me : ℕ) (views : Views) (left : ℕ) (kept : Option Record) → TickKeeps config me views left kept → kept ≡ Some Kept → ⊥
    ticks_accept_none me views left kept (due, inl (above, same), is) due_is =
        none_is_some Kept (sym (ap record_due same) ∙ sym is ∙ due_is)
    ticks_accept_none me views left kept (due, inr (aim, within, is_aim, aimed), is) due_is = aims_accept_none me views aim due aimed (sym is ∙ due_is)

  body_accepts : (records : List Record) (at : ℕ) (said : Body) (kept : Option Record) → BodyKeeps records at said kept → kept ≡ Some Kept
      → (at ≡ slot) × (said ≡ body.Accept told)
  body_accepts records at (body.Prepare ballot) kept (standing, restored, inl (above, is)) due_is = absurd (let no : Some (Promised at ballot) ≡ Some Kept = sym is ∙ due_is in cc)
  body_accepts records at (body.Prepare ballot) kept (standing, restored, inr (below, is)) due_is = absurd (none_is_some Kept (sym is ∙ due_is))
  body_accepts records at (body.Accept proposal) kept (standing, restored, inl (above, is)) due_is =
      let same : Some (HasAccepted at proposal) ≡ Some Kept = sym is ∙ due_is in
      let slots : at ≡ slot = cc in
      let proposals : proposal ≡ told = cc in
      (slots, ap body.Accept proposals)
  body_accepts records at (body.Accept proposal) kept (standing, restored, inr (below, is)) due_is = absurd (none_is_some Kept (sym is ∙ due_is))
  body_accepts records at (body.Promise ballot report) kept is due_is = absurd (none_is_some Kept (sym is ∙ due_is))
  body_accepts records at (body.Nack ballot promised) kept is due_is = absurd (none_is_some Kept (sym is ∙ due_is))
  body_accepts records at (body.Accepted acceptance) kept is due_is = absurd (none_is_some Kept (sym is ∙ due_is))
  body_accepts records at (body.Decided value) kept is due_is = absurd (none_is_some Kept (sym is ∙ due_is))
  body_accepts records at body.Ask kept is due_is = absurd (none_is_some Kept (sym is ∙ due_is))

  message_accepts : (config : AgreementConfig) (views : Views) (m : Message) (kept : Option Record) → MessageKeeps config views m kept → kept ≡ Some Kept
      → m ≡ message m.sender slot (body.Accept told)
  message_accepts config views m kept (inl (is_of, keeps)) due_is =
      let it = body_accepts views.records m.slot m.body kept keeps due_is in
      ap₂ (message m.sender) it.0 it.1
  message_accepts config views m kept (inr (is_none, is)) due_is = absurd (none_is_some Kept (sym is ∙ due_is))

  module _ (config : AgreementConfig) (sent elsewhere : List Message) (next : ℕ) (recovered : Bool) (given : EventResult) (new : UpOrDown) (due : Option Record) (due_is : due ≡ Some Kept) where
    handed_there : (number : ℕ) (m : Message) (b : Bool) → (if b then None else slice_get sent number) ≡ Some m → (b ≡ false) × (slice_get sent number ≡ Some m)
    handed_there number m true is = absurd (none_is_some m is)
    handed_there number m false is = (refl, is)

    delivery_cut : (node number : ℕ) (views : Views) (handed : Option Message) → (if is_turned_away given then None else slice_get sent number) ≡ handed
        → IsDueAtCut config (IsUp views) (event.DeliverCut node number) handed due
        → NodeGives config elsewhere next recovered (IsUp views) (event.DeliverCut node number) given new → IsCutAt sent slot told (event.DeliverCut node number) given
    delivery_cut node number views None is at_cut gives = absurd (none_is_some Kept (sym at_cut ∙ due_is))
    delivery_cut node number views (Some m) is at_cut (inr (late, away, same)) =
        absurd (true_is_false (is_turned_away given) (ap is_turned_away away) (handed_there number m (is_turned_away given) is).0)
    delivery_cut node number views (Some m) is at_cut (inl (other, before, there, gives)) = record {
      number = number;
      sender = m.sender;
      cut = refl;
      done = gives.0;
      handed = (handed_there number m (is_turned_away given) is).1 ∙ ap Some (message_accepts config views m due at_cut due_is);
    }

    none_due : (is : due ≡ None) → ⊥
    none_due is = none_is_some Kept (sym is ∙ due_is)

    pub cut_is : (seat : UpOrDown) (e : Event) → IsDueAtCut config seat e (handed_in sent (record { event = e; result = given })) due
        → NodeGives config elsewhere next recovered seat e given new → IsCutAt sent slot told e given
    cut_is (IsUp views) (event.Put node text) at_cut gives = absurd (none_due at_cut)
    cut_is (IsUp views) (event.Tick node left) at_cut gives = absurd (none_due at_cut)
    cut_is (IsUp views) (event.Deliver node number) at_cut gives = absurd (none_due at_cut)
    cut_is (IsUp views) (event.TickCut node left) at_cut gives = absurd (ticks_accept_none config node views left due at_cut due_is)
    cut_is (IsUp views) (event.DeliverCut node number) at_cut gives =
        delivery_cut node number views (if is_turned_away given then None else slice_get sent number) refl at_cut gives
    cut_is (IsUp views) (event.Restart node) at_cut gives = absurd (none_due at_cut)
    cut_is (IsUp views) (event.Get node table version) at_cut gives = absurd (none_due at_cut)
    cut_is (IsUp views) (event.Info node table) at_cut gives = absurd (none_due at_cut)
    cut_is (IsUp views) (event.Outcome node text) at_cut gives = absurd (none_due at_cut)
    cut_is (IsDown records pending) e at_cut gives = absurd (none_due at_cut)
