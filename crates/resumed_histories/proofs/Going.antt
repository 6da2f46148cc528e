-- A history that goes on by steps which start a node again or hand it a message, and send nothing.
use Rattle.std.proofs.Common.{◌≡◌, ◌≢◌, ℕ, ◌<◌, inl, inr, Bool, false, List, [], ◌∷◌, ◌++◌, length, take, drop, Some, slice_get, refl, sym, ap, subst, arith, if◌then◌else◌}
use Rattle.std.specs.List.{Contains}
use Rattle.std.proofs.lemmas.Bool.{ne_eqb, eq-eqb}
use Rattle.std.proofs.lemmas.List.{append-nil, append_assoc}
use Rattle.std.proofs.lemmas.List.Elements.{Contains-push_cases}
use Rattle.ballots.specs.declared.message.Message.{Message}
use Rattle.ballots.specs.declared.message.Body.{Body}
use Rattle.ballots.specs.declared.message.Body.TheVariants.{Prepare, Promise, Nack, Accept, Accepted, Ask, Decided}
use Rattle.agreement_rules.specs.Views.{AgreementConfig, Views, started_with}
use Rattle.agreement_rules.specs.Due.{Plan, Plans, has_seen}
use Rattle.histories.specs.Due.{BodyIsDue, MessageIsDue}
use Rattle.histories.specs.Event.{Event, node_of}
use Rattle.histories.specs.Event as event
use Rattle.histories.specs.EventResult.{EventResult, count_of}
use Rattle.histories.specs.EventResult as results
use Rattle.histories.specs.History.{Step}
use Rattle.histories.specs.Following.{UpOrDown, IsUp, IsDown, recovered_in, NodeGives, StepFollows, IsAsked, at_first, Reaches, ReachesFrom, with_seat}
use Rattle.resumed_histories.specs.StartingOver.{TellsOfAValue, StartsOrHands}

none_in : {X : Type 0} (x : X) → Contains [] x → ⊥
none_in x has = absurd (omega (arith, has.1))

-- ---- one seat in the place of another

pub seat_there : (seats : ℕ → UpOrDown) (node : ℕ) (seat : UpOrDown) → with_seat seats node seat node ≡ seat
seat_there seats node seat = ap (λ (b : Bool). if b then seat else seats node) (eq-eqb node node refl)

pub seat_besides : (seats : ℕ → UpOrDown) (node : ℕ) (seat : UpOrDown) (other : ℕ) → other ≢ node → with_seat seats node seat other ≡ seats other
seat_besides seats node seat other differs = ap (λ (b : Bool). if b then seat else seats other) (ne_eqb other node differs)

-- ---- what the laws of histories say

abbrev pub StepsAlone : Type 0
StepsAlone = (config : AgreementConfig) (sent : List Message) (next : ℕ) (seats : ℕ → UpOrDown) (step : Step) (recovered : Bool)
    (seat : UpOrDown) → node_of step.event < config.members
    → NodeGives config sent next recovered (seats (node_of step.event)) step.event step.result seat
    → StepFollows config sent next seats step recovered (with_seat seats (node_of step.event) seat)

abbrev pub StepsMore : Type 0
StepsMore = (config : AgreementConfig) (start : ℕ → UpOrDown) (sent more : List Message) (steps : List Step) (recovered : List Bool)
    (seats new : ℕ → UpOrDown) (step : Step) (was : Bool) → ReachesFrom config start sent steps recovered seats
    → StepFollows config (sent ++ more) (length sent) seats step was new → IsAsked step.event was
    → length more ≡ count_of step.result
    → ReachesFrom config start (sent ++ more) (steps ++ step ∷ []) (recovered ++ was ∷ []) new

-- ---- what a restart and a delivery give

pub starts_again : (config : AgreementConfig) (sent : List Message) (next : ℕ) (recovered : Bool) (old : UpOrDown) (node : ℕ)
    → NodeGives config sent next recovered old (event.Restart node) results.Done (IsUp (started_with (recovered_in recovered old)))
starts_again config sent next recovered (IsUp views) node = inl (refl, refl)
starts_again config sent next recovered (IsDown records due) node = inl (refl, refl)

-- who is told of a value sends nothing
tells_quietly : (config : AgreementConfig) (me : ℕ) (views : Views) (sender slot : ℕ) (body : Body) (plan : Plan) → TellsOfAValue body
    → BodyIsDue config me views sender slot body plan → plan.sends ≡ []
tells_quietly config me views sender slot (Prepare ballot) plan tells is_due = absurd tells
tells_quietly config me views sender slot (Promise ballot report) plan tells is_due = absurd tells
tells_quietly config me views sender slot (Nack ballot promised) plan tells is_due = absurd tells
tells_quietly config me views sender slot (Accept proposal) plan tells is_due = absurd tells
tells_quietly config me views sender slot (Accepted acceptance) plan tells (uploads, left, has, waiting, is) = ap (λ (p : Plan). p.sends) is
tells_quietly config me views sender slot (Decided value) plan tells (uploads, left, has, waiting, is) = ap (λ (p : Plan). p.sends) is
tells_quietly config me views sender slot Ask plan tells is_due = absurd tells

pub is_handed : (config : AgreementConfig) (sent : List Message) (node number : ℕ) (views : Views) (m : Message) (plan : Plan) → number < length sent
    → slice_get sent number ≡ Some m → TellsOfAValue m.body → MessageIsDue config node views m (Plans plan)
    → NodeGives config sent (length sent) false (IsUp views) (event.Deliver node number) (results.Sent (length sent) 0) (IsUp plan.after)
is_handed config sent node number views m plan before there tells is_due =
    let empty : plan.sends ≡ [] = tells_quietly config node (has_seen views m) m.sender m.slot m.body plan tells is_due.1 in
    inl (
      m,
      before,
      there,
      inl (
        Plans plan,
        is_due,
        (
          ap (λ (ms : List Message). results.Sent (length sent) (length ms)) (sym empty),
          subst (λ (ms : List Message). take (length ms) (drop (length sent) sent) ≡ ms) (sym empty) refl,
          refl,
        ),
      ),
    )

-- ---- steps behind those of before

-- such steps go on from these, and leave the nodes so
pub record GoesOn (config : AgreementConfig) (sent : List Message) (steps : List Step) (seats : ℕ → UpOrDown) : Type 0 where
  pub more : List Step
  pub starts : (step : Step) → Contains more step → StartsOrHands step.event
  pub recovered : List Bool
  pub reached : Reaches config sent (steps ++ more) recovered seats

module _ (config : AgreementConfig) (sent : List Message) (steps : List Step) where
  pub not_yet : (recovered : List Bool) (seats : ℕ → UpOrDown) → Reaches config sent steps recovered seats → GoesOn config sent steps seats
  not_yet recovered seats reaches = record {
    more = [];
    starts = λ step has. absurd (none_in step has);
    recovered = recovered;
    reached = subst (λ (ss : List Step). Reaches config sent ss recovered seats) (sym (append-nil steps)) reaches;
  }

  one_more_starts : (more : List Step) (step : Step) → ((one : Step) → Contains more one → StartsOrHands one.event) → StartsOrHands step.event
      → (one : Step) → Contains (more ++ step ∷ []) one → StartsOrHands one.event
  one_more_starts more step starts last one has = elim (Contains-push_cases more step one has) as (λ _. StartsOrHands one.event) [
    | inl there ↦ starts one there
    | inr same ↦ subst (λ (s : Step). StartsOrHands s.event) same last
  ]

  module _ (alone : StepsAlone) (steps_more : StepsMore) where
    -- a member takes one step more, and sends nothing
    pub one_more : (seats : ℕ → UpOrDown) (e : Event) (given : EventResult) (was : Bool) (new : UpOrDown) → GoesOn config sent steps seats
        → StartsOrHands e → node_of e < config.members → NodeGives config sent (length sent) was (seats (node_of e)) e given new → IsAsked e was
        → 0 ≡ count_of given → GoesOn config sent steps (with_seat seats (node_of e) new)
    one_more seats e given was new goes starts member gives asked none =
        let step : Step = record { event = e; result = given } in
        let after : ℕ → UpOrDown = with_seat seats (node_of e) new in
        let recovered : List Bool = goes.recovered ++ was ∷ [] in
        let follows : StepFollows config (sent ++ []) (length sent) seats step was after =
        subst (λ (ms : List Message). StepFollows config ms (length sent) seats step was after) (sym (append-nil sent))
        (alone config sent (length sent) seats step was new member gives) in
        let reached : Reaches config (sent ++ []) ((steps ++ goes.more) ++ step ∷ []) recovered after =
        steps_more config at_first sent [] (steps ++ goes.more) goes.recovered seats after step was goes.reached follows asked none in
        let same : Reaches config sent ((steps ++ goes.more) ++ step ∷ []) recovered after =
        subst (λ (ms : List Message). Reaches config ms ((steps ++ goes.more) ++ step ∷ []) recovered after) (append-nil sent) reached in
        record {
          more = goes.more ++ step ∷ [];
          starts = one_more_starts goes.more step goes.starts starts;
          recovered = recovered;
          reached = subst (λ (ss : List Step). Reaches config sent ss recovered after) (append_assoc steps goes.more (step ∷ [])) same;
        }
