-- A step is refused as not sent exactly where it is a delivery, or its cut, to a member that runs, of a number that no message
-- has which was sent before.
use Rattle.std.proofs.Common.{◌≡◌, ℕ, ◌+◌, ◌<◌, ◌≤◌, inl, inr, Bool, true≢false, List, [], ◌∷◌, ◌++◌, take, Some, slice_get, refl, sym, subst, ◌∙◌, arith}
use Rattle.std.proofs.lemmas.List.Sums.{sum_by_push}
use Rattle.ballots.specs.declared.message.Message.{Message}
use Rattle.agreement_rules.specs.Views.{AgreementConfig, Views}
use Rattle.agreement_rules.specs.Due.{Refusal}
use Rattle.agreement_rules.specs.Due as due
use Rattle.histories.specs.Due as input
use Rattle.histories.specs.Event.{Event, node_of}
use Rattle.histories.specs.Event as event
use Rattle.histories.specs.EventResult.{EventResult, count_of}
use Rattle.histories.specs.EventResult as results
use Rattle.histories.specs.History.{Step, History}
use Rattle.histories.specs.Owning.{number_in}
use Rattle.histories.specs.Following.{UpOrDown, IsUp, IsDown, reason_of, SendsGives, InputGives, CutGives, Delivers, UpGives, DownGives, NodeGives, StepFollows, at_first, Follows}
use Rattle.safe_histories.specs.Learning.{Runs, sent_before}
use Rattle.safe_histories.proofs.Lists.{some_same, none_is_some}
use Rattle.safe_histories.proofs.Running.{Agrees}
use Rattle.safe_histories.proofs.Seats.{AllAgree, step_agrees, agree_at_first}
use Rattle.safe_histories.proofs.Steps.{Reached, reach}
use Rattle.safe_histories.proofs.Refusing.{restart_other, up_other}

unsent_apart : (r : Refusal) → reason_of r ≡ results.NotSent → ⊥
unsent_apart due.OutOfRange unsent = cc unsent
unsent_apart due.SlotsSpent unsent = cc unsent
unsent_apart due.RoundsSpent unsent = cc unsent
unsent_apart due.OutOfMemory unsent = cc unsent

abbrev IsOther : EventResult → Type 0
IsOther given = given ≡ results.Refused results.NotSent → ⊥

-- ---- a node that is down refuses nothing so

down_other : (given : EventResult) → given ≡ results.Refused results.Down → IsOther given
down_other given down unsent = cc (sym down ∙ unsent)

down_gives_other : (recovered : Bool) (old : UpOrDown) (e : Event) (given : EventResult) (seat : UpOrDown) → DownGives recovered old e given seat → IsOther given
down_gives_other recovered old (event.Put node text) given seat gives = down_other given gives.0
down_gives_other recovered old (event.Tick node left) given seat gives = down_other given gives.0
down_gives_other recovered old (event.Deliver node number) given seat gives = down_other given gives.0
down_gives_other recovered old (event.TickCut node left) given seat gives = down_other given gives.0
down_gives_other recovered old (event.DeliverCut node number) given seat gives = down_other given gives.0
down_gives_other recovered old (event.Restart node) given seat gives = restart_other results.NotSent unsent_apart recovered old given seat gives
down_gives_other recovered old (event.Get node table version) given seat gives = down_other given gives.0
down_gives_other recovered old (event.Info node table) given seat gives = down_other given gives.0
down_gives_other recovered old (event.Outcome node text) given seat gives = down_other given gives.0

-- ---- one step, before which so many were sent

module _ (config : AgreementConfig) (sent : List Message) (next : ℕ) where
  delivery_unsent : (handed number : ℕ) (Gives : Message → EventResult → UpOrDown → Type 0) (views : Views) (given : EventResult) (seat : UpOrDown) → handed ≡ number
      → next ≤ number → Delivers sent next handed Gives views given seat → given ≡ results.Refused results.NotSent
  delivery_unsent handed number Gives views given seat same le (inl (m, before, there, gives)) = absurd (omega (arith, same, le, before))
  delivery_unsent handed number Gives views given seat same le (inr (past, gives, stays)) = gives

  up_unsent : (recovered : Bool) (views : Views) (e : Event) (given : EventResult) (seat : UpOrDown) (number : ℕ) → number_in e ≡ Some number → next ≤ number
      → UpGives config sent next recovered views e given seat → given ≡ results.Refused results.NotSent
  up_unsent recovered views (event.Put node text) given seat number is le gives = absurd (none_is_some number is)
  up_unsent recovered views (event.Tick node left) given seat number is le gives = absurd (none_is_some number is)
  up_unsent recovered views (event.Deliver node handed) given seat number is le gives =
      delivery_unsent handed number (λ m. InputGives config node views (input.Deliver m) (SendsGives sent next views)) views given seat (some_same handed number is) le gives
  up_unsent recovered views (event.TickCut node left) given seat number is le gives = absurd (none_is_some number is)
  up_unsent recovered views (event.DeliverCut node handed) given seat number is le gives =
      delivery_unsent handed number (λ m. CutGives config node views (input.Deliver m)) views given seat (some_same handed number is) le gives
  up_unsent recovered views (event.Restart node) given seat number is le gives = absurd (none_is_some number is)
  up_unsent recovered views (event.Get node table version) given seat number is le gives = absurd (none_is_some number is)
  up_unsent recovered views (event.Info node table) given seat number is le gives = absurd (none_is_some number is)
  up_unsent recovered views (event.Outcome node text) given seat number is le gives = absurd (none_is_some number is)

  module _ (done : List Step) where
    -- it is a delivery or its cut at a node that runs, and nothing of its number was sent
    abbrev IsUnsentAt : ℕ → Event → Type 0
    IsUnsentAt node e = (number : ℕ) × (number_in e ≡ Some number) × Runs node done × (next ≤ number)

    seat_unsent : (recovered : Bool) (old : UpOrDown) (e : Event) (given : EventResult) (seat : UpOrDown) → Agrees sent done (node_of e) old
        → NodeGives config sent next recovered old e given seat → given ≡ results.Refused results.NotSent → IsUnsentAt (node_of e) e
    seat_unsent recovered (IsUp views) e given seat agrees gives unsent =
        elim (up_other results.NotSent unsent_apart config sent next recovered views e given seat gives) as (λ _. IsUnsentAt (node_of e) e) [
          | inl is ↦ absurd (is unsent)
          | inr is ↦ (is.0, is.1, agrees.0, is.2)
        ]
    seat_unsent recovered (IsDown records due) e given seat agrees gives unsent =
        absurd (down_gives_other recovered (IsDown records due) e given seat gives unsent)

    unsent_seat : (recovered : Bool) (old : UpOrDown) (e : Event) (given : EventResult) (seat : UpOrDown) → Agrees sent done (node_of e) old
        → IsUnsentAt (node_of e) e → NodeGives config sent next recovered old e given seat → given ≡ results.Refused results.NotSent
    unsent_seat recovered (IsUp views) e given seat agrees (number, is, runs, le) gives = up_unsent recovered views e given seat number is le gives
    unsent_seat recovered (IsDown records due) e given seat agrees (number, is, runs, le) gives = absurd (true≢false (sym agrees ∙ runs))

    step_unsent : (recovered : Bool) (old new : ℕ → UpOrDown) (step : Step) → AllAgree sent done config.members done old
        → StepFollows config sent next old step recovered new → step.result ≡ results.Refused results.NotSent
        → (node_of step.event < config.members) × IsUnsentAt (node_of step.event) step.event
    step_unsent recovered old new step all (inl (member, gives, others)) unsent =
        (member, seat_unsent recovered (old (node_of step.event)) step.event step.result (new (node_of step.event)) (all (node_of step.event) member) gives unsent)
    step_unsent recovered old new step all (inr (past, gives, same)) unsent = absurd (cc (sym gives ∙ unsent))

    unsent_step : (recovered : Bool) (old new : ℕ → UpOrDown) (step : Step) → AllAgree sent done config.members done old
        → StepFollows config sent next old step recovered new → node_of step.event < config.members → IsUnsentAt (node_of step.event) step.event
        → step.result ≡ results.Refused results.NotSent
    unsent_step recovered old new step all (inl (member, gives, others)) within is =
        unsent_seat recovered (old (node_of step.event)) step.event step.result (new (node_of step.event)) (all (node_of step.event) within) is gives
    unsent_step recovered old new step all (inr (past, gives, same)) within is = absurd (omega (arith, past, within))

-- ---- each step of a history

sent_more : (done : List Step) (step : Step) (next : ℕ) → next ≡ sent_before done → next + count_of step.result ≡ sent_before (done ++ step ∷ [])
sent_more done step next is = omega (arith, is, sum_by_push (λ (s : Step). count_of s.result) done step)

module _ (history : History) (follows : Follows history) (place : ℕ) (step : Step) (is : slice_get history.steps place ≡ Some step) where
  abbrev Stands : List Step → (ℕ → UpOrDown) → ℕ → Type 0
  Stands done seats next = AllAgree history.sent done history.config.members done seats × (next ≡ sent_before done)

  at : Reached history.config history.sent Stands (take place history.steps) step
  at =
      reach history.config history.sent Stands
      (λ done seats after next x recovered holds one. (
        step_agrees history.sent done history.config next recovered seats after x holds.0 one,
        sent_more done x next holds.1,
      ))
      follows.seats [] at_first 0 history.steps follows.recovered (agree_at_first history.sent history.config.members, refl) follows.reached place step is

  pub is_unsent : step.result ≡ results.Refused results.NotSent
      → (number : ℕ) × (number_in step.event ≡ Some number) × (node_of step.event < history.config.members)
      × Runs (node_of step.event) (take place history.steps) × (sent_before (take place history.steps) ≤ number)
  is_unsent unsent =
      let done = take place history.steps in
      let found = step_unsent history.config history.sent at.next done at.recovered at.seats at.after step at.holds.0 at.follows unsent in
      (found.1.0, found.1.1, found.0, found.1.2, subst (λ (n : ℕ). n ≤ found.1.0) at.holds.1 found.1.3)

  pub unsent_is : ((number : ℕ) × (number_in step.event ≡ Some number) × (node_of step.event < history.config.members)
      × Runs (node_of step.event) (take place history.steps) × (sent_before (take place history.steps) ≤ number))
      → step.result ≡ results.Refused results.NotSent
  unsent_is (number, is_of, within, runs, le) =
      unsent_step history.config history.sent at.next (take place history.steps) at.recovered at.seats at.after step at.holds.0 at.follows within
      (number, is_of, runs, subst (λ (n : ℕ). n ≤ number) (sym at.holds.1) le)
