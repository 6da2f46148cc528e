-- A node refuses as one that is down exactly where the history shows that it does not run.
use Rattle.std.proofs.Common.{◌≡◌, ℕ, ◌<◌, ◌≤◌, inl, inr, Bool, false, true≢false, List, take, Option, Some, slice_get, refl, sym, ◌∙◌, eq-eqb, arith}
use Rattle.ballots.specs.declared.message.Message.{Message}
use Rattle.ballots.specs.declared.record.Record.{Record}
use Rattle.agreement_rules.specs.Views.{AgreementConfig}
use Rattle.agreement_rules.specs.Due.{Refusal}
use Rattle.agreement_rules.specs.Due as due
use Rattle.histories.specs.Event.{Event, node_of}
use Rattle.histories.specs.Event as event
use Rattle.histories.specs.EventResult.{EventResult}
use Rattle.histories.specs.EventResult as results
use Rattle.histories.specs.History.{Step, History}
use Rattle.histories.specs.Following.{UpOrDown, IsUp, IsDown, reason_of, DownGives, NodeGives, StepFollows, Follows}
use Rattle.safe_histories.specs.Learning.{is_restart_of, Runs}
use Rattle.safe_histories.proofs.Running.{Agrees}
use Rattle.safe_histories.proofs.Seats.{AllAgree}
use Rattle.safe_histories.proofs.Safety.{at_place}
use Rattle.safe_histories.proofs.Refusing.{up_other}

-- ---- a node that is up gives no such refusal

down_apart : (r : Refusal) → reason_of r ≡ results.Down → ⊥
down_apart due.OutOfRange down = cc down
down_apart due.SlotsSpent down = cc down
down_apart due.RoundsSpent down = cc down
down_apart due.OutOfMemory down = cc down

abbrev IsOther : EventResult → Type 0
IsOther given = given ≡ results.Refused results.Down → ⊥

unsent_other : (given : EventResult) → given ≡ results.Refused results.NotSent → IsOther given
unsent_other given unsent down = cc (sym unsent ∙ down)

-- ---- a node that is down refuses all but a restart

down_refuses : (recovered : Bool) (records : List Record) (due : Option Record) (e : Event) (given : EventResult) (seat : UpOrDown) → is_restart_of (node_of e) e ≡ false
    → DownGives recovered (IsDown records due) e given seat → given ≡ results.Refused results.Down
down_refuses recovered records due (event.Put node text) given seat none gives = gives.0
down_refuses recovered records due (event.Tick node left) given seat none gives = gives.0
down_refuses recovered records due (event.Deliver node number) given seat none gives = gives.0
down_refuses recovered records due (event.TickCut node left) given seat none gives = gives.0
down_refuses recovered records due (event.DeliverCut node number) given seat none gives = gives.0
down_refuses recovered records due (event.Restart node) given seat none gives = absurd (true≢false (sym (eq-eqb node node refl) ∙ none))
down_refuses recovered records due (event.Get node table version) given seat none gives = gives.0
down_refuses recovered records due (event.Info node table) given seat none gives = gives.0
down_refuses recovered records due (event.Outcome node text) given seat none gives = gives.0

-- ---- each step of a history

module _ (config : AgreementConfig) (sent : List Message) (done : List Step) (next : ℕ) (recovered : Bool) where
  seat_refuses : (old : UpOrDown) (e : Event) (given : EventResult) (seat : UpOrDown) → Agrees sent done (node_of e) old → (Runs (node_of e) done → ⊥)
      → is_restart_of (node_of e) e ≡ false → NodeGives config sent next recovered old e given seat → given ≡ results.Refused results.Down
  seat_refuses (IsUp views) e given seat agrees down none gives = absurd (down agrees.0)
  seat_refuses (IsDown records due) e given seat agrees down none gives = down_refuses recovered records due e given seat none gives

  seat_other : (old : UpOrDown) (e : Event) (given : EventResult) (seat : UpOrDown) → Agrees sent done (node_of e) old → Runs (node_of e) done
      → NodeGives config sent next recovered old e given seat → IsOther given
  seat_other (IsUp views) e given seat agrees runs gives =
      elim (up_other results.Down down_apart config sent next recovered views e given seat gives) as (λ _. IsOther given) [
        | inl is ↦ is
        | inr unsent ↦ unsent_other given unsent.3
      ]
  seat_other (IsDown records due) e given seat agrees runs gives = absurd (true≢false (sym agrees ∙ runs))

module _ (history : History) (follows : Follows history) (place : ℕ) (step : Step) (is : slice_get history.steps place ≡ Some step) where
  pub refuses_as_down : node_of step.event < history.config.members → (Runs (node_of step.event) (take place history.steps) → ⊥)
      → is_restart_of (node_of step.event) step.event ≡ false → step.result ≡ results.Refused results.Down
  refuses_as_down within down none =
      let at = at_place history follows place step is in
      by_cases at.next at.recovered at.seats at.after at.holds at.follows
    where
      by_cases : (next : ℕ) (recovered : Bool) (old new : ℕ → UpOrDown) → AllAgree history.sent (take place history.steps) history.config.members (take place history.steps) old
          → StepFollows history.config history.sent next old step recovered new → step.result ≡ results.Refused results.Down
      by_cases next recovered old new all (inl (member, gives, others)) =
          seat_refuses history.config history.sent (take place history.steps) next recovered (old (node_of step.event)) step.event step.result (new (node_of step.event))
          (all (node_of step.event) within) down none gives
      by_cases next recovered old new all (inr (past, gives, same)) = absurd (omega (arith, past, within))

  pub refuses_as_other : node_of step.event < history.config.members → Runs (node_of step.event) (take place history.steps) → IsOther step.result
  refuses_as_other within runs =
      let at = at_place history follows place step is in
      by_cases at.next at.recovered at.seats at.after at.holds at.follows
    where
      by_cases : (next : ℕ) (recovered : Bool) (old new : ℕ → UpOrDown) → AllAgree history.sent (take place history.steps) history.config.members (take place history.steps) old
          → StepFollows history.config history.sent next old step recovered new → IsOther step.result
      by_cases next recovered old new all (inl (member, gives, others)) =
          seat_other history.config history.sent (take place history.steps) next recovered (old (node_of step.event)) step.event step.result (new (node_of step.event))
          (all (node_of step.event) within) runs gives
      by_cases next recovered old new all (inr (past, gives, same)) = absurd (omega (arith, past, within))

  pub refuses_strangers : history.config.members ≤ node_of step.event → step.result ≡ results.Refused results.OutOfRange
  refuses_strangers past =
      let at = at_place history follows place step is in
      by_cases at.next at.recovered at.seats at.after at.follows
    where
      by_cases : (next : ℕ) (recovered : Bool) (old new : ℕ → UpOrDown) → StepFollows history.config history.sent next old step recovered new
          → step.result ≡ results.Refused results.OutOfRange
      by_cases next recovered old new (inl (member, gives, others)) = absurd (omega (arith, past, member))
      by_cases next recovered old new (inr (beyond, gives, same)) = gives
