-- All members start again, one after the other, and each hears what it is told again.
use mathlib.Core.Path.{fun_ext}
use Rattle.std.proofs.Common.{◌≡◌, ◌≢◌, ℕ, zero, suc, ◌<◌, ◌≤◌, inl, inr, Bool, false, List, [], ◌∷◌, ◌++◌, length, refl, sym, ap, subst, ◌∙◌, arith}
use Rattle.std.specs.List.{Contains}
use Rattle.std.proofs.lemmas.Bool.{cases_lt, cases_eq}
use Rattle.std.proofs.lemmas.Option.{slice_get_read}
use Rattle.ballots.specs.declared.message.Message.{Message}
use Rattle.agreement_rules.specs.Views.{AgreementConfig, Views, started_with}
use Rattle.histories.specs.Event as event
use Rattle.histories.specs.EventResult as results
use Rattle.histories.specs.History.{Step, History}
use Rattle.histories.specs.Following.{UpOrDown, IsUp, recovered_in, NodeGives, with_seat}
use Rattle.joined_histories.specs.Joined.{Precedes}
use Rattle.resumed_histories.specs.StartingOver.{Hears, StartsOver, StartsOrHands}
use Rattle.resumed_histories.proofs.Going.{StepsAlone, StepsMore, GoesOn, not_yet, one_more, seat_there, seat_besides, starts_again, is_handed}

-- such steps leave this node so, and all others as they were
record Leaves (config : AgreementConfig) (sent : List Message) (steps : List Step) (old : ℕ → UpOrDown) (node : ℕ) (seat : UpOrDown) : Type 0 where
  seats : ℕ → UpOrDown
  goes : GoesOn config sent steps seats
  there : seats node ≡ seat
  besides : (other : ℕ) → other ≢ node → seats other ≡ old other

-- ---- lists

in_front : {X : Type 0} (x : X) (xs : List X) → Contains (x ∷ xs) x
in_front x xs = (0, omega arith, refl)

behind_front : {X : Type 0} (y x : X) (xs : List X) → Contains xs x → Contains (y ∷ xs) x
behind_front y x xs has = (suc has.0, omega (arith, has.1), has.2)

module _ (alone : StepsAlone) (steps_more : StepsMore) (config : AgreementConfig) (sent : List Message) (steps : List Step) where
  -- ---- one node

  hears_again : (told : List Message) (node : ℕ) (seats : ℕ → UpOrDown) (views after : Views) → node < config.members → GoesOn config sent steps seats
      → seats node ≡ IsUp views → ((m : Message) → Contains told m → Contains sent m) → Hears config node views told after
      → Leaves config sent steps seats node (IsUp after)
  hears_again [] node seats views after member goes at were_sent same = record {
    seats = seats;
    goes = goes;
    there = at ∙ ap IsUp (sym same);
    besides = λ other differs. refl;
  }
  hears_again (m ∷ told) node seats views after member goes at were_sent (plan, tells, is_due, rest) =
      let place = were_sent m (in_front m told) in
      let there = slice_get_read sent (length sent) place.0 m refl place.1 (sym place.2) in
      let seat : UpOrDown = IsUp plan.after in
      let gives : NodeGives config sent (length sent) false (seats node) (event.Deliver node place.0) (results.Sent (length sent) 0) seat =
      subst (λ (s : UpOrDown). NodeGives config sent (length sent) false s (event.Deliver node place.0) (results.Sent (length sent) 0) seat) (sym at)
      (is_handed config sent node place.0 views m plan place.1 there tells is_due) in
      let once : GoesOn config sent steps (with_seat seats node seat) =
      one_more config sent steps alone steps_more seats (event.Deliver node place.0) (results.Sent (length sent) 0) false seat goes tt member gives refl refl in
      let rest_leaves : Leaves config sent steps (with_seat seats node seat) node (IsUp after) =
      hears_again told node (with_seat seats node seat) plan.after after member once (seat_there seats node seat)
      (λ other has. were_sent other (behind_front m other told has)) rest in
      record {
        seats = rest_leaves.seats;
        goes = rest_leaves.goes;
        there = rest_leaves.there;
        besides = λ other differs. rest_leaves.besides other differs ∙ seat_besides seats node seat other differs;
      }

  member_starts_over : (told : List Message) (recovered : Bool) (node : ℕ) (seats : ℕ → UpOrDown) (old : UpOrDown) (after : Views) → node < config.members
      → GoesOn config sent steps seats → seats node ≡ old → ((m : Message) → Contains told m → Contains sent m)
      → Hears config node (started_with (recovered_in recovered old)) told after → Leaves config sent steps seats node (IsUp after)
  member_starts_over told recovered node seats old after member goes at were_sent hears =
      let views : Views = started_with (recovered_in recovered old) in
      let gives : NodeGives config sent (length sent) recovered (seats node) (event.Restart node) results.Done (IsUp views) =
      subst (λ (s : UpOrDown). NodeGives config sent (length sent) recovered s (event.Restart node) results.Done (IsUp views)) (sym at)
      (starts_again config sent (length sent) recovered old node) in
      let once : GoesOn config sent steps (with_seat seats node (IsUp views)) =
      one_more config sent steps alone steps_more seats (event.Restart node) results.Done recovered (IsUp views) goes tt member gives tt refl in
      let heard : Leaves config sent steps (with_seat seats node (IsUp views)) node (IsUp after) =
      hears_again told node (with_seat seats node (IsUp views)) views after member once (seat_there seats node (IsUp views)) were_sent hears in
      record {
        seats = heard.seats;
        goes = heard.goes;
        there = heard.there;
        besides = λ other differs. heard.besides other differs ∙ seat_besides seats node (IsUp views) other differs;
      }

  -- ---- all nodes

  module _ (left start : ℕ → UpOrDown) (recovered : ℕ → Bool) (told : List Message) (were_sent : (m : Message) → Contains told m → Contains sent m)
      (over : StartsOver config left recovered told start) where
    -- the nodes below this one have started over, and the others are as they were left
    record HaveStarted (count : ℕ) : Type 0 where
      seats : ℕ → UpOrDown
      goes : GoesOn config sent steps seats
      below : (node : ℕ) → node < count → seats node ≡ start node
      above : (node : ℕ) → count ≤ node → seats node ≡ left node

    one_more_started : (count : ℕ) → count < config.members → HaveStarted count → HaveStarted (suc count)
    one_more_started count member so_far =
        let now = over.members count member in
        let leaves : Leaves config sent steps so_far.seats count (IsUp now.0) =
        member_starts_over told (recovered count) count so_far.seats (left count) now.0 member so_far.goes (so_far.above count (omega arith)) were_sent now.2 in
        record {
          seats = leaves.seats;
          goes = leaves.goes;
          below = λ node within. elim (cases_eq node count) as (λ _. leaves.seats node ≡ start node) [
            | inl same ↦
                subst (λ (n : ℕ). leaves.seats n ≡ start n) (sym same)
                (leaves.there ∙ sym now.1)
            | inr differs ↦ leaves.besides node differs ∙ so_far.below node (omega (arith, within, differs))
          ];
          above = λ node behind. leaves.besides node (λ same. absurd (omega (arith, behind, same))) ∙ so_far.above node (omega (arith, behind));
        }

    all_started : GoesOn config sent steps left → (count : ℕ) → count ≤ config.members → HaveStarted count
    all_started goes zero within = record {
      seats = left;
      goes = goes;
      below = λ node none. absurd (omega (arith, none));
      above = λ node behind. refl;
    }
    all_started goes (suc count) within = one_more_started count (omega (arith, within)) (all_started goes count (omega (arith, within)))

    at_start : HaveStarted config.members → GoesOn config sent steps start
    at_start end = subst (GoesOn config sent steps) (fun_ext (λ node. elim (cases_lt node config.members) as (λ _. end.seats node ≡ start node) [
      | inl within ↦ end.below node within
      | inr outside ↦ end.above node outside ∙ sym (over.others node outside)
    ])) end.goes

    all_start_over : GoesOn config sent steps left → GoesOn config sent steps start
    all_start_over goes = at_start (all_started goes config.members (omega arith))

pub starts_over : StepsAlone → StepsMore → (config : AgreementConfig) (left start : ℕ → UpOrDown) (before : History) (recovered : ℕ → Bool) (told : List Message)
    → Precedes config left before → ((m : Message) → Contains told m → Contains before.sent m) → StartsOver config left recovered told start
    → (more : List Step) × ((step : Step) → Contains more step → StartsOrHands step.event)
    × Precedes config start (record { config = config; sent = before.sent; steps = before.steps ++ more })
starts_over alone steps_more config left start before recovered told precedes were_sent over =
    let goes : GoesOn config before.sent before.steps start =
    all_start_over alone steps_more config before.sent before.steps left start recovered told were_sent over
    (not_yet config before.sent before.steps precedes.recovered left precedes.reached) in
    (goes.more, goes.starts, record { config_is = refl; recovered = goes.recovered; reached = goes.reached })
