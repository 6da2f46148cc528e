-- A history in which nothing is in doubt, and each record of a member stands behind a message that was sent.
use Rattle.std.proofs.Common.{◌≡◌, ◌↔◌, ℕ, Bool, true, List, refl, sym, ap, subst, ◌∙◌}
use Rattle.std.specs.List.{Contains}
use Rattle.ballots.specs.declared.message.Message.{Message}
use Rattle.ballots.specs.declared.record.Record.{Record}
use Rattle.agreement_rules.specs.Views.{AgreementConfig}
use Rattle.histories.specs.History.{Step}
use Rattle.histories.specs.Following.{UpOrDown, IsUp, IsDown, recovered_in, Reaches}
use Rattle.histories.specs.Keeping.{records_in}
use Rattle.cut_histories.specs.Settling.{settled, is_of_a_client, MayHaveSent}
use Rattle.cut_histories.proofs.Lists.{place_of, in_both}
use Rattle.cut_histories.proofs.Saying.{KeepingLaws}
use Rattle.cut_histories.proofs.Moving.{ReachingLaws}
use Rattle.cut_histories.proofs.Walking.{mirrored}

settled_has : (found : Bool) (seat : UpOrDown) → recovered_in found seat ≡ records_in (settled found seat)
settled_has found (IsUp views) = refl
settled_has found (IsDown records due) = refl

pub may_have_sent : KeepingLaws → ReachingLaws → (config : AgreementConfig) (sent : List Message) (steps : List Step) (recovered : List Bool) (seats : ℕ → UpOrDown) (found : ℕ → Bool)
    → Reaches config sent steps recovered seats → MayHaveSent config sent steps seats found
may_have_sent keeping laws config sent steps recovered seats found reaches =
    let it = mirrored keeping laws config sent steps recovered seats found reaches in
    record {
      other_sent = it.now_sent;
      other_steps = it.come.steps;
      other_recovered = it.come.recovered;
      other_seats = it.now_seats;
      reached = it.come.reached;
      settles = it.settles;
      outside = it.outside;
      said = λ node kept within has.
          it.come.said node kept within
          (subst (λ (l : List Record). Contains l kept) (settled_has (found node) (seats node) ∙ ap records_in (sym (it.settles node))) has);
      sends = λ m has. let place = place_of sent m has in it.placed place.0 m place.1.0 place.1.1;
      clients = it.come.same;
    }

-- what clients did in one history they did in the other
pub clients_same : (config : AgreementConfig) (sent : List Message) (steps : List Step) (seats : ℕ → UpOrDown) (found : ℕ → Bool) (other : MayHaveSent config sent steps seats found) (step : Step)
    → is_of_a_client step.event ≡ true → Contains other.other_steps step ↔ Contains steps step
clients_same config sent steps seats found other step by_client =
    in_both (λ (s : Step). is_of_a_client s.event) other.other_steps steps other.clients step by_client
