use Rattle.std.proofs.Common.{ℕ, sym, subst}
use Rattle.learner.specs.Votes.{IsDecidedOrChosen}
use Rattle.learner.proofs.Voting.{only_decided_or_chosen}
use Rattle.learner.proofs.laws.values_have_a_history.Goals as goal

pub returns : goal.returns
returns c = λ state slot v h is. (
  h.calls,
  subst (λ (n : ℕ). IsDecidedOrChosen n h.calls slot v) (sym h.after.members)
      (only_decided_or_chosen h.members h.calls slot v (h.after.learned slot v is)),
)
