use Rattle.std.proofs.Common.{ℕ, List, [], refl, sym, ap, subst, ◌∙◌}
use Rattle.ballots.specs.Ballot.{Ballot}
use Rattle.ballots.specs.declared.acceptance.Acceptance.{Acceptance}
use Rattle.acceptor.specs.AcceptorState.{at}
use Rattle.acceptor.specs.Ranges.{higher, ranged_at}
use Rattle.acceptor.specs.Restored.{IsHighest, IsLastHighest}
use Rattle.acceptor.proofs.Promising.{nothing_ranged}
use Rattle.acceptor.proofs.acceptor.Acceptor.new.Goals as goal

pub returns-clause-fresh : goal.returns-clause-fresh
returns-clause-fresh c = record {
  promises = λ slot.
      ap (λ (l : List (ℕ × Ballot)). higher (at l slot) (ranged_at c.new-2.result.ranges slot)) c.new.ensures.empty ∙ ap (λ (l : List (ℕ × Ballot)). ranged_at l slot) c.new-2.ensures
      ∙ nothing_ranged slot;
  acceptances = λ slot. ap (λ (l : List (ℕ × Acceptance)). at l slot) c.new-3.ensures.empty;
}

pub returns-clause-restored : goal.returns-clause-restored
returns-clause-restored c =
    let fresh = returns-clause-fresh c in
    record {
      promises = λ slot. subst (IsHighest []) (sym (fresh.promises slot)) refl;
      acceptances = λ slot. subst (IsLastHighest []) (sym (fresh.acceptances slot)) refl;
    }
