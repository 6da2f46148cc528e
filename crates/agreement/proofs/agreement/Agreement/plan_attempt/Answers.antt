use Rattle.std.proofs.Common.{◌≡◌, ◌↔◌, inl, inr, true, false, ℕ, ◌<◌, ◌≤◌, max, Result, Ok, IsErr, refl, sym, subst}
use Rattle.std.proofs.lemmas.Bool.{cases_lt}
use Rattle.ballots.specs.Limits.{max_round}
use Rattle.ballots.specs.Ballot.{Ballot}
use Rattle.proposer.specs.Attempting.{next_ballot}
use Rattle.agreement.specs.declared.step.Change.{Change}
use Rattle.agreement.specs.State.{AgreementState}
use Rattle.agreement.specs.Step.{CanTake}
use Rattle.agreement.proofs.Parts as parts
use Rattle.agreement.proofs.agreement.Agreement.plan_attempt.Goals as goal

-- where there is a next ballot, rounds are left
rounds_left : {E : Type 0} (result : Result Ballot E) (ballot : Ballot) (limit round : ℕ) → result ≡ Ok ballot → (IsErr result ↔ (limit ≤ round)) → round < limit
rounds_left result ballot limit round is iff = elim (cases_lt round limit) as (λ _. round < limit) [
  | inl lt ↦ lt
  | inr le ↦ let fault : false ≡ true = subst (λ r. IsErr r) is (iff.1 le) in absurd cc
]

pub returns-in-Ok-clause-can : goal.returns-in-Ok-clause-can
returns-in-Ok-clause-can c =
    let limit = subst (λ (s : AgreementState). IsErr c.see_begin.result ↔ (max_round ≤ max s.seen_round s.proposer.highest_round)) c.self.view_is c.see_begin.ensures.limit in
    let next = subst (λ (s : AgreementState). c.in-Ok.ballot ≡ next_ballot s.proposer.me s.proposer.highest_round s.seen_round) c.self.view_is
    (parts.at_ok _ c.see_begin.result c.in-Ok.ballot c.in-Ok.is c.see_begin.ensures.next) in
    parts.map_ok _ _ c.attempt_at.result
    (λ step it. subst (λ (x : Change). CanTake c.args.self.now x) (sym it.change_is) (record {
      kept = refl;
      rounds_left = rounds_left c.see_begin.result c.in-Ok.ballot max_round _ c.in-Ok.is limit;
      next = next;
    }))
    c.attempt_at.ensures.sends
