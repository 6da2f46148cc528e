use Rattle.std.proofs.Common.{◌≡◌, ◌≤◌, ◌⊎◌, ℕ, max, inl, inr, arith, ap, ◌∙◌, sym, subst, refl, List, [], ◌∷◌, ◌++◌}
use Rattle.std.proofs.lemmas.Bool.{cases_lt}
use Rattle.ballots.specs.declared.record.Record.{Record}
use Rattle.acceptor.specs.Restored.{IsHighestRound}
use Rattle.acceptor.proofs.Restoring.{begun_round_more, other_round_more}
use Rattle.acceptor.proofs.records.higher_round.Goals as goal

rounds : (highest begun round : ℕ) → round ≡ max highest begun → ((begun ≤ highest) × (round ≡ highest)) ⊎ ((highest ≤ begun) × (round ≡ begun))
rounds highest begun round is =
    elim (cases_lt highest begun) as (λ _. ((begun ≤ highest) × (round ≡ highest)) ⊎ ((highest ≤ begun) × (round ≡ begun))) [
      | inl lt ↦ inr (omega (arith, lt), omega (arith, is, lt))
      | inr ge ↦ inl (omega (arith, ge), omega (arith, is, ge))
    ]

pub returns-in-Began : goal.returns-in-Began
returns-in-Began c records is =
    subst (λ (r : Record). IsHighestRound (records ++ r ∷ []) c.max.result) (sym c.in-Began.is)
    (begun_round_more records c.in-Began.ballot c.args.highest c.max.result is (rounds c.args.highest c.in-Began.ballot.round c.max.result (c.max.ensures ∙ ap (max c.args.highest) c.round.ensures.value)))

pub returns-in-Promised : goal.returns-in-Promised
returns-in-Promised c records is =
    subst (λ (r : Record). IsHighestRound (records ++ r ∷ []) c.args.highest) (sym c.in-Promised.is) (other_round_more records _ c.args.highest refl is)

pub returns-in-Accepted : goal.returns-in-Accepted
returns-in-Accepted c records is =
    subst (λ (r : Record). IsHighestRound (records ++ r ∷ []) c.args.highest) (sym c.in-Accepted.is) (other_round_more records _ c.args.highest refl is)

pub returns-in-PromisedFrom : goal.returns-in-PromisedFrom
returns-in-PromisedFrom c records is =
    subst (λ (r : Record). IsHighestRound (records ++ r ∷ []) c.args.highest) (sym c.in-PromisedFrom.is) (other_round_more records _ c.args.highest refl is)
