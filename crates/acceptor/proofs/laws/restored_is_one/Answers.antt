use Rattle.std.proofs.Common.{◌≡◌, List, Option, Some, None, inl, inr, refl, rules, arith, sym, subst, ap, ◌∙◌, []}
use Rattle.std.specs.List.{Contains, filter_map}
use Rattle.ballots.specs.Ballot.{Ballot}
use Rattle.ballots.specs.declared.acceptance.Acceptance.{Acceptance}
use Rattle.acceptor.specs.Restored.{IsHighest, IsLastHighest, promise_in, acceptance_in}
use Rattle.acceptor.proofs.Lists.{nothing_in}
use Rattle.acceptor.proofs.Highest.{neither_below, in_middle, one_last}
use Rattle.acceptor.proofs.laws.restored_is_one.Goals as goal

one_highest : (ballots : List Ballot) (a b : Option Ballot) → IsHighest ballots a → IsHighest ballots b → a ≡ b
one_highest ballots None None x y = refl
one_highest ballots None (Some b) x y = absurd (nothing_in b (subst (λ (l : List Ballot). Contains l b) x y.0))
one_highest ballots (Some a) None x y = absurd (nothing_in a (subst (λ (l : List Ballot). Contains l a) y x.0))
one_highest ballots (Some a) (Some b) x y = ap (λ (l : Ballot). let o : Option Ballot = Some l in o) (neither_below a b (x.1 b y.0) (y.1 a x.0))

one_last_highest : (list : List Acceptance) (a b : Option Acceptance) → IsLastHighest list a → IsLastHighest list b → a ≡ b
one_last_highest list None None x y = refl
one_last_highest list None (Some b) x (before, after, split, not_above, below) =
    absurd (nothing_in b (subst (λ (l : List Acceptance). Contains l b) (sym split ∙ x) (in_middle before b after)))
one_last_highest list (Some a) None (before, after, split, not_above, below) y =
    absurd (nothing_in a (subst (λ (l : List Acceptance). Contains l a) (sym split ∙ y) (in_middle before a after)))
one_last_highest list (Some a) (Some b) (before, after, split, not_above, below) (before', after', split', not_above', below') =
    ap (λ (l : Acceptance). let o : Option Acceptance = Some l in o)
    (one_last before before' a b after after' (sym split ∙ split') not_above below not_above' below')

pub returns-clause-promises : goal.returns-clause-promises
returns-clause-promises c = λ records a b is_a is_b slot. one_highest (filter_map (promise_in slot) records) (a.promised slot) (b.promised slot) (is_a.promises slot) (is_b.promises slot)

pub returns-clause-acceptances : goal.returns-clause-acceptances
returns-clause-acceptances c = λ records a b is_a is_b slot.
    one_last_highest (filter_map (acceptance_in slot) records) (a.accepted slot) (b.accepted slot) (is_a.acceptances slot) (is_b.acceptances slot)

pub returns-clause-round : goal.returns-clause-round
returns-clause-round c = λ records a b is_a is_b.
    elim is_a.begun as (λ _. a ≡ b) [
      | inl none ↦ elim is_b.begun as (λ _. a ≡ b) [
        | inl zero ↦ none ∙ sym zero
        | inr begun ↦ (let most = is_a.highest b begun in omega (arith, none, most))
      ]
      | inr begun ↦ elim is_b.begun as (λ _. a ≡ b) [
        | inl zero ↦ (let most = is_b.highest a begun in omega (arith, zero, most))
        | inr begun' ↦ (let most = is_a.highest b begun' in let more = is_b.highest a begun in omega (arith, most, more))
      ]
    ]

pub returns-clause-fresh : goal.returns-clause-fresh
returns-clause-fresh c = search rules steps 300000

pub returns-clause-none : goal.returns-clause-none
returns-clause-none c = λ now is. record {
  promises = λ slot. one_highest [] (now.promised slot) None (is.promises slot) refl;
  acceptances = λ slot. one_last_highest [] (now.accepted slot) None (is.acceptances slot) refl;
}
