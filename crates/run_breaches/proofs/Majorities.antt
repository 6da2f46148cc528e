-- What holds of more members holds of a majority too.
use Rattle.std.proofs.Common.{◌≡◌, ◌≢◌, ℕ, ◌*◌, ◌<◌, ◌≤◌, inl, inr, Bool, true, cond, nat_eq, IsTrue, sym, subst, ◌∙◌, arith}
use Rattle.std.proofs.lemmas.Bool.{cases_eq}
use Rattle.std.proofs.lemmas.Bool.Decides.{nat_tests}
use Rattle.ballots.specs.Majority.{tally}
use Rattle.ballots.proofs.CallerLemmas.{Member, some_member, tally_more}
use Rattle.lawful_histories.specs.Majorities.{MajorityOf}

-- what holds of each of a majority holds of a majority
pub most_weaker : (n : ℕ) (P Q : ℕ → Type 0) → ((a : ℕ) → a < n → P a → Q a) → MajorityOf n P → MajorityOf n Q
most_weaker n P Q weaker m = record { is_in = m.is_in; majority = m.majority; each = λ a lt in'. weaker a lt (m.each a lt in') }

-- some member is of a majority
pub some_of : (n : ℕ) (P : ℕ → Type 0) (m : MajorityOf n P) → Member n m.is_in
some_of n P m = some_member n m.is_in (let most : n < 2 * tally n m.is_in = m.majority in omega (arith, most))

-- the test, with this answer for the member n
abbrev with_answer : ℕ → Bool → (ℕ → Bool) → ℕ → Bool
with_answer n r test a = cond (nat_eq a n) r (test a)

answer_there : (n : ℕ) (r : Bool) (test : ℕ → Bool) → with_answer n r test n ≡ r
answer_there n r test = grind (arith, nat_tests)

-- A majority, and with it one more member of whom the same holds.
pub record MostWith (n : ℕ) (P : ℕ → Type 0) (a : ℕ) : Type 0 where
  pub most : MajorityOf n P
  pub is_in : IsTrue (most.is_in a)

pub most_with : (n : ℕ) (P : ℕ → Type 0) (a : ℕ) → P a → MajorityOf n P → MostWith n P a
most_with n P a h m = record {
  most = record {
    is_in = larger;
    majority = omega (arith, m.majority, no_less);
    each = λ b lt in'. elim (cases_eq b a) as (λ _. P b) [
      | inl same ↦ subst P (sym same) h
      | inr other ↦ m.each b lt (sym (kept b other) ∙ in')
    ];
  };
  is_in = answer_there a true m.is_in;
}
  where
    larger : ℕ → Bool
    larger = with_answer a true m.is_in

    kept : (b : ℕ) → b ≢ a → larger b ≡ m.is_in b
    kept b other = grind (arith, nat_tests)

    no_less : tally n m.is_in ≤ tally n larger
    no_less = tally_more n m.is_in larger (λ b lt in'. elim (cases_eq b a) as (λ _. IsTrue (larger b)) [
      | inl same ↦ subst (λ (c : ℕ). IsTrue (larger c)) (sym same) (answer_there a true m.is_in)
      | inr other ↦ kept b other ∙ in'
    ])
