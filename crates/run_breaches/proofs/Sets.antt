-- Sets of nodes, found message by message, and their majorities.
use Rattle.std.proofs.Common.{◌≡◌, ℕ, ◌+◌, ◌<◌, ◌≤◌, ◌⊎◌, inl, inr, Bool, true, false, ◌==◌, ◌||◌, IsTrue, ◌↔◌, List, [], ◌∷◌, ◌++◌, length, get_or, take, Option, Some, None, refl, sym, ap, subst, ◌∙◌, eq-eqb, arith}
use Rattle.std.specs.List.{Any}
use Rattle.std.proofs.lemmas.Bool.{cases_lt, eqb-true}
use Rattle.std.proofs.lemmas.List.{take_more}
use Rattle.ballots.specs.Majority.{tally, IsMajority, NodeSet, contains, members_in}
use Rattle.ballots.proofs.CallerLemmas.{tally_more}
use Rattle.ballots.specs.declared.message.Message.{Message}
use Rattle.lawful_histories.specs.Majorities.{MajorityOf}
use Rattle.lawful_histories.specs.Judging.{IsSetOf}
use Rattle.run_breaches.proofs.Places.{older, newer, last_is, last_sent}

-- ---- one message more

pub one_more : (sent : List Message) (k : ℕ) (m : Message) → k < length sent → m ≡ get_or sent k m → take k sent ++ m ∷ [] ≡ take (k + 1) sent
one_more sent k m lt is = ap (λ (x : Message). take k sent ++ x ∷ []) is ∙ sym (take_more sent k m lt)

module _ (P : Message → Type 0) (before : List Message) (m : Message) where
  pub any_more : Any P (before ++ m ∷ []) → Any P before ⊎ P m
  any_more h = elim (cases_lt h.0 (length before)) as (λ _. Any P before ⊎ P m) [
    | inl lt ↦ let it = older before m h.0 h.1 lt (h.2, h.3) in inl (h.0, h.1, it.0, it.1, h.4)
    | inr le ↦ inr (subst P (sym (last_is before m h.0 h.1 le (h.2, h.3))) h.4)
  ]

  pub more_any : Any P before ⊎ P m → Any P (before ++ m ∷ [])
  more_any (inl h) = let it = newer before m h.0 h.1 (h.2, h.3) in (h.0, h.1, it.0, it.1, h.4)
  more_any (inr p) = let it = last_sent before m in (length before, m, it.0, it.1, p)

-- ---- sets

either : (p q : Bool) → (p || q) ≡ true → (p ≡ true) ⊎ (q ≡ true)
either true q e = inl refl
either false true e = inr refl
either false false e = absurd cc

left : (p q : Bool) → p ≡ true → (p || q) ≡ true
left true true e = refl
left true false e = refl
left false q e = absurd cc

right : (p q : Bool) → q ≡ true → (p || q) ≡ true
right true true e = refl
right false true e = refl
right p false e = absurd cc

some_is : (x y : ℕ) → Some x ≡ Some y → x ≡ y
some_is x y e = cc

none_is : (x : ℕ) → None ≡ Some x → ⊥
none_is x e = absurd cc

module _ (P : ℕ → Message → Type 0) where
  pub set_none : (nodes : NodeSet) → ((a : ℕ) → contains nodes a ≡ false) → IsSetOf nodes (λ a. Any (P a) [])
  set_none nodes none a = ((λ e. absurd (let no : false ≡ true = sym (none a) ∙ e in cc)), (λ h. absurd (let lt : h.0 < 0 = h.2 in omega (arith, lt))))

  module _ (before : List Message) (m : Message) (nodes : NodeSet) (found : Option ℕ) (set : IsSetOf nodes (λ a. Any (P a) before)) (by : (a : ℕ) → (found ≡ Some a) ↔ P a m) where
    pub set_with : (next : NodeSet) (node : ℕ) → found ≡ Some node → ((a : ℕ) → contains next a ≡ (contains nodes a || (node == a)))
        → IsSetOf next (λ a. Any (P a) (before ++ m ∷ []))
    set_with next node is grown a = (there, back)
      where
        there : IsTrue (contains next a) → Any (P a) (before ++ m ∷ [])
        there e = elim (either (contains nodes a) (node == a) (sym (grown a) ∙ e)) as (λ _. Any (P a) (before ++ m ∷ [])) [
          | inl was ↦ more_any (P a) before m (inl ((set a).0 was))
          | inr now ↦ more_any (P a) before m (inr ((by a).0 (is ∙ ap (λ (i : ℕ). Some i) (eqb-true node a now))))
        ]

        back : Any (P a) (before ++ m ∷ []) → IsTrue (contains next a)
        back h = grown a ∙ elim (any_more (P a) before m h) as (λ _. (contains nodes a || (node == a)) ≡ true) [
          | inl was ↦ left (contains nodes a) (node == a) ((set a).1 was)
          | inr now ↦ right (contains nodes a) (node == a) (eq-eqb node a (some_is node a (sym is ∙ (by a).1 now)))
        ]

    pub set_kept : found ≡ None → IsSetOf nodes (λ a. Any (P a) (before ++ m ∷ []))
    set_kept is a = (
      (λ e. more_any (P a) before m (inl ((set a).0 e))),
      (λ h. elim (any_more (P a) before m h) as (λ _. IsTrue (contains nodes a)) [
        | inl was ↦ (set a).1 was
        | inr now ↦ absurd (none_is a (sym is ∙ (by a).1 now))
      ]),
    )

-- The members in a set are a majority exactly where what the set is of holds of a majority.
pub majority_of_set : (n : ℕ) (nodes : NodeSet) (P : ℕ → Type 0) (r : Bool) → IsSetOf nodes P → (IsTrue r ↔ IsMajority n (members_in n nodes)) → (IsTrue r ↔ MajorityOf n P)
majority_of_set n nodes P r set answer = ((λ e. there (answer.0 e)), (λ m. answer.1 (back m)))
  where
    there : IsMajority n (members_in n nodes) → MajorityOf n P
    there majority = record { is_in = contains nodes; majority = majority; each = λ a lt in'. (set a).0 in' }

    back : MajorityOf n P → IsMajority n (members_in n nodes)
    back m =
        let no_less : tally n m.is_in ≤ tally n (contains nodes) = tally_more n m.is_in (contains nodes) (λ a lt in'. (set a).1 (m.each a lt in')) in
        omega (arith, m.majority, no_less)
