-- Any two majorities have a member in common, and what holds of more members holds of a majority too.
use Rattle.std.proofs.Common.{◌≡◌, ◌≢◌, ℕ, zero, suc, ◌+◌, ◌<◌, ◌≤◌, ◌⊎◌, inl, inr, Bool, true, false, cond, nat_eq, ◌==◌, ◌||◌, IsTrue, ◌↔◌, List, length, get_or, take, Option, Some, None, refl, sym, ap, subst, ◌∙◌, eq-eqb, arith}
use Rattle.std.proofs.lemmas.Bool.{cases_lt, cases_eq, eqb-true}
use Rattle.std.proofs.lemmas.Bool.Decides.{nat_tests}
use Rattle.std.specs.List.{Any}
use Rattle.std.proofs.lemmas.List.{get_or-take, get_or_default, length-take-le}
use Rattle.ballots.specs.Majority.{tally, IsMajority, NodeSet, contains, members_in}
use Rattle.ballots.proofs.CallerLemmas.{Shared, tallies_meet, tally_more}
use Rattle.lawful_histories.specs.Majorities.{MajorityOf}
use Rattle.lawful_histories.specs.Judging.{IsSetOf}

-- two majorities have a member in common
pub majorities_meet : (n : ℕ) (P Q : ℕ → Type 0) (p : MajorityOf n P) (q : MajorityOf n Q) → Shared n p.is_in q.is_in
majorities_meet n P Q p q = tallies_meet n p.is_in q.is_in (omega (arith, p.majority, q.majority))

-- what holds of each of a majority holds of a majority
pub most_weaker : (n : ℕ) (P Q : ℕ → Type 0) → ((a : ℕ) → a < n → P a → Q a) → MajorityOf n P → MajorityOf n Q
most_weaker n P Q weaker m = record { is_in = m.is_in; majority = m.majority; each = λ a lt in'. weaker a lt (m.each a lt in') }

-- ---- sets of nodes

either : (p q : Bool) → (p || q) ≡ true → (p ≡ true) ⊎ (q ≡ true)
either true q e = inl refl
either false true e = inr refl
either false false e = absurd cc

left : (p q : Bool) → p ≡ true → (p || q) ≡ true
left true true e = refl
left true false e = refl
left false q e = absurd cc

right : (p q : Bool) → q ≡ true → (p || q) ≡ true
right true true e = refl
right false true e = refl
right p false e = absurd cc

some_is : (x y : ℕ) → Some x ≡ Some y → x ≡ y
some_is x y e = cc

none_is : (x : ℕ) → None ≡ Some x → ⊥
none_is x e = absurd cc

-- The members in a set are a majority exactly where what the set is of holds of a majority.
pub majority_of_set : (n : ℕ) (nodes : NodeSet) (P : ℕ → Type 0) (r : Bool) → IsSetOf nodes P → (IsTrue r ↔ IsMajority n (members_in n nodes)) → (IsTrue r ↔ MajorityOf n P)
majority_of_set n nodes P r set answer = ((λ e. there (answer.0 e)), (λ m. answer.1 (back m)))
  where
    there : IsMajority n (members_in n nodes) → MajorityOf n P
    there majority = record { is_in = contains nodes; majority = majority; each = λ a lt in'. (set a).0 in' }

    back : MajorityOf n P → IsMajority n (members_in n nodes)
    back m =
        let no_less : tally n m.is_in ≤ tally n (contains nodes) = tally_more n m.is_in (contains nodes) (λ a lt in'. (set a).1 (m.each a lt in')) in
        omega (arith, m.majority, no_less)

module _ {X : Type 0} (P : ℕ → X → Type 0) (xs : List X) where
  abbrev pub Found : ℕ → ℕ → Type 0
  Found k a = Any (P a) (take k xs)

  found_more : (k a : ℕ) (d : X) → k < length xs → (Found (k + 1) a ↔ (Found k a ⊎ P a (get_or xs k d)))
  found_more k a d lt = (there, back)
    where
      here : length (take k xs) ≡ k
      here = length-take-le k xs (omega (arith, lt))

      next : length (take (k + 1) xs) ≡ k + 1
      next = length-take-le (k + 1) xs (omega (arith, lt))

      there : Found (k + 1) a → Found k a ⊎ P a (get_or xs k d)
      there h =
          let in_xs : get_or xs h.0 h.1 ≡ h.1 = sym (get_or-take (k + 1) xs h.0 h.1 (omega (arith, h.2, next))) ∙ h.3 in
          elim (cases_lt h.0 k) as (λ _. Found k a ⊎ P a (get_or xs k d)) [
            | inl below ↦ inl (h.0, h.1, omega (arith, below, here), get_or-take k xs h.0 h.1 below ∙ in_xs, h.4)
            | inr above ↦
                let at : h.0 ≡ k = omega (arith, above, h.2, next) in
                let same : get_or xs k d ≡ h.1 = get_or_default xs k d h.1 lt ∙ subst (λ (i : ℕ). get_or xs i h.1 ≡ h.1) at in_xs in
                inr (subst (P a) (sym same) h.4)
          ]

      back : Found k a ⊎ P a (get_or xs k d) → Found (k + 1) a
      back (inl h) =
          let below : h.0 < k = omega (arith, h.2, here) in
          let in_xs : get_or xs h.0 h.1 ≡ h.1 = sym (get_or-take k xs h.0 h.1 below) ∙ h.3 in
          (h.0, h.1, omega (arith, below, next), get_or-take (k + 1) xs h.0 h.1 (omega (arith, below)) ∙ in_xs, h.4)
      back (inr p) =
          let x = get_or xs k d in
          (k, x, omega (arith, next), get_or-take (k + 1) xs k x (omega arith) ∙ get_or_default xs k x d lt, p)

  pub set_none : (nodes : NodeSet) → ((a : ℕ) → contains nodes a ≡ false) → IsSetOf nodes (Found 0)
  set_none nodes none a = ((λ e. absurd (let no : false ≡ true = sym (none a) ∙ e in cc)), (λ h. absurd (omega (arith, h.2, length-take-le 0 xs (omega arith)))))

  pub set_with : (k : ℕ) (d : X) (nodes next : NodeSet) (node : ℕ) → k < length xs → IsSetOf nodes (Found k) → ((a : ℕ) → contains next a ≡ (contains nodes a || (node == a)))
      → ((a : ℕ) → (Some node ≡ Some a) ↔ P a (get_or xs k d)) → IsSetOf next (Found (k + 1))
  set_with k d nodes next node lt set grown by a = (there, back)
    where
      more : Found (k + 1) a ↔ (Found k a ⊎ P a (get_or xs k d))
      more = found_more k a d lt

      there : IsTrue (contains next a) → Found (k + 1) a
      there e = elim (either (contains nodes a) (node == a) (sym (grown a) ∙ e)) as (λ _. Found (k + 1) a) [
        | inl before ↦ more.1 (inl ((set a).0 before))
        | inr now ↦ more.1 (inr ((by a).0 (ap (λ (i : ℕ). Some i) (eqb-true node a now))))
      ]

      back : Found (k + 1) a → IsTrue (contains next a)
      back h = grown a ∙ elim (more.0 h) as (λ _. (contains nodes a || (node == a)) ≡ true) [
        | inl before ↦ left (contains nodes a) (node == a) ((set a).1 before)
        | inr now ↦ right (contains nodes a) (node == a) (eq-eqb node a (some_is node a ((by a).1 now)))
      ]

  pub set_same : (k : ℕ) (d : X) (nodes : NodeSet) → k < length xs → IsSetOf nodes (Found k) → ((a : ℕ) → (None ≡ Some a) ↔ P a (get_or xs k d)) → IsSetOf nodes (Found (k + 1))
  set_same k d nodes lt set by a =
      let more = found_more k a d lt in (
        (λ e. more.1 (inl ((set a).0 e))),
        (λ h. elim (more.0 h) as (λ _. IsTrue (contains nodes a)) [
          | inl before ↦ (set a).1 before
          | inr now ↦ absurd (none_is a ((by a).1 now))
        ]),
      )

  -- the same, by what a search of the message in that place found
  pub set_found : (k : ℕ) (x : X) (nodes next : NodeSet) (node : ℕ) (found : Option ℕ) → k < length xs → x ≡ get_or xs k x → IsSetOf nodes (Found k)
      → ((a : ℕ) → contains next a ≡ (contains nodes a || (node == a))) → found ≡ Some node → ((a : ℕ) → (found ≡ Some a) ↔ P a x) → IsSetOf next (Found (k + 1))
  set_found k x nodes next node found lt at set grown is by =
      set_with k x nodes next node lt set grown (λ a. ((λ e. subst (P a) at ((by a).0 (is ∙ e))), (λ p. sym is ∙ (by a).1 (subst (P a) (sym at) p))))

  pub set_kept : (k : ℕ) (x : X) (nodes : NodeSet) (found : Option ℕ) → k < length xs → x ≡ get_or xs k x → IsSetOf nodes (Found k) → found ≡ None → ((a : ℕ) → (found ≡ Some a) ↔ P a x)
      → IsSetOf nodes (Found (k + 1))
  set_kept k x nodes found lt at set is by =
      set_same k x nodes lt set (λ a. ((λ e. subst (P a) at ((by a).0 (is ∙ e))), (λ p. sym is ∙ (by a).1 (subst (P a) (sym at) p))))

-- ---- one member more

-- the test, with this answer for the member n
abbrev with_answer : ℕ → Bool → (ℕ → Bool) → ℕ → Bool
with_answer n r test a = cond (nat_eq a n) r (test a)

answer_there : (n : ℕ) (r : Bool) (test : ℕ → Bool) → with_answer n r test n ≡ r
answer_there n r test = grind (arith, nat_tests)

-- A majority, and with it one more member of whom the same holds.
pub record MostWith (n : ℕ) (P : ℕ → Type 0) (a : ℕ) : Type 0 where
  pub most : MajorityOf n P
  pub is_in : IsTrue (most.is_in a)

pub most_with : (n : ℕ) (P : ℕ → Type 0) (a : ℕ) → P a → MajorityOf n P → MostWith n P a
most_with n P a h m = record {
  most = record {
    is_in = larger;
    majority = omega (arith, m.majority, no_less);
    each = λ b lt in'. elim (cases_eq b a) as (λ _. P b) [
      | inl same ↦ subst P (sym same) h
      | inr other ↦ m.each b lt (sym (kept b other) ∙ in')
    ];
  };
  is_in = answer_there a true m.is_in;
}
  where
    larger : ℕ → Bool
    larger = with_answer a true m.is_in

    kept : (b : ℕ) → b ≢ a → larger b ≡ m.is_in b
    kept b other = grind (arith, nat_tests)

    no_less : tally n m.is_in ≤ tally n larger
    no_less = tally_more n m.is_in larger (λ b lt in'. elim (cases_eq b a) as (λ _. IsTrue (larger b)) [
      | inl same ↦ subst (λ (c : ℕ). IsTrue (larger c)) (sym same) (answer_there a true m.is_in)
      | inr other ↦ kept b other ∙ in'
    ])
