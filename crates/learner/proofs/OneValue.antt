-- A slot learns one value, and learns it where it is settled.
use Rattle.std.proofs.Common.{◌≡◌, ℕ, zero, suc, ◌*◌, ◌⊎◌, inl, inr, true, false, List, [], ◌∷◌, ◌++◌, Some, refl, sym, ap, subst, ◌∙◌, arith}
use Rattle.std.proofs.lemmas.Bool.{cases_eq, cases_lt}
use Rattle.std.proofs.lemmas.List.{append-nil, append_assoc}
use Rattle.ballots.specs.Ballot.{Ballot}
use Rattle.ballots.specs.Majority.{tally, IsMajority}
use Rattle.ballots.specs.declared.value.Value.{Value}
use Rattle.learner.specs.Calls.{LearnerCall, Accepted, Decided, slot_of, has_voted, first_counted, IsChosenOrDecided, IsLearned, DecidingValue}
use Rattle.learner.proofs.Settling.{settled_more, settled_by_decision, first_of_majority, other_apart, unsettled_apart, unsettled_accepted}

-- ---- one value

-- the next call after xs in one parting and after ys in the other: they part at the same call, or one goes further
abbrev Parts : List LearnerCall → LearnerCall → List LearnerCall → LearnerCall → Type 0
Parts xs x ys y =
    ((xs ≡ ys) × (x ≡ y))
    ⊎ (((more : List LearnerCall) × (ys ≡ (xs ++ x ∷ []) ++ more)) ⊎ ((more : List LearnerCall) × (xs ≡ (ys ++ y ∷ []) ++ more)))

abbrev head_of : LearnerCall → List LearnerCall → LearnerCall
head_of d [] = d
head_of d (c ∷ cs) = c

abbrev tail_of : List LearnerCall → List LearnerCall
tail_of [] = []
tail_of (c ∷ cs) = cs

parts_further : (z w : LearnerCall) (xs ys : List LearnerCall) (x y : LearnerCall) → z ≡ w → Parts xs x ys y → Parts (z ∷ xs) x (w ∷ ys) y
parts_further z w xs ys x y e (inl same) = inl (ap (λ (c : LearnerCall). c ∷ xs) e ∙ ap (λ (l : List LearnerCall). w ∷ l) same.0, same.1)
parts_further z w xs ys x y e (inr (inl less)) = inr (inl (less.0, ap (λ (l : List LearnerCall). w ∷ l) less.1 ∙ ap (λ (c : LearnerCall). c ∷ ((xs ++ x ∷ []) ++ less.0)) (sym e)))
parts_further z w xs ys x y e (inr (inr more)) = inr (inr (more.0, ap (λ (l : List LearnerCall). z ∷ l) more.1 ∙ ap (λ (c : LearnerCall). c ∷ ((ys ++ y ∷ []) ++ more.0)) e))

parts : (xs ys : List LearnerCall) (x y : LearnerCall) (us vs : List LearnerCall) → xs ++ x ∷ us ≡ ys ++ y ∷ vs → Parts xs x ys y
parts [] [] x y us vs e = inl (refl, ap (head_of x) e)
parts [] (w ∷ ys) x y us vs e = inr (inl (ys, ap (λ (c : LearnerCall). c ∷ ys) (sym (ap (head_of x) e))))
parts (z ∷ xs) [] x y us vs e = inr (inr (xs, ap (λ (c : LearnerCall). c ∷ xs) (ap (head_of y) e)))
parts (z ∷ xs) (w ∷ ys) x y us vs e = parts_further z w xs ys x y (ap (head_of z) e) (parts xs ys x y us vs (ap tail_of e))

told_one : (n slot : ℕ) (calls : List LearnerCall) (c : LearnerCall) (v w : Value) → DecidingValue n calls slot c v → DecidingValue n calls slot c w → v ≡ w
told_one n slot calls (Accepted a s b u) v w e f = is_some v w (sym e ∙ f)
  where
    is_some : (v w : Value) → Some v ≡ Some w → v ≡ w
    is_some v w e = cc
told_one n slot calls (Decided s u) v w e f = sym e ∙ f

pub one_value : (n : ℕ) (calls : List LearnerCall) (slot : ℕ) (v w : Value) → IsLearned n calls slot v → IsLearned n calls slot w → v ≡ w
one_value n calls slot v w p q = elim (parts p.before q.before p.call q.call p.after q.after (sym p.parts ∙ q.parts)) [
  | inl same ↦
      let before : p.before ++ p.call ∷ [] ≡ q.before ++ q.call ∷ [] = ap (λ (l : List LearnerCall). l ++ p.call ∷ []) same.0 ∙ ap (λ (c : LearnerCall). q.before ++ c ∷ []) same.1 in
      let told : DecidingValue n (q.before ++ q.call ∷ []) slot q.call v = subst (λ (c : LearnerCall). DecidingValue n (q.before ++ q.call ∷ []) slot c v) same.1 (subst (λ (l : List LearnerCall). DecidingValue n l slot p.call v) before p.told) in
      told_one n slot (q.before ++ q.call ∷ []) q.call v w told q.told
  | inr (inl less) ↦ absurd (q.not_before (subst (λ (l : List LearnerCall). IsChosenOrDecided n l slot) (sym less.1) (settled_more n (p.before ++ p.call ∷ []) less.0 slot p.settled)))
  | inr (inr more) ↦ absurd (p.not_before (subst (λ (l : List LearnerCall). IsChosenOrDecided n l slot) (sym more.1) (settled_more n (q.before ++ q.call ∷ []) more.0 slot q.settled)))
]

-- ---- the call that settles a slot

pub learned_more : (n : ℕ) (calls more : List LearnerCall) (slot : ℕ) (v : Value) → IsLearned n calls slot v → IsLearned n (calls ++ more) slot v
learned_more n calls more slot v p = record {
  before = p.before;
  call = p.call;
  after = p.after ++ more;
  parts = ap (λ (l : List LearnerCall). l ++ more) p.parts ∙ append_assoc p.before (p.call ∷ p.after) more;
  not_before = p.not_before;
  settled = p.settled;
  told = p.told;
}

pub settled_of_learned : (n : ℕ) (calls : List LearnerCall) (slot : ℕ) (v : Value) → IsLearned n calls slot v → IsChosenOrDecided n calls slot
settled_of_learned n calls slot v p =
    subst (λ (l : List LearnerCall). IsChosenOrDecided n l slot) (append_assoc p.before (p.call ∷ []) p.after ∙ sym p.parts) (settled_more n (p.before ++ p.call ∷ []) p.after slot p.settled)

pub learned_by_decision : (n : ℕ) (calls : List LearnerCall) (slot : ℕ) (v : Value) → (IsChosenOrDecided n calls slot → ⊥) → IsLearned n (calls ++ Decided slot v ∷ []) slot v
learned_by_decision n calls slot v not = record {
  before = calls;
  call = Decided slot v;
  after = [];
  parts = refl;
  not_before = not;
  settled = settled_by_decision n calls slot v;
  told = refl;
}

pub learned_by_majority : (n : ℕ) (calls : List LearnerCall) (a slot : ℕ) (b : Ballot) (u v : Value) → (IsChosenOrDecided n calls slot → ⊥)
    → IsMajority n (tally n (has_voted (calls ++ Accepted a slot b u ∷ []) slot b))
    → first_counted n (calls ++ Accepted a slot b u ∷ []) slot b ≡ Some v
    → IsLearned n (calls ++ Accepted a slot b u ∷ []) slot v
learned_by_majority n calls a slot b u v not majority first = record {
  before = calls;
  call = Accepted a slot b u;
  after = [];
  parts = refl;
  not_before = not;
  settled = inr (b, majority);
  told = first;
}

-- ---- a settled slot has learned

-- with this call the slot has learned, or it is still not settled
abbrev Next : ℕ → List LearnerCall → LearnerCall → ℕ → Type 0
Next n calls c slot = ((v : Value) × IsLearned n (calls ++ c ∷ []) slot v) ⊎ (IsChosenOrDecided n (calls ++ c ∷ []) slot → ⊥)

next_accepted : (n : ℕ) (calls : List LearnerCall) (a slot : ℕ) (b : Ballot) (u : Value) → (IsChosenOrDecided n calls slot → ⊥) → Next n calls (Accepted a slot b u) slot
next_accepted n calls a slot b u not = elim (cases_lt n (2 * tally n (has_voted (calls ++ Accepted a slot b u ∷ []) slot b))) [
  | inl majority ↦
      let first = first_of_majority n slot b (calls ++ Accepted a slot b u ∷ []) majority in
      inl (first.0, learned_by_majority n calls a slot b u first.0 not majority first.1)
  | inr none ↦ inr (unsettled_accepted n calls a slot b u not (λ majority. absurd (omega (arith, majority, none))))
]

next_here : (n : ℕ) (calls : List LearnerCall) (c : LearnerCall) → (IsChosenOrDecided n calls (slot_of c) → ⊥) → Next n calls c (slot_of c)
next_here n calls (Accepted a slot b u) not = next_accepted n calls a slot b u not
next_here n calls (Decided slot u) not = inl (u, learned_by_decision n calls slot u not)

next : (n : ℕ) (calls : List LearnerCall) (c : LearnerCall) (slot : ℕ) → (IsChosenOrDecided n calls slot → ⊥) → Next n calls c slot
next n calls c slot not = elim (cases_eq slot (slot_of c)) [
  | inl same ↦ subst (Next n calls c) (sym same) (next_here n calls c (subst (λ (s : ℕ). IsChosenOrDecided n calls s → ⊥) same not))
  | inr differs ↦ inr (unsettled_apart n calls c slot (other_apart n slot c differs) not)
]

learned_on : (n : ℕ) (before rest : List LearnerCall) (slot : ℕ) → (IsChosenOrDecided n before slot → ⊥) → IsChosenOrDecided n (before ++ rest) slot → (v : Value) × IsLearned n (before ++ rest) slot v
learned_on n before [] slot not settled = absurd (not (subst (λ (l : List LearnerCall). IsChosenOrDecided n l slot) (append-nil before) settled))
learned_on n before (c ∷ rest) slot not settled =
    let split : (before ++ c ∷ []) ++ rest ≡ before ++ c ∷ rest = append_assoc before (c ∷ []) rest in
    elim (next n before c slot not) [
      | inl learned ↦ (learned.0, subst (λ (l : List LearnerCall). IsLearned n l slot learned.0) split (learned_more n (before ++ c ∷ []) rest slot learned.0 learned.1))
      | inr still ↦
          let further = learned_on n (before ++ c ∷ []) rest slot still (subst (λ (l : List LearnerCall). IsChosenOrDecided n l slot) (sym split) settled) in
          (further.0, subst (λ (l : List LearnerCall). IsLearned n l slot further.0) split further.1)
    ]

none_settled : (n k : ℕ) → tally k (λ member. false) ≡ 0
none_settled n zero = refl
none_settled n (suc k) = none_settled n k

pub unsettled_at_first : (n slot : ℕ) → IsChosenOrDecided n [] slot → ⊥
unsettled_at_first n slot (inl told) = let no : false ≡ true = told in absurd cc
unsettled_at_first n slot (inr chosen) = let none = none_settled n n in absurd (omega (arith, chosen.1, none))

pub learned_of_settled : (n : ℕ) (calls : List LearnerCall) (slot : ℕ) → IsChosenOrDecided n calls slot → (v : Value) × IsLearned n calls slot v
learned_of_settled n calls slot settled = learned_on n [] calls slot (unsettled_at_first n slot) settled
