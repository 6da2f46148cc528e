-- What a learner holds after one more call.
use Rattle.std.proofs.Common.{◌≡◌, ◌≢◌, ℕ, ◌<◌, inl, inr, Bool, false, nat_eq, ◌==◌, ◌||◌, List, [], ◌∷◌, ◌++◌, Option, Some, None, unwrap_or, refl, sym, ap, subst, ◌∙◌, arith}
use Rattle.std.specs.Option.{option_map, option_map_or, option_and_then, option_or}
use Rattle.std.specs.Map.{lookup}
use Rattle.std.proofs.lemmas.Bool.{cases_eq, cases_lt}
use Rattle.ballots.specs.Ballot.{Ballot}
use Rattle.ballots.specs.Majority.{tally, IsMajority}
use Rattle.ballots.specs.declared.value.Value.{Value}
use Rattle.ballots.proofs.CallerLemmas.{tally_same}
use Rattle.learner.specs.Calls.{LearnerCall, Accepted, Decided, slot_of, is_vote_of, has_voted, first_counted, IsChosenOrDecided, IsLearned}
use Rattle.learner.specs.State.{LearnerState, has_vote, tally_in, decided_at, tally_at, voted_at, first_at}
use Rattle.learner.specs.Learned.{StateAfter, IsSame}
use Rattle.learner.specs.Changes.{Counts, Puts, IsChosenWith}
use Rattle.learner.proofs.Settling.{IsApart, other_apart, stranger_apart, votes_with, first_with, none_alone, votes_apart, first_apart, unsettled_apart, votes_there, first_there, unsettled_accepted}
use Rattle.learner.proofs.OneValue.{learned_more, learned_by_decision, learned_by_majority, settled_of_learned, unsettled_at_first}

-- look-ups that answer as before
pub same_learnt : (n : ℕ) (calls : List LearnerCall) (old new : LearnerState) → IsSame old new → StateAfter n calls old → StateAfter n calls new
same_learnt n calls old new same l = record {
  members = same.members ∙ l.members;
  learned = λ slot value e. l.learned slot value (sym (same.decided slot) ∙ e);
  gone = λ slot b value e. same.firsts slot b ∙ l.gone slot b value (sym (same.decided slot) ∙ e);
  unsettled = λ slot e. l.unsettled slot (sym (same.decided slot) ∙ e);
  votes = λ slot b m e lt. same.votes slot b m ∙ l.votes slot b m (sym (same.decided slot) ∙ e) lt;
  firsts = λ slot b e. same.firsts slot b ∙ l.firsts slot b (sym (same.decided slot) ∙ e);
}

-- what counts for no slot that is not learned changes nothing
pub learnt_ignores : (n : ℕ) (calls : List LearnerCall) (c : LearnerCall) (h : LearnerState) → StateAfter n calls h → ((slot : ℕ) → decided_at h slot ≡ None → IsApart n slot c)
    → StateAfter n (calls ++ c ∷ []) h
learnt_ignores n calls c h l apart = record {
  members = l.members;
  learned = λ slot value e. learned_more n calls (c ∷ []) slot value (l.learned slot value e);
  gone = l.gone;
  unsettled = λ slot e. unsettled_apart n calls c slot (apart slot e) (l.unsettled slot e);
  votes = λ slot b m e lt. l.votes slot b m e lt ∙ sym (votes_apart n calls c slot (apart slot e) b m lt);
  firsts = λ slot b e. l.firsts slot b e ∙ sym (first_apart n calls c slot (apart slot e) b);
}

-- the call's slot has learned
pub learnt_over_learned : (n : ℕ) (calls : List LearnerCall) (c : LearnerCall) (h : LearnerState) → StateAfter n calls h → (decided_at h (slot_of c) ≡ None → ⊥) → StateAfter n (calls ++ c ∷ []) h
learnt_over_learned n calls c h l has =
    learnt_ignores n calls c h l (λ slot e. other_apart n slot c (λ (same : slot ≡ slot_of c). has (subst (λ (s : ℕ). decided_at h s ≡ None) same e)))

-- it is told by a node that is no member
pub learnt_stranger : (n : ℕ) (calls : List LearnerCall) (a s : ℕ) (b : Ballot) (v : Value) (h : LearnerState) → StateAfter n calls h → (a < h.members → ⊥) → StateAfter n (calls ++ Accepted a s b v ∷ []) h
learnt_stranger n calls a s b v h l stranger =
    learnt_ignores n calls (Accepted a s b v) h l (λ slot e. stranger_apart n slot a s b v (λ lt. stranger (omega (arith, lt, l.members))))

-- the slot learns this value
module _ (n : ℕ) (calls : List LearnerCall) (c : LearnerCall) (old new : LearnerState) (value : Value) (l : StateAfter n calls old) (puts : Puts old new (slot_of c) value)
    (learned : IsLearned n (calls ++ c ∷ []) (slot_of c) value) where
  is_other : (slot : ℕ) → decided_at new slot ≡ None → slot ≢ slot_of c
  is_other slot e same = absurd (some_none (sym puts.here ∙ sym (ap (decided_at new) same) ∙ e))
    where
      some_none : Some value ≡ None → ⊥
      some_none is = cc

  was_none : (slot : ℕ) → decided_at new slot ≡ None → decided_at old slot ≡ None
  was_none slot e = sym (puts.decided slot (is_other slot e)) ∙ e

  learned_at : (slot : ℕ) (v : Value) → decided_at new slot ≡ Some v → IsLearned n (calls ++ c ∷ []) slot v
  learned_at slot v e = elim (cases_eq slot (slot_of c)) [
    | inl same ↦
        let is : value ≡ v = some_one (sym puts.here ∙ sym (ap (decided_at new) same) ∙ e) in
        subst (λ (s : ℕ). IsLearned n (calls ++ c ∷ []) s v) (sym same) (subst (IsLearned n (calls ++ c ∷ []) (slot_of c)) is learned)
    | inr differs ↦ learned_more n calls (c ∷ []) slot v (l.learned slot v (sym (puts.decided slot differs) ∙ e))
  ]
    where
      some_one : Some value ≡ Some v → value ≡ v
      some_one is = cc

  gone_at : (slot : ℕ) (b : Ballot) (v : Value) → decided_at new slot ≡ Some v → first_at new slot b ≡ None
  gone_at slot b v e = elim (cases_eq slot (slot_of c)) [
    | inl same ↦ ap (λ (s : ℕ). first_at new s b) same ∙ puts.gone b
    | inr differs ↦
        ap (λ (o : _). option_map (λ t. t.value) o) (puts.tallies slot b differs) ∙ l.gone slot b v (sym (puts.decided slot differs) ∙ e)
  ]

  pub learnt_puts : StateAfter n (calls ++ c ∷ []) new
  learnt_puts = record {
    members = puts.members ∙ l.members;
    learned = learned_at;
    gone = gone_at;
    unsettled = λ slot e. unsettled_apart n calls c slot (other_apart n slot c (is_other slot e)) (l.unsettled slot (was_none slot e));
    votes = λ slot b m e lt.
        ap (λ (o : _). option_map_or (λ t. has_vote t m) o false) (puts.tallies slot b (is_other slot e))
        ∙ l.votes slot b m (was_none slot e) lt ∙ sym (votes_apart n calls c slot (other_apart n slot c (is_other slot e)) b m lt);
    firsts = λ slot b e.
        ap (λ (o : _). option_map (λ t. t.value) o) (puts.tallies slot b (is_other slot e))
        ∙ l.firsts slot b (was_none slot e) ∙ sym (first_apart n calls c slot (other_apart n slot c (is_other slot e)) b);
  }

pub learnt_decides : (n : ℕ) (calls : List LearnerCall) (slot : ℕ) (value : Value) (old new : LearnerState) → StateAfter n calls old → decided_at old slot ≡ None → Puts old new slot value
    → StateAfter n (calls ++ Decided slot value ∷ []) new
learnt_decides n calls slot value old new l none puts =
    learnt_puts n calls (Decided slot value) old new value l puts (learned_by_decision n calls slot value (l.unsettled slot none))

-- a member's vote, at a slot that has not learned
module _ (n : ℕ) (calls : List LearnerCall) (a slot : ℕ) (b : Ballot) (v : Value) (old : LearnerState) (l : StateAfter n calls old) (none : decided_at old slot ≡ None) where
  abbrev told : LearnerCall
  told = Accepted a slot b v

  -- the majority that the learner counts is that of the calls
  same_votes : (m : ℕ) → m < n → (voted_at old slot b m || (a == m)) ≡ has_voted (calls ++ told ∷ []) slot b m
  same_votes m lt = ap (λ (x : Bool). x || (a == m)) (l.votes slot b m none lt) ∙ sym (votes_there n calls a slot b v m)

  same_size : tally n (λ m. voted_at old slot b m || (a == m)) ≡ tally n (has_voted (calls ++ told ∷ []) slot b)
  same_size = tally_same n (λ m. voted_at old slot b m || (a == m)) (has_voted (calls ++ told ∷ []) slot b) same_votes

  pub majority_of_chosen : IsChosenWith old a slot b → IsMajority n (tally n (has_voted (calls ++ told ∷ []) slot b))
  majority_of_chosen chosen =
      subst (IsMajority n) same_size (subst (λ (k : ℕ). IsMajority k (tally k (λ m. voted_at old slot b m || (a == m)))) l.members chosen)

  pub chosen_of_majority : IsMajority n (tally n (has_voted (calls ++ told ∷ []) slot b)) → IsChosenWith old a slot b
  chosen_of_majority majority =
      subst (λ (k : ℕ). IsMajority k (tally k (λ m. voted_at old slot b m || (a == m)))) (sym l.members) (subst (IsMajority n) (sym same_size) majority)

  or_some : (o : Option Value) → option_or o (Some v) ≡ Some (unwrap_or o v)
  or_some None = refl
  or_some (Some u) = refl

  pub first_told : a < old.members → first_counted n (calls ++ told ∷ []) slot b ≡ Some (unwrap_or (first_at old slot b) v)
  first_told member =
      first_there n calls a slot b v (omega (arith, member, l.members)) ∙ ap (λ (o : Option Value). option_or o (Some v)) (sym (l.firsts slot b none)) ∙ or_some (first_at old slot b)

  -- with it the slot learns
  pub learned_by_vote : a < old.members → IsChosenWith old a slot b → IsLearned n (calls ++ told ∷ []) slot (unwrap_or (first_at old slot b) v)
  learned_by_vote member chosen =
      learned_by_majority n calls a slot b v (unwrap_or (first_at old slot b) v) (l.unsettled slot none) (majority_of_chosen chosen) (first_told member)

  -- or it does not
  pub unsettled_by_vote : (IsChosenWith old a slot b → ⊥) → IsChosenOrDecided n (calls ++ told ∷ []) slot → ⊥
  unsettled_by_vote not = unsettled_accepted n calls a slot b v (l.unsettled slot none) (λ majority. not (chosen_of_majority majority))

  pub learnt_chooses : (new : LearnerState) → a < old.members → IsChosenWith old a slot b → Puts old new slot (unwrap_or (first_at old slot b) v) → StateAfter n (calls ++ told ∷ []) new
  learnt_chooses new member chosen puts =
      learnt_puts n calls told old new (unwrap_or (first_at old slot b) v) l puts (learned_by_vote member chosen)

  still : (IsChosenWith old a slot b → ⊥) → (s : ℕ) → decided_at old s ≡ None → IsChosenOrDecided n (calls ++ told ∷ []) s → ⊥
  still not s e = elim (cases_eq s slot) [
    | inl same ↦ subst (λ (k : ℕ). IsChosenOrDecided n (calls ++ told ∷ []) k → ⊥) (sym same) (unsettled_by_vote not)
    | inr differs ↦ unsettled_apart n calls told s (other_apart n s told differs) (l.unsettled s e)
  ]

  is_other_slot : (s : ℕ) (value : Value) → decided_at old s ≡ Some value → s ≢ slot
  is_other_slot s value e same = absurd (some_none (sym e ∙ ap (decided_at old) same ∙ none))
    where
      some_none : Some value ≡ None → ⊥
      some_none is = cc

  pub learnt_counts : (new : LearnerState) → a < old.members → (IsChosenWith old a slot b → ⊥) → Counts old new a slot b v → StateAfter n (calls ++ told ∷ []) new
  learnt_counts new member not counts = record {
    members = counts.members ∙ l.members;
    learned = λ s value e. learned_more n calls (told ∷ []) s value (l.learned s value (sym (counts.decided s) ∙ e));
    gone = λ s c value e.
        let was : decided_at old s ≡ Some value = sym (counts.decided s) ∙ e in
        counts.firsts s c member ∙ ap (λ (o : Option Value). option_or o (first_counted old.members (told ∷ []) s c)) (l.gone s c value was)
        ∙ none_alone old.members s c told ((other_apart old.members s told (is_other_slot s value was)).counted c);
    unsettled = λ s e. still not s (sym (counts.decided s) ∙ e);
    votes = λ s c m e lt.
        counts.votes s c m ∙ ap (λ (x : Bool). x || is_vote_of m s c told) (l.votes s c m (sym (counts.decided s) ∙ e) lt) ∙ sym (votes_with calls told s c m);
    firsts = λ s c e.
        counts.firsts s c member
        ∙ ap (λ (k : ℕ). option_or (first_at old s c) (first_counted k (told ∷ []) s c)) l.members
        ∙ ap (λ (o : Option Value). option_or o (first_counted n (told ∷ []) s c)) (l.firsts s c (sym (counts.decided s) ∙ e)) ∙ sym (first_with n calls told s c);
  }

-- ---- calls that the learner passes over

-- it is told by no member, or the slot has learned
pub learnt_closed : (n : ℕ) (calls : List LearnerCall) (a s : ℕ) (b : Ballot) (v : Value) (h : LearnerState) → StateAfter n calls h
    → ((a < h.members) × (decided_at h s ≡ None) → ⊥) → StateAfter n (calls ++ Accepted a s b v ∷ []) h
learnt_closed n calls a s b v h l closed = elim (cases_lt a h.members) [
  | inl lt ↦ learnt_over_learned n calls (Accepted a s b v) h l (λ none. closed (lt, none))
  | inr le ↦ learnt_stranger n calls a s b v h l (λ lt. absurd (omega (arith, lt, le)))
]

-- it settles nothing
pub settles_nothing : (n : ℕ) (calls more : List LearnerCall) (slot : ℕ) (h : LearnerState) → StateAfter n calls h → StateAfter n more h → IsChosenOrDecided n more slot → IsChosenOrDecided n calls slot
settles_nothing n calls more slot h l m settled = by (decided_at h slot) refl
  where
    by : (o : Option Value) → decided_at h slot ≡ o → IsChosenOrDecided n calls slot
    by None e = absurd (m.unsettled slot e settled)
    by (Some value) e = settled_of_learned n calls slot value (l.learned slot value e)

-- ---- a learner that was told nothing

pub learnt_at_first : (n : ℕ) (h : LearnerState) → h.members ≡ n → h.learned.entries ≡ [] → h.tallies.entries ≡ [] → StateAfter n [] h
learnt_at_first n h members learned tallies = record {
  members = members;
  learned = λ slot value e.
      let none : decided_at h slot ≡ None = ap (lookup (nat_eq slot)) learned in
      absurd (let no : None ≡ Some value = sym none ∙ e in cc);
  gone = λ slot b value e.
      let none : decided_at h slot ≡ None = ap (lookup (nat_eq slot)) learned in
      absurd (let no : None ≡ Some value = sym none ∙ e in cc);
  unsettled = λ slot e. unsettled_at_first n slot;
  votes = λ slot b m e lt.
      let none : tally_at h slot b ≡ None = ap (λ (es : _). option_and_then (λ t. tally_in t b) (lookup (nat_eq slot) es)) tallies in
      ap (λ (o : _). option_map_or (λ t. has_vote t m) o false) none;
  firsts = λ slot b e.
      let none : tally_at h slot b ≡ None = ap (λ (es : _). option_and_then (λ t. tally_in t b) (lookup (nat_eq slot) es)) tallies in
      ap (λ (o : _). option_map (λ t. t.value) o) none;
}
