-- What one more call does to the votes, to the first values, and to whether a slot is settled.
use Rattle.std.proofs.Common.{◌≡◌, ◌≢◌, ℕ, ◌<◌, ◌==◌, inl, inr, Bool, true, false, cond, nat_lt, ◌||◌, List, [], ◌∷◌, ◌++◌, find, Option, Some, None, refl, sym, ap, subst, ◌∙◌, arith}
use Rattle.std.specs.List.{list_any}
use Rattle.std.specs.Option.{option_map, option_or}
use Rattle.std.proofs.Math.Bool.{or-false}
use Rattle.std.proofs.lemmas.Bool.{eq-eqb}
use Rattle.std.proofs.lemmas.Bool.Decides.{eqb_tells, nat_tests}
use Rattle.std.proofs.lemmas.Grind.{common_steps}
use Rattle.std.proofs.lemmas.List.Folds.{list_any-append, find-append}
use Rattle.ballots.specs.Ballot.{Ballot, is_same_ballot}
use Rattle.ballots.specs.Majority.{tally, IsMajority}
use Rattle.ballots.specs.declared.value.Value.{Value}
use Rattle.ballots.proofs.CallerLemmas.{same_ballot_is, tally_more, tally_same, some_member}
use Rattle.learner.specs.Calls.{LearnerCall, Accepted, Decided, value_in, slot_of, is_decision_for, is_vote_of, is_counted, has_voted, first_counted, IsChosenOrDecided}

-- ---- one more call

pub votes_with : (calls : List LearnerCall) (c : LearnerCall) (slot : ℕ) (b : Ballot) (member : ℕ)
    → has_voted (calls ++ c ∷ []) slot b member ≡ (has_voted calls slot b member || is_vote_of member slot b c)
votes_with calls c slot b member =
    list_any-append (is_vote_of member slot b) calls (c ∷ []) ∙ ap (λ (x : Bool). has_voted calls slot b member || x) (or-false (is_vote_of member slot b c))

map_or : (o p : Option LearnerCall) → option_map value_in (option_or o p) ≡ option_or (option_map value_in o) (option_map value_in p)
map_or None p = refl
map_or (Some c) p = refl

pub or_none : (o : Option Value) → option_or o None ≡ o
or_none None = refl
or_none (Some v) = refl

pub first_with : (n : ℕ) (calls : List LearnerCall) (c : LearnerCall) (slot : ℕ) (b : Ballot)
    → first_counted n (calls ++ c ∷ []) slot b ≡ option_or (first_counted n calls slot b) (first_counted n (c ∷ []) slot b)
first_with n calls c slot b =
    ap (option_map value_in) (find-append (is_counted n slot b) calls (c ∷ [])) ∙ map_or (find (is_counted n slot b) calls) (find (is_counted n slot b) (c ∷ []))

-- the first value of one call alone
pub first_alone : (n slot : ℕ) (b : Ballot) (c : LearnerCall) → is_counted n slot b c ≡ true → first_counted n (c ∷ []) slot b ≡ Some (value_in c)
first_alone n slot b c counted = ap (λ (x : Bool). option_map value_in (cond x (Some c) None)) counted

pub none_alone : (n slot : ℕ) (b : Ballot) (c : LearnerCall) → is_counted n slot b c ≡ false → first_counted n (c ∷ []) slot b ≡ None
none_alone n slot b c not = ap (λ (x : Bool). option_map value_in (cond x (Some c) None)) not

-- a slot that is settled stays so
pub settled_more : (n : ℕ) (calls more : List LearnerCall) (slot : ℕ) → IsChosenOrDecided n calls slot → IsChosenOrDecided n (calls ++ more) slot
settled_more n calls more slot (inl told) =
    inl (list_any-append (is_decision_for slot) calls more ∙ ap (λ (x : Bool). x || list_any (is_decision_for slot) more) told)
settled_more n calls more slot (inr chosen) =
    let votes : (a : ℕ) → a < n → has_voted calls slot chosen.0 a ≡ true → has_voted (calls ++ more) slot chosen.0 a ≡ true = λ a lt e. list_any-append (is_vote_of a slot chosen.0) calls more ∙ ap (λ (x : Bool). x || list_any (is_vote_of a slot chosen.0) more) e in
    inr (chosen.0, omega (arith, chosen.1, tally_more n (has_voted calls slot chosen.0) (has_voted (calls ++ more) slot chosen.0) votes))

-- what is told of it by one more call settles it
pub settled_by_decision : (n : ℕ) (calls : List LearnerCall) (slot : ℕ) (v : Value) → IsChosenOrDecided n (calls ++ Decided slot v ∷ []) slot
settled_by_decision n calls slot v =
    let here : list_any (is_decision_for slot) (Decided slot v ∷ []) ≡ true = ap (λ (x : Bool). x || false) (eq-eqb slot slot refl) in
    inl (list_any-append (is_decision_for slot) calls (Decided slot v ∷ []) ∙ grind (arith, common_steps))

-- a slot that is not settled stays so where the call is no decision for it and makes no new majority
pub still_unsettled : (n : ℕ) (calls : List LearnerCall) (c : LearnerCall) (slot : ℕ) → (IsChosenOrDecided n calls slot → ⊥) → is_decision_for slot c ≡ false
    → ((b : Ballot) → IsMajority n (tally n (has_voted (calls ++ c ∷ []) slot b)) → IsMajority n (tally n (has_voted calls slot b)))
    → IsChosenOrDecided n (calls ++ c ∷ []) slot → ⊥
still_unsettled n calls c slot not none majority (inl told) =
    let was : (list_any (is_decision_for slot) calls || list_any (is_decision_for slot) (c ∷ [])) ≡ true = sym (list_any-append (is_decision_for slot) calls (c ∷ [])) ∙ told in
    not (inl (grind (arith, common_steps)))
still_unsettled n calls c slot not none majority (inr chosen) = not (inr (chosen.0, majority chosen.0 chosen.1))

-- ---- calls that tell nothing that counts for the slot

pub record IsApart (n slot : ℕ) (c : LearnerCall) : Type 0 where
  pub decision : is_decision_for slot c ≡ false
  pub vote : (b : Ballot) (member : ℕ) → member < n → is_vote_of member slot b c ≡ false
  pub counted : (b : Ballot) → is_counted n slot b c ≡ false

pub other_apart : (n slot : ℕ) (c : LearnerCall) → slot ≢ slot_of c → IsApart n slot c
other_apart n slot (Accepted a s b v) differs =
    let no : (s == slot) ≡ false = grind (arith, nat_tests) in
    record {
      decision = refl;
      vote = λ b' m lt. grind (arith, common_steps);
      counted = λ b'. grind (arith, common_steps);
    }
other_apart n slot (Decided s v) differs =
    record {
      decision = grind (arith, nat_tests);
      vote = λ b' m lt. refl;
      counted = λ b'. refl;
    }

pub stranger_apart : (n slot a s : ℕ) (b : Ballot) (v : Value) → (a < n → ⊥) → IsApart n slot (Accepted a s b v)
stranger_apart n slot a s b v stranger =
    let no : nat_lt a n ≡ false = grind (arith, nat_tests) in
    record {
      decision = refl;
      vote = λ b' m lt. let differs : (a == m) ≡ false = grind (arith, nat_tests) in grind (arith, common_steps);
      counted = λ b'. grind (arith, common_steps);
    }

module _ (n : ℕ) (calls : List LearnerCall) (c : LearnerCall) (slot : ℕ) (apart : IsApart n slot c) where
  pub votes_apart : (b : Ballot) (member : ℕ) → member < n → has_voted (calls ++ c ∷ []) slot b member ≡ has_voted calls slot b member
  votes_apart b member lt =
      votes_with calls c slot b member ∙ ap (λ (x : Bool). has_voted calls slot b member || x) (apart.vote b member lt) ∙ or-false (has_voted calls slot b member)

  pub first_apart : (b : Ballot) → first_counted n (calls ++ c ∷ []) slot b ≡ first_counted n calls slot b
  first_apart b =
      first_with n calls c slot b ∙ ap (option_or (first_counted n calls slot b)) (none_alone n slot b c (apart.counted b)) ∙ or_none (first_counted n calls slot b)

  pub unsettled_apart : (IsChosenOrDecided n calls slot → ⊥) → IsChosenOrDecided n (calls ++ c ∷ []) slot → ⊥
  unsettled_apart not =
      still_unsettled n calls c slot not apart.decision (λ b majority. subst (IsMajority n) (tally_same n (has_voted (calls ++ c ∷ []) slot b) (has_voted calls slot b) (votes_apart b)) majority)

-- ---- an acceptance at one slot and ballot

module _ (a slot : ℕ) (b : Ballot) (v : Value) where
  pub vote_there : (m : ℕ) → is_vote_of m slot b (Accepted a slot b v) ≡ (a == m)
  vote_there m =
      let same_slot : (slot == slot) ≡ true = eq-eqb slot slot refl in
      let same : is_same_ballot b b ≡ true = (same_ballot_is b b).1 refl in
      grind (arith, common_steps)

  pub vote_other_ballot : (m s : ℕ) (c : Ballot) → is_same_ballot b c ≡ false → is_vote_of m s c (Accepted a slot b v) ≡ false
  vote_other_ballot m s c differs = grind (arith, common_steps)

  pub counted_other_ballot : (n s : ℕ) (c : Ballot) → is_same_ballot b c ≡ false → is_counted n s c (Accepted a slot b v) ≡ false
  counted_other_ballot n s c differs = grind (arith, common_steps)

  pub counted_there : (n : ℕ) → a < n → is_counted n slot b (Accepted a slot b v) ≡ true
  counted_there n lt =
      let member : nat_lt a n ≡ true = grind (arith, nat_tests) in
      let same_slot : (slot == slot) ≡ true = eq-eqb slot slot refl in
      let same : is_same_ballot b b ≡ true = (same_ballot_is b b).1 refl in
      grind (arith, common_steps)

-- ---- an acceptance of the slot

module _ (n : ℕ) (calls : List LearnerCall) (a slot : ℕ) (b : Ballot) (v : Value) where
  abbrev told : LearnerCall
  told = Accepted a slot b v

  -- it can make a majority at its own ballot alone
  by_ballot : (c : Ballot) (x : Bool) → is_same_ballot b c ≡ x → (IsMajority n (tally n (has_voted (calls ++ told ∷ []) slot b)) → ⊥)
      → IsMajority n (tally n (has_voted (calls ++ told ∷ []) slot c)) → IsMajority n (tally n (has_voted calls slot c))
  by_ballot c true same not majority =
      absurd (not (subst (λ (d : Ballot). IsMajority n (tally n (has_voted (calls ++ told ∷ []) slot d))) (sym ((same_ballot_is b c).0 same)) majority))
  by_ballot c false differs not majority =
      let votes : (m : ℕ) → m < n → has_voted (calls ++ told ∷ []) slot c m ≡ has_voted calls slot c m = λ m lt. votes_with calls told slot c m ∙ ap (λ (x : Bool). has_voted calls slot c m || x) (vote_other_ballot a slot b v m slot c differs) ∙ or-false (has_voted calls slot c m) in
      subst (IsMajority n) (tally_same n (has_voted (calls ++ told ∷ []) slot c) (has_voted calls slot c) votes) majority

  pub unsettled_accepted : (IsChosenOrDecided n calls slot → ⊥) → (IsMajority n (tally n (has_voted (calls ++ told ∷ []) slot b)) → ⊥)
      → IsChosenOrDecided n (calls ++ told ∷ []) slot → ⊥
  unsettled_accepted not no_majority =
      still_unsettled n calls told slot not refl (λ c majority. by_ballot c (is_same_ballot b c) refl no_majority majority)

  -- the votes at its ballot
  pub votes_there : (m : ℕ) → has_voted (calls ++ told ∷ []) slot b m ≡ (has_voted calls slot b m || (a == m))
  votes_there m = votes_with calls told slot b m ∙ ap (λ (x : Bool). has_voted calls slot b m || x) (vote_there a slot b v m)

  -- and the first value there, where a member told it
  pub first_there : a < n → first_counted n (calls ++ told ∷ []) slot b ≡ option_or (first_counted n calls slot b) (Some v)
  first_there lt =
      first_with n calls told slot b ∙ ap (option_or (first_counted n calls slot b)) (first_alone n slot b told (counted_there a slot b v n lt))

-- ---- a majority has a first value

no_vote : (n slot m : ℕ) (b : Ballot) (c : LearnerCall) → m < n → is_counted n slot b c ≡ false → is_vote_of m slot b c ≡ false
no_vote n slot m b (Accepted a s d v) lt not = elim (eqb_tells a m) [
  | inl same ↦
      let member : nat_lt a n ≡ true = grind (arith, nat_tests) in
      grind (arith, common_steps)
  | inr differs ↦ let no = differs.0 in grind (arith, common_steps)
]
no_vote n slot m b (Decided s v) lt not = refl

abbrev Counted : (n slot : ℕ) (b : Ballot) → List LearnerCall → Type 0
Counted n slot b calls = (v : Value) × (first_counted n calls slot b ≡ Some v)

counted_step : (n slot m : ℕ) (b : Ballot) (c : LearnerCall) (calls : List LearnerCall) (x : Bool) → is_counted n slot b c ≡ x → m < n → has_voted (c ∷ calls) slot b m ≡ true
    → (has_voted calls slot b m ≡ true → Counted n slot b calls) → Counted n slot b (c ∷ calls)
counted_step n slot m b c calls true counted lt e rest =
    (value_in c, ap (λ (x : Bool). option_map value_in (cond x (Some c) (find (is_counted n slot b) calls))) counted)
counted_step n slot m b c calls false not lt e rest =
    let later = rest (ap (λ (x : Bool). x || has_voted calls slot b m) (sym (no_vote n slot m b c lt not)) ∙ e) in
    (later.0, ap (λ (x : Bool). option_map value_in (cond x (Some c) (find (is_counted n slot b) calls))) not ∙ later.1)

any_counted : (n slot m : ℕ) (b : Ballot) (calls : List LearnerCall) → m < n → has_voted calls slot b m ≡ true → Counted n slot b calls
any_counted n slot m b [] lt e = absurd (let no : false ≡ true = e in cc)
any_counted n slot m b (c ∷ calls) lt e =
    counted_step n slot m b c calls (is_counted n slot b c) refl lt e (λ f. any_counted n slot m b calls lt f)

pub first_of_majority : (n slot : ℕ) (b : Ballot) (calls : List LearnerCall) → IsMajority n (tally n (has_voted calls slot b)) → (v : Value) × (first_counted n calls slot b ≡ Some v)
first_of_majority n slot b calls majority =
    let some = some_member n (has_voted calls slot b) (omega (arith, majority)) in
    any_counted n slot some.member b calls some.within some.is_in
