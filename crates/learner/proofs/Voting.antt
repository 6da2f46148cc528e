-- Votes, decisions and first values in the words of the calls.
use Rattle.std.proofs.Common.{◌≡◌, ℕ, ◌*◌, ◌<◌, ◌==◌, ◌&&◌, ◌||◌, ◌⊎◌, ◌↔◌, inl, inr, Bool, true, false, cond, nat_lt, List, [], ◌∷◌, ◌++◌, find, Option, Some, None, refl, sym, ap, subst, ◌∙◌, arith}
use Rattle.std.specs.List.{Contains, list_any}
use Rattle.std.specs.Option.{option_map, option_map_or}
use Rattle.std.proofs.lemmas.Bool.{cases_eq, cases_lt}
use Rattle.std.proofs.lemmas.Bool.Decides.{nat_tests}
use Rattle.std.proofs.lemmas.List.Elements.{Contains-push, Contains-append_left, Contains-append_right, Contains-append_cases, Contains-push_cases}
use Rattle.std.proofs.lemmas.List.{append_assoc}
use Rattle.ballots.specs.Ballot.{Ballot, is_same_ballot}
use Rattle.ballots.specs.Majority.{tally, IsMajority}
use Rattle.ballots.specs.declared.value.Value.{Value}
use Rattle.ballots.proofs.CallerLemmas.{same_ballot_is, majority_stays}
use Rattle.learner.specs.Calls.{LearnerCall, Accepted, Decided, value_in, slot_of, is_decision_for, is_vote_of, is_counted, has_voted, first_counted, IsChosenOrDecided, DecidingValue, IsLearned, Learns}
use Rattle.learner.specs.declared.tally.Tally.{Tally}
use Rattle.learner.specs.State.{LearnerState, has_vote, decided_at, tally_at, voted_at, first_at}
use Rattle.learner.specs.Learned.{StateAfter}
use Rattle.learner.specs.Votes.{HasAccepted, MajorityAccepted, IsDecidedOrChosen}
use Rattle.learner.proofs.Settling.{vote_there, counted_there, unsettled_accepted, unsettled_apart, other_apart}
use Rattle.learner.proofs.OneValue.{one_value, learned_of_settled, settled_of_learned}

-- ---- one element of a list

here : (c : LearnerCall) (calls : List LearnerCall) → Contains (c ∷ calls) c
here c calls = Contains-append_left (c ∷ []) calls c (Contains-push [] c)

there : (c d : LearnerCall) (calls : List LearnerCall) → Contains calls d → Contains (c ∷ calls) d
there c d calls is_in = Contains-append_right (c ∷ []) calls d is_in

nowhere : (d : LearnerCall) → Contains [] d → ⊥
nowhere d is_in = absurd (omega (arith, is_in.1))

first_or_rest : (c d : LearnerCall) (calls : List LearnerCall) → Contains (c ∷ calls) d → (c ≡ d) ⊎ Contains calls d
first_or_rest c d calls is_in = elim (Contains-append_cases (c ∷ []) calls d is_in) as (λ _. (c ≡ d) ⊎ Contains calls d) [
  | inl one ↦ elim (Contains-push_cases [] c d one) as (λ _. (c ≡ d) ⊎ Contains calls d) [
    | inl none ↦ absurd (nowhere d none)
    | inr same ↦ inl same
  ]
  | inr rest ↦ inr rest
]

-- ---- what a call tells

both_true : (x y : Bool) → (x && y) ≡ true → (x ≡ true) × (y ≡ true)
both_true true true e = (refl, refl)
both_true true false e = (refl, e)
both_true false true e = (e, refl)
both_true false false e = (e, e)

decision_is : (slot : ℕ) (c : LearnerCall) → is_decision_for slot c ≡ true → (v : Value) × (c ≡ Decided slot v)
decision_is slot (Accepted a s b v) is = absurd (let no : false ≡ true = is in cc)
decision_is slot (Decided s v) is = (v, ap (λ (t : ℕ). Decided t v) (grind (arith, nat_tests, is)))

vote_is : (member slot : ℕ) (b : Ballot) (c : LearnerCall) → is_vote_of member slot b c ≡ true → (v : Value) × (c ≡ Accepted member slot b v)
vote_is member slot b (Accepted a s d v) is =
    let outer : (((a == member) && (s == slot)) ≡ true) × (is_same_ballot d b ≡ true) = both_true _ _ is in
    let inner : ((a == member) ≡ true) × ((s == slot) ≡ true) = both_true _ _ outer.0 in
    let members_are : a ≡ member = grind (arith, nat_tests, inner.0) in
    let slots_are : s ≡ slot = grind (arith, nat_tests, inner.1) in
    let ballots_are : d ≡ b = (same_ballot_is d b).0 outer.1 in
    (v, ap (λ (x : ℕ). Accepted x s d v) members_are ∙ ap (λ (x : ℕ). Accepted member x d v) slots_are ∙ ap (λ (x : Ballot). Accepted member slot x v) ballots_are)
vote_is member slot b (Decided s v) is = absurd (let no : false ≡ true = is in cc)

counted_is : (n slot : ℕ) (b : Ballot) (c : LearnerCall) → is_counted n slot b c ≡ true → (member : ℕ) × (member < n) × (c ≡ Accepted member slot b (value_in c))
counted_is n slot b (Accepted a s d v) is =
    let outer : ((nat_lt a n && (s == slot)) ≡ true) × (is_same_ballot d b ≡ true) = both_true _ _ is in
    let inner : (nat_lt a n ≡ true) × ((s == slot) ≡ true) = both_true _ _ outer.0 in
    let slots_are : s ≡ slot = grind (arith, nat_tests, inner.1) in
    let ballots_are : d ≡ b = (same_ballot_is d b).0 outer.1 in
    (a, grind (arith, nat_tests, inner.0), ap (λ (x : ℕ). Accepted a x d v) slots_are ∙ ap (λ (x : Ballot). Accepted a slot x v) ballots_are)
counted_is n slot b (Decided s v) is = absurd (let no : false ≡ true = is in cc)

-- ---- votes and decisions among the calls

voted_step : (c : LearnerCall) (calls : List LearnerCall) (member slot : ℕ) (b : Ballot) (x : Bool) → is_vote_of member slot b c ≡ x → has_voted (c ∷ calls) slot b member ≡ true
    → (has_voted calls slot b member ≡ true → HasAccepted calls member slot b) → HasAccepted (c ∷ calls) member slot b
voted_step c calls member slot b true vote is rest =
    let told = vote_is member slot b c vote in
    (told.0, subst (Contains (c ∷ calls)) told.1 (here c calls))
voted_step c calls member slot b false not is rest =
    let later = rest (ap (λ (x : Bool). x || has_voted calls slot b member) (sym not) ∙ is) in
    (later.0, there c (Accepted member slot b later.0) calls later.1)

pub voted_then : (calls : List LearnerCall) (member slot : ℕ) (b : Ballot) → has_voted calls slot b member ≡ true → HasAccepted calls member slot b
voted_then [] member slot b is = absurd (let no : false ≡ true = is in cc)
voted_then (c ∷ calls) member slot b is = voted_step c calls member slot b (is_vote_of member slot b c) refl is (voted_then calls member slot b)

or_true : (x : Bool) → (x || true) ≡ true
or_true true = refl
or_true false = refl

pub voted_by : (calls : List LearnerCall) (member slot : ℕ) (b : Ballot) → HasAccepted calls member slot b → has_voted calls slot b member ≡ true
voted_by [] member slot b told = absurd (nowhere _ told.1)
voted_by (c ∷ calls) member slot b told = elim (first_or_rest c (Accepted member slot b told.0) calls told.1) as (λ _. has_voted (c ∷ calls) slot b member ≡ true) [
  | inl same ↦
      let vote : is_vote_of member slot b c ≡ true = ap (is_vote_of member slot b) same ∙ vote_there member slot b told.0 member ∙ grind (arith, nat_tests) in
      ap (λ (x : Bool). x || has_voted calls slot b member) vote
  | inr rest ↦ ap (λ (x : Bool). is_vote_of member slot b c || x) (voted_by calls member slot b (told.0, rest)) ∙ or_true (is_vote_of member slot b c)
]

decision_by : (calls : List LearnerCall) (slot : ℕ) (v : Value) → Contains calls (Decided slot v) → list_any (is_decision_for slot) calls ≡ true
decision_by [] slot v told = absurd (nowhere _ told)
decision_by (c ∷ calls) slot v told = elim (first_or_rest c (Decided slot v) calls told) as (λ _. list_any (is_decision_for slot) (c ∷ calls) ≡ true) [
  | inl same ↦
      let decision : is_decision_for slot c ≡ true = ap (is_decision_for slot) same ∙ grind (arith, nat_tests) in
      ap (λ (x : Bool). x || list_any (is_decision_for slot) calls) decision
  | inr rest ↦ ap (λ (x : Bool). is_decision_for slot c || x) (decision_by calls slot v rest) ∙ or_true (is_decision_for slot c)
]

-- ---- what is learned

pub learned_of_decided : (n : ℕ) (calls : List LearnerCall) (slot : ℕ) (v : Value) → Contains calls (Decided slot v) → (w : Value) × IsLearned n calls slot w
learned_of_decided n calls slot v told = learned_of_settled n calls slot (inl (decision_by calls slot v told))

pub learned_of_chosen : (n : ℕ) (calls : List LearnerCall) (slot : ℕ) (b : Ballot) → MajorityAccepted n calls slot b → (w : Value) × IsLearned n calls slot w
learned_of_chosen n calls slot b chosen =
    learned_of_settled n calls slot
    (inr (b, majority_stays n chosen.is_voter (has_voted calls slot b) (λ m lt is. voted_by calls m slot b (chosen.each m lt is)) chosen.majority))

-- the members that were counted are a majority, and told so
majority_of_votes : (n : ℕ) (calls : List LearnerCall) (slot : ℕ) (b : Ballot) → IsMajority n (tally n (has_voted calls slot b)) → MajorityAccepted n calls slot b
majority_of_votes n calls slot b majority = record {
  is_voter = has_voted calls slot b;
  majority = majority;
  each = λ m lt is. voted_then calls m slot b is;
}

-- it is the first of a member for the slot at the ballot
abbrev First : ℕ → List LearnerCall → ℕ → Ballot → Value → Type 0
First n calls slot b v =
    (before : List LearnerCall) × (member : ℕ) × (after : List LearnerCall) × (calls ≡ before ++ Accepted member slot b v ∷ after) × (member < n)
    × ((m : ℕ) → m < n → HasAccepted before m slot b → ⊥)

some_one : (w u : Value) → Some w ≡ Some u → w ≡ u
some_one w u e = cc

none_before : (n slot : ℕ) (b : Ballot) (c : LearnerCall) (before : List LearnerCall) → is_counted n slot b c ≡ false → ((m : ℕ) → m < n → HasAccepted before m slot b → ⊥)
    → (m : ℕ) → m < n → HasAccepted (c ∷ before) m slot b → ⊥
none_before n slot b c before not none m lt accepted = elim (first_or_rest c (Accepted m slot b accepted.0) before accepted.1) as (λ _. ⊥) [
  | inl same ↦
      let counted : is_counted n slot b c ≡ true = ap (is_counted n slot b) same ∙ counted_there m slot b accepted.0 n lt in
      absurd (let no : true ≡ false = sym counted ∙ not in cc)
  | inr rest ↦ none m lt (accepted.0, rest)
]

first_step : (n : ℕ) (c : LearnerCall) (calls : List LearnerCall) (slot : ℕ) (b : Ballot) (v : Value) (x : Bool) → is_counted n slot b c ≡ x → first_counted n (c ∷ calls) slot b ≡ Some v
    → (first_counted n calls slot b ≡ Some v → First n calls slot b v) → First n (c ∷ calls) slot b v
first_step n c calls slot b v true counted is rest =
    let told = counted_is n slot b c counted in
    let value : value_in c ≡ v = some_one (value_in c) v (sym (ap (λ (x : Bool). option_map value_in (cond x (Some c) (find (is_counted n slot b) calls))) counted) ∙ is) in
    ([], told.0, calls, ap (λ (d : LearnerCall). d ∷ calls) (told.2 ∙ ap (Accepted told.0 slot b) value), told.1, λ m lt accepted. nowhere _ accepted.1)
first_step n c calls slot b v false not is rest =
    let later = rest (sym (ap (λ (x : Bool). option_map value_in (cond x (Some c) (find (is_counted n slot b) calls))) not) ∙ is) in
    (c ∷ later.0, later.1, later.2, ap (λ (l : List LearnerCall). c ∷ l) later.3, later.4, none_before n slot b c later.0 not later.5)

pub first_counted_is : (n : ℕ) (calls : List LearnerCall) (slot : ℕ) (b : Ballot) (v : Value) → first_counted n calls slot b ≡ Some v → First n calls slot b v
first_counted_is n [] slot b v is = absurd (let no : None ≡ Some v = is in cc)
first_counted_is n (c ∷ calls) slot b v is =
    first_step n c calls slot b v (is_counted n slot b c) refl is (λ e. first_counted_is n calls slot b v e)

in_the_middle : (before after : List LearnerCall) (c : LearnerCall) → Contains (before ++ c ∷ after) c
in_the_middle before after c = Contains-append_right before (c ∷ after) c (here c after)

-- what the deciding call tells was told as decided, or a member accepted it where a majority did
only_where_told : (n : ℕ) (before : List LearnerCall) (c : LearnerCall) (v : Value) → (IsChosenOrDecided n before (slot_of c) → ⊥)
    → IsChosenOrDecided n (before ++ c ∷ []) (slot_of c) → DecidingValue n (before ++ c ∷ []) (slot_of c) c v
    → IsDecidedOrChosen n (before ++ c ∷ []) (slot_of c) v
only_where_told n before (Decided s u) v not settled told =
    inl (subst (λ (w : Value). Contains (before ++ Decided s u ∷ []) (Decided s w)) told (in_the_middle before [] (Decided s u)))
only_where_told n before (Accepted a s b u) v not settled told = elim (cases_lt n (2 * tally n (has_voted (before ++ Accepted a s b u ∷ []) s b))) [
  | inl majority ↦
      let first = first_counted_is n (before ++ Accepted a s b u ∷ []) s b v told in
      inr (record {
        ballot = b;
        accepted = majority_of_votes n (before ++ Accepted a s b u ∷ []) s b majority;
        member = first.1;
        within = first.4;
        proposed = subst (λ (l : List LearnerCall). Contains l (Accepted first.1 s b v)) (sym first.3) (in_the_middle first.0 first.2 (Accepted first.1 s b v));
      })
  | inr none ↦ absurd (unsettled_accepted n before a s b u not (λ majority. absurd (omega (arith, majority, none))) settled)
]

only_here : (n : ℕ) (before : List LearnerCall) (c : LearnerCall) (slot : ℕ) (v : Value) → (IsChosenOrDecided n before slot → ⊥)
    → IsChosenOrDecided n (before ++ c ∷ []) slot → DecidingValue n (before ++ c ∷ []) slot c v → IsDecidedOrChosen n (before ++ c ∷ []) slot v
only_here n before c slot v not settled told = elim (cases_eq slot (slot_of c)) [
  | inl same ↦
      subst (λ (s : ℕ). IsDecidedOrChosen n (before ++ c ∷ []) s v) (sym same)
      (only_where_told n before c v (subst (λ (s : ℕ). IsChosenOrDecided n before s → ⊥) same not)
      (subst (IsChosenOrDecided n (before ++ c ∷ [])) same settled) (subst (λ (s : ℕ). DecidingValue n (before ++ c ∷ []) s c v) same told))
  | inr differs ↦ absurd (unsettled_apart n before c slot (other_apart n slot c differs) not settled)
]

-- and so it is among more calls
more_told : (n : ℕ) (calls more : List LearnerCall) (slot : ℕ) (v : Value) → IsDecidedOrChosen n calls slot v → IsDecidedOrChosen n (calls ++ more) slot v
more_told n calls more slot v (inl decided) = inl (Contains-append_left calls more (Decided slot v) decided)
more_told n calls more slot v (inr chosen) =
    inr (record {
      ballot = chosen.ballot;
      accepted = record {
        is_voter = chosen.accepted.is_voter;
        majority = chosen.accepted.majority;
        each = λ m lt is.
            let told = chosen.accepted.each m lt is in
            (told.0, Contains-append_left calls more (Accepted m slot chosen.ballot told.0) told.1);
      };
      member = chosen.member;
      within = chosen.within;
      proposed = Contains-append_left calls more (Accepted chosen.member slot chosen.ballot v) chosen.proposed;
    })

pub only_decided_or_chosen : (n : ℕ) (calls : List LearnerCall) (slot : ℕ) (v : Value) → IsLearned n calls slot v → IsDecidedOrChosen n calls slot v
only_decided_or_chosen n calls slot v p =
    subst (λ (l : List LearnerCall). IsDecidedOrChosen n l slot v) (append_assoc p.before (p.call ∷ []) p.after ∙ sym p.parts)
    (more_told n (p.before ++ p.call ∷ []) p.after slot v (only_here n p.before p.call slot v p.not_before p.settled p.told))

-- ---- one answer

pub learns_one : (n : ℕ) (calls : List LearnerCall) (c : LearnerCall) (slot : ℕ) (a b : Option Value) → Learns n calls c slot a → Learns n calls c slot b → a ≡ b
learns_one n calls c slot None None p q = refl
learns_one n calls c slot None (Some w) p q = absurd (q.0 (p (settled_of_learned n (calls ++ c ∷ []) slot w q.1)))
learns_one n calls c slot (Some v) None p q = absurd (p.0 (q (settled_of_learned n (calls ++ c ∷ []) slot v p.1)))
learns_one n calls c slot (Some v) (Some w) p q = ap Some (one_value n (calls ++ c ∷ []) slot v w p.1 q.1)

-- ---- states

pub decided_is_learned : (n : ℕ) (calls : List LearnerCall) (h : LearnerState) (slot : ℕ) (v : Value) → StateAfter n calls h → (decided_at h slot ≡ Some v ↔ IsLearned n calls slot v)
decided_is_learned n calls h slot v l = (l.learned slot v, λ learned. by (decided_at h slot) refl learned)
  where
    by : (o : Option Value) → decided_at h slot ≡ o → IsLearned n calls slot v → decided_at h slot ≡ Some v
    by None e learned = absurd (l.unsettled slot e (settled_of_learned n calls slot v learned))
    by (Some w) e learned = e ∙ ap Some (one_value n calls slot w v (l.learned slot w e) learned)

decided_alike : (n : ℕ) (calls : List LearnerCall) (g h : LearnerState) (slot : ℕ) → StateAfter n calls g → StateAfter n calls h → decided_at g slot ≡ decided_at h slot
decided_alike n calls g h slot k l = by (decided_at g slot) refl
  where
    none : (o : Option Value) → decided_at g slot ≡ None → decided_at h slot ≡ o → decided_at h slot ≡ None
    none None e f = f
    none (Some w) e f = absurd (k.unsettled slot e (settled_of_learned n calls slot w (l.learned slot w f)))

    by : (o : Option Value) → decided_at g slot ≡ o → decided_at g slot ≡ decided_at h slot
    by None e = e ∙ sym (none (decided_at h slot) e refl)
    by (Some v) e = e ∙ sym ((decided_is_learned n calls h slot v l).1 (k.learned slot v e))

pub firsts_alike : (n : ℕ) (calls : List LearnerCall) (g h : LearnerState) (slot : ℕ) (b : Ballot) → StateAfter n calls g → StateAfter n calls h → first_at g slot b ≡ first_at h slot b
firsts_alike n calls g h slot b k l = by (decided_at g slot) refl
  where
    by : (o : Option Value) → decided_at g slot ≡ o → first_at g slot b ≡ first_at h slot b
    by None e = k.firsts slot b e ∙ sym (l.firsts slot b (sym (decided_alike n calls g h slot k l) ∙ e))
    by (Some v) e = k.gone slot b v e ∙ sym (l.gone slot b v (sym (decided_alike n calls g h slot k l) ∙ e))

-- where no first value is kept, nobody is counted
none_voted : (h : LearnerState) (slot : ℕ) (b : Ballot) (member : ℕ) → first_at h slot b ≡ None → voted_at h slot b member ≡ false
none_voted h slot b member e = by (tally_at h slot b) refl
  where
    by : (o : Option Tally) → tally_at h slot b ≡ o → voted_at h slot b member ≡ false
    by None is = ap (λ (t : Option Tally). option_map_or (λ t. has_vote t member) t false) is
    by (Some t) is = absurd (let no : Some t.value ≡ None = sym (ap (option_map (λ (t : Tally). t.value)) is) ∙ e in cc)

pub votes_alike : (n : ℕ) (calls : List LearnerCall) (g h : LearnerState) (slot : ℕ) (b : Ballot) (member : ℕ) → StateAfter n calls g → StateAfter n calls h → member < n
    → voted_at g slot b member ≡ voted_at h slot b member
votes_alike n calls g h slot b member k l lt = by (decided_at g slot) refl
  where
    by : (o : Option Value) → decided_at g slot ≡ o → voted_at g slot b member ≡ voted_at h slot b member
    by None e = k.votes slot b member e lt ∙ sym (l.votes slot b member (sym (decided_alike n calls g h slot k l) ∙ e) lt)
    by (Some v) e =
        none_voted g slot b member (k.gone slot b v e)
        ∙ sym (none_voted h slot b member (l.gone slot b v (sym (decided_alike n calls g h slot k l) ∙ e)))
