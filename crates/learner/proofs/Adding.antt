-- What one more call adds to what was learned.
use Rattle.std.proofs.Common.{◌≡◌, ◌↔◌, ℕ, ◌||◌, inl, inr, Bool, List, [], ◌∷◌, ◌++◌, Option, Some, None, unwrap_or, refl, sym, ap, subst, ◌∙◌, arith}
use Rattle.std.specs.List.{list_any}
use Rattle.std.specs.Option.{option_or}
use Rattle.std.proofs.Math.Bool.{or-false}
use Rattle.std.proofs.lemmas.Bool.{cases_eq}
use Rattle.std.proofs.lemmas.List.Folds.{list_any-append}
use Rattle.ballots.specs.Ballot.{Ballot}
use Rattle.ballots.specs.Majority.{IsMajority}
use Rattle.ballots.specs.Slots.{OthersStay}
use Rattle.ballots.specs.declared.value.Value.{Value}
use Rattle.ballots.proofs.CallerLemmas.{tally_same}
use Rattle.learner.specs.Calls.{LearnerCall, slot_of, is_decision_for, has_voted, IsChosenOrDecided, IsLearned, Learns}
use Rattle.learner.specs.State.{LearnerState}
use Rattle.learner.specs.Learned.{HasLearned, IsSame}
use Rattle.learner.specs.Changes.{LearnsNow, DecidedNow}
use Rattle.learner.proofs.Settling.{IsApart, other_apart, votes_apart, or_none}
use Rattle.learner.proofs.Lookups.{chosen_same, chosen_back}
use Rattle.learner.proofs.OneValue.{one_value, learned_more, settled_of_learned, learned_of_settled}

-- ---- what settles nothing makes nothing learned

pub settled_apart : (n : ℕ) (calls : List LearnerCall) (c : LearnerCall) (slot : ℕ) → IsApart n slot c → IsChosenOrDecided n (calls ++ c ∷ []) slot → IsChosenOrDecided n calls slot
settled_apart n calls c slot apart (inl told) =
    inl (sym (or-false (list_any (is_decision_for slot) calls))
    ∙ ap (λ (x : Bool). list_any (is_decision_for slot) calls || x) (sym (or-false (is_decision_for slot c) ∙ apart.decision))
    ∙ sym (list_any-append (is_decision_for slot) calls (c ∷ [])) ∙ told)
settled_apart n calls c slot apart (inr chosen) =
    inr (chosen.0, subst (IsMajority n) (tally_same n (has_voted (calls ++ c ∷ []) slot chosen.0) (has_voted calls slot chosen.0) (votes_apart n calls c slot apart chosen.0)) chosen.1)

pub learned_back : (n : ℕ) (calls : List LearnerCall) (c : LearnerCall) (slot : ℕ) (v : Value) → (IsChosenOrDecided n (calls ++ c ∷ []) slot → IsChosenOrDecided n calls slot)
    → IsLearned n (calls ++ c ∷ []) slot v → IsLearned n calls slot v
learned_back n calls c slot v back learned =
    let was = learned_of_settled n calls slot (back (settled_of_learned n (calls ++ c ∷ []) slot v learned)) in
    subst (IsLearned n calls slot) (one_value n (calls ++ c ∷ []) slot was.0 v (learned_more n calls (c ∷ []) slot was.0 was.1) learned) was.1

-- ---- what one more call adds

none_held : (o : Option Value) → ((v : Value) → o ≡ Some v → ⊥) → o ≡ None
none_held None free = refl
none_held (Some v) free = absurd (free v refl)

same_some : (v w : Value) → Some v ≡ Some w → v ≡ w
same_some v w e = cc

abbrev Has : ℕ → List LearnerCall → (ℕ → Option Value) → ℕ → Type 0
Has n calls at slot = (v : Value) → at slot ≡ Some v ↔ IsLearned n calls slot v

adds_here : (n : ℕ) (calls : List LearnerCall) (c : LearnerCall) (slot : ℕ) (told : Option Value) (old new : ℕ → Option Value) → Has n calls old slot
    → Learns n calls c slot told → new slot ≡ option_or (old slot) told → Has n (calls ++ c ∷ []) new slot
adds_here n calls c slot None old new has back is v =
    let same : new slot ≡ old slot = is ∙ or_none (old slot) in (
      λ e. learned_more n calls (c ∷ []) slot v ((has v).0 (sym same ∙ e)),
      λ learned. same ∙ (has v).1 (learned_back n calls c slot v back learned),
    )
adds_here n calls c slot (Some w) old new has learns is v =
    let free : old slot ≡ None = none_held (old slot) (λ u e. learns.0 (settled_of_learned n calls slot u ((has u).0 e))) in
    let here : new slot ≡ Some w = is ∙ ap (λ (o : Option Value). option_or o (Some w)) free in (
      λ e. subst (IsLearned n (calls ++ c ∷ []) slot) (same_some w v (sym here ∙ e)) learns.1,
      λ learned. here ∙ ap Some (one_value n (calls ++ c ∷ []) slot w v learns.1 learned),
    )

adds_elsewhere : (n : ℕ) (calls : List LearnerCall) (c : LearnerCall) (slot : ℕ) (old new : ℕ → Option Value) → IsApart n slot c → Has n calls old slot
    → new slot ≡ old slot → Has n (calls ++ c ∷ []) new slot
adds_elsewhere n calls c slot old new apart has same v = (
  λ e. learned_more n calls (c ∷ []) slot v ((has v).0 (sym same ∙ e)),
  λ learned. same ∙ (has v).1 (learned_back n calls c slot v (settled_apart n calls c slot apart) learned),
)

pub call_adds : (n : ℕ) (calls : List LearnerCall) (c : LearnerCall) (told : Option Value) (old new : ℕ → Option Value) → HasLearned n calls old
    → Learns n calls c (slot_of c) told → new (slot_of c) ≡ option_or (old (slot_of c)) told → OthersStay old new (slot_of c)
    → HasLearned n (calls ++ c ∷ []) new
call_adds n calls c told old new has learns here others slot = elim (cases_eq slot (slot_of c)) as (λ _. Has n (calls ++ c ∷ []) new slot) [
  | inl same ↦ subst (Has n (calls ++ c ∷ []) new) (sym same) (adds_here n calls c (slot_of c) told old new (has (slot_of c)) learns here)
  | inr differs ↦ adds_elsewhere n calls c slot old new (other_apart n slot c differs) (has slot) (others slot differs)
]

-- ---- what a call makes learned, after a look

pub learns_still : (old new : LearnerState) (a slot : ℕ) (b : Ballot) (value : Value) (told : Option Value) → IsSame old new → LearnsNow old a slot b value told
    → LearnsNow new a slot b value told
learns_still old new a slot b value None same none = λ member free chosen.
    none (omega (arith, member, same.members)) (sym (same.decided slot) ∙ free) (chosen_same old new a slot b same chosen)
learns_still old new a slot b value (Some v) same now = (
  omega (arith, now.0, same.members),
  same.decided slot ∙ now.1,
  chosen_back old new a slot b same now.2,
  now.3 ∙ sym (ap (λ (o : Option Value). unwrap_or o value) (same.firsts slot b)),
)

pub nothing_is_decided : (held : Option Value) (value : Value) → (held ≡ None → ⊥) → DecidedNow held value None
nothing_is_decided None value some = absurd (some refl)
nothing_is_decided (Some v) value some = refl

pub copy_is_decided : (held : Option Value) (value copy : Value) → held ≡ None → copy ≡ value → DecidedNow held value (Some copy)
copy_is_decided None value copy none same = ap Some same
copy_is_decided (Some v) value copy none same = absurd cc
