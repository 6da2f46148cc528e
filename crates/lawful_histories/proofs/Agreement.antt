-- Once a value is chosen at a ballot, no other is proposed above it, and none is chosen beside it: by induction on the place
-- of the Accept, with a member of both majorities at each step.
use Rattle.std.proofs.Common.{◌≡◌, ℕ, zero, suc, ◌<◌, ◌⊎◌, inl, inr, IsTrue, List, length, Some, None, refl, sym, ap, subst, ◌∙◌, arith}
use Rattle.std.proofs.lemmas.Bool.{cases_lt}
use Rattle.ballots.specs.Ballot.{Ballot, IsBelow}
use Rattle.ballots.proofs.CallerLemmas.{either_below, not_below_carried}
use Rattle.ballots.specs.declared.value.Value.{Value}
use Rattle.ballots.specs.Acceptance.{acceptance}
use Rattle.lawful_histories.specs.Saying.{Report, Saying, Promise, Accept, Accepted, sayings}
use Rattle.lawful_histories.specs.Majorities.{MajorityOf}
use Rattle.lawful_histories.specs.Saying.{IsUpTo}
use Rattle.lawful_histories.specs.Lawful.{Said, SaidBefore, IsLawfulSlot, PromisedUpTo, IsOfHighestReport, IsChosenBefore, OneValue, ChosenValueStays}
use Rattle.lawful_histories.proofs.Majorities.{majorities_meet}

-- ---- one slot

module _ (n : ℕ) (xs : List Saying) (lawful : IsLawfulSlot n xs) where
  -- Who accepted below a ballot that it promised reports that ballot or a higher one.
  reports_its_vote : (i j a : ℕ) (b c : Ballot) (v : Value) (r : Report) → Said xs i (Accepted a b v) → Said xs j (Promise a c r) → IsBelow b c
      → (d : Ballot) × (w : Value) × (r ≡ Some (acceptance d w)) × (IsBelow d b → ⊥)
  reports_its_vote i j a b c v r vote promise below =
      elim (cases_lt i j) as (λ _. (d : Ballot) × (w : Value) × (r ≡ Some (acceptance d w)) × (IsBelow d b → ⊥)) [
        | inl before ↦ by_report r promise before
        | inr after ↦ elim (cases_lt j i) as (λ _. (d : Ballot) × (w : Value) × (r ≡ Some (acceptance d w)) × (IsBelow d b → ⊥)) [
          | inl later ↦ absurd (lawful.keeps_its_promise.accepts j i a c b v later (inl (r, promise)) vote below)
          | inr same ↦ absurd (let at : i ≡ j = omega (arith, after, same) in two_sayings (subst (λ (k : ℕ). Said xs k (Accepted a b v)) at vote))
        ]
      ]
    where
      two_sayings : Said xs j (Accepted a b v) → ⊥
      two_sayings h = let no : Accepted a b v ≡ Promise a c r = sym h.1 ∙ promise.1 in cc

      by_report : (s : Report) → Said xs j (Promise a c s) → i < j → (d : Ballot) × (w : Value) × (s ≡ Some (acceptance d w)) × (IsBelow d b → ⊥)
      by_report None h before = absurd (lawful.reports_its_highest.nothing j a c h i b v before vote)
      by_report (Some q) h before = (q.ballot, q.value, refl, lawful.reports_its_highest.highest j a c q.ballot q.value h i b v before vote)

  module _ (b : Ballot) (v : Value) (end : ℕ) (chosen : IsChosenBefore n xs end b v) where
    -- What is accepted was proposed.
    vote_was_proposed : (a : ℕ) → SaidBefore xs end (Accepted a b v) → (j : ℕ) × Said xs j (Accept b v)
    vote_was_proposed a vote =
        let accept = lawful.accepts_what_was_proposed vote.0 a b v vote.2 in
        (accept.0, accept.2)

    -- What is proposed at the same ballot has this value.
    same_at_ballot : (k a : ℕ) (w : Value) → SaidBefore xs end (Accepted a b v) → Said xs k (Accept b w) → w ≡ v
    same_at_ballot k a w vote said =
        let accept = vote_was_proposed a vote in
        lawful.one_value_a_ballot k accept.0 b w v said accept.1

    -- A member of the majority that promised a higher ballot reports the ballot or a higher one.
    reports_it : (a k : ℕ) (c : Ballot) (r : Report) → a < n → IsTrue (chosen.is_in a) → IsBelow b c → SaidBefore xs k (Promise a c r)
        → (d : Ballot) × (w : Value) × (r ≡ Some (acceptance d w)) × (IsBelow d b → ⊥)
    reports_it a k c r lt in' below promise =
        let vote = chosen.each a lt in' in
        reports_its_vote vote.0 promise.0 a b c v r vote.2 promise.2 below

    -- So where none reports, there is no majority of promises at a higher ballot.
    some_reports : (k : ℕ) (c : Ballot) → IsBelow b c → MajorityOf n (λ a. SaidBefore xs k (Promise a c None)) → ⊥
    some_reports k c below free =
        let s = majorities_meet n (λ a. SaidBefore xs end (Accepted a b v)) (λ a. SaidBefore xs k (Promise a c None)) chosen free in
        let told_it = reports_it s.member k c None s.within s.in_first below (free.each s.member s.within s.in_second) in
        let nothing : Report = None in
        let no : nothing ≡ Some (acceptance told_it.0 told_it.1) = told_it.2 in
        cc

    -- And the highest report is of the ballot or of a higher one.
    highest_is_at_least : (k : ℕ) (c : Ballot) (w : Value) → IsBelow b c → (h : IsOfHighestReport n xs k c w) → IsBelow h.highest b → ⊥
    highest_is_at_least k c w below h =
        let s = majorities_meet n (λ a. SaidBefore xs end (Accepted a b v)) (PromisedUpTo xs k c h.highest) chosen h.promised in
        let promise = h.promised.each s.member s.within s.in_second in
        let told_it = reports_it s.member k c promise.0 s.within s.in_first below promise.1 in
        not_below_carried b told_it.0 h.highest (subst (λ (r : Report). IsUpTo r h.highest) told_it.2 promise.2) told_it.3

    any_vote : (a : ℕ) × SaidBefore xs end (Accepted a b v)
    any_vote =
        let s = majorities_meet n (λ a. SaidBefore xs end (Accepted a b v)) (λ a. SaidBefore xs end (Accepted a b v)) chosen chosen in
        (s.member, chosen.each s.member s.within s.in_first)

    -- by induction on a number above the place
    stays_below : (bound k : ℕ) (c : Ballot) (w : Value) → k < bound → Said xs k (Accept c w) → IsBelow b c → w ≡ v
    stays_below zero k c w lt said below = absurd (omega (arith, lt))
    stays_below (suc bound) k c w lt said below =
        elim (lawful.proposes_what_is_safe k c w said) as (λ _. w ≡ v) [
          | inl free ↦ absurd (some_reports k c below free)
          | inr h ↦
              let report = h.reported in
              let accept = lawful.reports_its_highest.proposed report.0 h.reporter c h.highest w report.2 in
              elim (either_below b h.highest) as (λ _. w ≡ v) [
                | inl same ↦ same_at_ballot accept.0 any_vote.0 w any_vote.1 (subst (λ (x : Ballot). Said xs accept.0 (Accept x w)) (sym same) accept.2)
                | inr other ↦ elim other as (λ _. w ≡ v) [
                  | inl above ↦ stays_below bound accept.0 h.highest w (omega (arith, lt, report.1, accept.1)) accept.2 above
                  | inr under ↦ absurd (highest_is_at_least k c w below h under)
                ]
              ]
        ]

    pub chosen_value_stays : (k : ℕ) (c : Ballot) (w : Value) → Said xs k (Accept c w) → IsBelow b c → w ≡ v
    chosen_value_stays k c w said below = stays_below (suc k) k c w (omega arith) said below

    -- What is chosen at the same ballot or a higher one is this value.
    pub chosen_alike : (c : Ballot) (w : Value) (last : ℕ) → IsChosenBefore n xs last c w → (b ≡ c) ⊎ IsBelow b c → w ≡ v
    chosen_alike c w last other order =
        let s = majorities_meet n (λ a. SaidBefore xs last (Accepted a c w)) (λ a. SaidBefore xs last (Accepted a c w)) other other in
        let vote = other.each s.member s.within s.in_first in
        let accept = lawful.accepts_what_was_proposed vote.0 s.member c w vote.2 in
        elim order as (λ _. w ≡ v) [
          | inl same ↦ same_at_ballot accept.0 any_vote.0 w any_vote.1 (subst (λ (x : Ballot). Said xs accept.0 (Accept x w)) (sym same) accept.2)
          | inr below ↦ chosen_value_stays accept.0 c w accept.2 below
        ]

-- ---- the laws

pub chosen_value_stays_law : ChosenValueStays
chosen_value_stays_law n sent s k b c v w lawful chosen said below =
    chosen_value_stays n (sayings sent s) (lawful s) b v (length sent) chosen k c w said below

pub one_value_law : OneValue
one_value_law n sent s v w lawful first second =
    let xs = sayings sent s in
    let at = lawful s in
    let end = length sent in
    elim (either_below first.0 second.0) as (λ _. v ≡ w) [
      | inl same ↦ sym (chosen_alike n xs at first.0 v end first.1 second.0 w end second.1 (inl same))
      | inr other ↦ elim other as (λ _. v ≡ w) [
        | inl below ↦ sym (chosen_alike n xs at first.0 v end first.1 second.0 w end second.1 (inr below))
        | inr above ↦ chosen_alike n xs at second.0 w end second.1 first.0 v end first.1 (inr above)
      ]
    ]
