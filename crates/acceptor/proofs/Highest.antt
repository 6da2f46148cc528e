-- The highest of a list is one.
use Rattle.std.proofs.Common.{◌≡◌, inl, inr, List, [], ◌∷◌, ◌++◌, sym, ap, subst, drop, get_or}
use Rattle.std.specs.List.{Contains}
use Rattle.std.proofs.lemmas.List.Elements.{Contains-append_left, Contains-append_right}
use Rattle.ballots.specs.Ballot.{Ballot, IsBelow}
use Rattle.ballots.specs.declared.acceptance.Acceptance.{Acceptance}
use Rattle.ballots.proofs.CallerLemmas.{either_below}
use Rattle.acceptor.proofs.Lists.{one_in}

-- of two ballots of which neither is below the other, both are one
pub neither_below : (a b : Ballot) → ¬ IsBelow a b → ¬ IsBelow b a → a ≡ b
neither_below a b not_ab not_ba = elim (either_below a b) as (λ _. a ≡ b) [
  | inl same ↦ same
  | inr apart ↦ elim apart as (λ _. a ≡ b) [ inl below ↦ absurd (not_ab below) | inr above ↦ absurd (not_ba above) ]
]

module _ {X : Type 0} where
  -- an element is in the list, behind others and before others
  pub in_middle : (before : List X) (x : X) (after : List X) → Contains (before ++ x ∷ after) x
  in_middle before x after = Contains-append_right before (x ∷ after) x (Contains-append_left (x ∷ []) after x (one_in x))

  pub in_front : (x : X) (xs : List X) → Contains (x ∷ xs) x
  in_front x xs = Contains-append_left (x ∷ []) xs x (one_in x)

  pub behind_front : (x : X) (xs : List X) (y : X) → Contains xs y → Contains (x ∷ xs) y
  behind_front x xs y has = Contains-append_right (x ∷ []) xs y has

-- where a list is cut before its first entry and behind it, one of the cuts is not at the last of its highest entries
front_and_behind : (x h k : Acceptance) (after before : List Acceptance) (rest : List Acceptance) → h ∷ after ≡ (x ∷ before) ++ k ∷ rest
    → ((o : Acceptance) → Contains after o → IsBelow o.ballot h.ballot) → ((o : Acceptance) → Contains (x ∷ before) o → ¬ IsBelow k.ballot o.ballot) → ⊥
front_and_behind x h k after before rest same below not_above =
    let first : h ≡ x = ap (λ (l : List Acceptance). get_or l 0 h) same in
    let others : after ≡ before ++ k ∷ rest = ap (λ (l : List Acceptance). drop 1 l) same in
    let has : Contains after k = subst (λ (l : List Acceptance). Contains l k) (sym others) (in_middle before k rest) in
    not_above h (subst (λ (o : Acceptance). Contains (x ∷ before) o) (sym first) (in_front x before)) (below k has)

-- two entries that no entry before is above, and that all behind are below, are one
pub one_last : (before before' : List Acceptance) (h k : Acceptance) (after after' : List Acceptance) → before ++ h ∷ after ≡ before' ++ k ∷ after'
    → ((o : Acceptance) → Contains before o → ¬ IsBelow h.ballot o.ballot) → ((o : Acceptance) → Contains after o → IsBelow o.ballot h.ballot)
    → ((o : Acceptance) → Contains before' o → ¬ IsBelow k.ballot o.ballot) → ((o : Acceptance) → Contains after' o → IsBelow o.ballot k.ballot) → h ≡ k
one_last [] [] h k after after' same not_above below not_above' below' = ap (λ (l : List Acceptance). get_or l 0 h) same
one_last [] (x ∷ before') h k after after' same not_above below not_above' below' = absurd (front_and_behind x h k after before' after' same below not_above')
one_last (x ∷ before) [] h k after after' same not_above below not_above' below' = absurd (front_and_behind x k h after' before after (sym same) below' not_above)
one_last (x ∷ before) (y ∷ before') h k after after' same not_above below not_above' below' =
    one_last before before' h k after after' (ap (λ (l : List Acceptance). drop 1 l) same) (λ o has. not_above o (behind_front x before o has)) below
    (λ o has. not_above' o (behind_front y before' o has)) below'
