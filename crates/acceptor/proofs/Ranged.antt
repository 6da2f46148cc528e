-- What an acceptor answers to a Prepare of all slots from a first one on is one answer, and what it then has is one thing.
use Rattle.std.proofs.Common.{◌≡◌, ℕ, zero, suc, ◌<◌, List, [], ◌∷◌, length, get_or, Option, Some, inl, inr, refl, sym, ap, subst, ◌∙◌, arith, ◌↔◌}
use Rattle.std.specs.List.{Contains}
use Rattle.std.specs.List.Sorted.{IsStrictlyIncreasing}
use Rattle.std.specs.Map.{keys_of}
use Rattle.std.proofs.lemmas.List.Elements.{All-contains, Contains-append_cases}
use Rattle.std.proofs.lemmas.List.Kept.{AllPairs-from_increasing}
use Rattle.ballots.specs.Ballot.{Ballot, IsBelow, IsAtLeast}
use Rattle.ballots.specs.declared.acceptance.Acceptance.{Acceptance}
use Rattle.ballots.proofs.CallerLemmas.{at_least_where_not_below}
use Rattle.acceptor.specs.declared.answer.Answer.{Answer}
use Rattle.acceptor.specs.declared.answer.Answer.TheVariants.{Promise, PromiseFrom, Granted, Nack}
use Rattle.acceptor.specs.Standing.{Standing}
use Rattle.acceptor.specs.Ranged.{IsFrom, AreBelow, IsGreatestFrom, AreAcceptances, BindsFrom, PreparesFrom}
use Rattle.acceptor.proofs.Lists.{nothing_in, only_one}
use Rattle.acceptor.proofs.Highest.{neither_below, in_front, behind_front}
use Rattle.acceptor.proofs.Ranging.{from_or_apart}
use Rattle.acceptor.proofs.Promising.{highest_below}

-- ---- rising lists of the same entries are one

module _ {X : Type 0} where
  -- each slot is below all behind it
  abbrev Rising : List (ℕ × X) → Type 0
  Rising [] = Unit {0}
  Rising (x ∷ xs) = ((y : ℕ × X) → Contains xs y → x.0 < y.0) × Rising xs

  key_at : (xs : List (ℕ × X)) (k : ℕ) (d : ℕ × X) → get_or (keys_of xs) k d.0 ≡ (get_or xs k d).0
  key_at [] k d = refl
  key_at (x ∷ xs) zero d = refl
  key_at (x ∷ xs) (suc k) d = key_at xs k d

  keys_length : (xs : List (ℕ × X)) → length (keys_of xs) ≡ length xs
  keys_length [] = refl
  keys_length (x ∷ xs) = ap suc (keys_length xs)

  -- from the same place by place
  rising_from : (xs : List (ℕ × X)) → ((i j : ℕ) (d : ℕ × X) → i < j → j < length xs → (get_or xs i d).0 < (get_or xs j d).0) → Rising xs
  rising_from [] up = tt
  rising_from (x ∷ xs) up = (
    λ y has.
        let less = up 0 (suc has.0) x (omega arith) (let within = has.1 in omega (arith, within)) in
        subst (λ (e : ℕ × X). x.0 < e.0) (at_place xs has.0 x y has.1 has.2) less,
    rising_from xs (λ i j d less within. up (suc i) (suc j) d (omega (arith, less)) (omega (arith, within))),
  )
    where
      at_place : (xs : List (ℕ × X)) (k : ℕ) (d y : ℕ × X) → k < length xs → get_or xs k y ≡ y → get_or xs k d ≡ y
      at_place [] k d y within is = absurd (omega (arith, within))
      at_place (x ∷ xs) zero d y within is = is
      at_place (x ∷ xs) (suc k) d y within is = at_place xs k d y (omega (arith, within)) is

  rising_keys : (xs : List (ℕ × X)) → IsStrictlyIncreasing (keys_of xs) → Rising xs
  rising_keys xs up = rising_from xs (λ i j d less within.
      subst (λ (n : ℕ). n < (get_or xs j d).0) (key_at xs i d)
      (subst (λ (n : ℕ). get_or (keys_of xs) i d.0 < n) (key_at xs j d) (AllPairs-from_increasing (keys_of xs) up i j d.0 less (subst (λ (n : ℕ). j < n) (sym (keys_length xs)) within))))

  -- the first of two such lists is one, and the others are the same
  heads_are_one : (x y : ℕ × X) (xs ys : List (ℕ × X)) → Rising (x ∷ xs) → Rising (y ∷ ys) → Contains (x ∷ xs) y → Contains (y ∷ ys) x → x ≡ y
  heads_are_one x y xs ys up up' has has' = elim (Contains-append_cases (x ∷ []) xs y has) as (λ _. x ≡ y) [
    | inl here ↦ sym (only_one x y here)
    | inr behind ↦ elim (Contains-append_cases (y ∷ []) ys x has') as (λ _. x ≡ y) [
      | inl here ↦ only_one y x here
      | inr behind' ↦ absurd (let less = up.0 y behind in let more = up'.0 x behind' in omega (arith, less, more))
    ]
  ]

  tail_in : (x y : ℕ × X) (xs ys : List (ℕ × X)) → x ≡ y → Rising (x ∷ xs) → ((e : ℕ × X) → Contains (x ∷ xs) e → Contains (y ∷ ys) e) → (e : ℕ × X) → Contains xs e → Contains ys e
  tail_in x y xs ys same up into e has = elim (Contains-append_cases (y ∷ []) ys e (into e (behind_front x xs e has))) as (λ _. Contains ys e) [
    | inl here ↦
        let is : e ≡ x = only_one y e here ∙ sym same in
        let less = up.0 e has in
        let same_slot : e.0 ≡ x.0 = ap (λ (z : ℕ × X). z.0) is in
        absurd (omega (arith, less, same_slot))
    | inr behind ↦ behind
  ]

  rising_is_one : (xs ys : List (ℕ × X)) → Rising xs → Rising ys → ((e : ℕ × X) → Contains xs e → Contains ys e) → ((e : ℕ × X) → Contains ys e → Contains xs e) → xs ≡ ys
  rising_is_one [] [] up up' into back = refl
  rising_is_one [] (y ∷ ys) up up' into back = absurd (nothing_in y (back y (in_front y ys)))
  rising_is_one (x ∷ xs) [] up up' into back = absurd (nothing_in x (into x (in_front x xs)))
  rising_is_one (x ∷ xs) (y ∷ ys) up up' into back =
      let same = heads_are_one x y xs ys up up' (back y (in_front y ys)) (into x (in_front x xs)) in
      ap (λ (z : ℕ × X). z ∷ xs) same ∙ ap (λ (l : List (ℕ × X)). y ∷ l) (rising_is_one xs ys up.1 up'.1 (tail_in x y xs ys same up into) (tail_in y x ys xs (sym same) up' back))

-- ---- reports

pub reported_where : (accepted : ℕ → Option Acceptance) (first : ℕ) (reports : List (ℕ × Acceptance)) → AreAcceptances accepted first reports → (slot : ℕ) (held : Acceptance)
    → (Contains reports (slot, held) ↔ (IsFrom first slot × (accepted slot ≡ Some held)))
reported_where accepted first reports are slot held = (
  λ has. All-contains (λ (r : ℕ × Acceptance). IsFrom first r.0 × (accepted r.0 ≡ Some r.1)) reports (slot, held) are.theirs has,
  λ both. are.all slot held both.0 both.1,
)

pub reports_are_one : (accepted : ℕ → Option Acceptance) (first : ℕ) (xs ys : List (ℕ × Acceptance)) → AreAcceptances accepted first xs → AreAcceptances accepted first ys → xs ≡ ys
reports_are_one accepted first xs ys of_xs of_ys =
    rising_is_one xs ys (rising_keys xs of_xs.rising) (rising_keys ys of_ys.rising)
    (λ e has. (reported_where accepted first ys of_ys e.0 e.1).1 ((reported_where accepted first xs of_xs e.0 e.1).0 has))
    (λ e has. (reported_where accepted first xs of_xs e.0 e.1).1 ((reported_where accepted first ys of_ys e.0 e.1).0 has))

-- ---- the greatest promise

pub greatest_is_one : (promised : ℕ → Option Ballot) (first : ℕ) (a b : Ballot) → IsGreatestFrom promised first a → IsGreatestFrom promised first b → a ≡ b
greatest_is_one promised first a b of_a of_b = neither_below a b (not_below promised first a b of_a of_b) (not_below promised first b a of_b of_a)
  where
    not_below : (promised : ℕ → Option Ballot) (first : ℕ) (a b : Ballot) → IsGreatestFrom promised first a → IsGreatestFrom promised first b → IsBelow a b → ⊥
    not_below promised first a b of_a of_b =
        (at_least_where_not_below b a).0 (subst (IsAtLeast a) of_b.is_promised.2 (of_a.greatest of_b.is_promised.0 of_b.is_promised.1))

-- what is above all promises is not refused
pub not_refused : (promised : ℕ → Option Ballot) (first : ℕ) (ballot greatest : Ballot) → AreBelow promised first ballot → IsGreatestFrom promised first greatest
    → IsAtLeast greatest (Some ballot) → ⊥
not_refused promised first ballot greatest below is more = (at_least_where_not_below ballot greatest).0 more (highest_below promised first greatest ballot is below)

-- ---- what an acceptor then has

bound_is_one : (old a b : ℕ → Option Ballot) (first : ℕ) (ballot : Ballot) → BindsFrom old a first ballot → BindsFrom old b first ballot → (slot : ℕ) → a slot ≡ b slot
bound_is_one old a b first ballot of_a of_b slot = elim (from_or_apart first slot) as (λ _. a slot ≡ b slot) [
  | inl from ↦ of_a.from slot from ∙ sym (of_b.from slot from)
  | inr apart ↦ of_a.others slot apart ∙ sym (of_b.others slot apart)
]

pub standing_is_one : (old a b : Standing) (first : ℕ) (ballot : Ballot) (x y : Answer) → PreparesFrom old a first ballot x → PreparesFrom old b first ballot y
    → (other : ℕ) → (a.promised other ≡ b.promised other) × (a.accepted other ≡ b.accepted other)
standing_is_one old a b first ballot (PromiseFrom x) (PromiseFrom y) (below, reported, sets) (below', reported', sets') other =
    (bound_is_one old.promised a.promised b.promised first ballot sets.promises sets'.promises other, sets.acceptances other ∙ sym (sets'.acceptances other))
standing_is_one old a b first ballot (PromiseFrom x) (Nack y) (below, reported, sets) refuses other = absurd (not_refused old.promised first ballot y below refuses.greatest refuses.not_below)
standing_is_one old a b first ballot (Nack x) (PromiseFrom y) refuses (below, reported, sets) other = absurd (not_refused old.promised first ballot x below refuses.greatest refuses.not_below)
standing_is_one old a b first ballot (Nack x) (Nack y) refuses refuses' other =
    (refuses.same.promises other ∙ sym (refuses'.same.promises other), refuses.same.acceptances other ∙ sym (refuses'.same.acceptances other))
standing_is_one old a b first ballot (Promise x) y never takes other = absurd never
standing_is_one old a b first ballot Granted y never takes other = absurd never
standing_is_one old a b first ballot (PromiseFrom x) (Promise y) takes never other = absurd never
standing_is_one old a b first ballot (PromiseFrom x) Granted takes never other = absurd never
standing_is_one old a b first ballot (Nack x) (Promise y) takes never other = absurd never
standing_is_one old a b first ballot (Nack x) Granted takes never other = absurd never

pub others_stay : (old new : Standing) (first : ℕ) (ballot : Ballot) (x : Answer) → PreparesFrom old new first ballot x → (other : ℕ) → ¬ IsFrom first other
    → new.promised other ≡ old.promised other
others_stay old new first ballot (PromiseFrom reports) (below, reported, sets) other apart = sets.promises.others other apart
others_stay old new first ballot (Nack promised) refuses other apart = refuses.same.promises other
others_stay old new first ballot (Promise report) never other apart = absurd never
others_stay old new first ballot Granted never other apart = absurd never
