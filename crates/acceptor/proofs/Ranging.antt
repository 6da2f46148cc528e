-- Ranges: a slot has the ballot of the last one that begins at it or below, and a range that is pushed takes the place of those behind it.
use Rattle.std.proofs.Common.{◌≡◌, ℕ, zero, suc, ◌+◌, ◌-◌, ◌<◌, ◌≤◌, Bool, true, false, if◌then◌else◌, leb, ltb, List, [], ◌∷◌, ◌++◌, length, take, drop, get_or, Option, Some, None, ◌⊎◌, inl, inr, refl, sym, ap, subst, ◌∙◌, arith, le-leb, leb-true, leb-false}
use Rattle.std.specs.Option.{option_or, unwrap_or}
use Rattle.std.proofs.Math.Seq.{take-suc}
use Rattle.std.proofs.lemmas.List.{take-append-drop}
use Rattle.std.specs.List.{AllByRecursion, AllWithin}
use Rattle.std.specs.List.Sorted.{IsNonDecreasingBy, IsPartitionedBy}
use Rattle.std.proofs.lemmas.List.Sorted.{IsPartitionedBy-ltb}
use Rattle.std.proofs.lemmas.List.Elements.{recursion_from_All, All-from_recursion, All-from_all_within}
use Rattle.std.proofs.lemmas.Bool.{lt-leb}
use Rattle.std.proofs.lemmas.Bool.Decides.{leb_tells}
use Rattle.ballots.specs.Ballot.{Ballot, IsBelow, IsAbove, IsAtLeast}
use Rattle.ballots.specs.Limits.{max_slot}
use Rattle.ballots.proofs.CallerLemmas.{below_carried}
use Rattle.acceptor.specs.Ranges.{last_begun, ranged_at, Rise}
use Rattle.acceptor.specs.Ranged.{IsFrom, AreBelow, BindsFrom, IsHighestFrom}

-- a slot from the first one on, or another
pub from_or_apart : (first slot : ℕ) → IsFrom first slot ⊎ (¬ IsFrom first slot)
from_or_apart first slot = elim (leb_tells first slot) as (λ _. IsFrom first slot ⊎ (¬ IsFrom first slot)) [
  | inl from ↦ elim (leb_tells slot max_slot) as (λ _. IsFrom first slot ⊎ (¬ IsFrom first slot)) [
    | inl within ↦ inl (from.1, within.1)
    | inr beyond ↦ inr (λ is_from. let less = beyond.1 in let most = is_from.1 in absurd (omega (arith, less, most)))
  ]
  | inr below ↦ inr (λ is_from. let less = below.1 in let least = is_from.0 in absurd (omega (arith, less, least)))
]

-- ---- what holds up to a place of a list, and from it on

pub taken : {X : Type 0} (P : X → Type 0) (n : ℕ) (xs : List X) → n ≤ length xs → AllWithin P xs 0 n → AllByRecursion P (take n xs)
taken P zero xs le all = tt
taken P (suc n) [] le all = absurd (omega (arith, le))
taken P (suc n) (x ∷ xs) le all = (
  all 0 x (omega arith) (omega arith),
  taken P n xs (omega (arith, le)) (λ k d low high. all (suc k) d (omega arith) (omega (arith, high))),
)

pub dropped : {X : Type 0} (P : X → Type 0) (n : ℕ) (xs : List X) → AllWithin P xs n (length xs) → AllByRecursion P (drop n xs)
dropped P zero xs all = recursion_from_All P xs (All-from_all_within P xs all)
dropped P (suc n) [] all = tt
dropped P (suc n) (x ∷ xs) all = dropped P n xs (λ k d low high. all (suc k) d (omega (arith, low)) (omega (arith, high)))

pub weaker : {X : Type 0} (P Q : X → Type 0) → ((x : X) → P x → Q x) → (xs : List X) → AllByRecursion P xs → AllByRecursion Q xs
weaker P Q implies [] all = tt
weaker P Q implies (x ∷ xs) (here, rest) = (implies x here, weaker P Q implies xs rest)

pub all_taken : {X : Type 0} (P : X → Type 0) (n : ℕ) (xs : List X) → AllByRecursion P xs → AllByRecursion P (take n xs)
all_taken P zero xs all = tt
all_taken P (suc n) [] all = tt
all_taken P (suc n) (x ∷ xs) (here, rest) = (here, all_taken P n xs rest)

pub all_pushed : {X : Type 0} (P : X → Type 0) (xs : List X) (y : X) → AllByRecursion P xs → P y → AllByRecursion P (xs ++ y ∷ [])
all_pushed P [] y all last = (last, tt)
all_pushed P (x ∷ xs) y (here, rest) last = (here, all_pushed P xs y rest last)

-- ---- ballots that may be none

none_is_some : (b : Ballot) → (let o : Option Ballot = None in o) ≡ Some b → ⊥
none_is_some b is = absurd cc

some_is : (a b : Ballot) → Some a ≡ Some b → a ≡ b
some_is a b is = ap (λ (o : Option Ballot). unwrap_or o a) is

-- ---- the last range that begins at a slot or below

-- what one range alone gives a slot
abbrev pub begun : ℕ × Ballot → ℕ → Option Ballot
begun range slot = if leb range.0 slot then Some range.1 else None

begun_here : (range : ℕ × Ballot) (slot : ℕ) → range.0 ≤ slot → begun range slot ≡ Some range.1
begun_here range slot le = ap (λ (b : Bool). let o : Option Ballot = if b then Some range.1 else None in o) (le-leb range.0 slot le)

begun_later : (range : ℕ × Ballot) (slot : ℕ) → slot < range.0 → begun range slot ≡ None
begun_later range slot lt = ap (λ (b : Bool). let o : Option Ballot = if b then Some range.1 else None in o) (lt-leb range.0 slot lt)

or_none : (o : Option Ballot) → option_or o None ≡ o
or_none None = refl
or_none (Some b) = refl

or_assoc : (a b c : Option Ballot) → option_or a (option_or b c) ≡ option_or (option_or a b) c
or_assoc None b c = refl
or_assoc (Some a) b c = refl

last_begun-append : (xs ys : List (ℕ × Ballot)) (slot : ℕ) → last_begun (xs ++ ys) slot ≡ option_or (last_begun ys slot) (last_begun xs slot)
last_begun-append [] ys slot = sym (or_none (last_begun ys slot))
last_begun-append (x ∷ xs) ys slot =
    ap (λ (o : Option Ballot). option_or o (begun x slot)) (last_begun-append xs ys slot)
    ∙ sym (or_assoc (last_begun ys slot) (last_begun xs slot) (begun x slot))

none_begun : (xs : List (ℕ × Ballot)) (slot : ℕ) → AllByRecursion (λ range. slot < range.0) xs → last_begun xs slot ≡ None
none_begun [] slot all = refl
none_begun (x ∷ xs) slot (here, rest) =
    ap (λ (o : Option Ballot). option_or o (begun x slot)) (none_begun xs slot rest) ∙ begun_later x slot here

none_begun-append : (xs ys : List (ℕ × Ballot)) (slot : ℕ) → AllByRecursion (λ range. slot < range.0) ys → last_begun (xs ++ ys) slot ≡ last_begun xs slot
none_begun-append xs ys slot all = last_begun-append xs ys slot ∙ ap (λ (o : Option Ballot). option_or o (last_begun xs slot)) (none_begun ys slot all)

begun_at_last : (xs : List (ℕ × Ballot)) (range : ℕ × Ballot) (slot : ℕ) → range.0 ≤ slot → last_begun (xs ++ range ∷ []) slot ≡ Some range.1
begun_at_last xs range slot le = last_begun-append xs (range ∷ []) slot ∙ ap (λ (o : Option Ballot). option_or o (last_begun xs slot)) (begun_here range slot le)

of_last : {X : Type 0} (P : X → Type 0) (xs : List X) (y : X) → AllByRecursion P (xs ++ y ∷ []) → P y
of_last P [] y all = all.0
of_last P (x ∷ xs) y all = of_last P xs y all.1

last_is : (xs : List (ℕ × Ballot)) (slot m : ℕ) (range : ℕ × Ballot) → m < length xs → range ≡ get_or xs m range
    → AllByRecursion (λ range. range.0 < slot + 1) (take (suc m) xs) → AllByRecursion (λ range. slot + 1 ≤ range.0) (drop (suc m) xs) → last_begun xs slot ≡ Some range.1
last_is xs slot m range within is earlier later =
    let front : take (suc m) xs ≡ take m xs ++ range ∷ [] = subst (λ (r : ℕ × Ballot). take (suc m) xs ≡ take m xs ++ r ∷ []) (sym is) (take-suc xs m range within) in
    let le = of_last (λ (r : ℕ × Ballot). r.0 < slot + 1) (take m xs) range (subst (AllByRecursion (λ (r : ℕ × Ballot). r.0 < slot + 1)) front earlier) in
    ap (λ (l : List (ℕ × Ballot)). last_begun l slot) (sym (take-append-drop (suc m) xs))
    ∙ none_begun-append (take (suc m) xs) (drop (suc m) xs) slot (weaker (λ range. slot + 1 ≤ range.0) (λ range. slot < range.0) (λ range le. omega (arith, le)) (drop (suc m) xs) later)
    ∙ ap (λ (l : List (ℕ × Ballot)). last_begun l slot) front
    ∙ begun_at_last (take m xs) range slot (omega (arith, le))

-- a slot that there is has what the ranges give it, and what is no slot has nothing
pub ranged_within : (xs : List (ℕ × Ballot)) (slot : ℕ) → slot ≤ max_slot → ranged_at xs slot ≡ last_begun xs slot
ranged_within xs slot le = ap (λ (b : Bool). let o : Option Ballot = if b then last_begun xs slot else None in o) (le-leb slot max_slot le)

pub ranged_beyond : (xs : List (ℕ × Ballot)) (slot : ℕ) → max_slot < slot → ranged_at xs slot ≡ None
ranged_beyond xs slot lt = ap (λ (b : Bool). let o : Option Ballot = if b then last_begun xs slot else None in o) (lt-leb slot max_slot lt)

-- where no range begins at the slot or below, and where the one at n - 1 is the last that does
pub ranged_none : (xs : List (ℕ × Ballot)) (slot n : ℕ) → slot ≤ max_slot → n ≡ 0 → AllByRecursion (λ range. slot + 1 ≤ range.0) (drop n xs) → None ≡ ranged_at xs slot
ranged_none xs slot n le none later =
    sym (ranged_within xs slot le
    ∙ none_begun xs slot (weaker (λ range. slot + 1 ≤ range.0) (λ range. slot < range.0) (λ range le. omega (arith, le)) xs (subst (λ (k : ℕ). AllByRecursion (λ range. slot + 1 ≤ range.0) (drop k xs)) none later)))

pub ranged_some : (xs : List (ℕ × Ballot)) (slot n : ℕ) (range : ℕ × Ballot) → slot ≤ max_slot → 0 < n → n ≤ length xs → range ≡ get_or xs (n - 1) range
    → AllByRecursion (λ range. range.0 < slot + 1) (take n xs) → AllByRecursion (λ range. slot + 1 ≤ range.0) (drop n xs) → Some range.1 ≡ ranged_at xs slot
ranged_some xs slot zero range le some within is earlier later = absurd (omega (arith, some))
ranged_some xs slot (suc m) range le some within is earlier later =
    let before : suc m - 1 ≡ m = omega arith in
    sym (ranged_within xs slot le ∙ last_is xs slot m range (omega (arith, within)) (subst (λ (k : ℕ). range ≡ get_or xs k range) before is) earlier later)

-- ---- ballots rise with the slots

-- what a slot has is the ballot of one of the ranges
pub given_by : (P : Ballot → Type 0) (xs : List (ℕ × Ballot)) (slot : ℕ) (ballot : Ballot) → AllByRecursion (λ range. P range.1) xs → last_begun xs slot ≡ Some ballot → P ballot
given_by P [] slot ballot all is = absurd (none_is_some ballot is)
given_by P (x ∷ xs) slot ballot (here, rest) is = by (last_begun xs slot) refl (λ b. given_by P xs slot b rest)
  where
    given : (b : Bool) → leb x.0 slot ≡ b → (if b then Some x.1 else None) ≡ Some ballot → P ballot
    given true e same = subst P (some_is x.1 ballot same) here
    given false e same = absurd (none_is_some ballot same)

    by : (o : Option Ballot) → last_begun xs slot ≡ o → ((b : Ballot) → last_begun xs slot ≡ Some b → P b) → P ballot
    by (Some b) e others = others ballot (e ∙ sym (ap (λ (o : Option Ballot). option_or o (begun x slot)) e) ∙ is)
    by None e others = given (leb x.0 slot) refl (sym (ap (λ (o : Option Ballot). option_or o (begun x slot)) e) ∙ is)

-- a ballot that may be none is at least another such
abbrev pub AtLeast : Option Ballot → Option Ballot → Type 0
AtLeast None o = o ≡ None
AtLeast (Some ballot) o = IsAtLeast ballot o

pub rises_with_slots : (xs : List (ℕ × Ballot)) (slot later : ℕ) → slot ≤ later → Rise xs → AtLeast (last_begun xs later) (last_begun xs slot)
rises_with_slots [] slot later le rise = refl
rises_with_slots (x ∷ xs) slot later le rise = by (last_begun xs later) (last_begun xs slot) refl (rises_with_slots xs slot later le rise.1)
  where
    one : (b c : Bool) → leb x.0 later ≡ b → leb x.0 slot ≡ c
        → AtLeast (let o : Option Ballot = if b then Some x.1 else None in o) (let o : Option Ballot = if c then Some x.1 else None in o)
    one true true e f = inr refl
    one true false e f = tt
    one false false e f = refl
    one false true e f = absurd (let above = leb-false x.0 later e in let below = leb-true x.0 slot f in omega (arith, above, below, le))

    higher_one : (a : Ballot) (c : Bool) → last_begun xs later ≡ Some a → IsAtLeast a (let o : Option Ballot = if c then Some x.1 else None in o)
    higher_one a true e = inl (given_by (λ (b : Ballot). IsBelow x.1 b) xs later a (weaker (λ (r : ℕ × Ballot). (x.0 < r.0) × IsBelow x.1 r.1) (λ (r : ℕ × Ballot). IsBelow x.1 r.1) (λ r both. both.1) xs rise.0) e)
    higher_one a false e = tt

    by : (o p : Option Ballot) → last_begun xs later ≡ o → AtLeast o p → AtLeast (option_or o (begun x later)) (option_or p (begun x slot))
    by None p e none = subst (λ (q : Option Ballot). AtLeast (begun x later) (option_or q (begun x slot))) (sym none) (one (leb x.0 later) (leb x.0 slot) refl refl)
    by (Some a) None e more = higher_one a (leb x.0 slot) e
    by (Some a) (Some b) e more = more

last_is_more : (xs : List (ℕ × Ballot)) (slot : ℕ) → Rise xs → slot ≤ max_slot → AtLeast (ranged_at xs max_slot) (ranged_at xs slot)
last_is_more xs slot rise le =
    subst (λ (o : Option Ballot). AtLeast o (ranged_at xs slot)) (sym (ranged_within xs max_slot (omega arith)))
    (subst (λ (o : Option Ballot). AtLeast (last_begun xs max_slot) o) (sym (ranged_within xs slot le)) (rises_with_slots xs slot max_slot le rise))

-- first slots do not fall, so those below a number stand first
first_slots_rise : (xs : List (ℕ × Ballot)) → Rise xs → IsNonDecreasingBy (λ (range : ℕ × Ballot). range.0) xs
first_slots_rise [] rise = λ i j d le within. absurd (omega (arith, within))
first_slots_rise (x ∷ xs) rise = step (first_slots_rise xs rise.1)
  where
    step : IsNonDecreasingBy (λ (range : ℕ × Ballot). range.0) xs → (i j : ℕ) (d : ℕ × Ballot) → i ≤ j → j < length (x ∷ xs)
        → (get_or (x ∷ xs) i d).0 ≤ (get_or (x ∷ xs) j d).0
    step others zero zero d le within = omega arith
    step others zero (suc j) d le within =
        let below = All-from_recursion (λ (later : ℕ × Ballot). (x.0 < later.0) × IsBelow x.1 later.1) xs rise.0 j d (omega (arith, within)) in
        let less = below.0 in
        omega (arith, less)
    step others (suc i) zero d le within = absurd (omega (arith, le))
    step others (suc i) (suc j) d le within = others i j d (omega (arith, le)) (omega (arith, within))

pub partitioned : (end : ℕ) (xs : List (ℕ × Ballot)) → Rise xs → IsPartitionedBy (λ range. ltb range.0 end) xs
partitioned end xs rise = IsPartitionedBy-ltb (λ (range : ℕ × Ballot). range.0) xs end (first_slots_rise xs rise)

-- what the last slot has is the highest of all
pub highest_at_last : (xs : List (ℕ × Ballot)) (first : ℕ) → first ≤ max_slot → Rise xs → (o : Option Ballot) → o ≡ ranged_at xs max_slot → IsHighestFrom (ranged_at xs) first o
highest_at_last xs first le rise None is = λ slot from.
    subst (λ (o : Option Ballot). AtLeast o (ranged_at xs slot)) (sym is) (last_is_more xs slot rise from.1)
highest_at_last xs first le rise (Some ballot) is = record {
  is_promised = (max_slot, (le, omega arith), sym is);
  greatest = λ slot from. subst (λ (o : Option Ballot). AtLeast o (ranged_at xs slot)) (sym is) (last_is_more xs slot rise from.1);
}

-- ---- a range that is pushed

-- what is above the ballot of a slot is above all ranges that begin at it or below
pub all_below : (xs : List (ℕ × Ballot)) (slot : ℕ) (ballot : Ballot) → Rise xs → IsAbove ballot (last_begun xs slot) → AllByRecursion (λ range. range.0 ≤ slot → IsBelow range.1 ballot) xs
all_below [] slot ballot rise above = tt
all_below (x ∷ xs) slot ballot rise above = by (last_begun xs slot) refl above (all_below xs slot ballot rise.1)
  where
    by : (o : Option Ballot) → last_begun xs slot ≡ o → IsAbove ballot (option_or o (begun x slot))
        → (IsAbove ballot (last_begun xs slot) → AllByRecursion (λ range. range.0 ≤ slot → IsBelow range.1 ballot) xs)
        → AllByRecursion (λ range. range.0 ≤ slot → IsBelow range.1 ballot) (x ∷ xs)
    by (Some b) e more others = (
      λ le. below_carried x.1 b ballot
          (given_by (λ (c : Ballot). IsBelow x.1 c) xs slot b (weaker (λ (r : ℕ × Ballot). (x.0 < r.0) × IsBelow x.1 r.1) (λ (r : ℕ × Ballot). IsBelow x.1 r.1) (λ r both. both.1) xs rise.0) e) more,
      others (subst (IsAbove ballot) (sym e) more),
    )
    by None e more others = (
      λ le. subst (IsAbove ballot) (begun_here x slot le) more,
      others (subst (IsAbove ballot) (sym e) tt),
    )

rise_taken : (n : ℕ) (xs : List (ℕ × Ballot)) → Rise xs → Rise (take n xs)
rise_taken zero xs rise = tt
rise_taken (suc n) [] rise = tt
rise_taken (suc n) (x ∷ xs) (here, rest) = (all_taken (λ later. (x.0 < later.0) × IsBelow x.1 later.1) n xs here, rise_taken n xs rest)

rise_pushed : (xs : List (ℕ × Ballot)) (first : ℕ) (ballot : Ballot) → Rise xs → AllByRecursion (λ range. (range.0 < first) × IsBelow range.1 ballot) xs → Rise (xs ++ (first, ballot) ∷ [])
rise_pushed [] first ballot rise all = (tt, tt)
rise_pushed (x ∷ xs) first ballot (here, rest) (below, all) =
    (all_pushed (λ later. (x.0 < later.0) × IsBelow x.1 later.1) xs (first, ballot) here below, rise_pushed xs first ballot rest all)

pub both : {X : Type 0} (P Q R : X → Type 0) → ((x : X) → P x → Q x → R x) → (xs : List X) → AllByRecursion P xs → AllByRecursion Q xs → AllByRecursion R xs
both P Q R implies [] p q = tt
both P Q R implies (x ∷ xs) (p, ps) (q, qs) = (implies x p q, both P Q R implies xs ps qs)

-- the last slot's ballot is below the new one, so all ballots that stay are
pub rise_with : (xs : List (ℕ × Ballot)) (n first : ℕ) (ballot : Ballot) → first ≤ max_slot → Rise xs → AreBelow (ranged_at xs) first ballot
    → AllByRecursion (λ range. range.0 < first) (take n xs) → Rise (take n xs ++ (first, ballot) ∷ [])
rise_with xs n first ballot le rise below earlier =
    let above = subst (IsAbove ballot) (ranged_within xs max_slot (omega arith)) (below max_slot (le, omega arith)) in
    rise_pushed (take n xs) first ballot (rise_taken n xs rise)
    (both (λ range. range.0 < first) (λ range. range.0 ≤ max_slot → IsBelow range.1 ballot) (λ range. (range.0 < first) × IsBelow range.1 ballot)
    (λ range lt less. (lt, less (omega (arith, lt, le)))) (take n xs) earlier (all_taken (λ range. range.0 ≤ max_slot → IsBelow range.1 ballot) n xs (all_below xs max_slot ballot rise above)))

pub binds_with : (xs ys : List (ℕ × Ballot)) (n first : ℕ) (ballot : Ballot) → AllByRecursion (λ range. first ≤ range.0) (drop n xs) → ys ≡ take n xs ++ (first, ballot) ∷ []
    → BindsFrom (ranged_at xs) (ranged_at ys) first ballot
binds_with xs ys n first ballot later is = subst (λ (l : List (ℕ × Ballot)). BindsFrom (ranged_at xs) (ranged_at l) first ballot) (sym is) (record {
  from = λ slot from. ranged_within (take n xs ++ (first, ballot) ∷ []) slot from.1 ∙ begun_at_last (take n xs) (first, ballot) slot from.0;
  others = other;
})
  where
    new : List (ℕ × Ballot)
    new = take n xs ++ (first, ballot) ∷ []

    before : (slot : ℕ) → slot < first → last_begun new slot ≡ last_begun xs slot
    before slot lt =
        none_begun-append (take n xs) ((first, ballot) ∷ []) slot (lt, tt)
        ∙ sym (none_begun-append (take n xs) (drop n xs) slot (weaker (λ range. first ≤ range.0) (λ range. slot < range.0) (λ range le. omega (arith, le, lt)) (drop n xs) later))
        ∙ ap (λ (l : List (ℕ × Ballot)). last_begun l slot) (take-append-drop n xs)

    other : (slot : ℕ) → ¬ IsFrom first slot → ranged_at new slot ≡ ranged_at xs slot
    other slot not_from = elim (leb_tells slot max_slot) as (λ _. ranged_at new slot ≡ ranged_at xs slot) [
      | inl within ↦ elim (leb_tells first slot) as (λ _. ranged_at new slot ≡ ranged_at xs slot) [
        | inl from ↦ absurd (not_from (from.1, within.1))
        | inr below ↦ ranged_within new slot within.1 ∙ before slot below.1 ∙ sym (ranged_within xs slot within.1)
      ]
      | inr beyond ↦ ranged_beyond new slot beyond.1 ∙ sym (ranged_beyond xs slot beyond.1)
    ]
