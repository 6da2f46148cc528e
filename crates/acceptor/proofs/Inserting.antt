-- A range that is put among others: a slot has the highest ballot of those that begin at it or below, whatever their order was.
use Rattle.std.proofs.Common.{◌≡◌, ℕ, zero, suc, ◌<◌, ◌≤◌, Bool, true, false, ◌||◌, leb, nat_lt, if◌then◌else◌, List, [], ◌∷◌, ◌++◌, take, drop, filter, Option, Some, None, ◌⊎◌, inl, inr, refl, sym, ap, subst, ◌∙◌, arith, leb-true, leb-false, ltb-true, lt-ltb}
use Rattle.std.specs.List.{AllByRecursion, Contains}
use Rattle.std.specs.Option.{option_or}
use Rattle.std.specs.Ordering.{is_lt}
use Rattle.std.proofs.lemmas.Bool.Decides.{leb_tells}
use Rattle.std.proofs.lemmas.List.{take-append-drop}
use Rattle.std.proofs.lemmas.List.Elements.{Contains-append_left, Contains-append_right, Contains-append_cases, recursion_from_All, filter_passes}
use Rattle.ballots.specs.Ballot.{Ballot, IsBelow, IsAbove, IsAtLeast, ballot_cmp}
use Rattle.ballots.specs.Limits.{max_slot}
use Rattle.ballots.proofs.CallerLemmas.{below_carried, not_below_itself, at_least_where_not_below}
use Rattle.acceptor.specs.Ranges.{last_begun, ranged_at, Rise}
use Rattle.acceptor.specs.Ranged.{IsFrom, AreBelow, BindsFrom}
use Rattle.acceptor.specs.Raising.{RaisesFrom}
use Rattle.acceptor.proofs.Lists.{nothing_in, only_one}
use Rattle.acceptor.proofs.Highest.{neither_below, in_front, behind_front}
use Rattle.acceptor.proofs.Ranging.{begun, given_by, weaker, both, all_taken, all_below, ranged_within, ranged_beyond, rises_with_slots, AtLeast}
use Rattle.acceptor.proofs.Reporting.{below_if, not_below_if, kept_in, was_in}
use Rattle.acceptor.proofs.Promising.{at_least_higher}

-- ---- the highest of the ranges that begin at a slot or below

-- one of these ranges has the ballot, and none of them a higher one, or there are no such ranges
abbrev pub HighestBegun : List (ℕ × Ballot) → ℕ → Option Ballot → Type 0
HighestBegun xs slot None = (r : ℕ × Ballot) → Contains xs r → r.0 ≤ slot → ⊥
HighestBegun xs slot (Some ballot) =
    ((first : ℕ) × Contains xs (first, ballot) × (first ≤ slot)) × ((r : ℕ × Ballot) → Contains xs r → r.0 ≤ slot → IsAtLeast ballot (Some r.1))

front_or_behind : {X : Type 0} (x : X) (xs : List X) (y : X) → Contains (x ∷ xs) y → (y ≡ x) ⊎ Contains xs y
front_or_behind {X} x xs y has = elim (Contains-append_cases (x ∷ []) xs y has) as (λ _. (y ≡ x) ⊎ Contains xs y) [
  | inl here ↦ inl (only_one x y here)
  | inr behind ↦ inr behind
]

-- the last of ranges that rise is the highest
highest_begun : (xs : List (ℕ × Ballot)) (slot : ℕ) → Rise xs → HighestBegun xs slot (last_begun xs slot)
highest_begun [] slot rise = λ r has le. absurd (nothing_in r has)
highest_begun (x ∷ xs) slot rise = by (last_begun xs slot) refl (highest_begun xs slot rise.1)
  where
    here : (t : Bool) → leb x.0 slot ≡ t → HighestBegun xs slot None → HighestBegun (x ∷ xs) slot (let o : Option Ballot = if t then Some x.1 else None in o)
    here true e none = (
      (x.0, in_front x xs, leb-true x.0 slot e),
      λ r has le. elim (front_or_behind x xs r has) as (λ _. IsAtLeast x.1 (Some r.1)) [
        | inl is ↦ inr (ap (λ (s : ℕ × Ballot). s.1) is)
        | inr behind ↦ absurd (none r behind le)
      ],
    )
    here false e none = λ r has le. elim (front_or_behind x xs r has) as (λ _. ⊥) [
      | inl is ↦ (let later = leb-false x.0 slot e in let same : r.0 ≡ x.0 = ap (λ (s : ℕ × Ballot). s.0) is in absurd (omega (arith, later, same, le)))
      | inr behind ↦ none r behind le
    ]

    by : (o : Option Ballot) → last_begun xs slot ≡ o → HighestBegun xs slot o → HighestBegun (x ∷ xs) slot (option_or o (begun x slot))
    by None e none = here (leb x.0 slot) refl none
    by (Some b) e (at_first, most) =
        let below : IsBelow x.1 b =
        given_by (λ (c : Ballot). IsBelow x.1 c) xs slot b (weaker (λ (r : ℕ × Ballot). (x.0 < r.0) × IsBelow x.1 r.1) (λ (r : ℕ × Ballot). IsBelow x.1 r.1) (λ r both. both.1) xs rise.0) e in (
          (at_first.0, behind_front x xs (at_first.0, b) at_first.1, at_first.2),
          λ r has le. elim (front_or_behind x xs r has) as (λ _. IsAtLeast b (Some r.1)) [
            | inl is ↦ inl (subst (λ (s : ℕ × Ballot). IsBelow s.1 b) (sym is) below)
            | inr behind ↦ most r behind le
          ],
        )

one_begun : (xs : List (ℕ × Ballot)) (slot : ℕ) (o p : Option Ballot) → HighestBegun xs slot o → HighestBegun xs slot p → o ≡ p
one_begun xs slot None None none nothing = refl
one_begun xs slot None (Some b) none (at_first, most) = absurd (none (at_first.0, b) at_first.1 at_first.2)
one_begun xs slot (Some a) None (at_first, most) none = absurd (none (at_first.0, a) at_first.1 at_first.2)
one_begun xs slot (Some a) (Some b) (of_a, most_a) (of_b, most_b) =
    ap (λ (x : Ballot). let o : Option Ballot = Some x in o)
    (neither_below a b ((at_least_where_not_below b a).0 (most_a (of_b.0, b) of_b.1 of_b.2)) ((at_least_where_not_below a b).0 (most_b (of_a.0, a) of_a.1 of_a.2)))

found_begun : (xs : List (ℕ × Ballot)) (slot : ℕ) (o : Option Ballot) → Rise xs → HighestBegun xs slot o → last_begun xs slot ≡ o
found_begun xs slot o rise is = one_begun xs slot (last_begun xs slot) o (highest_begun xs slot rise) is

-- ---- what stays where a range is put, and what is put

-- a range that begins below the slot, or has a higher ballot
abbrev pub stays : ℕ → Ballot → ℕ × Ballot → Bool
stays first ballot range = nat_lt range.0 first || is_lt (ballot_cmp ballot range.1)

abbrev Stays : ℕ → Ballot → ℕ × Ballot → Type 0
Stays first ballot range = (range.0 < first) ⊎ IsBelow ballot range.1

stays_so : (first : ℕ) (ballot : Ballot) (range : ℕ × Ballot) → stays first ballot range ≡ true → Stays first ballot range
stays_so first ballot range = by (nat_lt range.0 first) refl
  where
    by : (t : Bool) → nat_lt range.0 first ≡ t → (t || is_lt (ballot_cmp ballot range.1)) ≡ true → Stays first ballot range
    by true e passes = inl (ltb-true range.0 first e)
    by false e passes = inr (below_if ballot range.1 passes)

so_stays : (first : ℕ) (ballot : Ballot) (range : ℕ × Ballot) → Stays first ballot range → stays first ballot range ≡ true
so_stays first ballot range (inl below) = ap (λ (t : Bool). t || is_lt (ballot_cmp ballot range.1)) (lt-ltb range.0 first below)
so_stays first ballot range (inr above) = by (nat_lt range.0 first) (is_lt (ballot_cmp ballot range.1)) refl
  where
    by : (t u : Bool) → is_lt (ballot_cmp ballot range.1) ≡ u → (t || u) ≡ true
    by true u e = refl
    by false true e = refl
    by false false e = absurd (not_below_if ballot range.1 e above)

-- the ranges that stay, and this one with them
record Among (xs new : List (ℕ × Ballot)) (first : ℕ) (ballot : Ballot) : Type 0 where
  stayed : (r : ℕ × Ballot) → Contains new r → Contains xs r ⊎ (r ≡ (first, ballot))
  kept : (r : ℕ × Ballot) → Contains xs r → Stays first ballot r → Contains new r
  put : Contains new (first, ballot)

module _ (xs new : List (ℕ × Ballot)) (first : ℕ) (ballot : Ballot) where
  raised_among : (slot : ℕ) → first ≤ slot → Among xs new first ballot → (o : Option Ballot) → HighestBegun xs slot o → IsAtLeast ballot o → HighestBegun new slot (Some ballot)
  raised_among slot from among o is more = (
    (first, among.put, from),
    λ r has le. elim (among.stayed r has) as (λ _. IsAtLeast ballot (Some r.1)) [
      | inl before ↦ at_least o is more r before le
      | inr now ↦ inr (ap (λ (s : ℕ × Ballot). s.1) now)
    ],
  )
    where
      at_least : (o : Option Ballot) → HighestBegun xs slot o → IsAtLeast ballot o → (r : ℕ × Ballot) → Contains xs r → r.0 ≤ slot → IsAtLeast ballot (Some r.1)
      at_least None none more r has le = absurd (none r has le)
      at_least (Some d) (at_first, most) more r has le = at_least_higher ballot d r.1 more (most r has le)

  kept_among : (slot : ℕ) (held : Ballot) → Among xs new first ballot → HighestBegun xs slot (Some held) → IsBelow ballot held → HighestBegun new slot (Some held)
  kept_among slot held among (at_first, most) below = (
    (at_first.0, among.kept (at_first.0, held) at_first.1 (inr below), at_first.2),
    λ r has le. elim (among.stayed r has) as (λ _. IsAtLeast held (Some r.1)) [
      | inl before ↦ most r before le
      | inr now ↦ inl (subst (λ (s : ℕ × Ballot). IsBelow s.1 held) (sym now) below)
    ],
  )

  before_among : (slot : ℕ) → slot < first → Among xs new first ballot → (o : Option Ballot) → HighestBegun xs slot o → HighestBegun new slot o
  before_among slot below among None none = λ r has le. elim (among.stayed r has) as (λ _. ⊥) [
    | inl before ↦ none r before le
    | inr now ↦ (let same : r.0 ≡ first = ap (λ (s : ℕ × Ballot). s.0) now in absurd (omega (arith, same, le, below)))
  ]
  before_among slot below among (Some held) (at_first, most) = (
    (at_first.0, among.kept (at_first.0, held) at_first.1 (inl (let le = at_first.2 in omega (arith, le, below))), at_first.2),
    λ r has le. elim (among.stayed r has) as (λ _. IsAtLeast held (Some r.1)) [
      | inl before ↦ most r before le
      | inr now ↦ (let same : r.0 ≡ first = ap (λ (s : ℕ × Ballot). s.0) now in absurd (omega (arith, same, le, below)))
    ],
  )

  raises_among : Rise xs → Rise new → Among xs new first ballot → RaisesFrom (ranged_at xs) (ranged_at new) first ballot
  raises_among rise rise_new among = record {
    kept = λ slot held from is below.
        let was : last_begun xs slot ≡ Some held = sym (ranged_within xs slot from.1) ∙ is in
        ranged_within new slot from.1 ∙ found_begun new slot (Some held) rise_new (kept_among slot held among (subst (HighestBegun xs slot) was (highest_begun xs slot rise)) below) ∙ sym is;
    raised = λ slot from more.
        ranged_within new slot from.1
        ∙ found_begun new slot (Some ballot) rise_new
        (raised_among slot from.0 among (last_begun xs slot) (highest_begun xs slot rise) (subst (IsAtLeast ballot) (ranged_within xs slot from.1) more));
    others = other;
  }
    where
      other : (slot : ℕ) → ¬ IsFrom first slot → ranged_at new slot ≡ ranged_at xs slot
      other slot not_from = elim (leb_tells slot max_slot) as (λ _. ranged_at new slot ≡ ranged_at xs slot) [
        | inl within ↦ elim (leb_tells first slot) as (λ _. ranged_at new slot ≡ ranged_at xs slot) [
          | inl from ↦ absurd (not_from (from.1, within.1))
          | inr below ↦
              ranged_within new slot within.1 ∙ found_begun new slot (last_begun xs slot) rise_new (before_among slot below.1 among (last_begun xs slot) (highest_begun xs slot rise))
              ∙ sym (ranged_within xs slot within.1)
        ]
        | inr beyond ↦ ranged_beyond new slot beyond.1 ∙ sym (ranged_beyond xs slot beyond.1)
      ]

-- ---- the ranges that stay still rise, with the one that is put where it belongs

all_filtered : {X : Type 0} (P : X → Type 0) (p : X → Bool) (xs : List X) → AllByRecursion P xs → AllByRecursion P (filter p xs)
all_filtered P p [] all = tt
all_filtered {X} P p (x ∷ xs) (here, rest) = by (p x) (all_filtered P p xs rest)
  where
    by : (t : Bool) → AllByRecursion P (filter p xs) → AllByRecursion P (if t then x ∷ filter p xs else filter p xs)
    by true others = (here, others)
    by false others = others

all_dropped : {X : Type 0} (P : X → Type 0) (n : ℕ) (xs : List X) → AllByRecursion P xs → AllByRecursion P (drop n xs)
all_dropped P zero xs all = all
all_dropped P (suc n) [] all = tt
all_dropped P (suc n) (x ∷ xs) (here, rest) = all_dropped P n xs rest

pub rise_filtered : (p : ℕ × Ballot → Bool) (xs : List (ℕ × Ballot)) → Rise xs → Rise (filter p xs)
rise_filtered p [] rise = tt
rise_filtered p (x ∷ xs) (here, rest) = by (p x) (rise_filtered p xs rest)
  where
    by : (t : Bool) → Rise (filter p xs) → Rise (if t then x ∷ filter p xs else filter p xs)
    by true rise = (all_filtered (λ later. (x.0 < later.0) × IsBelow x.1 later.1) p xs here, rise)
    by false rise = rise

all_inserted : {X : Type 0} (P : X → Type 0) (n : ℕ) (xs : List X) (y : X) → AllByRecursion P xs → P y → AllByRecursion P (take n xs ++ y ∷ drop n xs)
all_inserted P zero xs y all here = (here, all)
all_inserted P (suc n) [] y all here = (here, tt)
all_inserted P (suc n) (x ∷ xs) y (first, rest) here = (first, all_inserted P n xs y rest here)

rise_inserted : (n : ℕ) (xs : List (ℕ × Ballot)) (y : ℕ × Ballot) → Rise xs → AllByRecursion (λ range. (range.0 < y.0) × IsBelow range.1 y.1) (take n xs)
    → AllByRecursion (λ range. (y.0 < range.0) × IsBelow y.1 range.1) (drop n xs) → Rise (take n xs ++ y ∷ drop n xs)
rise_inserted zero xs y rise earlier later = (later, rise)
rise_inserted (suc n) [] y rise earlier later = (tt, tt)
rise_inserted (suc n) (x ∷ xs) y (here, rest) (below, earlier) later =
    (all_inserted (λ later. (x.0 < later.0) × IsBelow x.1 later.1) n xs y here below, rise_inserted n xs y rest earlier later)

module _ (xs : List (ℕ × Ballot)) (n first : ℕ) (ballot : Ballot) where
  abbrev left : List (ℕ × Ballot)
  left = filter (stays first ballot) xs

  abbrev inserted : List (ℕ × Ballot)
  inserted = take n left ++ (first, ballot) ∷ drop n left

  inserted_among : Among xs inserted first ballot
  inserted_among = record {
    stayed = λ r has. elim (Contains-append_cases (take n left) ((first, ballot) ∷ drop n left) r has) as (λ _. Contains xs r ⊎ (r ≡ (first, ballot))) [
      | inl early ↦ inl (was_in (stays first ballot) xs r (whole r (Contains-append_left (take n left) (drop n left) r early)))
      | inr from ↦ elim (front_or_behind (first, ballot) (drop n left) r from) as (λ _. Contains xs r ⊎ (r ≡ (first, ballot))) [
        | inl is ↦ inr is
        | inr late ↦ inl (was_in (stays first ballot) xs r (whole r (Contains-append_right (take n left) (drop n left) r late)))
      ]
    ];
    kept = λ r has is. elim (Contains-append_cases (take n left) (drop n left) r (parted r (kept_in (stays first ballot) xs r (so_stays first ballot r is) has))) as (λ _. Contains inserted r) [
      | inl early ↦ Contains-append_left (take n left) ((first, ballot) ∷ drop n left) r early
      | inr late ↦ Contains-append_right (take n left) ((first, ballot) ∷ drop n left) r (behind_front (first, ballot) (drop n left) r late)
    ];
    put = Contains-append_right (take n left) ((first, ballot) ∷ drop n left) (first, ballot) (in_front (first, ballot) (drop n left));
  }
    where
      whole : (r : ℕ × Ballot) → Contains (take n left ++ drop n left) r → Contains left r
      whole r has = subst (λ (l : List (ℕ × Ballot)). Contains l r) (take-append-drop n left) has

      parted : (r : ℕ × Ballot) → Contains left r → Contains (take n left ++ drop n left) r
      parted r has = subst (λ (l : List (ℕ × Ballot)). Contains l r) (sym (take-append-drop n left)) has

  -- a range that begins there and has a higher ballot begins later: that of the slot itself is below
  after : (range : ℕ × Ballot) → (range.0 ≤ first → IsBelow range.1 ballot) → stays first ballot range ≡ true → first ≤ range.0 → (first < range.0) × IsBelow ballot range.1
  after range below passes le = elim (stays_so first ballot range passes) as (λ _. (first < range.0) × IsBelow ballot range.1) [
    | inl early ↦ absurd (omega (arith, early, le))
    | inr above ↦ (
      elim (leb_tells range.0 first) as (λ _. first < range.0) [
        | inl most ↦ absurd (not_below_itself ballot (below_carried ballot range.1 ballot above (below most.1)))
        | inr less ↦ less.1
      ],
      above,
    )
  ]

  module _ (rise : Rise xs) (above : IsAbove ballot (last_begun xs first)) (earlier : AllByRecursion (λ range. range.0 < first) (take n left))
      (later : AllByRecursion (λ range. first ≤ range.0) (drop n left)) where
    all_left : AllByRecursion (λ range. range.0 ≤ first → IsBelow range.1 ballot) left
    all_left = all_filtered (λ (range : ℕ × Ballot). range.0 ≤ first → IsBelow range.1 ballot) (stays first ballot) xs (all_below xs first ballot rise above)

    inserted_rise : Rise inserted
    inserted_rise = rise_inserted n left (first, ballot) (rise_filtered (stays first ballot) xs rise)
        (both (λ range. range.0 < first) (λ range. range.0 ≤ first → IsBelow range.1 ballot) (λ range. (range.0 < first) × IsBelow range.1 ballot)
        (λ range lt less. (lt, less (omega (arith, lt)))) (take n left) earlier (all_taken (λ range. range.0 ≤ first → IsBelow range.1 ballot) n left all_left))
        (both (λ range. first ≤ range.0) (λ range. (range.0 ≤ first → IsBelow range.1 ballot) × (stays first ballot range ≡ true)) (λ range. (first < range.0) × IsBelow ballot range.1)
        (λ range le both. after range both.0 both.1 le) (drop n left) later
        (both (λ range. range.0 ≤ first → IsBelow range.1 ballot) (λ range. stays first ballot range ≡ true) (λ range. (range.0 ≤ first → IsBelow range.1 ballot) × (stays first ballot range ≡ true))
        (λ range less passes. (less, passes)) (drop n left) (all_dropped (λ range. range.0 ≤ first → IsBelow range.1 ballot) n left all_left)
        (all_dropped (λ range. stays first ballot range ≡ true) n left (recursion_from_All (λ range. stays first ballot range ≡ true) left (filter_passes (stays first ballot) xs)))))

    inserted_raises : RaisesFrom (ranged_at xs) (ranged_at inserted) first ballot
    inserted_raises = raises_among xs inserted first ballot rise inserted_rise inserted_among

-- the ranges that stay, cut at the number of those that begin below the slot, with this range at the cut
pub put_among : (xs ys cut new : List (ℕ × Ballot)) (n first number : ℕ) (ballot : Ballot) → Rise xs → first ≤ max_slot → IsAbove ballot (ranged_at xs first) → ys ≡ filter (stays first ballot) xs
    → cut ≡ ys → number ≡ first → AllByRecursion (λ range. range.0 < number) (take n cut) → AllByRecursion (λ range. number ≤ range.0) (drop n cut)
    → new ≡ take n ys ++ (first, ballot) ∷ drop n ys → Rise new × RaisesFrom (ranged_at xs) (ranged_at new) first ballot
put_among xs ys cut new n first number ballot rise within above is_left is_cut is_number earlier later is_new =
    let highest = subst (IsAbove ballot) (ranged_within xs first within) above in
    let early = subst (λ (l : List (ℕ × Ballot)). AllByRecursion (λ range. range.0 < first) (take n l)) (is_cut ∙ is_left)
    (subst (λ (k : ℕ). AllByRecursion (λ range. range.0 < k) (take n cut)) is_number earlier) in
    let late = subst (λ (l : List (ℕ × Ballot)). AllByRecursion (λ range. first ≤ range.0) (drop n l)) (is_cut ∙ is_left)
    (subst (λ (k : ℕ). AllByRecursion (λ range. k ≤ range.0) (drop n cut)) is_number later) in
    subst (λ (l : List (ℕ × Ballot)). Rise l × RaisesFrom (ranged_at xs) (ranged_at l) first ballot)
    (sym (is_new ∙ ap (λ (l : List (ℕ × Ballot)). take n l ++ (first, ballot) ∷ drop n l) is_left))
    (inserted_rise xs n first ballot rise highest early late, inserted_raises xs n first ballot rise highest early late)

-- ---- where nothing changes, and where all are below

-- what the first slot has at least, all later ones have at least
pub stays_raised : (xs : List (ℕ × Ballot)) (first : ℕ) (ballot held : Ballot) → Rise xs → ranged_at xs first ≡ Some held → IsAtLeast held (Some ballot)
    → RaisesFrom (ranged_at xs) (ranged_at xs) first ballot
stays_raised xs first ballot held rise is more = record {
  kept = λ slot now from has below. refl;
  raised = λ slot from least.
      ranged_within xs slot from.1
      ∙ same (last_begun xs slot) (subst (IsAtLeast ballot) (ranged_within xs slot from.1) least)
      (subst (AtLeast (last_begun xs slot)) (sym (ranged_within xs first (let le = from.0 in let most = from.1 in omega (arith, le, most))) ∙ is) (rises_with_slots xs first slot from.0 rise));
  others = λ slot apart. refl;
}
  where
    same : (o : Option Ballot) → IsAtLeast ballot o → AtLeast o (Some held) → o ≡ Some ballot
    same None least none = absurd (let no : Some held ≡ None = none in cc)
    same (Some a) least most =
        ap (λ (x : Ballot). let o : Option Ballot = Some x in o)
        (neither_below a ballot ((at_least_where_not_below ballot a).0 (at_least_higher a held ballot most more)) ((at_least_where_not_below a ballot).0 least))

-- a ballot above all of them raises each
pub binds_raised : (old new : ℕ → Option Ballot) (first : ℕ) (ballot : Ballot) → AreBelow old first ballot → BindsFrom old new first ballot → RaisesFrom old new first ballot
binds_raised old new first ballot below binds = record {
  kept = λ slot held from is less.
      absurd (not_below_itself ballot (below_carried ballot held ballot less (subst (IsAbove ballot) is (below slot from))));
  raised = λ slot from more. binds.from slot from;
  others = binds.others;
}
