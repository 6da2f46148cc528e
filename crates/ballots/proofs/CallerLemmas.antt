-- What a caller cites of the order of ballots and of sets of members. Each lemma speaks of the definitions in `specs/` alone.
use Rattle.std.proofs.Common.{◌≡◌, ℕ, zero, suc, ◌+◌, ◌<◌, ◌≤◌, ◌⊎◌, inl, inr, Bool, true, false, ◌||◌, ◌&&◌, IsTrue, ◌↔◌, cond, eqb, Some, refl, sym, ap, subst, ◌∙◌, eq-eqb, ne_eqb, arith}
use Rattle.std.proofs.lemmas.Bool.{cases_lt, cases_eq, eqb-true}
use Rattle.ballots.specs.Ballot.{Ballot, IsBelow, IsAtLeast, is_same_ballot}
use Rattle.ballots.specs.Majority.{tally, IsMajority}

-- ---- the order of ballots

same_ballot : (a b : Ballot) → a.round ≡ b.round → a.node ≡ b.node → a ≡ b
same_ballot a b e f = ap (λ (r : ℕ). let x : Ballot = record { round = r; node = a.node } in x) e ∙ ap (λ (k : ℕ). let x : Ballot = record { round = b.round; node = k } in x) f

pub not_below_itself : (a : Ballot) → IsBelow a a → ⊥
not_below_itself a (inl lt) = absurd (omega (arith, lt))
not_below_itself a (inr e) = absurd (omega (arith, e.1))

pub below_carried : (a b c : Ballot) → IsBelow a b → IsBelow b c → IsBelow a c
below_carried a b c (inl lt) (inl less) = inl (omega (arith, lt, less))
below_carried a b c (inl lt) (inr e) = inl (omega (arith, lt, e.0))
below_carried a b c (inr e) (inl less) = inl (omega (arith, e.0, less))
below_carried a b c (inr e) (inr f) = inr (omega (arith, e.0, f.0), omega (arith, e.1, f.1))

-- of two ballots that are not the same, one is below the other
pub either_below : (a b : Ballot) → (a ≡ b) ⊎ (IsBelow a b ⊎ IsBelow b a)
either_below a b =
    elim (cases_lt a.round b.round) as (λ _. (a ≡ b) ⊎ (IsBelow a b ⊎ IsBelow b a)) [
      | inl lt ↦ inr (inl (inl lt))
      | inr ge ↦ elim (cases_lt b.round a.round) as (λ _. (a ≡ b) ⊎ (IsBelow a b ⊎ IsBelow b a)) [
        | inl gt ↦ inr (inr (inl gt))
        | inr le ↦
            let same : a.round ≡ b.round = omega (arith, ge, le) in
            elim (cases_lt a.node b.node) as (λ _. (a ≡ b) ⊎ (IsBelow a b ⊎ IsBelow b a)) [
              | inl less ↦ inr (inl (inr (same, less)))
              | inr more ↦ elim (cases_lt b.node a.node) as (λ _. (a ≡ b) ⊎ (IsBelow a b ⊎ IsBelow b a)) [
                | inl greater ↦ inr (inr (inr (sym same, greater)))
                | inr less ↦ inl (same_ballot a b same (omega (arith, more, less)))
              ]
            ]
      ]
    ]

pub below_or_at_least : (a b : Ballot) → IsBelow a b ⊎ IsAtLeast a (Some b)
below_or_at_least a b = elim (either_below a b) as (λ _. IsBelow a b ⊎ IsAtLeast a (Some b)) [
  | inl same ↦ inr (inr (sym same))
  | inr apart ↦ elim apart as (λ _. IsBelow a b ⊎ IsAtLeast a (Some b)) [ inl below ↦ inl below | inr above ↦ inr (inl above) ]
]

-- at least a ballot exactly where not below it
pub at_least_where_not_below : (a b : Ballot) → (IsAtLeast b (Some a) ↔ (IsBelow b a → ⊥))
at_least_where_not_below a b = (there, back)
  where
    there : IsAtLeast b (Some a) → IsBelow b a → ⊥
    there (inl above) below = not_below_itself a (below_carried a b a above below)
    there (inr same) below = not_below_itself b (subst (λ (x : Ballot). IsBelow b x) same below)

    back : (IsBelow b a → ⊥) → IsAtLeast b (Some a)
    back not_below = elim (below_or_at_least b a) as (λ _. IsAtLeast b (Some a)) [ inl below ↦ absurd (not_below below) | inr at_least ↦ at_least ]

-- the test passes of one ballot alone
pub same_ballot_is : (a b : Ballot) → (IsTrue (is_same_ballot a b) ↔ (a ≡ b))
same_ballot_is a b = (there, back)
  where
    both : (r k : Bool) → (r && k) ≡ true → (r ≡ true) × (k ≡ true)
    both true true e = (refl, refl)
    both true false e = absurd cc
    both false k e = absurd cc

    there : IsTrue (is_same_ballot a b) → a ≡ b
    there e =
        let parts = both (eqb a.round b.round) (eqb a.node b.node) e in
        same_ballot a b (eqb-true a.round b.round parts.0) (eqb-true a.node b.node parts.1)

    back : a ≡ b → IsTrue (is_same_ballot a b)
    back e = subst (λ (x : Ballot). is_same_ballot a x ≡ true) e (rw (eq-eqb a.round a.round refl, eq-eqb a.node a.node refl) refl)

-- what is at least a ballot is below nothing that this ballot is not below
pub not_below_more : (a b c : Ballot) → IsAtLeast b (Some a) → (IsBelow a c → ⊥) → IsBelow b c → ⊥
not_below_more a b c (inl below) not_ac bc = not_ac (below_carried a b c below bc)
not_below_more a b c (inr same) not_ac bc = not_ac (subst (λ (x : Ballot). IsBelow x c) (sym same) bc)

-- a ballot that is not above another is below all that are above that other
pub below_above : (a b c : Ballot) → (IsBelow b a → ⊥) → IsBelow b c → IsBelow a c
below_above a b c not_above below = elim (either_below a b) as (λ _. IsBelow a c) [
  | inl same ↦ subst (λ (x : Ballot). IsBelow x c) (sym same) below
  | inr apart ↦ elim apart as (λ _. IsBelow a c) [ inl lower ↦ below_carried a b c lower below | inr above ↦ absurd (not_above above) ]
]

-- what is not below a ballot that is not below another is not below that other
pub not_below_carried : (a b c : Ballot) → (IsBelow c b → ⊥) → (IsBelow b a → ⊥) → IsBelow c a → ⊥
not_below_carried a b c not_cb not_ba below = not_ba (below_above b c a not_cb below)

-- ---- sizes of sets of members

-- the size with the member n, who is in the set or not
abbrev pub with_one : Bool → ℕ → ℕ
with_one is_in size = cond is_in (suc size) size

pub tally_none : (n : ℕ) → tally n (λ node. false) ≡ 0
tally_none zero = refl
tally_none (suc n) = tally_none n

pub tally_all : (n : ℕ) → tally n (λ node. true) ≡ n
tally_all zero = refl
tally_all (suc n) = ap suc (tally_all n)

-- sets of the same members have one size
pub tally_same : (n : ℕ) (p q : ℕ → Bool) → ((a : ℕ) → a < n → p a ≡ q a) → tally n p ≡ tally n q
tally_same zero p q same = refl
tally_same (suc n) p q same =
    ap (λ (b : Bool). with_one b (tally n p)) (same n (omega arith)) ∙ ap (with_one (q n)) (tally_same n p q (λ a lt. same a (omega (arith, lt))))

more_step : (m n : ℕ) (x y : Bool) → (x ≡ true → y ≡ true) → m ≤ n → with_one x m ≤ with_one y n
more_step m n true true implies le = omega (arith, le)
more_step m n true false implies le = absurd (let no : false ≡ true = implies refl in cc)
more_step m n false true implies le = omega (arith, le)
more_step m n false false implies le = le

-- a set with more members is no smaller
pub tally_more : (n : ℕ) (p q : ℕ → Bool) → ((a : ℕ) → a < n → p a ≡ true → q a ≡ true) → tally n p ≤ tally n q
tally_more zero p q implies = omega arith
tally_more (suc n) p q implies =
    more_step (tally n p) (tally n q) (p n) (q n) (implies n (omega arith)) (tally_more n p q (λ a lt. implies a (omega (arith, lt))))

or_false : (b : Bool) → (b || false) ≡ b
or_false true = refl
or_false false = refl

or_true : (b : Bool) → (b || true) ≡ true
or_true true = refl
or_true false = refl

-- with one more member a set has one member more
pub tally_with : (n a : ℕ) (p : ℕ → Bool) → a < n → p a ≡ false → tally n (λ b. p b || eqb a b) ≡ suc (tally n p)
tally_with zero a p lt not_in = absurd (omega (arith, lt))
tally_with (suc n) a p lt not_in = elim (cases_eq a n) as (λ _. tally (suc n) (λ b. p b || eqb a b) ≡ suc (tally (suc n) p)) [
  | inl own ↦
      let there : (p n || eqb a n) ≡ true = ap (λ (b : Bool). p n || b) (eq-eqb a n own) ∙ or_true (p n) in
      let before : p n ≡ false = ap p (sym own) ∙ not_in in
      let below = tally_same n (λ b. p b || eqb a b) p (λ b lt_b. ap (λ (c : Bool). p b || c) (ne_eqb a b (λ same. absurd (omega (arith, same, own, lt_b)))) ∙ or_false (p b)) in
      ap (λ (b : Bool). with_one b (tally n (λ b. p b || eqb a b))) there ∙ ap suc below ∙ ap suc (sym (ap (λ (b : Bool). with_one b (tally n p)) before))
  | inr other ↦
      let same : (p n || eqb a n) ≡ p n = ap (λ (b : Bool). p n || b) (ne_eqb a n other) ∙ or_false (p n) in
      let below = tally_with n a p (omega (arith, lt, other)) not_in in
      ap (λ (b : Bool). with_one b (tally n (λ b. p b || eqb a b))) same ∙ ap (with_one (p n)) below ∙ later (p n) (tally n p)
]
  where
    later : (b : Bool) (size : ℕ) → with_one b (suc size) ≡ suc (with_one b size)
    later true size = refl
    later false size = refl

-- a member that is in the set
pub record Member (n : ℕ) (p : ℕ → Bool) : Type 0 where
  pub member : ℕ
  pub within : member < n
  pub is_in : p member ≡ true

some_step : (n : ℕ) (p : ℕ → Bool) (x : Bool) → p n ≡ x → 0 < with_one x (tally n p) → (0 < tally n p → Member n p) → Member (suc n) p
some_step n p true e lt rest = record { member = n; within = omega arith; is_in = e }
some_step n p false e lt rest = let m = rest lt in record { member = m.member; within = omega (arith, m.within); is_in = m.is_in }

pub some_member : (n : ℕ) (p : ℕ → Bool) → 0 < tally n p → Member n p
some_member zero p lt = absurd (omega (arith, lt))
some_member (suc n) p lt = some_step n p (p n) refl lt (some_member n p)

-- a member that is in both sets
pub record Shared (n : ℕ) (p q : ℕ → Bool) : Type 0 where
  pub member : ℕ
  pub within : member < n
  pub in_first : p member ≡ true
  pub in_second : q member ≡ true

one_further : (n : ℕ) (p q : ℕ → Bool) → Shared n p q → Shared (suc n) p q
one_further n p q s = record { member = s.member; within = omega (arith, s.within); in_first = s.in_first; in_second = s.in_second }

meet_step : (n : ℕ) (p q : ℕ → Bool) (x y : Bool) → p n ≡ x → q n ≡ y → suc n < with_one x (tally n p) + with_one y (tally n q)
    → (n < tally n p + tally n q → Shared n p q) → Shared (suc n) p q
meet_step n p q true true e f lt rest = record { member = n; within = omega arith; in_first = e; in_second = f }
meet_step n p q true false e f lt rest = one_further n p q (rest (omega (arith, lt)))
meet_step n p q false true e f lt rest = one_further n p q (rest (omega (arith, lt)))
meet_step n p q false false e f lt rest = one_further n p q (rest (omega (arith, lt)))

-- two sets that are together larger than the members have one in common
pub tallies_meet : (n : ℕ) (p q : ℕ → Bool) → n < tally n p + tally n q → Shared n p q
tallies_meet zero p q lt = absurd (omega (arith, lt))
tallies_meet (suc n) p q lt = meet_step n p q (p n) (q n) refl refl lt (tallies_meet n p q)

-- ---- majorities

pub majorities_meet : (n : ℕ) (p q : ℕ → Bool) → IsMajority n (tally n p) → IsMajority n (tally n q) → Shared n p q
majorities_meet n p q most_p most_q = tallies_meet n p q (omega (arith, most_p, most_q))

-- no set without members is a majority
pub none_is_no_majority : (n : ℕ) → IsMajority n (tally n (λ node. false)) → ⊥
none_is_no_majority n majority = omega (arith, majority, tally_none n)

-- a majority stays one with more members
pub majority_stays : (n : ℕ) (p q : ℕ → Bool) → ((a : ℕ) → a < n → p a ≡ true → q a ≡ true) → IsMajority n (tally n p) → IsMajority n (tally n q)
majority_stays n p q implies majority = omega (arith, majority, tally_more n p q implies)

-- sets of the same members are majorities alike
pub majority_same : (n : ℕ) (p q : ℕ → Bool) → ((a : ℕ) → a < n → p a ≡ q a) → IsMajority n (tally n p) → IsMajority n (tally n q)
majority_same n p q same majority = omega (arith, majority, tally_same n p q same)
