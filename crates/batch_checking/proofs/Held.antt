-- Numbers in lists.
use Rattle.std.proofs.Common.{◌≡◌, ◌⊎◌, inl, inr, refl, sym, ap, ◌∙◌, subst, ℕ, zero, suc, ◌+◌, ◌<◌, ◌≤◌, Bool, true, false, cond, List, [], ◌∷◌, ◌++◌, length, get_or, true≢false, arith}
use Rattle.std.specs.List.{AllByRecursion, filter, flat_map, range_with_len}
use Rattle.batch_checking.specs.Around.{Holds}

holds_left : (xs ys : List ℕ) (x : ℕ) → Holds xs x → Holds (xs ++ ys) x
holds_left [] ys x h = absurd h
holds_left (y ∷ xs) ys x (inl is) = inl is
holds_left (y ∷ xs) ys x (inr there) = inr (holds_left xs ys x there)

holds_right : (xs ys : List ℕ) (x : ℕ) → Holds ys x → Holds (xs ++ ys) x
holds_right [] ys x h = h
holds_right (y ∷ xs) ys x h = inr (holds_right xs ys x h)

holds_either : (xs ys : List ℕ) (x : ℕ) → Holds (xs ++ ys) x → Holds xs x ⊎ Holds ys x
holds_either [] ys x h = inr h
holds_either (y ∷ xs) ys x (inl is) = inl (inl is)
holds_either (y ∷ xs) ys x (inr there) = elim (holds_either xs ys x there) [ inl h ↦ inl (inr h) | inr h ↦ inr h ]

pub held_flat : (f : ℕ → List ℕ) (xs : List ℕ) (q x : ℕ) → Holds xs q → Holds (f q) x → Holds (flat_map f xs) x
held_flat f [] q x h inside = absurd h
held_flat f (y ∷ xs) q x (inl is) inside = holds_left (f y) (flat_map f xs) x (subst (λ k. Holds (f k) x) (sym is) inside)
held_flat f (y ∷ xs) q x (inr there) inside = holds_right (f y) (flat_map f xs) x (held_flat f xs q x there inside)

pub flat_held : (f : ℕ → List ℕ) (xs : List ℕ) (x : ℕ) → Holds (flat_map f xs) x → (q : ℕ) × Holds xs q × Holds (f q) x
flat_held f [] x h = absurd h
flat_held f (y ∷ xs) x h = elim (holds_either (f y) (flat_map f xs) x h) [
  | inl here ↦ (y, inl refl, here)
  | inr there ↦ let found = flat_held f xs x there in (found.0, inr found.1, found.2)
]

held_cond : (p : ℕ → Bool) (y x : ℕ) (xs : List ℕ) (test : Bool) → p y ≡ test → p x ≡ true → (y ≡ x) ⊎ Holds xs x → Holds (cond test (y ∷ xs) xs) x
held_cond p y x xs true is passes (inl same) = inl same
held_cond p y x xs true is passes (inr there) = inr there
held_cond p y x xs false is passes (inl same) = absurd (true≢false (sym passes ∙ ap p (sym same) ∙ is))
held_cond p y x xs false is passes (inr there) = there

pub held_filter : (p : ℕ → Bool) (xs : List ℕ) (x : ℕ) → Holds xs x → p x ≡ true → Holds (filter p xs) x
held_filter p [] x h passes = absurd h
held_filter p (y ∷ xs) x (inl is) passes = held_cond p y x (filter p xs) (p y) refl passes (inl is)
held_filter p (y ∷ xs) x (inr there) passes = held_cond p y x (filter p xs) (p y) refl passes (inr (held_filter p xs x there passes))

cond_held : (p : ℕ → Bool) (y x : ℕ) (xs : List ℕ) (test : Bool) → p y ≡ test → Holds (cond test (y ∷ xs) xs) x → ((y ≡ x) × (p x ≡ true)) ⊎ Holds xs x
cond_held p y x xs true is (inl same) = inl (same, ap p (sym same) ∙ is)
cond_held p y x xs true is (inr there) = inr there
cond_held p y x xs false is h = inr h

pub filter_held : (p : ℕ → Bool) (xs : List ℕ) (x : ℕ) → Holds (filter p xs) x → Holds xs x × (p x ≡ true)
filter_held p [] x h = absurd h
filter_held p (y ∷ xs) x h = elim (cond_held p y x (filter p xs) (p y) refl h) [
  | inl here ↦ (inl here.0, here.1)
  | inr there ↦ let found = filter_held p xs x there in (inr found.0, found.1)
]

pub below_held : (limit : ℕ) (xs : List ℕ) (x : ℕ) → AllByRecursion (λ r. r < limit) xs → Holds xs x → x < limit
below_held limit [] x all h = absurd h
below_held limit (y ∷ xs) x all (inl is) = subst (λ k. k < limit) is all.0
below_held limit (y ∷ xs) x all (inr there) = below_held limit xs x all.1 there

pub held_below : (limit : ℕ) (xs : List ℕ) → ((x : ℕ) → Holds xs x → x < limit) → AllByRecursion (λ r. r < limit) xs
held_below limit [] each = tt
held_below limit (y ∷ xs) each = (each y (inl refl), held_below limit xs (λ x there. each x (inr there)))

plus_one : (a n : ℕ) → a + 1 + n ≡ a + suc n
plus_one a n = omega arith

pub range_held : (a n x : ℕ) → Holds (range_with_len a n) x → (a ≤ x) × (x < a + n)
range_held a zero x h = absurd h
range_held a (suc n) x (inl is) = (omega (arith, is), omega (arith, is))
range_held a (suc n) x (inr there) = let found = range_held (a + 1) n x there in (omega (arith, found.0), omega (arith, found.1))

pub held_range : (a n x : ℕ) → a ≤ x → x < a + n → Holds (range_with_len a n) x
held_range a zero x low high = absurd (omega arith)
held_range a (suc n) x low high = elim (first a x low) [
  | inl is ↦ inl is
  | inr more ↦ inr (held_range (a + 1) n x more (omega arith))
]
  where
    first : (b y : ℕ) → b ≤ y → (b ≡ y) ⊎ (b + 1 ≤ y)
    first b y up = grind arith

pub held_at : (xs : List ℕ) (k : ℕ) → k < length xs → Holds xs (get_or xs k 0)
held_at [] k below = absurd (omega arith)
held_at (x ∷ xs) zero below = inl refl
held_at (x ∷ xs) (suc k) below = inr (held_at xs k (omega arith))

pub place_held : (xs : List ℕ) (x : ℕ) → Holds xs x → (k : ℕ) × (k < length xs) × (get_or xs k 0 ≡ x)
place_held [] x h = absurd h
place_held (y ∷ xs) x (inl is) = (0, omega arith, is)
place_held (y ∷ xs) x (inr there) = let found = place_held xs x there in (suc found.0, omega (arith, found.1), found.2)
