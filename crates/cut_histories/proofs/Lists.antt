-- Lists that have an element, by its place and without it.
use Rattle.std.proofs.Common.{◌≡◌, ◌↔◌, ℕ, zero, suc, ◌+◌, ◌<◌, ◌≤◌, ◌⊎◌, inl, inr, Bool, true, false, cond, List, [], ◌∷◌, ◌++◌, length, filter, take, drop, filter_map, slice_get, Option, Some, None, refl, sym, ap, subst, ◌∙◌, arith}
use Rattle.std.specs.List.{Contains, cons_option}
use Rattle.std.proofs.lemmas.List.{take_all}
use Rattle.std.proofs.lemmas.List.Elements.{Contains-append_left, Contains-append_right, Contains-append_cases}
use Rattle.std.proofs.lemmas.Option.{slice_get_read}
use Rattle.std.proofs.Math.Seq.{drop-append_seam}

-- ---- what is in a list

pub nothing_in : {X : Type 0} (x : X) → Contains [] x → ⊥
nothing_in x has = absurd (omega (arith, has.1))

one_in : {X : Type 0} (x : X) → Contains (x ∷ []) x
one_in x = (0, omega arith, refl)

only_one : {X : Type 0} (x y : X) → Contains (x ∷ []) y → y ≡ x
only_one x y (zero, within, same) = sym same
only_one x y (suc k, within, same) = absurd (omega (arith, within))

pub in_front : {X : Type 0} (x : X) (xs : List X) → Contains (x ∷ xs) x
in_front x xs = Contains-append_left (x ∷ []) xs x (one_in x)

pub behind_front : {X : Type 0} (y x : X) (xs : List X) → Contains xs x → Contains (y ∷ xs) x
behind_front y x xs has = Contains-append_right (y ∷ []) xs x has

first_or_rest : {X : Type 0} (y x : X) (xs : List X) → Contains (y ∷ xs) x → (x ≡ y) ⊎ Contains xs x
first_or_rest y x xs has = elim (Contains-append_cases (y ∷ []) xs x has) as (λ _. (x ≡ y) ⊎ Contains xs x) [
  | inl one ↦ inl (only_one y x one)
  | inr rest ↦ inr rest
]

-- ---- what a function gives of the elements

-- what is given comes of an element
abbrev pub Comes : {X Y : Type 0} → (X → Option Y) → List X → Y → Type 0
Comes {X} h xs y = (x : X) × Contains xs x × (h x ≡ Some y)

later : {X Y : Type 0} (h : X → Option Y) (z : X) (xs : List X) (y : Y) → Comes h xs y → Comes h (z ∷ xs) y
later h z xs y (x, has, gives) = (x, behind_front z x xs has, gives)

comes_step : {X Y : Type 0} (h : X → Option Y) (z : X) (xs : List X) (y : Y) (o : Option Y) → h z ≡ o → Contains (cons_option o (filter_map h xs)) y
    → (Contains (filter_map h xs) y → Comes h xs y) → Comes h (z ∷ xs) y
comes_step h z xs y None is has rest = later h z xs y (rest has)
comes_step h z xs y (Some w) is has rest = elim (first_or_rest w y (filter_map h xs) has) as (λ _. Comes h (z ∷ xs) y) [
  | inl same ↦ (z, in_front z xs, is ∙ ap Some (sym same))
  | inr there ↦ later h z xs y (rest there)
]

pub comes_of : {X Y : Type 0} (h : X → Option Y) (xs : List X) (y : Y) → Contains (filter_map h xs) y → Comes h xs y
comes_of h [] y has = absurd (nothing_in y has)
comes_of h (z ∷ xs) y has = comes_step h z xs y (h z) refl has (comes_of h xs y)

-- ---- a filter

into_step : {X : Type 0} (f : X → Bool) (y x : X) (xs : List X) (b : Bool) → f y ≡ b → f x ≡ true → (x ≡ y) ⊎ Contains (filter f xs) x
    → Contains (cond b (y ∷ filter f xs) (filter f xs)) x
into_step f y x xs true is passes (inl same) = subst (λ z. Contains (y ∷ filter f xs) z) (sym same) (in_front y (filter f xs))
into_step f y x xs true is passes (inr rest) = behind_front y x (filter f xs) rest
into_step f y x xs false is passes (inl same) = absurd (let no : false ≡ true = sym is ∙ ap f (sym same) ∙ passes in cc)
into_step f y x xs false is passes (inr rest) = rest

into_filter : {X : Type 0} (f : X → Bool) (xs : List X) (x : X) → f x ≡ true → Contains xs x → Contains (filter f xs) x
into_filter f [] x passes has = absurd (nothing_in x has)
into_filter f (y ∷ xs) x passes has = elim (first_or_rest y x xs has) as (λ _. Contains (filter f (y ∷ xs)) x) [
  | inl same ↦ into_step f y x xs (f y) refl passes (inl same)
  | inr rest ↦ into_step f y x xs (f y) refl passes (inr (into_filter f xs x passes rest))
]

out_step : {X : Type 0} (f : X → Bool) (y x : X) (xs : List X) (b : Bool) → Contains (cond b (y ∷ filter f xs) (filter f xs)) x
    → (Contains (filter f xs) x → Contains xs x) → Contains (y ∷ xs) x
out_step f y x xs true has rest = elim (first_or_rest y x (filter f xs) has) as (λ _. Contains (y ∷ xs) x) [
  | inl same ↦ subst (λ z. Contains (y ∷ xs) z) (sym same) (in_front y xs)
  | inr later ↦ behind_front y x xs (rest later)
]
out_step f y x xs false has rest = behind_front y x xs (rest has)

out_of_filter : {X : Type 0} (f : X → Bool) (xs : List X) (x : X) → Contains (filter f xs) x → Contains xs x
out_of_filter f [] x has = absurd (nothing_in x has)
out_of_filter f (y ∷ xs) x has = out_step f y x xs (f y) has (out_of_filter f xs x)

-- an element that passes is in both lists or in none, where their filters are the same
pub in_both : {X : Type 0} (f : X → Bool) (xs ys : List X) → filter f xs ≡ filter f ys → (x : X) → f x ≡ true → Contains xs x ↔ Contains ys x
in_both f xs ys same x passes = (
  λ has. out_of_filter f ys x (subst (λ l. Contains l x) same (into_filter f xs x passes has)),
  λ has. out_of_filter f xs x (subst (λ l. Contains l x) (sym same) (into_filter f ys x passes has)),
)

-- ---- places

pub none_is_some : {X : Type 0} (x : X) → None ≡ Some x → ⊥
none_is_some x same = cc

pub some_same : {X : Type 0} (x y : X) → Some x ≡ Some y → x ≡ y
some_same x y same = cc

pub get_with_more : {X : Type 0} (xs more : List X) (k : ℕ) (x : X) → slice_get xs k ≡ Some x → slice_get (xs ++ more) k ≡ Some x
get_with_more [] more k x is = absurd (none_is_some x is)
get_with_more (y ∷ xs) more zero x is = is
get_with_more (y ∷ xs) more (suc k) x is = get_with_more xs more k x is

-- an element stands at a place
abbrev pub StandsAt : {X : Type 0} → List X → X → ℕ → Type 0
StandsAt xs x k = (k < length xs) × (slice_get xs k ≡ Some x)

pub place_of : {X : Type 0} (xs : List X) (x : X) → Contains xs x → (k : ℕ) × StandsAt xs x k
place_of xs x (k, within, is) = (k, (within, slice_get_read xs (length xs) k x refl within (sym is)))

-- what stands from a place on is in what is taken from there
pub taken_has : {X : Type 0} (xs : List X) (n c k : ℕ) (x : X) → n ≤ k → k < n + c → slice_get xs k ≡ Some x → Contains (take c (drop n xs)) x
taken_has [] n c k x from to is = absurd (none_is_some x is)
taken_has (y ∷ xs) zero zero k x from to is = absurd (omega (arith, to))
taken_has (y ∷ xs) zero (suc c) zero x from to is = subst (λ z. Contains (y ∷ take c xs) z) (some_same y x is) (in_front y (take c xs))
taken_has (y ∷ xs) zero (suc c) (suc k) x from to is = behind_front y x (take c xs) (taken_has xs zero c k x (omega arith) (omega (arith, to)) is)
taken_has (y ∷ xs) (suc n) c zero x from to is = absurd (omega (arith, from))
taken_has (y ∷ xs) (suc n) c (suc k) x from to is = taken_has xs n c k x (omega (arith, from)) (omega (arith, to)) is

-- what is put behind a list is what is taken from there on
pub taken_behind : {X : Type 0} (xs more : List X) → take (length more) (drop (length xs) (xs ++ more)) ≡ more
taken_behind xs more = ap (take (length more)) (drop-append_seam xs more) ∙ take_all (length more) more (omega arith)
