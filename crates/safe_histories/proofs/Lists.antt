-- Lists: what is in them, by places and by cases; lists of which one begins the other.
use Rattle.std.proofs.Common.{◌≡◌, ℕ, zero, suc, ◌+◌, ◌<◌, ◌⊎◌, inl, inr, List, [], ◌∷◌, ◌++◌, length, take, drop, map, Option, Some, None, slice_get, refl, sym, ap, ap₂, subst, ◌∙◌, arith}
use Rattle.std.specs.List.{Contains, AllByRecursion, filter_map, cons_option}

pub some_same : {X : Type 0} (x y : X) → Some x ≡ Some y → x ≡ y
some_same x y same = cc

pub none_is_some : {X : Type 0} (x : X) → None ≡ Some x → ⊥
none_is_some x same = cc

-- ---- what is in a list

abbrev pub In : {X : Type 0} → List X → X → Type 0
In [] x = ⊥
In (y ∷ ys) x = (y ≡ x) ⊎ In ys x

pub in_from_contains : {X : Type 0} (xs : List X) (x : X) → Contains xs x → In xs x
in_from_contains [] x (k, within, is) = absurd (omega (arith, within))
in_from_contains (y ∷ ys) x (zero, within, is) = inl is
in_from_contains (y ∷ ys) x (suc k, within, is) = inr (in_from_contains ys x (k, omega (arith, within), is))

pub contains_from_in : {X : Type 0} (xs : List X) (x : X) → In xs x → Contains xs x
contains_from_in [] x there = absurd there
contains_from_in (y ∷ ys) x (inl same) = (0, omega arith, same)
contains_from_in (y ∷ ys) x (inr later) =
    let there = contains_from_in ys x later in
    (suc there.0, omega (arith, there.1), there.2)

pub in_from_at : {X : Type 0} (xs : List X) (k : ℕ) (x : X) → slice_get xs k ≡ Some x → In xs x
in_from_at [] k x is = absurd (none_is_some x is)
in_from_at (y ∷ ys) zero x is = inl (some_same y x is)
in_from_at (y ∷ ys) (suc k) x is = inr (in_from_at ys k x is)

pub at_from_in : {X : Type 0} (xs : List X) (x : X) → In xs x → (k : ℕ) × (slice_get xs k ≡ Some x)
at_from_in [] x there = absurd there
at_from_in (y ∷ ys) x (inl same) = (0, ap Some same)
at_from_in (y ∷ ys) x (inr later) =
    let there = at_from_in ys x later in
    (suc there.0, there.1)

pub in_left : {X : Type 0} (xs ys : List X) (x : X) → In xs x → In (xs ++ ys) x
in_left [] ys x there = absurd there
in_left (z ∷ zs) ys x (inl same) = inl same
in_left (z ∷ zs) ys x (inr later) = inr (in_left zs ys x later)

pub in_right : {X : Type 0} (xs ys : List X) (x : X) → In ys x → In (xs ++ ys) x
in_right [] ys x there = there
in_right (z ∷ zs) ys x there = inr (in_right zs ys x there)

pub in_cases : {X : Type 0} (xs ys : List X) (x : X) → In (xs ++ ys) x → In xs x ⊎ In ys x
in_cases [] ys x there = inr there
in_cases (z ∷ zs) ys x (inl same) = inl (inl same)
in_cases (z ∷ zs) ys x (inr later) = in_cases_more z zs ys x (in_cases zs ys x later)
  where
    in_cases_more : {X : Type 0} (z : X) (zs ys : List X) (x : X) → In zs x ⊎ In ys x → In (z ∷ zs) x ⊎ In ys x
    in_cases_more z zs ys x (inl there) = inl (inr there)
    in_cases_more z zs ys x (inr there) = inr there

pub in_take : {X : Type 0} (n : ℕ) (xs : List X) (x : X) → In (take n xs) x → In xs x
in_take zero xs x there = absurd there
in_take (suc n) [] x there = there
in_take (suc n) (y ∷ ys) x (inl same) = inl same
in_take (suc n) (y ∷ ys) x (inr later) = inr (in_take n ys x later)

pub all_of_each : {X : Type 0} (P : X → Type 0) (xs : List X) → ((x : X) → In xs x → P x) → AllByRecursion P xs
all_of_each P [] each = tt
all_of_each P (x ∷ xs) each = (each x (inl refl), all_of_each P xs (λ y there. each y (inr there)))

pub each_of_all : {X : Type 0} (P : X → Type 0) (xs : List X) (x : X) → AllByRecursion P xs → In xs x → P x
each_of_all P [] x all there = absurd there
each_of_all P (y ∷ ys) x (first, rest) (inl same) = subst P same first
each_of_all P (y ∷ ys) x (first, rest) (inr later) = each_of_all P ys x rest later

-- ---- what is made of what is in a list

-- an element that gives this
abbrev pub Gives : {X Y : Type 0} → (X → Option Y) → List X → Y → Type 0
Gives {X} f xs y = (x : X) × In xs x × (f x ≡ Some y)

gives_more : {X Y : Type 0} (f : X → Option Y) (z : X) (zs : List X) (y : Y) → Gives f zs y → Gives f (z ∷ zs) y
gives_more f z zs y there = (there.0, inr there.1, there.2)

gives_here : {X Y : Type 0} (f : X → Option Y) (z : X) (zs : List X) (y : Y) (o : Option Y) → f z ≡ o → (In (filter_map f zs) y → Gives f zs y)
    → In (cons_option o (filter_map f zs)) y → Gives f (z ∷ zs) y
gives_here f z zs y None is more there = gives_more f z zs y (more there)
gives_here f z zs y (Some w) is more (inl same) = (z, inl refl, is ∙ ap Some same)
gives_here f z zs y (Some w) is more (inr later) = gives_more f z zs y (more later)

pub in_filter_map : {X Y : Type 0} (f : X → Option Y) (xs : List X) (y : Y) → In (filter_map f xs) y → Gives f xs y
in_filter_map f [] y there = absurd there
in_filter_map f (z ∷ zs) y there = gives_here f z zs y (f z) refl (in_filter_map f zs y) there

in_option : {Y : Type 0} (o : Option Y) (ys : List Y) (y : Y) → o ≡ Some y → In (cons_option o ys) y
in_option None ys y is = absurd (none_is_some y is)
in_option (Some w) ys y is = inl (some_same w y is)

in_behind : {Y : Type 0} (o : Option Y) (ys : List Y) (y : Y) → In ys y → In (cons_option o ys) y
in_behind None ys y there = there
in_behind (Some w) ys y there = inr there

pub filter_map_in : {X Y : Type 0} (f : X → Option Y) (xs : List X) (x : X) (y : Y) → In xs x → f x ≡ Some y → In (filter_map f xs) y
filter_map_in f [] x y there is = absurd there
filter_map_in f (z ∷ zs) x y (inl same) is = in_option (f z) (filter_map f zs) y (ap f same ∙ is)
filter_map_in f (z ∷ zs) x y (inr later) is = in_behind (f z) (filter_map f zs) y (filter_map_in f zs x y later is)

pub in_map : {X Y : Type 0} (f : X → Y) (xs : List X) (y : Y) → In (map f xs) y → (x : X) × In xs x × (f x ≡ y)
in_map f [] y there = absurd there
in_map f (z ∷ zs) y (inl same) = (z, inl refl, same)
in_map f (z ∷ zs) y (inr later) =
    let there = in_map f zs y later in
    (there.0, inr there.1, there.2)

-- ---- places

pub at_taken : {X : Type 0} (n k : ℕ) (xs : List X) (x : X) → slice_get (take n xs) k ≡ Some x → slice_get xs k ≡ Some x
at_taken zero k xs x is = absurd (none_is_some x is)
at_taken (suc n) k [] x is = is
at_taken (suc n) zero (y ∷ ys) x is = is
at_taken (suc n) (suc k) (y ∷ ys) x is = at_taken n k ys x is

pub taken_at : {X : Type 0} (n k : ℕ) (xs : List X) (x : X) → k < n → slice_get xs k ≡ Some x → slice_get (take n xs) k ≡ Some x
taken_at zero k xs x lt is = absurd (omega (arith, lt))
taken_at (suc n) k [] x lt is = is
taken_at (suc n) zero (y ∷ ys) x lt is = is
taken_at (suc n) (suc k) (y ∷ ys) x lt is = taken_at n k ys x (omega (arith, lt)) is

pub at_front : {X : Type 0} (xs ys : List X) (k : ℕ) (x : X) → slice_get xs k ≡ Some x → slice_get (xs ++ ys) k ≡ Some x
at_front [] ys k x is = absurd (none_is_some x is)
at_front (z ∷ zs) ys zero x is = is
at_front (z ∷ zs) ys (suc k) x is = at_front zs ys k x is

-- the first behind the others
pub at_end : {X : Type 0} (xs ys : List X) (x : X) → slice_get (xs ++ x ∷ ys) (length xs) ≡ Some x
at_end [] ys x = refl
at_end (z ∷ zs) ys x = at_end zs ys x

pub dropped_at : {X : Type 0} (n k : ℕ) (xs : List X) (x : X) → slice_get xs (n + k) ≡ Some x → slice_get (drop n xs) k ≡ Some x
dropped_at zero k xs x is = let at : 0 + k ≡ k = omega arith in rw at at is
dropped_at (suc n) k [] x is = absurd (none_is_some x is)
dropped_at (suc n) k (y ∷ ys) x is = let at : suc n + k ≡ suc (n + k) = omega arith in dropped_at n k ys x (rw at at is)

pub some_at : {X : Type 0} (xs : List X) (k : ℕ) → k < length xs → (x : X) × (slice_get xs k ≡ Some x)
some_at [] k within = absurd (omega (arith, within))
some_at (x ∷ xs) zero within = (x, refl)
some_at (x ∷ xs) (suc k) within = some_at xs k (omega (arith, within))

pub take_one_more : {X : Type 0} (k : ℕ) (xs : List X) (x : X) → slice_get xs k ≡ Some x → take (suc k) xs ≡ take k xs ++ x ∷ []
take_one_more k [] x is = absurd (none_is_some x is)
take_one_more zero (y ∷ ys) x is = ap (λ z. z ∷ []) (some_same y x is)
take_one_more (suc k) (y ∷ ys) x is = ap (λ l. y ∷ l) (take_one_more k ys x is)

-- what stands before a place, with what stands there, is what stands before the next
pub take_next : {X : Type 0} (k : ℕ) (xs : List X) (x : X) → slice_get xs k ≡ Some x → (rest : List X) × (xs ≡ take k xs ++ x ∷ rest)
take_next k [] x is = absurd (none_is_some x is)
take_next zero (y ∷ ys) x is = (ys, ap (λ z. z ∷ ys) (some_same y x is))
take_next (suc k) (y ∷ ys) x is =
    let more = take_next k ys x is in
    (more.0, ap (λ l. y ∷ l) more.1)

-- ---- one begins the other

abbrev pub Begins : {X : Type 0} → List X → List X → Type 0
Begins {X} xs ys = (rest : List X) × (ys ≡ xs ++ rest)

begins_both : {X : Type 0} (x y : X) (xs ys : List X) → x ≡ y → Begins xs ys ⊎ Begins ys xs → Begins (x ∷ xs) (y ∷ ys) ⊎ Begins (y ∷ ys) (x ∷ xs)
begins_both x y xs ys same (inl more) = inl (more.0, ap₂ (λ z l. z ∷ l) (sym same) more.1)
begins_both x y xs ys same (inr more) = inr (more.0, ap₂ (λ z l. z ∷ l) same more.1)

-- of two lists that agree where both have something, one begins the other
pub one_begins : {X : Type 0} (xs ys : List X) → ((k : ℕ) (x y : X) → slice_get xs k ≡ Some x → slice_get ys k ≡ Some y → x ≡ y) → Begins xs ys ⊎ Begins ys xs
one_begins [] ys agree = inl (ys, refl)
one_begins (x ∷ xs) [] agree = inr (x ∷ xs, refl)
one_begins (x ∷ xs) (y ∷ ys) agree = begins_both x y xs ys (agree 0 x y refl refl) (one_begins xs ys (λ k. agree (suc k)))
