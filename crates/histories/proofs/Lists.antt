-- What is in a list, in a filter of it, and behind one element more.
use Rattle.std.proofs.Common.{◌≡◌, zero, suc, ◌⊎◌, inl, inr, Bool, true, false, cond, List, [], ◌∷◌, ◌++◌, filter, filter_map, Option, Some, None, refl, sym, ap, subst, ◌∙◌, arith}
use Rattle.std.specs.List.{Contains, AllByRecursion, cons_option}
use Rattle.std.proofs.lemmas.List.Elements.{Contains-append_left, Contains-append_right, Contains-append_cases}

-- ---- one element

pub nothing_in : {X : Type 0} (x : X) → Contains [] x → ⊥
nothing_in x has = absurd (omega (arith, has.1))

pub one_in : {X : Type 0} (x : X) → Contains (x ∷ []) x
one_in x = (0, omega arith, refl)

pub only_one : {X : Type 0} (x y : X) → Contains (x ∷ []) y → y ≡ x
only_one x y (zero, within, same) = sym same
only_one x y (suc k, within, same) = absurd (omega (arith, within))

pub in_front : {X : Type 0} (x : X) (xs : List X) → Contains (x ∷ xs) x
in_front x xs = Contains-append_left (x ∷ []) xs x (one_in x)

pub behind_front : {X : Type 0} (y x : X) (xs : List X) → Contains xs x → Contains (y ∷ xs) x
behind_front y x xs has = Contains-append_right (y ∷ []) xs x has

pub in_middle : {X : Type 0} (before after : List X) (x : X) → Contains (before ++ x ∷ after) x
in_middle before after x = Contains-append_right before (x ∷ after) x (in_front x after)

pub first_or_rest : {X : Type 0} (y x : X) (xs : List X) → Contains (y ∷ xs) x → (x ≡ y) ⊎ Contains xs x
first_or_rest y x xs has = elim (Contains-append_cases (y ∷ []) xs x has) as (λ _. (x ≡ y) ⊎ Contains xs x) [
  | inl one ↦ inl (only_one y x one)
  | inr rest ↦ inr rest
]

-- at the end, or before it
pub last_in : {X : Type 0} (xs : List X) (x : X) → Contains (xs ++ x ∷ []) x
last_in xs x = in_middle xs [] x

pub before_last : {X : Type 0} (xs : List X) (y x : X) → Contains xs x → Contains (xs ++ y ∷ []) x
before_last xs y x has = Contains-append_left xs (y ∷ []) x has

pub last_or_before : {X : Type 0} (xs : List X) (y x : X) → Contains (xs ++ y ∷ []) x → Contains xs x ⊎ (x ≡ y)
last_or_before xs y x has = elim (Contains-append_cases xs (y ∷ []) x has) as (λ _. Contains xs x ⊎ (x ≡ y)) [
  | inl there ↦ inl there
  | inr one ↦ inr (only_one y x one)
]

-- ---- a filter

into_step : {X : Type 0} (f : X → Bool) (y x : X) (xs : List X) (b : Bool) → f y ≡ b → f x ≡ true → (x ≡ y) ⊎ Contains (filter f xs) x
    → Contains (cond b (y ∷ filter f xs) (filter f xs)) x
into_step f y x xs true is passes (inl same) = subst (λ z. Contains (y ∷ filter f xs) z) (sym same) (in_front y (filter f xs))
into_step f y x xs true is passes (inr rest) = behind_front y x (filter f xs) rest
into_step f y x xs false is passes (inl same) = absurd (let no : false ≡ true = sym is ∙ ap f (sym same) ∙ passes in cc)
into_step f y x xs false is passes (inr rest) = rest

pub into_filter : {X : Type 0} (f : X → Bool) (xs : List X) (x : X) → f x ≡ true → Contains xs x → Contains (filter f xs) x
into_filter f [] x passes has = absurd (nothing_in x has)
into_filter f (y ∷ xs) x passes has = elim (first_or_rest y x xs has) as (λ _. Contains (filter f (y ∷ xs)) x) [
  | inl same ↦ into_step f y x xs (f y) refl passes (inl same)
  | inr rest ↦ into_step f y x xs (f y) refl passes (inr (into_filter f xs x passes rest))
]

out_step : {X : Type 0} (f : X → Bool) (y x : X) (xs : List X) (b : Bool) → Contains (cond b (y ∷ filter f xs) (filter f xs)) x
    → (Contains (filter f xs) x → Contains xs x) → Contains (y ∷ xs) x
out_step f y x xs true has rest = elim (first_or_rest y x (filter f xs) has) as (λ _. Contains (y ∷ xs) x) [
  | inl same ↦ subst (λ z. Contains (y ∷ xs) z) (sym same) (in_front y xs)
  | inr later ↦ behind_front y x xs (rest later)
]
out_step f y x xs false has rest = behind_front y x xs (rest has)

pub out_of_filter : {X : Type 0} (f : X → Bool) (xs : List X) (x : X) → Contains (filter f xs) x → Contains xs x
out_of_filter f [] x has = absurd (nothing_in x has)
out_of_filter f (y ∷ xs) x has = out_step f y x xs (f y) has (out_of_filter f xs x)

-- ---- what a function gives of the elements

into_map_step : {X Y : Type 0} (h : X → Option Y) (z x : X) (xs : List X) (y : Y) (o : Option Y) → h z ≡ o → h x ≡ Some y
    → (x ≡ z) ⊎ Contains (filter_map h xs) y → Contains (cons_option o (filter_map h xs)) y
into_map_step {X} {Y} h z x xs y None is gives (inl same) = absurd (let no : None ≡ Some y = sym is ∙ ap h (sym same) ∙ gives in cc)
into_map_step h z x xs y None is gives (inr rest) = rest
into_map_step {X} {Y} h z x xs y (Some w) is gives (inl same) =
    let one : Some w ≡ Some y = sym is ∙ ap h (sym same) ∙ gives in
    let alike : y ≡ w = cc in
    subst (λ (v : Y). Contains (w ∷ filter_map h xs) v) (sym alike) (in_front w (filter_map h xs))
into_map_step h z x xs y (Some w) is gives (inr rest) = behind_front w y (filter_map h xs) rest

pub into_map : {X Y : Type 0} (h : X → Option Y) (xs : List X) (x : X) (y : Y) → h x ≡ Some y → Contains xs x → Contains (filter_map h xs) y
into_map h [] x y gives has = absurd (nothing_in x has)
into_map h (z ∷ xs) x y gives has = elim (first_or_rest z x xs has) as (λ _. Contains (filter_map h (z ∷ xs)) y) [
  | inl same ↦ into_map_step h z x xs y (h z) refl gives (inl same)
  | inr rest ↦ into_map_step h z x xs y (h z) refl gives (inr (into_map h xs x y gives rest))
]

-- what is given comes of an element
pub record Comes {X Y : Type 0} (h : X → Option Y) (xs : List X) (y : Y) : Type 0 where
  pub of : X
  pub is_in : Contains xs of
  pub gives : h of ≡ Some y

later : {X Y : Type 0} (h : X → Option Y) (z : X) (xs : List X) (y : Y) → Comes h xs y → Comes h (z ∷ xs) y
later h z xs y c = record { of = c.of; is_in = behind_front z c.of xs c.is_in; gives = c.gives }

out_map_step : {X Y : Type 0} (h : X → Option Y) (z : X) (xs : List X) (y : Y) (o : Option Y) → h z ≡ o → Contains (cons_option o (filter_map h xs)) y
    → (Contains (filter_map h xs) y → Comes h xs y) → Comes h (z ∷ xs) y
out_map_step h z xs y None is has rest = later h z xs y (rest has)
out_map_step h z xs y (Some w) is has rest = elim (first_or_rest w y (filter_map h xs) has) as (λ _. Comes h (z ∷ xs) y) [
  | inl same ↦ record { of = z; is_in = in_front z xs; gives = is ∙ ap Some (sym same) }
  | inr there ↦ later h z xs y (rest there)
]

pub out_of_map : {X Y : Type 0} (h : X → Option Y) (xs : List X) (y : Y) → Contains (filter_map h xs) y → Comes h xs y
out_of_map h [] y has = absurd (nothing_in y has)
out_of_map h (z ∷ xs) y has = out_map_step h z xs y (h z) refl has (out_of_map h xs y)

-- at the end, or before it
pub last_given : {X Y : Type 0} (h : X → Option Y) (xs : List X) (x : X) (y : Y) → h x ≡ Some y → Contains (filter_map h (xs ++ x ∷ [])) y
last_given h xs x y gives = into_map h (xs ++ x ∷ []) x y gives (last_in xs x)

pub before_last_given : {X Y : Type 0} (h : X → Option Y) (xs : List X) (x : X) (y : Y) → Contains (filter_map h xs) y → Contains (filter_map h (xs ++ x ∷ [])) y
before_last_given h xs x y has = let it = out_of_map h xs y has in into_map h (xs ++ x ∷ []) it.of y it.gives (before_last xs x it.of it.is_in)

pub last_or_before_given : {X Y : Type 0} (h : X → Option Y) (xs : List X) (x : X) (y : Y) → Contains (filter_map h (xs ++ x ∷ [])) y
    → Contains (filter_map h xs) y ⊎ (h x ≡ Some y)
last_or_before_given h xs x y has =
    let it = out_of_map h (xs ++ x ∷ []) y has in
    elim (last_or_before xs x it.of it.is_in) as (λ _. Contains (filter_map h xs) y ⊎ (h x ≡ Some y)) [
      | inl there ↦ inl (into_map h xs it.of y it.gives there)
      | inr last ↦ inr (subst (λ z. h z ≡ Some y) last it.gives)
    ]

-- ---- one element more

-- where a list with one more is split, at the last element or before it
pub data SplitsMore {X : Type 0} (xs : List X) (y : X) (before : List X) (x : X) (after : List X) : Type 0 where
  at_last : before ≡ xs → x ≡ y → after ≡ [] → SplitsMore xs y before x after
  earlier : (rest : List X) → after ≡ rest ++ y ∷ [] → xs ≡ before ++ x ∷ rest → SplitsMore xs y before x after

further : {X : Type 0} (z w : X) (xs : List X) (y : X) (before : List X) (x : X) (after : List X) → z ≡ w → SplitsMore xs y before x after
    → SplitsMore (z ∷ xs) y (w ∷ before) x after
further z w xs y before x after heads (at_last b e a) = at_last (cc) e a
further z w xs y before x after heads (earlier rest a b) = earlier rest a (cc)

pub splits_more : {X : Type 0} (xs : List X) (y : X) (before : List X) (x : X) (after : List X) → xs ++ y ∷ [] ≡ before ++ x ∷ after → SplitsMore xs y before x after
splits_more [] y [] x after e = at_last refl (cc) (cc)
splits_more [] y (w ∷ []) x after e = absurd (cc)
splits_more [] y (w ∷ v ∷ before) x after e = absurd (cc)
splits_more (z ∷ xs) y [] x after e = earlier xs (cc) (let head : z ≡ x = cc in cc)
splits_more (z ∷ xs) y (w ∷ before) x after e =
    let heads : z ≡ w = cc in
    let tails : xs ++ y ∷ [] ≡ before ++ x ∷ after = cc in
    further z w xs y before x after heads (splits_more xs y before x after tails)

pub all_front : {X : Type 0} (P : X → Type 0) (xs ys : List X) → AllByRecursion P (xs ++ ys) → AllByRecursion P xs
all_front P [] ys of_all = tt
all_front P (x ∷ xs) ys of_all = (of_all.0, all_front P xs ys of_all.1)

pub all_last : {X : Type 0} (P : X → Type 0) (xs : List X) (x : X) → AllByRecursion P (xs ++ x ∷ []) → P x
all_last P [] x of_all = of_all.0
all_last P (y ∷ xs) x of_all = all_last P xs x of_all.1
