-- What holds of each element of two lists in a row, and two ways to split one list.
use Rattle.std.proofs.Common.{◌≡◌, List, [], ◌∷◌, ◌++◌, refl}
use Rattle.std.specs.List.{AllByRecursion}

pub all-append : {X : Type 0} (P : X → Type 0) (xs ys : List X) → AllByRecursion P xs → AllByRecursion P ys → AllByRecursion P (xs ++ ys)
all-append P [] ys of_xs of_ys = of_ys
all-append P (x ∷ xs) ys of_xs of_ys = (of_xs.0, all-append P xs ys of_xs.1 of_ys)

pub all_front : {X : Type 0} (P : X → Type 0) (xs ys : List X) → AllByRecursion P (xs ++ ys) → AllByRecursion P xs
all_front P [] ys of_all = tt
all_front P (x ∷ xs) ys of_all = (of_all.0, all_front P xs ys of_all.1)

pub all_back : {X : Type 0} (P : X → Type 0) (xs ys : List X) → AllByRecursion P (xs ++ ys) → AllByRecursion P ys
all_back P [] ys of_all = of_all
all_back P (x ∷ xs) ys of_all = all_back P xs ys of_all.1

-- what holds of each element holds of one in the middle
pub all_there : {X : Type 0} (P : X → Type 0) (xs : List X) (before after : List X) (x : X) → xs ≡ before ++ x ∷ after → AllByRecursion P xs → P x
all_there P xs before after x split of_all = (all_back P before (x ∷ after) (rw split at of_all)).0

pub all_weaker : {X : Type 0} (P Q : X → Type 0) (xs : List X) → ((x : X) → P x → Q x) → AllByRecursion P xs → AllByRecursion Q xs
all_weaker P Q [] weaker of_all = tt
all_weaker P Q (x ∷ xs) weaker of_all = (weaker x of_all.0, all_weaker P Q xs weaker of_all.1)

-- two splits of one list meet at the same element, or one is before the other
pub data Meet {X : Type 0} (before before' : List X) (x y : X) (after after' : List X) : Type 0 where
  same : before ≡ before' → x ≡ y → after ≡ after' → Meet before before' x y after after'
  earlier : (mid : List X) → after ≡ mid ++ y ∷ after' → before' ≡ before ++ x ∷ mid → Meet before before' x y after after'
  later : (mid : List X) → after' ≡ mid ++ x ∷ after → before ≡ before' ++ y ∷ mid → Meet before before' x y after after'

one_more : {X : Type 0} (z w : X) (before before' : List X) (x y : X) (after after' : List X) → z ≡ w → Meet before before' x y after after' → Meet (z ∷ before) (w ∷ before') x y after after'
one_more z w before before' x y after after' heads (same b e a) = same (cc) e a
one_more z w before before' x y after after' heads (earlier mid a b) = earlier mid a (cc)
one_more z w before before' x y after after' heads (later mid a b) = later mid a (cc)

pub splits : {X : Type 0} (before before' : List X) (x y : X) (after after' : List X) → before ++ x ∷ after ≡ before' ++ y ∷ after' → Meet before before' x y after after'
splits [] [] x y after after' e = same refl (cc) (cc)
splits [] (z ∷ before') x y after after' e = earlier before' (cc) (let head : z ≡ x = cc in cc)
splits (z ∷ before) [] x y after after' e = later before (cc) (let head : z ≡ y = cc in cc)
splits (z ∷ before) (w ∷ before') x y after after' e =
    let heads : z ≡ w = cc in
    let tails : before ++ x ∷ after ≡ before' ++ y ∷ after' = cc in
    one_more z w before before' x y after after' heads (splits before before' x y after after' tails)

-- no element is in the empty list
pub nothing_there : {X : Type 0} (before : List X) (x : X) (after : List X) → [] ≡ before ++ x ∷ after → ⊥
nothing_there [] x after e = cc
nothing_there (z ∷ before) x after e = cc
