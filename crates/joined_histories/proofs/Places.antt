-- Places in a list that stands behind another.
use Rattle.std.proofs.Common.{◌≡◌, ℕ, zero, suc, ◌+◌, List, [], ◌∷◌, ◌++◌, length, drop, map, Some, None, slice_get, ap, ◌∙◌, arith}
use Rattle.std.specs.Option.{option_map}
use Rattle.std.proofs.lemmas.Option.{slice_get-map}

none_is_some : {X : Type 0} (x : X) → None ≡ Some x → ⊥
none_is_some x same = cc

-- what stood in the first list stands there still
pub get_before : {X : Type 0} (xs more : List X) (k : ℕ) (x : X) → slice_get xs k ≡ Some x → slice_get (xs ++ more) k ≡ Some x
get_before [] more k x is = absurd (none_is_some x is)
get_before (y ∷ xs) more zero x is = is
get_before (y ∷ xs) more (suc k) x is = get_before xs more k x is

-- what stands in the second stands as much later as the first is long
pub get_behind : {X : Type 0} (before xs : List X) (k : ℕ) → slice_get (before ++ xs) (length before + k) ≡ slice_get xs k
get_behind [] xs k = ap (slice_get xs) (omega arith)
get_behind (y ∷ before) xs k =
    let later : length (y ∷ before) + k ≡ suc (length before + k) = omega arith in
    ap (slice_get (y ∷ (before ++ xs))) later ∙ get_behind before xs k

pub drop_behind : {X : Type 0} (before xs : List X) (k : ℕ) → drop (length before + k) (before ++ xs) ≡ drop k xs
drop_behind [] xs k = ap (λ (n : ℕ). drop n xs) (omega arith)
drop_behind (y ∷ before) xs k =
    let later : length (y ∷ before) + k ≡ suc (length before + k) = omega arith in
    ap (λ (n : ℕ). drop n (y ∷ (before ++ xs))) later ∙ drop_behind before xs k

pub get_mapped : {X Y : Type 0} (f : X → Y) (before : List Y) (xs : List X) (k : ℕ) (x : X) → slice_get xs k ≡ Some x
    → slice_get (before ++ map f xs) (length before + k) ≡ Some (f x)
get_mapped f before xs k x is = get_behind before (map f xs) k ∙ slice_get-map f xs k ∙ ap (option_map f) is
