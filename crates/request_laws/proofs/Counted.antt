-- The first so many of some uploads are some of them, and no more.
use Rattle.std.proofs.Common.{ℕ, zero, suc, ◌≤◌, List, [], ◌∷◌, length, take, arith}
use Rattle.std.specs.List.{AllByRecursion}
use Rattle.table_types.specs.Uploads.{Upload}

module _ (P : Upload → Type 0) where
  -- what holds of all holds of the first so many of them
  pub all_of_first : (n : ℕ) (xs : List Upload) → AllByRecursion P xs → AllByRecursion P (take n xs)
  all_of_first zero xs all = tt
  all_of_first (suc n) [] all = tt
  all_of_first (suc n) (x ∷ xs) all = (all.0, all_of_first n xs all.1)

pub few_of_first : (n : ℕ) (xs : List Upload) → length (take n xs) ≤ length xs
few_of_first zero xs = omega arith
few_of_first (suc n) [] = omega arith
few_of_first (suc n) (x ∷ xs) = omega (arith, few_of_first n xs)
