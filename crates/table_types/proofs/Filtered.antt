-- The effective uploads to a table are some of those of the list: those that come first of their ids in the whole list,
-- to this table, of the shape of the first of them.
use Rattle.std.proofs.Common.{◌≡◌, refl, ap, ◌∙◌, ℕ, suc, ◌≤◌, Bool, true, false, not, ◌&&◌, cond, if◌then◌else◌, List, [], ◌∷◌, ◌++◌, length, arith}
use Rattle.std.specs.List.{AllByRecursion, filter, list_any}
use Rattle.table_types.specs.Uploads.{Upload}
use Rattle.table_types.specs.Tables.{has_id, is_to, shape_text, has_shape, firsts, fits, counts_here, counted_behind, effective}

-- those that have the shape of the first of them
abbrev pub like_the_first : List Upload → List Upload
like_the_first [] = []
like_the_first (upload ∷ rest) = upload ∷ filter (has_shape (shape_text upload)) rest

-- those of a list that have the shape of the first of the ones before them, or of the first of themselves
abbrev pub like_more : List Upload → List Upload → List Upload
like_more [] ys = like_the_first ys
like_more (x ∷ xs) ys = filter (has_shape (shape_text x)) ys

-- an upload passes or doesn't, and so with those behind it
passes : (x : Upload) (with_it without kept : List Upload) (b : Bool) → with_it ≡ kept → without ≡ kept
    → (if b then x ∷ with_it else without) ≡ cond b (x ∷ kept) kept
passes x with_it without kept true more others = ap (λ l. x ∷ l) more
passes x with_it without kept false more others = others

-- the upload in front counts where it has no name that has come, is to the table and fits
one_more : (x : Upload) (counted rest with_it without : List Upload) (come to : Bool) → with_it ≡ like_more (counted ++ x ∷ []) rest
    → without ≡ like_more counted rest
    → (if to && (not come && fits counted x) then x ∷ with_it else without)
    ≡ like_more counted (if come then rest else cond to (x ∷ rest) rest)
one_more x counted rest with_it without true true more none = none
one_more x counted rest with_it without true false more none = none
one_more x counted rest with_it without false false more none = none
one_more x [] rest with_it without false true more none = ap (λ l. x ∷ l) more
one_more x (c ∷ cs) rest with_it without false true more none =
    passes x with_it without (filter (has_shape (shape_text c)) rest) (has_shape (shape_text c) x) more none

filtered : (p : Upload → Bool) (x : Upload) (ys : List Upload) (come : Bool)
    → (if come then filter p ys else cond (p x) (x ∷ filter p ys) (filter p ys)) ≡ filter p ((if come then [] else x ∷ []) ++ ys)
filtered p x ys true = refl
filtered p x ys false = refl

counted_is : (table : List ℕ) (before counted xs : List Upload)
    → counted_behind table before counted xs ≡ like_more counted (filter (is_to table) (firsts before xs))
counted_is table before [] [] = refl
counted_is table before (c ∷ cs) [] = refl
counted_is table before counted (x ∷ xs) =
    one_more x counted (filter (is_to table) (firsts (before ++ x ∷ []) xs))
    (counted_behind table (before ++ x ∷ []) (counted ++ x ∷ []) xs) (counted_behind table (before ++ x ∷ []) counted xs)
    (list_any (has_id x.id) before) (is_to table x)
    (counted_is table (before ++ x ∷ []) (counted ++ x ∷ []) xs) (counted_is table (before ++ x ∷ []) counted xs)
    ∙ ap (like_more counted) (filtered (is_to table) x (firsts (before ++ x ∷ []) xs) (list_any (has_id x.id) before))

pub effective_is : (table : List ℕ) (uploads : List Upload)
    → effective table uploads ≡ like_the_first (filter (is_to table) (firsts [] uploads))
effective_is table uploads = counted_is table [] [] uploads

-- ---- they are some of the list

module _ (P : Upload → Type 0) where
  all_one : (x : Upload) (with_it without : List Upload) (b : Bool) → P x → AllByRecursion P with_it → AllByRecursion P without
      → AllByRecursion P (if b then x ∷ with_it else without)
  all_one x with_it without true one all none = (one, all)
  all_one x with_it without false one all none = none

  all_behind : (table : List ℕ) (before counted xs : List Upload) → AllByRecursion P xs → AllByRecursion P (counted_behind table before counted xs)
  all_behind table before counted [] all = tt
  all_behind table before counted (x ∷ xs) all =
      all_one x (counted_behind table (before ++ x ∷ []) (counted ++ x ∷ []) xs) (counted_behind table (before ++ x ∷ []) counted xs)
      (is_to table x && counts_here before counted x) all.0 (all_behind table (before ++ x ∷ []) (counted ++ x ∷ []) xs all.1)
      (all_behind table (before ++ x ∷ []) counted xs all.1)

  -- what holds of all of the list holds of them
  pub all_effective : (table : List ℕ) (uploads : List Upload) → AllByRecursion P uploads → AllByRecursion P (effective table uploads)
  all_effective table uploads = all_behind table [] [] uploads

few_one : (x : Upload) (with_it without : List Upload) (b : Bool) (n : ℕ) → length with_it ≤ n → length without ≤ n
    → length (if b then x ∷ with_it else without) ≤ suc n
few_one x with_it without true n few others = omega (arith, few)
few_one x with_it without false n few others = omega (arith, others)

few_behind : (table : List ℕ) (before counted xs : List Upload) → length (counted_behind table before counted xs) ≤ length xs
few_behind table before counted [] = omega arith
few_behind table before counted (x ∷ xs) =
    few_one x (counted_behind table (before ++ x ∷ []) (counted ++ x ∷ []) xs) (counted_behind table (before ++ x ∷ []) counted xs)
    (is_to table x && counts_here before counted x) (length xs) (few_behind table (before ++ x ∷ []) (counted ++ x ∷ []) xs)
    (few_behind table (before ++ x ∷ []) counted xs)

-- they are no more
pub few_effective : (table : List ℕ) (uploads : List Upload) → length (effective table uploads) ≤ length uploads
few_effective table uploads = few_behind table [] [] uploads
