-- What a list of uploads makes, and what more of them add to it.
use Rattle.std.proofs.Common.{◌≡◌, refl, sym, ap, ◌∙◌, ℕ, zero, suc, ◌+◌, ◌-◌, ◌<◌, Bool, true, false, cond, if◌then◌else◌, Option, Some, None, List, [], ◌∷◌, ◌++◌, length, take, get_or, length-append, append_assoc, arith}
use Rattle.std.specs.Prelude.{nat_le}
use Rattle.std.proofs.lemmas.Bool.{le-leb}
use Rattle.std.specs.List.{AllByRecursion, filter, list_any}
use Rattle.std.specs.Str.{bytes_eq}
use Rattle.std.proofs.lemmas.Bool.{or_parts, leb-true}
use Rattle.std.proofs.lemmas.List.{append-nil, take-append-le}
use Rattle.std.proofs.lemmas.List.Elements.{filter-append}
use Rattle.std.proofs.lemmas.List.Folds.{list_any-append}
use Rattle.std.proofs.lemmas.Slice.Eq.{bytes_eq-Decides}
use Rattle.std.proofs.Math.Seq.{take-append_seam}
use Rattle.table_types.specs.Uploads.{Upload}
use Rattle.table_types.specs.Tables.{has_id, is_to, shape_text, has_shape, firsts, effective}
use Rattle.table_types.specs.Tables.{Version, first_of_all, version_of}
use Rattle.table_types.proofs.Filtered.{like_the_first, like_more, effective_is}

-- ---- equal bytes

pub same_bytes : (xs : List ℕ) → bytes_eq xs xs ≡ true
same_bytes xs = (bytes_eq-Decides xs xs).1 refl

pub bytes_same : (xs ys : List ℕ) → bytes_eq xs ys ≡ true → xs ≡ ys
bytes_same xs ys = (bytes_eq-Decides xs ys).0

-- ---- lists

module _ (P : Upload → Type 0) where
  all_both : (xs ys : List Upload) → AllByRecursion P xs → AllByRecursion P ys → AllByRecursion P (xs ++ ys)
  all_both [] ys front back = back
  all_both (x ∷ xs) ys front back = (front.0, all_both xs ys front.1 back)

  kept_one : (x : Upload) (xs : List Upload) (b : Bool) → P x → AllByRecursion P xs → AllByRecursion P (cond b (x ∷ xs) xs)
  kept_one x xs true one all = (one, all)
  kept_one x xs false one all = all

  pub all_filtered : (p : Upload → Bool) (xs : List Upload) → AllByRecursion P xs → AllByRecursion P (filter p xs)
  all_filtered p [] all = tt
  all_filtered p (x ∷ xs) all = kept_one x (filter p xs) (p x) all.0 (all_filtered p xs all.1)

  pub all_like : (xs : List Upload) → AllByRecursion P xs → AllByRecursion P (like_the_first xs)
  all_like [] all = tt
  all_like (x ∷ xs) all = (all.0, all_filtered (has_shape (shape_text x)) xs all.1)

  pub all_there : (xs : List Upload) (i : ℕ) (none : Upload) → AllByRecursion P xs → i < length xs → P (get_or xs i none)
  all_there [] i none all within = absurd (omega (arith, within))
  all_there (x ∷ xs) zero none all within = all.0
  all_there (x ∷ xs) (suc i) none all within = all_there xs i none all.1 (omega (arith, within))

pub all_mapped : (P Q : Upload → Type 0) (xs : List Upload) → ((u : Upload) → P u → Q u) → AllByRecursion P xs → AllByRecursion Q xs
all_mapped P Q [] each all = tt
all_mapped P Q (x ∷ xs) each all = (each x all.0, all_mapped P Q xs each all.1)

-- ---- those that come first

firsts_both : (before xs ys : List Upload) → firsts before (xs ++ ys) ≡ firsts before xs ++ firsts (before ++ xs) ys
firsts_both before [] ys = ap (λ l. firsts l ys) (sym (append-nil before))
firsts_both before (x ∷ xs) ys =
    let here : List Upload = if list_any (has_id x.id) before then [] else x ∷ [] in
    ap (λ l. here ++ l) (firsts_both (before ++ x ∷ []) xs ys ∙ ap (λ l. firsts (before ++ x ∷ []) xs ++ firsts l ys) (append_assoc before (x ∷ []) xs))
    ∙ sym (append_assoc here (firsts (before ++ x ∷ []) xs) (firsts (before ++ x ∷ xs) ys))

-- none of these has its name
abbrev pub IsNew : List Upload → Upload → Type 0
IsNew before upload = list_any (has_id upload.id) before ≡ false

pub any_parts : (p : Upload → Bool) (xs ys : List Upload) → list_any p (xs ++ ys) ≡ false → (list_any p xs ≡ false) × (list_any p ys ≡ false)
any_parts p xs ys none = or_parts (list_any p xs) (list_any p ys) (sym (list_any-append p xs ys) ∙ none)

found : (before : List Upload) (x : Upload) (others : List Upload) (b : Bool) → list_any (has_id x.id) before ≡ b → AllByRecursion (IsNew before) others
    → AllByRecursion (IsNew before) ((if b then [] else x ∷ []) ++ others)
found before x others true is all = all
found before x others false is all = (is, all)

-- those that come first have names that none before them has
pub are_new : (before after : List Upload) → AllByRecursion (IsNew before) (firsts before after)
are_new before [] = tt
are_new before (x ∷ rest) =
    found before x (firsts (before ++ x ∷ []) rest) (list_any (has_id x.id) before) refl
    (all_mapped (IsNew (before ++ x ∷ [])) (IsNew before) (firsts (before ++ x ∷ []) rest) (λ u new. (any_parts (has_id u.id) before (x ∷ []) new).0) (are_new (before ++ x ∷ []) rest))

-- ---- the effective ones

like_both : (xs ys : List Upload) → like_the_first (xs ++ ys) ≡ like_the_first xs ++ like_more xs ys
like_both [] ys = refl
like_both (x ∷ xs) ys = ap (λ l. x ∷ l) (filter-append (has_shape (shape_text x)) xs ys)

-- what more uploads add to a table
abbrev pub added : List ℕ → List Upload → List Upload → List Upload
added table before after = like_more (filter (is_to table) (firsts [] before)) (filter (is_to table) (firsts before after))

pub effective_both : (table : List ℕ) (before after : List Upload) → effective table (before ++ after) ≡ effective table before ++ added table before after
effective_both table before after =
    effective_is table (before ++ after)
    ∙ ap (λ l. like_the_first (filter (is_to table) l)) (firsts_both [] before after)
    ∙ ap like_the_first (filter-append (is_to table) (firsts [] before) (firsts before after))
    ∙ like_both (filter (is_to table) (firsts [] before)) (filter (is_to table) (firsts before after))
    ∙ ap (λ l. l ++ added table before after) (sym (effective_is table before))

pub effective_grows : (table : List ℕ) (before after : List Upload) → take (length (effective table before)) (effective table (before ++ after)) ≡ effective table before
effective_grows table before after =
    ap (take (length (effective table before))) (effective_both table before after)
    ∙ take-append_seam (effective table before) (added table before after)

pub added_new : (table : List ℕ) (before after : List Upload) → AllByRecursion (IsNew before) (added table before after)
added_new table before after = more (filter (is_to table) (firsts [] before))
  where
    new : AllByRecursion (IsNew before) (filter (is_to table) (firsts before after))
    new = all_filtered (IsNew before) (is_to table) (firsts before after) (are_new before after)

    more : (xs : List Upload) → AllByRecursion (IsNew before) (like_more xs (filter (is_to table) (firsts before after)))
    more [] = all_like (IsNew before) (filter (is_to table) (firsts before after)) new
    more (x ∷ xs) = all_filtered (IsNew before) (has_shape (shape_text x)) (filter (is_to table) (firsts before after)) new

-- ---- versions

pub none_is_some : {X : Type 0} (x : X) → None ≡ Some x → ⊥
none_is_some x same = cc

abbrev version_or_none : Bool → Version → Option Version
version_or_none b version = if b then Some version else None

-- a number within a length is within a longer one
still_within : (number : ℕ) (xs ys : List Upload) → nat_le number (length xs) ≡ true → nat_le number (length (xs ++ ys)) ≡ true
still_within number xs ys within =
    le-leb number (length (xs ++ ys)) (omega (arith, leb-true number (length xs) within, length-append xs ys))

judged : (number : ℕ) (x : Upload) (xs ys : List Upload) (version : Version) (b : Bool) → nat_le number (length (x ∷ xs)) ≡ b
    → version_or_none b (record { schema = x.schema; uploads = take number (x ∷ xs) }) ≡ Some version
    → first_of_all number (x ∷ xs ++ ys) ≡ Some version
judged number x xs ys version false over is = absurd (none_is_some version is)
judged number x xs ys version true within is =
    ap (λ b. version_or_none b (record { schema = x.schema; uploads = take number (x ∷ xs ++ ys) })) (still_within number (x ∷ xs) ys within)
    ∙ ap (λ l. Some (record { schema = x.schema; uploads = l })) (take-append-le number (x ∷ xs) ys (leb-true number (length (x ∷ xs)) within))
    ∙ is

version_stays : (number : ℕ) (xs ys : List Upload) (version : Version) → first_of_all number xs ≡ Some version → first_of_all number (xs ++ ys) ≡ Some version
version_stays number [] ys version is = absurd (none_is_some version is)
version_stays number (x ∷ xs) ys version is = judged number x xs ys version (nat_le number (length (x ∷ xs))) refl is

pub versions_grow : (table : List ℕ) (number : ℕ) (before after : List Upload) (version : Version)
    → version_of table number before ≡ Some version → version_of table number (before ++ after) ≡ Some version
versions_grow table number before after version is =
    ap (first_of_all number) (effective_both table before after)
    ∙ version_stays number (effective table before) (added table before after) version is
