-- Each upload counts once, and what is told of one whose id has come stays.
use Rattle.std.proofs.Common.{◌≡◌, ◌≢◌, refl, sym, ap, subst, ◌∙◌, ℕ, zero, suc, ◌+◌, ◌-◌, ◌<◌, ◌≤◌, ◌||◌, Bool, true, false, true≢false, cond, if◌then◌else◌, Option, Some, None, List, [], ◌∷◌, ◌++◌, length, get_or, append_assoc, arith}
use Rattle.std.specs.List.{AllByRecursion, filter, list_any}
use Rattle.std.specs.Str.{bytes_eq}
use Rattle.std.proofs.lemmas.Bool.{or_parts}
use Rattle.table_types.specs.Uploads.{Upload}
use Rattle.table_types.specs.Tables.{has_id, is_to, shape_text, has_shape, is_same, firsts, effective}
use Rattle.table_types.specs.Tables.{Outcome, applied, mismatched, conflicting, unknown, first_with_id, place_from, told_of, outcome_of}
use Rattle.table_types.proofs.Filtered.{like_the_first, effective_is}
use Rattle.table_types.proofs.Growing.{same_bytes, bytes_same, all_filtered, all_like, all_there, all_mapped, IsNew, any_parts, are_new, added, added_new, effective_both, none_is_some}

-- ---- names

abbrev pub named_or : Bool → Upload → Option Upload → Option Upload
named_or b x rest = if b then Some x else rest

named_cons : (first x : Upload) (rest longer : Option Upload) (b : Bool) → (rest ≡ Some first → longer ≡ Some first) → named_or b x rest ≡ Some first
    → named_or b x longer ≡ Some first
named_cons first x rest longer true more is = is
named_cons first x rest longer false more is = more is

-- the first of a name in a list is the first of it in a longer one
named_stays : (id : List ℕ) (xs ys : List Upload) (first : Upload) → first_with_id id xs ≡ Some first → first_with_id id (xs ++ ys) ≡ Some first
named_stays id [] ys first is = absurd (none_is_some first is)
named_stays id (x ∷ xs) ys first is = named_cons first x (first_with_id id xs) (first_with_id id (xs ++ ys)) (has_id id x) (named_stays id xs ys first) is

any_cons : (first x : Upload) (rest : Option Upload) (b any : Bool) → (rest ≡ Some first → any ≡ true) → named_or b x rest ≡ Some first → b || any ≡ true
any_cons first x rest true any more is = refl
any_cons first x rest false any more is = more is

-- some upload has the name
pub named_any : (id : List ℕ) (xs : List Upload) (first : Upload) → first_with_id id xs ≡ Some first → list_any (has_id id) xs ≡ true
named_any id [] first is = absurd (none_is_some first is)
named_any id (x ∷ xs) first is = any_cons first x (first_with_id id xs) (has_id id x) (list_any (has_id id) xs) (named_any id xs first) is

passed : (x : Upload) (rest : Option Upload) (b : Bool) → b ≡ false → named_or b x rest ≡ rest
passed x rest true is = absurd (true≢false is)
passed x rest false is = refl

-- the first of a name stands behind those that have another
named_behind : (id : List ℕ) (before xs : List Upload) → list_any (has_id id) before ≡ false → first_with_id id (before ++ xs) ≡ first_with_id id xs
named_behind id [] xs none = refl
named_behind id (b ∷ before) xs none =
    let parts = or_parts (has_id id b) (list_any (has_id id) before) none in
    passed b (first_with_id id (before ++ xs)) (has_id id b) parts.0 ∙ named_behind id before xs parts.1

-- ---- places

missed_one : (place : ℕ) (id : List ℕ) (before : List Upload) (u : Upload) (rest : Outcome) (b : Bool) → has_id id u ≡ b → list_any (has_id id) before ≡ true
    → IsNew before u → rest ≡ mismatched → (if b then applied place else rest) ≡ mismatched
missed_one place id before u rest true is there new none =
    absurd (true≢false (sym there ∙ ap (λ n. list_any (has_id n) before) (sym (bytes_same u.id id is)) ∙ new))
missed_one place id before u rest false is there new none = none

-- an upload whose name stands among some is none of those that are new to them
missed : (place : ℕ) (id : List ℕ) (before us : List Upload) → list_any (has_id id) before ≡ true → AllByRecursion (IsNew before) us
    → place_from place id us ≡ mismatched
missed place id before [] there new = refl
missed place id before (u ∷ us) there new =
    missed_one place id before u (place_from (suc place) id us) (has_id id u) refl there new.0 (missed (suc place) id before us there new.1)

placed_one : (place : ℕ) (rest longer : Outcome) (b : Bool) → longer ≡ rest → (if b then applied place else longer) ≡ (if b then applied place else rest)
placed_one place rest longer true same = refl
placed_one place rest longer false same = same

place_both : (place : ℕ) (id : List ℕ) (xs ys : List Upload) → ((n : ℕ) → place_from n id ys ≡ mismatched) → place_from place id (xs ++ ys) ≡ place_from place id xs
place_both place id [] ys none = none place
place_both place id (x ∷ xs) ys none =
    placed_one place (place_from (suc place) id xs) (place_from (suc place) id (xs ++ ys)) (has_id id x) (place_both (suc place) id xs ys none)

-- ---- what is told stays

told_same : (first upload : Upload) (xs ys : List Upload) (b : Bool) → place_from 1 upload.id ys ≡ place_from 1 upload.id xs
    → (if b then place_from 1 upload.id ys else conflicting) ≡ (if b then place_from 1 upload.id xs else conflicting)
told_same first upload xs ys true same = same
told_same first upload xs ys false same = refl

told_stays : (before after : List Upload) (upload : Upload) (outcome : Outcome) (first : Option Upload) → first_with_id upload.id before ≡ first
    → told_of first upload (effective upload.table before) ≡ outcome → outcome ≢ unknown → outcome_of (before ++ after) upload ≡ outcome
told_stays before after upload outcome None named told known = absurd (known (sym told))
told_stays before after upload outcome (Some first) named told known =
    let there : list_any (has_id upload.id) before ≡ true = named_any upload.id before first named in
    ap (λ o. told_of o upload (effective upload.table (before ++ after))) (named_stays upload.id before after first named)
    ∙ told_same first upload (effective upload.table before) (effective upload.table (before ++ after)) (is_same first upload)
    (ap (place_from 1 upload.id) (effective_both upload.table before after)
    ∙ place_both 1 upload.id (effective upload.table before) (added upload.table before after)
    (λ n. missed n upload.id before (added upload.table before after) there (added_new upload.table before after)))
    ∙ told

pub outcomes_stay : (before after : List Upload) (upload : Upload) (outcome : Outcome) → outcome_of before upload ≡ outcome → outcome ≢ unknown
    → outcome_of (before ++ after) upload ≡ outcome
outcomes_stay before after upload outcome told known =
    told_stays before after upload outcome (first_with_id upload.id before) refl told known

-- ---- different names

-- none behind it has its name, and so of all behind
abbrev AreApart : List Upload → Type 0
AreApart [] = Unit {0}
AreApart (x ∷ xs) = AllByRecursion (λ y. bytes_eq x.id y.id ≡ false) xs × AreApart xs

apart_kept : (x : Upload) (xs : List Upload) (b : Bool) → AllByRecursion (λ y. bytes_eq x.id y.id ≡ false) xs → AreApart xs → AreApart (cond b (x ∷ xs) xs)
apart_kept x xs true other apart = (other, apart)
apart_kept x xs false other apart = apart

apart_filtered : (p : Upload → Bool) (xs : List Upload) → AreApart xs → AreApart (filter p xs)
apart_filtered p [] apart = tt
apart_filtered p (x ∷ xs) apart =
    apart_kept x (filter p xs) (p x) (all_filtered (λ y. bytes_eq x.id y.id ≡ false) p xs apart.0) (apart_filtered p xs apart.1)

apart_like : (xs : List Upload) → AreApart xs → AreApart (like_the_first xs)
apart_like [] apart = tt
apart_like (x ∷ xs) apart =
    (all_filtered (λ y. bytes_eq x.id y.id ≡ false) (has_shape (shape_text x)) xs apart.0, apart_filtered (has_shape (shape_text x)) xs apart.1)

apart_added : (x : Upload) (others : List Upload) (b : Bool) → AllByRecursion (λ y. bytes_eq x.id y.id ≡ false) others → AreApart others
    → AreApart ((if b then [] else x ∷ []) ++ others)
apart_added x others true other apart = apart
apart_added x others false other apart = (other, apart)

apart_firsts : (before xs : List Upload) → AreApart (firsts before xs)
apart_firsts before [] = tt
apart_firsts before (x ∷ xs) =
    apart_added x (firsts (before ++ x ∷ []) xs) (list_any (has_id x.id) before)
    (all_mapped (IsNew (before ++ x ∷ [])) (λ y. bytes_eq x.id y.id ≡ false) (firsts (before ++ x ∷ []) xs)
    (λ y new. (or_parts (bytes_eq x.id y.id) false (any_parts (has_id y.id) before (x ∷ []) new).1).0) (are_new (before ++ x ∷ []) xs))
    (apart_firsts (before ++ x ∷ []) xs)

apart_effective : (table : List ℕ) (uploads : List Upload) → AreApart (effective table uploads)
apart_effective table uploads =
    subst AreApart (sym (effective_is table uploads))
    (apart_like (filter (is_to table) (firsts [] uploads)) (apart_filtered (is_to table) (firsts [] uploads) (apart_firsts [] uploads)))

apart_at : (xs : List Upload) (i j : ℕ) (none : Upload) → AreApart xs → i < j → j < length xs → (get_or xs i none).id ≢ (get_or xs j none).id
apart_at [] i j none apart below within same = absurd (omega (arith, within))
apart_at (x ∷ xs) i zero none apart below within same = absurd (omega (arith, below))
apart_at (x ∷ xs) zero (suc j) none apart below within same =
    let other : bytes_eq x.id (get_or xs j none).id ≡ false = all_there (λ y. bytes_eq x.id y.id ≡ false) xs j none apart.0 (omega (arith, within)) in
    true≢false (sym (same_bytes x.id) ∙ ap (bytes_eq x.id) same ∙ other)
apart_at (x ∷ xs) (suc i) (suc j) none apart below within same =
    apart_at xs i j none apart.1 (omega (arith, below)) (omega (arith, within)) same

pub ids_differ : (table : List ℕ) (uploads : List Upload) (i j : ℕ) (none : Upload) → i < j → j < length (effective table uploads)
    → (get_or (effective table uploads) i none).id ≢ (get_or (effective table uploads) j none).id
ids_differ table uploads i j none below within = apart_at (effective table uploads) i j none (apart_effective table uploads) below within

-- ---- where an applied upload stands

-- the first of its own name among these
abbrev IsFirst : List Upload → Upload → Type 0
IsFirst uploads u = first_with_id u.id uploads ≡ Some u

first_added : (uploads : List Upload) (x : Upload) (others : List Upload) (b : Bool) → (b ≡ false → IsFirst uploads x) → AllByRecursion (IsFirst uploads) others
    → AllByRecursion (IsFirst uploads) ((if b then [] else x ∷ []) ++ others)
first_added uploads x others true here rest = rest
first_added uploads x others false here rest = (here refl, rest)

own_name : (x : Upload) (rest : List Upload) → first_with_id x.id (x ∷ rest) ≡ Some x
own_name x rest = ap (λ b. named_or b x (first_with_id x.id rest)) (same_bytes x.id)

are_first : (before xs : List Upload) → AllByRecursion (IsFirst (before ++ xs)) (firsts before xs)
are_first before [] = tt
are_first before (x ∷ xs) =
    first_added (before ++ x ∷ xs) x (firsts (before ++ x ∷ []) xs) (list_any (has_id x.id) before)
    (λ new. named_behind x.id before (x ∷ xs) new ∙ own_name x xs)
    (subst (λ l. AllByRecursion (IsFirst l) (firsts (before ++ x ∷ []) xs)) (append_assoc before (x ∷ []) xs) (are_first (before ++ x ∷ []) xs))

effective_first : (table : List ℕ) (uploads : List Upload) → AllByRecursion (IsFirst uploads) (effective table uploads)
effective_first table uploads =
    subst (AllByRecursion (IsFirst uploads)) (sym (effective_is table uploads))
    (all_like (IsFirst uploads) (filter (is_to table) (firsts [] uploads))
    (all_filtered (IsFirst uploads) (is_to table) (firsts [] uploads) (are_first [] uploads)))

abbrev number_in : Outcome → ℕ
number_in (applied n) = n
number_in mismatched = 0
number_in conflicting = 0
number_in unknown = 0

abbrev pub is_applied : Outcome → Bool
is_applied (applied n) = true
is_applied mismatched = false
is_applied conflicting = false
is_applied unknown = false

-- where it is found
record FoundAt (place number : ℕ) (id : List ℕ) (xs : List Upload) : Type 0 where
  from : place ≤ number
  within : number < place + length xs
  named : (none : Upload) → has_id id (get_or xs (number - place) none) ≡ true

found_cons : (place number : ℕ) (id : List ℕ) (x : Upload) (xs : List Upload) (b : Bool) → has_id id x ≡ b
    → (place_from (suc place) id xs ≡ applied number → FoundAt (suc place) number id xs) → (if b then applied place else place_from (suc place) id xs) ≡ applied number
    → FoundAt place number id (x ∷ xs)
found_cons place number id x xs true is more told =
    let same : place ≡ number = ap number_in told in
    let here : number - place ≡ 0 = omega (arith, same) in
    record {
      from = omega (arith, same);
      within = omega (arith, same);
      named = λ none. ap (λ k. has_id id (get_or (x ∷ xs) k none)) here ∙ is;
    }
found_cons place number id x xs false is more told =
    let rest = more told in
    let here : number - place ≡ suc (number - suc place) = omega (arith, rest.from) in
    record {
      from = omega (arith, rest.from);
      within = omega (arith, rest.within);
      named = λ none. ap (λ k. has_id id (get_or (x ∷ xs) k none)) here ∙ rest.named none;
    }

found_at : (place number : ℕ) (id : List ℕ) (xs : List Upload) → place_from place id xs ≡ applied number → FoundAt place number id xs
found_at place number id [] told = absurd (true≢false (sym (ap is_applied told)))
found_at place number id (x ∷ xs) told =
    found_cons place number id x xs (has_id id x) refl (found_at (suc place) number id xs) told

pub some_same : (x y : Upload) → Some x ≡ Some y → x ≡ y
some_same x y same = ap (λ o. or_else o) same
  where
    or_else : Option Upload → Upload
    or_else None = x
    or_else (Some z) = z

abbrev pub StandsAt : List Upload → Upload → Upload → ℕ → Type 0
StandsAt counted upload none number =
    (number ≤ length counted) × (1 ≤ number) × (is_same (get_or counted (number - 1) none) upload ≡ true)

same_first : (uploads : List Upload) (upload first none : Upload) (number : ℕ) (b : Bool) → is_same first upload ≡ b → first_with_id upload.id uploads ≡ Some first
    → (if b then place_from 1 upload.id (effective upload.table uploads) else conflicting) ≡ applied number
    → StandsAt (effective upload.table uploads) upload none number
same_first uploads upload first none number false is named told = absurd (true≢false (sym (ap is_applied told)))
same_first uploads upload first none number true is named told =
    let counted : List Upload = effective upload.table uploads in
    let found = found_at 1 number upload.id (effective upload.table uploads) told in
    let there : number - 1 < length (effective upload.table uploads) = omega (arith, found.from, found.within) in
    let own : first_with_id (get_or (effective upload.table uploads) (number - 1) none).id uploads ≡ Some (get_or (effective upload.table uploads) (number - 1) none) =
    all_there (IsFirst uploads) (effective upload.table uploads) (number - 1) none (effective_first upload.table uploads) there in
    let id : (get_or (effective upload.table uploads) (number - 1) none).id ≡ upload.id = bytes_same _ _ (found.named none) in
    let one : first ≡ get_or (effective upload.table uploads) (number - 1) none =
    some_same first (get_or (effective upload.table uploads) (number - 1) none) (sym named ∙ ap (λ n. first_with_id n uploads) (sym id) ∙ own) in (
      omega (arith, found.within),
      found.from,
      ap (λ u. is_same u upload) (sym one) ∙ is,
    )

told_where : (uploads : List Upload) (upload none : Upload) (number : ℕ) (first : Option Upload) → first_with_id upload.id uploads ≡ first
    → told_of first upload (effective upload.table uploads) ≡ applied number → StandsAt (effective upload.table uploads) upload none number
told_where uploads upload none number None named told = absurd (true≢false (sym (ap is_applied told)))
told_where uploads upload none number (Some first) named told =
    same_first uploads upload first none number (is_same first upload) refl named told

pub stands_at : (uploads : List Upload) (upload none : Upload) (number : ℕ) → outcome_of uploads upload ≡ applied number
    → StandsAt (effective upload.table uploads) upload none number
stands_at uploads upload none number told = told_where uploads upload none number (first_with_id upload.id uploads) refl told
