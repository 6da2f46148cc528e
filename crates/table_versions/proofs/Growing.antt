-- What one upload more adds to the tables that a list of uploads makes.
use Rattle.std.proofs.Common.{◌≡◌, refl, sym, ap, ap₂, subst, ◌∙◌, ℕ, suc, ◌+◌, ◌||◌, Bool, true, false, true≢false, cond, if◌then◌else◌, Option, Some, None, List, [], ◌∷◌, ◌++◌, length, append_assoc, arith}
use Rattle.std.specs.List.{AllByRecursion, filter, list_any}
use Rattle.std.specs.Str.{bytes_eq}
use Rattle.std.proofs.lemmas.Bool.{or_parts}
use Rattle.std.proofs.lemmas.List.{append-nil}
use Rattle.std.proofs.lemmas.List.Elements.{filter-append}
use Rattle.std.proofs.lemmas.Slice.Eq.{bytes_eq-Decides}
use Rattle.table_types.specs.Uploads.{Upload, upload_text}
use Rattle.table_types.specs.Tables.{has_id, is_to, shape_text, has_shape, firsts, effective}
use Rattle.table_types.proofs.Filtered.{like_the_first, effective_is}
use Rattle.table_types.specs.Tables.{Outcome, applied, mismatched, conflicting, first_with_id, place_from, told_of, outcome_of}

-- ---- equal bytes

pub same_bytes : (xs : List ℕ) → bytes_eq xs xs ≡ true
same_bytes xs = (bytes_eq-Decides xs xs).1 refl

pub bytes_same : (xs ys : List ℕ) → bytes_eq xs ys ≡ true → xs ≡ ys
bytes_same xs ys = (bytes_eq-Decides xs ys).0

pub none_is_some : {X : Type 0} (x : X) → None ≡ Some x → ⊥
none_is_some x same = cc

-- ---- the first of a name

abbrev pub named_or : Bool → Upload → Option Upload → Option Upload
named_or b x rest = if b then Some x else rest

abbrev pub or_then : Option Upload → Option Upload → Option Upload
or_then None more = more
or_then (Some first) more = Some first

named_or_then : (b : Bool) (x : Upload) (rest more : Option Upload) → named_or b x (or_then rest more) ≡ or_then (named_or b x rest) more
named_or_then true x rest more = refl
named_or_then false x rest more = refl

-- with one upload more, the first of a name is the one that was first, or this
pub named_push : (id : List ℕ) (xs : List Upload) (u : Upload) → first_with_id id (xs ++ u ∷ []) ≡ or_then (first_with_id id xs) (named_or (has_id id u) u None)
named_push id [] u = refl
named_push id (x ∷ xs) u =
    ap (named_or (has_id id x) x) (named_push id xs u) ∙ named_or_then (has_id id x) x (first_with_id id xs) (named_or (has_id id u) u None)

none_cons : (x : Upload) (rest : Option Upload) (b any : Bool) → (rest ≡ None → any ≡ false) → named_or b x rest ≡ None → b || any ≡ false
none_cons x rest true any more is = absurd (none_is_some x (sym is))
none_cons x rest false any more is = more is

pub none_any : (id : List ℕ) (xs : List Upload) → first_with_id id xs ≡ None → list_any (has_id id) xs ≡ false
none_any id [] is = refl
none_any id (x ∷ xs) is = none_cons x (first_with_id id xs) (has_id id x) (list_any (has_id id) xs) (none_any id xs) is

any_cons : (first x : Upload) (rest : Option Upload) (b any : Bool) → (rest ≡ Some first → any ≡ true) → named_or b x rest ≡ Some first → b || any ≡ true
any_cons first x rest true any more is = refl
any_cons first x rest false any more is = more is

pub some_any : (id : List ℕ) (xs : List Upload) (first : Upload) → first_with_id id xs ≡ Some first → list_any (has_id id) xs ≡ true
some_any id [] first is = absurd (none_is_some first is)
some_any id (x ∷ xs) first is = any_cons first x (first_with_id id xs) (has_id id x) (list_any (has_id id) xs) (some_any id xs first) is

some_is : (first x : Upload) → Some x ≡ Some first → x ≡ first
some_is first x same = cc

named_cons : (P : Upload → Type 0) (first x : Upload) (rest : Option Upload) (b : Bool) → (b ≡ true → P x) → (rest ≡ Some first → P first) → named_or b x rest ≡ Some first
    → P first
named_cons P first x rest true here more is = subst P (some_is first x is) (here refl)
named_cons P first x rest false here more is = more is

-- what is so of all, and of none but those of the name, is so of the first of a name
pub named_has : (id : List ℕ) (xs : List Upload) (first : Upload) → first_with_id id xs ≡ Some first → first.id ≡ id
named_has id [] first is = absurd (none_is_some first is)
named_has id (x ∷ xs) first is =
    named_cons (λ u. u.id ≡ id) first x (first_with_id id xs) (has_id id x) (bytes_same x.id id) (named_has id xs first) is

pub named_all : (P : Upload → Type 0) (id : List ℕ) (xs : List Upload) (first : Upload) → AllByRecursion P xs → first_with_id id xs ≡ Some first → P first
named_all P id [] first all is = absurd (none_is_some first is)
named_all P id (x ∷ xs) first all is = named_cons P first x (first_with_id id xs) (has_id id x) (λ here. all.0) (named_all P id xs first all.1) is

-- ---- those that come first of their ids

abbrev pub unless : Bool → Upload → List Upload
unless b u = if b then [] else u ∷ []

pub firsts_push : (before xs : List Upload) (u : Upload) → firsts before (xs ++ u ∷ []) ≡ firsts before xs ++ unless (list_any (has_id u.id) (before ++ xs)) u
firsts_push before [] u =
    append-nil (unless (list_any (has_id u.id) before) u)
    ∙ ap (λ l. unless (list_any (has_id u.id) l) u) (sym (append-nil before))
firsts_push before (x ∷ xs) u =
    let here : List Upload = unless (list_any (has_id x.id) before) x in
    ap (λ l. unless (list_any (has_id x.id) before) x ++ l)
    (firsts_push (before ++ x ∷ []) xs u
    ∙ ap (λ l. firsts (before ++ x ∷ []) xs ++ unless (list_any (has_id u.id) l) u) (append_assoc before (x ∷ []) xs))
    ∙ sym (append_assoc (unless (list_any (has_id x.id) before) x) (firsts (before ++ x ∷ []) xs) (unless (list_any (has_id u.id) (before ++ x ∷ xs)) u))

-- ---- the effective ones

abbrev pub one_if : Bool → Upload → List Upload
one_if b u = if b then u ∷ [] else []

filter_one : (p : Upload → Bool) (u : Upload) (b : Bool) → filter p (unless b u) ≡ (if b then [] else one_if (p u) u)
filter_one p u true = refl
filter_one p u false = refl

-- what an upload adds that is new, to these of its table
abbrev pub like_more : List Upload → Upload → List Upload
like_more [] u = u ∷ []
like_more (x ∷ xs) u = one_if (has_shape (shape_text x) u) u

like_push : (xs : List Upload) (u : Upload) → like_the_first (xs ++ u ∷ []) ≡ like_the_first xs ++ like_more (like_the_first xs) u
like_push [] u = refl
like_push (x ∷ xs) u = ap (λ l. x ∷ l) (filter-append (has_shape (shape_text x)) xs (u ∷ []))

-- what an upload adds to the effective ones of a table
abbrev pub added_to : List ℕ → List Upload → Upload → List Upload
added_to table uploads u =
    if list_any (has_id u.id) uploads then [] else (if is_to table u then like_more (effective table uploads) u else [])

like_added : (xs : List Upload) (u : Upload) (named to : Bool) → like_the_first (xs ++ (if named then [] else one_if to u))
    ≡ like_the_first xs ++ (if named then [] else (if to then like_more (like_the_first xs) u else []))
like_added xs u true to = ap like_the_first (append-nil xs) ∙ sym (append-nil (like_the_first xs))
like_added xs u false true = like_push xs u
like_added xs u false false = ap like_the_first (append-nil xs) ∙ sym (append-nil (like_the_first xs))

pub effective_push : (table : List ℕ) (uploads : List Upload) (u : Upload) → effective table (uploads ++ u ∷ []) ≡ effective table uploads ++ added_to table uploads u
effective_push table uploads u =
    effective_is table (uploads ++ u ∷ [])
    ∙ ap (λ l. like_the_first (filter (is_to table) l)) (firsts_push [] uploads u)
    ∙ ap like_the_first (filter-append (is_to table) (firsts [] uploads) (unless (list_any (has_id u.id) uploads) u))
    ∙ ap (λ l. like_the_first (filter (is_to table) (firsts [] uploads) ++ l)) (filter_one (is_to table) u (list_any (has_id u.id) uploads))
    ∙ like_added (filter (is_to table) (firsts [] uploads)) u (list_any (has_id u.id) uploads) (is_to table u)
    ∙ ap (λ l. l ++ (if list_any (has_id u.id) uploads then [] else (if is_to table u then like_more l u else []))) (sym (effective_is table uploads))

module _ (table : List ℕ) (uploads : List Upload) (u : Upload) where
  -- one whose id has come adds nothing
  pub effective_named : list_any (has_id u.id) uploads ≡ true → effective table (uploads ++ u ∷ []) ≡ effective table uploads
  effective_named named =
      effective_push table uploads u
      ∙ ap (λ b. effective table uploads ++ (if b then [] else (if is_to table u then like_more (effective table uploads) u else []))) named
      ∙ append-nil (effective table uploads)

  -- nor does one to another table
  pub effective_other : is_to table u ≡ false → effective table (uploads ++ u ∷ []) ≡ effective table uploads
  effective_other other = effective_push table uploads u ∙ nothing (list_any (has_id u.id) uploads) (is_to table u) other
    where
      nothing : (named to : Bool) → to ≡ false
          → effective table uploads ++ (if named then [] else (if to then like_more (effective table uploads) u else [])) ≡ effective table uploads
      nothing true to is = append-nil (effective table uploads)
      nothing false true is = absurd (true≢false is)
      nothing false false is = append-nil (effective table uploads)

  -- a new one to the table adds itself, where it is the first or has the shape of the first
  pub effective_new : list_any (has_id u.id) uploads ≡ false → is_to table u ≡ true
      → effective table (uploads ++ u ∷ []) ≡ effective table uploads ++ like_more (effective table uploads) u
  effective_new new to =
      effective_push table uploads u
      ∙ ap (λ l. effective table uploads ++ l)
      (ap₂ (λ a b. if a then [] else (if b then like_more (effective table uploads) u else [])) new to)

-- ---- none of the effective ones has a new name

kept_one : (q : Upload → Bool) (x : Upload) (ys : List Upload) (b : Bool) → q x ≡ false → list_any q ys ≡ false → list_any q (cond b (x ∷ ys) ys) ≡ false
kept_one q x ys true one rest = ap₂ (λ a b. a || b) one rest
kept_one q x ys false one rest = rest

kept_none : (p q : Upload → Bool) (xs : List Upload) → list_any q xs ≡ false → list_any q (filter p xs) ≡ false
kept_none p q [] none = refl
kept_none p q (x ∷ xs) none =
    let parts = or_parts (q x) (list_any q xs) none in
    kept_one q x (filter p xs) (p x) parts.0 (kept_none p q xs parts.1)

like_none : (q : Upload → Bool) (xs : List Upload) → list_any q xs ≡ false → list_any q (like_the_first xs) ≡ false
like_none q [] none = refl
like_none q (x ∷ xs) none =
    let parts = or_parts (q x) (list_any q xs) none in
    ap₂ (λ a b. a || b) parts.0 (kept_none (has_shape (shape_text x)) q xs parts.1)

added_none : (q : Upload → Bool) (x : Upload) (ys : List Upload) (b : Bool) → q x ≡ false → list_any q ys ≡ false → list_any q (unless b x ++ ys) ≡ false
added_none q x ys true one rest = rest
added_none q x ys false one rest = ap₂ (λ a b. a || b) one rest

firsts_none : (q : Upload → Bool) (before xs : List Upload) → list_any q xs ≡ false → list_any q (firsts before xs) ≡ false
firsts_none q before [] none = refl
firsts_none q before (x ∷ xs) none =
    let parts = or_parts (q x) (list_any q xs) none in
    added_none q x (firsts (before ++ x ∷ []) xs) (list_any (has_id x.id) before) parts.0 (firsts_none q (before ++ x ∷ []) xs parts.1)

pub effective_none : (q : Upload → Bool) (table : List ℕ) (uploads : List Upload) → list_any q uploads ≡ false → list_any q (effective table uploads) ≡ false
effective_none q table uploads none =
    ap (list_any q) (effective_is table uploads)
    ∙ like_none q (filter (is_to table) (firsts [] uploads)) (kept_none (is_to table) q (firsts [] uploads) (firsts_none q [] uploads none))

-- ---- the place of a new upload

passed : (place : ℕ) (rest : Outcome) (b : Bool) → b ≡ false → (if b then applied place else rest) ≡ rest
passed place rest true is = absurd (true≢false is)
passed place rest false is = refl

pub place_none : (place : ℕ) (id : List ℕ) (xs : List Upload) → list_any (has_id id) xs ≡ false → place_from place id xs ≡ mismatched
place_none place id [] none = refl
place_none place id (x ∷ xs) none =
    let parts = or_parts (has_id id x) (list_any (has_id id) xs) none in
    passed place (place_from (suc place) id xs) (has_id id x) parts.0 ∙ place_none (suc place) id xs parts.1

pub place_last : (place : ℕ) (xs : List Upload) (u : Upload) → list_any (has_id u.id) xs ≡ false → place_from place u.id (xs ++ u ∷ []) ≡ applied (place + length xs)
place_last place [] u none =
    ap (λ b. if b then applied place else mismatched) (same_bytes u.id) ∙ ap applied (omega arith)
place_last place (x ∷ xs) u none =
    let parts = or_parts (has_id u.id x) (list_any (has_id u.id) xs) none in
    passed place (place_from (suc place) u.id (xs ++ u ∷ [])) (has_id u.id x) parts.0
    ∙ place_last (suc place) xs u parts.1
    ∙ ap applied (omega arith)

-- ---- what is told of the first of a name

pub told_first : (uploads : List Upload) (first : Upload) → first_with_id first.id uploads ≡ Some first
    → outcome_of uploads first ≡ place_from 1 first.id (effective first.table uploads)
told_first uploads first named =
    ap (λ o. told_of o first (effective first.table uploads)) named
    ∙ ap (λ b. if b then place_from 1 first.id (effective first.table uploads) else conflicting) (same_bytes (upload_text first))

-- a new upload is the first of its id
pub new_is_first : (uploads : List Upload) (u : Upload) → first_with_id u.id uploads ≡ None → first_with_id u.id (uploads ++ u ∷ []) ≡ Some u
new_is_first uploads u new =
    named_push u.id uploads u
    ∙ ap₂ (λ o b. or_then o (named_or b u None)) new (same_bytes u.id)

-- one whose id has come is not
pub still_first : (id : List ℕ) (uploads : List Upload) (u first : Upload) → first_with_id id uploads ≡ Some first → first_with_id id (uploads ++ u ∷ []) ≡ Some first
still_first id uploads u first named =
    named_push id uploads u ∙ ap (λ o. or_then o (named_or (has_id id u) u None)) named

-- no other name has a new first
pub other_first : (id : List ℕ) (uploads : List Upload) (u : Upload) → has_id id u ≡ false → first_with_id id (uploads ++ u ∷ []) ≡ first_with_id id uploads
other_first id uploads u other =
    named_push id uploads u ∙ ap (λ b. or_then (first_with_id id uploads) (named_or b u None)) other ∙ or_none (first_with_id id uploads)
  where
    or_none : (o : Option Upload) → or_then o None ≡ o
    or_none None = refl
    or_none (Some first) = refl
