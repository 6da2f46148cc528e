-- The effective uploads to a table are to it and of one shape, and every upload of that shape is among them.
use Rattle.std.proofs.lemmas.Bool.{or_parts, and_parts}
use Rattle.std.proofs.lemmas.List.Folds.{list_any-append}
use Rattle.std.proofs.Common.{◌≡◌, ◌≢◌, ◌↔◌, ◌&&◌, refl, sym, ap, ap₂, subst, ◌∙◌, ℕ, zero, suc, ◌+◌, ◌<◌, ◌||◌, Bool, true, false, true≢false, cond, if◌then◌else◌, Option, Some, None, List, [], ◌∷◌, ◌++◌, length, get_or, arith}
use Rattle.std.specs.List.{AllByRecursion, filter, list_any}
use Rattle.std.specs.Str.{bytes_eq}
use Rattle.table_types.specs.Uploads.{Upload, upload_text}
use Rattle.table_types.specs.Tables.{has_id, is_to, shape_text, has_shape, is_same, firsts, effective}
use Rattle.table_types.specs.Tables.{Outcome, applied, mismatched, conflicting, unknown, first_with_id, place_from, told_of, outcome_of}
use Rattle.table_types.proofs.Filtered.{like_the_first, effective_is}
use Rattle.table_types.proofs.Growing.{same_bytes, bytes_same, all_like, all_there, none_is_some}
use Rattle.table_types.proofs.Counting.{named_or, some_same}

-- ---- all pass what they were filtered by

passed_one : (p : Upload → Bool) (x : Upload) (xs : List Upload) (b : Bool) → p x ≡ b → AllByRecursion (λ u. p u ≡ true) xs
    → AllByRecursion (λ u. p u ≡ true) (cond b (x ∷ xs) xs)
passed_one p x xs true is all = (is, all)
passed_one p x xs false is all = all

all_pass : (p : Upload → Bool) (xs : List Upload) → AllByRecursion (λ u. p u ≡ true) (filter p xs)
all_pass p [] = tt
all_pass p (x ∷ xs) = passed_one p x (filter p xs) (p x) refl (all_pass p xs)

pub is_of_table : (table : List ℕ) (uploads : List Upload) (i : ℕ) (none : Upload) → i < length (effective table uploads)
    → (get_or (effective table uploads) i none).table ≡ table
is_of_table table uploads i none within =
    bytes_same (get_or (effective table uploads) i none).table table
    (all_there (λ u. is_to table u ≡ true) (effective table uploads) i none
    (subst (AllByRecursion (λ u. is_to table u ≡ true)) (sym (effective_is table uploads))
    (all_like (λ u. is_to table u ≡ true) (filter (is_to table) (firsts [] uploads)) (all_pass (is_to table) (firsts [] uploads)))) within)

like_shape : (xs : List Upload) (i : ℕ) (none : Upload) → i < length (like_the_first xs)
    → shape_text (get_or (like_the_first xs) i none) ≡ shape_text (get_or (like_the_first xs) 0 none)
like_shape [] i none within = absurd (omega (arith, within))
like_shape (x ∷ xs) zero none within = refl
like_shape (x ∷ xs) (suc i) none within =
    bytes_same (shape_text (get_or (filter (has_shape (shape_text x)) xs) i none)) (shape_text x)
    (all_there (λ u. has_shape (shape_text x) u ≡ true) (filter (has_shape (shape_text x)) xs) i none (all_pass (has_shape (shape_text x)) xs) (omega (arith, within)))

pub is_of_shape : (table : List ℕ) (uploads : List Upload) (i : ℕ) (none : Upload) → i < length (effective table uploads)
    → shape_text (get_or (effective table uploads) i none) ≡ shape_text (get_or (effective table uploads) 0 none)
is_of_shape table uploads i none =
    subst (λ l. i < length l → shape_text (get_or l i none) ≡ shape_text (get_or l 0 none)) (sym (effective_is table uploads))
    (like_shape (filter (is_to table) (firsts [] uploads)) i none)

-- ---- what passes is not lost

kept_any : (q p : Upload → Bool) (x : Upload) (xs : List Upload) (b c any : Bool) → p x ≡ b → q x ≡ c
    → (q x ≡ true → p x ≡ true) → (any ≡ true → list_any q xs ≡ true) → c || any ≡ true → list_any q (cond b (x ∷ xs) xs) ≡ true
kept_any q p x xs true true any px qx keeps rest there = ap (λ c. c || list_any q xs) qx
kept_any q p x xs true false any px qx keeps rest there = ap (λ c. c || list_any q xs) qx ∙ rest there
kept_any q p x xs false true any px qx keeps rest there = absurd (true≢false (sym (keeps qx) ∙ px))
kept_any q p x xs false false any px qx keeps rest there = rest there

-- a filter keeps what it lets pass
any_kept : (q p : Upload → Bool) (xs : List Upload) → ((u : Upload) → q u ≡ true → p u ≡ true) → list_any q xs ≡ true → list_any q (filter p xs) ≡ true
any_kept q p [] keeps there = there
any_kept q p (x ∷ xs) keeps there =
    kept_any q p x (filter p xs) (p x) (q x) (list_any q xs) refl refl (keeps x) (any_kept q p xs keeps) there

one_or_more : (b any kept : Bool) → (any ≡ true → kept ≡ true) → b || any ≡ true → b || kept ≡ true
one_or_more true any kept more there = refl
one_or_more false any kept more there = more there

any_like : (q : Upload → Bool) (xs : List Upload) (none : Upload)
    → ((u : Upload) → q u ≡ true → shape_text u ≡ shape_text (get_or (like_the_first xs) 0 none)) → list_any q xs ≡ true → list_any q (like_the_first xs) ≡ true
any_like q [] none shaped there = there
any_like q (x ∷ xs) none shaped there =
    one_or_more (q x) (list_any q xs) (list_any q (filter (has_shape (shape_text x)) xs))
    (any_kept q (has_shape (shape_text x)) xs (λ u is. ap (λ t. bytes_eq t (shape_text x)) (shaped u is) ∙ same_bytes (shape_text x))) there

or_true : (a b : Bool) → b ≡ true → a || b ≡ true
or_true true b is = refl
or_true false b is = is

one_here : (q : Upload → Bool) (x : Upload) (rest : List Upload) (b : Bool) → b ≡ false → q x ≡ true → list_any q ((if b then [] else x ∷ []) ++ rest) ≡ true
one_here q x rest true new is = absurd (true≢false new)
one_here q x rest false new is = ap (λ c. c || list_any q rest) is

behind_it : (q : Upload → Bool) (x : Upload) (rest : List Upload) (b : Bool) → list_any q rest ≡ true → list_any q ((if b then [] else x ∷ []) ++ rest) ≡ true
behind_it q x rest true there = there
behind_it q x rest false there = or_true (q x) (list_any q rest) there

still_new : (id : List ℕ) (before : List Upload) (x : Upload) → list_any (has_id id) before ≡ false → has_id id x ≡ false → list_any (has_id id) (before ++ x ∷ []) ≡ false
still_new id before x new other =
    list_any-append (has_id id) before (x ∷ []) ∙ ap₂ (λ a b. a || (b || false)) new other

first_step : (q : Upload → Bool) (id : List ℕ) (before : List Upload) (x : Upload) (xs : List Upload) (u : Upload) (b : Bool) → has_id id x ≡ b → q u ≡ true
    → list_any (has_id id) before ≡ false → named_or b x (first_with_id id xs) ≡ Some u
    → (list_any (has_id id) (before ++ x ∷ []) ≡ false → first_with_id id xs ≡ Some u → list_any q (firsts (before ++ x ∷ []) xs) ≡ true)
    → list_any q (firsts before (x ∷ xs)) ≡ true
first_step q id before x xs u true is own new named rest =
    let same : x ≡ u = some_same x u named in
    one_here q x (firsts (before ++ x ∷ []) xs) (list_any (has_id x.id) before)
    (ap (λ n. list_any (has_id n) before) (bytes_same x.id id is) ∙ new) (ap q same ∙ own)
first_step q id before x xs u false is own new named rest =
    behind_it q x (firsts (before ++ x ∷ []) xs) (list_any (has_id x.id) before) (rest (still_new id before x new is) named)

-- the first of a name is among those that come first, where none before had it
any_first : (q : Upload → Bool) (id : List ℕ) (before xs : List Upload) (u : Upload) → q u ≡ true → list_any (has_id id) before ≡ false
    → first_with_id id xs ≡ Some u → list_any q (firsts before xs) ≡ true
any_first q id before [] u own new named = absurd (none_is_some u named)
any_first q id before (x ∷ xs) u own new named =
    first_step q id before x xs u (has_id id x) refl own new named (any_first q id (before ++ x ∷ []) xs u own)

-- ---- an upload among others

-- of this name, to this table, of this shape
abbrev is_like : Upload → Upload → Bool
is_like upload u = has_id upload.id u && (is_to upload.table u && has_shape (shape_text upload) u)

like_itself : (upload : Upload) → is_like upload upload ≡ true
like_itself upload =
    ap₂ (λ a b. a && b) (same_bytes upload.id) (ap₂ (λ a b. a && b) (same_bytes upload.table) (same_bytes (shape_text upload)))

module _ (upload u : Upload) (like : is_like upload u ≡ true) where
  like_parts : (has_id upload.id u ≡ true) × (is_to upload.table u && has_shape (shape_text upload) u ≡ true)
  like_parts = and_parts (has_id upload.id u) (is_to upload.table u && has_shape (shape_text upload) u) like

  like_table : is_to upload.table u ≡ true
  like_table = (and_parts (is_to upload.table u) (has_shape (shape_text upload) u) like_parts.1).0

  like_shaped : shape_text u ≡ shape_text upload
  like_shaped = bytes_same (shape_text u) (shape_text upload) (and_parts (is_to upload.table u) (has_shape (shape_text upload) u) like_parts.1).1

either_of : (upload x : Upload) (xs : List Upload) (b : Bool) → is_like upload x ≡ b → b || list_any (is_like upload) xs ≡ true
    → (list_any (is_like upload) xs ≡ true → list_any (has_id upload.id) xs ≡ true) → has_id upload.id x || list_any (has_id upload.id) xs ≡ true
either_of upload x xs true is one more = ap (λ b. b || list_any (has_id upload.id) xs) (like_parts upload x is).0
either_of upload x xs false is one more = or_true (has_id upload.id x) (list_any (has_id upload.id) xs) (more one)

any_of : (upload : Upload) (xs : List Upload) → list_any (is_like upload) xs ≡ true → list_any (has_id upload.id) xs ≡ true
any_of upload [] there = there
any_of upload (x ∷ xs) there = either_of upload x xs (is_like upload x) refl there (any_of upload xs)

placed_step : (place : ℕ) (id : List ℕ) (rest : Outcome) (b any : Bool) → (any ≡ true → (n : ℕ) × (rest ≡ applied n)) → b || any ≡ true
    → (n : ℕ) × ((if b then applied place else rest) ≡ applied n)
placed_step place id rest true any more there = (place, refl)
placed_step place id rest false any more there = more there

-- one whose name stands among them has a place
placed : (place : ℕ) (id : List ℕ) (xs : List Upload) → list_any (has_id id) xs ≡ true → (n : ℕ) × (place_from place id xs ≡ applied n)
placed place id [] there = absurd (true≢false (sym there))
placed place id (x ∷ xs) there =
    placed_step place id (place_from (suc place) id xs) (has_id id x) (list_any (has_id id) xs) (placed (suc place) id xs) there

pub is_counted : (uploads : List Upload) (upload none : Upload) → first_with_id upload.id uploads ≡ Some upload
    → shape_text upload ≡ shape_text (get_or (effective upload.table uploads) 0 none) → (n : ℕ) × (outcome_of uploads upload ≡ applied n)
is_counted uploads upload none named shaped =
    let to_it : list_any (is_like upload) (filter (is_to upload.table) (firsts [] uploads)) ≡ true =
    any_kept (is_like upload) (is_to upload.table) (firsts [] uploads) (like_table upload)
    (any_first (is_like upload) upload.id [] uploads upload (like_itself upload) refl named) in
    let there : list_any (has_id upload.id) (effective upload.table uploads) ≡ true =
    any_of upload (effective upload.table uploads)
    (subst (λ l. list_any (is_like upload) l ≡ true) (sym (effective_is upload.table uploads))
    (any_like (is_like upload) (filter (is_to upload.table) (firsts [] uploads)) none
    (λ u like. like_shaped upload u like ∙ shaped ∙ ap (λ l. shape_text (get_or l 0 none)) (effective_is upload.table uploads)) to_it)) in
    let found = placed 1 upload.id (effective upload.table uploads) there in (
      found.0,
      ap (λ o. told_of o upload (effective upload.table uploads)) named
          ∙ ap (λ b. if b then place_from 1 upload.id (effective upload.table uploads) else conflicting) (same_bytes (upload_text upload)) ∙ found.1,
    )

-- ---- what is not known, and what conflicts

abbrev is_unknown : Outcome → Bool
is_unknown (applied n) = false
is_unknown mismatched = false
is_unknown conflicting = false
is_unknown unknown = true

known_place : (place : ℕ) (id : List ℕ) (xs : List Upload) → is_unknown (place_from place id xs) ≡ false
known_place place id [] = refl
known_place place id (x ∷ xs) = either_place (has_id id x) (known_place (suc place) id xs)
  where
    either_place : (b : Bool) → is_unknown (place_from (suc place) id xs) ≡ false → is_unknown (if b then applied place else place_from (suc place) id xs) ≡ false
    either_place true rest = refl
    either_place false rest = rest

-- where one has the name, a first one is named
found_named : (x : Upload) (rest : Option Upload) (b any : Bool) → (rest ≡ None → any ≡ true → ⊥) → named_or b x rest ≡ None → b || any ≡ true → ⊥
found_named x rest true any more none there = none_is_some x (sym none)
found_named x rest false any more none there = more none there

any_named : (id : List ℕ) (xs : List Upload) → first_with_id id xs ≡ None → list_any (has_id id) xs ≡ true → ⊥
any_named id [] none there = true≢false (sym there)
any_named id (x ∷ xs) none there =
    found_named x (first_with_id id xs) (has_id id x) (list_any (has_id id) xs) (any_named id xs) none there

none_named : (id : List ℕ) (xs : List Upload) → list_any (has_id id) xs ≡ false → first_with_id id xs ≡ None
none_named id [] none = refl
none_named id (x ∷ xs) none =
    let parts = or_parts (has_id id x) (list_any (has_id id) xs) none in
    ap (λ b. named_or b x (first_with_id id xs)) parts.0 ∙ none_named id xs parts.1

known_told : (first upload : Upload) (counted : List Upload) (b : Bool) → is_unknown (if b then place_from 1 upload.id counted else conflicting) ≡ false
known_told first upload counted true = known_place 1 upload.id counted
known_told first upload counted false = refl

either_bool : (b : Bool) → (b ≡ true → ⊥) → b ≡ false
either_bool true not = absurd (not refl)
either_bool false not = refl

name_missing : (uploads : List Upload) (upload : Upload) (first : Option Upload) → first_with_id upload.id uploads ≡ first
    → told_of first upload (effective upload.table uploads) ≡ unknown → list_any (has_id upload.id) uploads ≡ false
name_missing uploads upload None named told =
    either_bool (list_any (has_id upload.id) uploads) (λ there. absurd (any_named upload.id uploads named there))
name_missing uploads upload (Some first) named told =
    absurd (true≢false (sym (ap is_unknown told) ∙ known_told first upload (effective upload.table uploads) (is_same first upload)))

pub unknown_where : (uploads : List Upload) (upload : Upload) → (outcome_of uploads upload ≡ unknown) ↔ (list_any (has_id upload.id) uploads ≡ false)
unknown_where uploads upload = (
  λ told. name_missing uploads upload (first_with_id upload.id uploads) refl told,
  λ none. ap (λ o. told_of o upload (effective upload.table uploads)) (none_named upload.id uploads none),
)

abbrev is_conflict : Outcome → Bool
is_conflict (applied n) = false
is_conflict mismatched = false
is_conflict conflicting = true
is_conflict unknown = false

no_conflict : (place : ℕ) (id : List ℕ) (xs : List Upload) → is_conflict (place_from place id xs) ≡ false
no_conflict place id [] = refl
no_conflict place id (x ∷ xs) = either_conflict (has_id id x) (no_conflict (suc place) id xs)
  where
    either_conflict : (b : Bool) → is_conflict (place_from (suc place) id xs) ≡ false → is_conflict (if b then applied place else place_from (suc place) id xs) ≡ false
    either_conflict true rest = refl
    either_conflict false rest = rest

not_same : (first upload : Upload) (counted : List Upload) (b : Bool) → (if b then place_from 1 upload.id counted else conflicting) ≡ conflicting → b ≡ false
not_same first upload counted true told = absurd (true≢false (sym (ap is_conflict told) ∙ no_conflict 1 upload.id counted))
not_same first upload counted false told = refl

conflict_by : (uploads : List Upload) (upload : Upload) (found : Option Upload) → first_with_id upload.id uploads ≡ found
    → told_of found upload (effective upload.table uploads) ≡ conflicting
    → (first : Upload) × (first_with_id upload.id uploads ≡ Some first) × (is_same first upload ≡ false)
conflict_by uploads upload None named told = absurd (true≢false (sym (ap is_conflict told)))
conflict_by uploads upload (Some first) named told =
    (first, named, not_same first upload (effective upload.table uploads) (is_same first upload) told)

pub conflict_where : (uploads : List Upload) (upload : Upload) → outcome_of uploads upload ≡ conflicting
    → (first : Upload) × (first_with_id upload.id uploads ≡ Some first) × (is_same first upload ≡ false)
conflict_where uploads upload told = conflict_by uploads upload (first_with_id upload.id uploads) refl told
