-- What is kept of uploads, with one upload more.
use Rattle.std.proofs.Common.{◌≡◌, ◌≢◌, refl, sym, ap, ap₂, subst, ◌∙◌, ℕ, suc, ◌||◌, Bool, true, false, true≢false, cond, if◌then◌else◌, Option, Some, None, List, [], ◌∷◌, ◌++◌, append_assoc}
use Rattle.std.specs.List.{filter, list_any}
use Rattle.std.specs.Option.{option_map}
use Rattle.std.proofs.lemmas.List.{append-nil}
use Rattle.table_types.specs.Uploads.{Upload, upload_text}
use Rattle.table_types.specs.Tables.{has_id, is_to, firsts, effective, names_after, table_names}
use Rattle.table_types.proofs.Filtered.{like_the_first, effective_is}
use Rattle.table_types.specs.Tables.{Outcome, applied, mismatched, conflicting, unknown, first_with_id, place_from, outcome_of}
use Rattle.table_versions.specs.declared.first.First.{First}
use Rattle.table_versions.specs.Ledger.{FirstEntries, first_in}
use Rattle.table_versions.specs.Ledger.{seen_first, told_of_first}
use Rattle.table_versions.specs.Steps.{PutsFirst}
use Rattle.table_versions.proofs.Growing.{bytes_same, named_has, unless, firsts_push, told_first, new_is_first, still_first, other_first}

-- what is told of an upload whose id has come stays
abbrev pub OutcomesStay : Type 0
OutcomesStay = (before after : List Upload) (upload : Upload) (outcome : Outcome)
    → outcome_of before upload ≡ outcome → outcome ≢ unknown → outcome_of (before ++ after) upload ≡ outcome

-- ---- the first of each name

abbrev is_known : Outcome → Bool
is_known (applied n) = true
is_known mismatched = true
is_known conflicting = true
is_known unknown = false

known_one : (place : ℕ) (rest : Outcome) (b : Bool) → is_known rest ≡ true → is_known (if b then applied place else rest) ≡ true
known_one place rest true known = refl
known_one place rest false known = known

place_known : (place : ℕ) (id : List ℕ) (xs : List Upload) → is_known (place_from place id xs) ≡ true
place_known place id [] = refl
place_known place id (x ∷ xs) = known_one place (place_from (suc place) id xs) (has_id id x) (place_known (suc place) id xs)

known_not : (outcome : Outcome) → is_known outcome ≡ true → outcome ≢ unknown
known_not outcome known is = true≢false (sym known ∙ ap is_known is)

module _ (stay : OutcomesStay) (uploads : List Upload) (u : Upload) where
  told_stays : (id : List ℕ) (first : Upload) → first_with_id id uploads ≡ Some first → outcome_of (uploads ++ u ∷ []) first ≡ outcome_of uploads first
  told_stays id first named =
      let own : first_with_id first.id uploads ≡ Some first = ap (λ n. first_with_id n uploads) (named_has id uploads first named) ∙ named in
      stay uploads (u ∷ []) first (outcome_of uploads first) refl
      (known_not (outcome_of uploads first)
      (ap is_known (told_first uploads first own) ∙ place_known 1 first.id (effective first.table uploads)))

  mapped_stay : (id : List ℕ) (first : Option Upload) → first_with_id id uploads ≡ first
      → option_map (told_of_first (uploads ++ u ∷ [])) first ≡ option_map (told_of_first uploads) first
  mapped_stay id None named = refl
  mapped_stay id (Some first) named = ap (λ o. Some (upload_text first, o)) (told_stays id first named)

  -- where the first of this name is as before, so is what is kept of it
  first_stays : (id : List ℕ) (entries : FirstEntries) → first_with_id id (uploads ++ u ∷ []) ≡ first_with_id id uploads
      → option_map seen_first (first_in entries id) ≡ option_map (told_of_first uploads) (first_with_id id uploads)
      → option_map seen_first (first_in entries id) ≡ option_map (told_of_first (uploads ++ u ∷ [])) (first_with_id id (uploads ++ u ∷ []))
  first_stays id entries same is =
      is ∙ sym (mapped_stay id (first_with_id id uploads) refl) ∙ ap (option_map (told_of_first (uploads ++ u ∷ []))) (sym same)

  named_or_other : (id : List ℕ) (first : Upload) (b : Bool) → has_id id u ≡ b → first_with_id u.id uploads ≡ Some first
      → first_with_id id (uploads ++ u ∷ []) ≡ first_with_id id uploads
  named_or_other id first true is named =
      let here : first_with_id id uploads ≡ Some first = ap (λ n. first_with_id n uploads) (sym (bytes_same u.id id is)) ∙ named in
      still_first id uploads u first here ∙ sym here
  named_or_other id first false is named = other_first id uploads u is

  -- an upload whose id has come changes nothing
  pub firsts_repeat : (entries : FirstEntries) (first : Upload) → first_with_id u.id uploads ≡ Some first
      → ((id : List ℕ) → option_map seen_first (first_in entries id) ≡ option_map (told_of_first uploads) (first_with_id id uploads))
      → (id : List ℕ) → option_map seen_first (first_in entries id) ≡ option_map (told_of_first (uploads ++ u ∷ [])) (first_with_id id (uploads ++ u ∷ []))
  firsts_repeat entries first named are id =
      first_stays id entries (named_or_other id first (has_id id u) refl named) (are id)

  new_or_other : (old new : FirstEntries) (first : First) → PutsFirst old new u.id first → first_with_id u.id uploads ≡ None
      → seen_first first ≡ (upload_text u, outcome_of (uploads ++ u ∷ []) u)
      → (id : List ℕ) → option_map seen_first (first_in old id) ≡ option_map (told_of_first uploads) (first_with_id id uploads)
      → (b : Bool) → has_id id u ≡ b
      → option_map seen_first (first_in new id) ≡ option_map (told_of_first (uploads ++ u ∷ [])) (first_with_id id (uploads ++ u ∷ []))
  new_or_other old new first puts named seen id is true same =
      let id_is : u.id ≡ id = bytes_same u.id id same in
      subst (λ (n : List ℕ). option_map seen_first (first_in new n) ≡ option_map (told_of_first (uploads ++ u ∷ [])) (first_with_id n (uploads ++ u ∷ []))) id_is
      (ap (option_map seen_first) puts.here ∙ ap Some seen ∙ ap (option_map (told_of_first (uploads ++ u ∷ []))) (sym (new_is_first uploads u named)))
  new_or_other old new first puts named seen id is false other =
      ap (option_map seen_first) (puts.others id other)
      ∙ first_stays id old (other_first id uploads u other) is

  -- a new one is put with what is told of it
  pub firsts_new : (old new : FirstEntries) (first : First) → PutsFirst old new u.id first → first_with_id u.id uploads ≡ None
      → seen_first first ≡ (upload_text u, outcome_of (uploads ++ u ∷ []) u)
      → ((id : List ℕ) → option_map seen_first (first_in old id) ≡ option_map (told_of_first uploads) (first_with_id id uploads))
      → (id : List ℕ) → option_map seen_first (first_in new id) ≡ option_map (told_of_first (uploads ++ u ∷ [])) (first_with_id id (uploads ++ u ∷ []))
  firsts_new old new first puts named seen are id =
      new_or_other old new first puts named seen id (are id) (has_id id u) refl

-- ---- the names of tables

abbrev one_unless : Bool → Upload → List (List ℕ)
one_unless b u = if b then [] else u.table ∷ []

names_push : (before xs : List Upload) (u : Upload) → names_after before (xs ++ u ∷ []) ≡ names_after before xs ++ one_unless (list_any (is_to u.table) (before ++ xs)) u
names_push before [] u =
    append-nil (one_unless (list_any (is_to u.table) before) u)
    ∙ ap (λ l. one_unless (list_any (is_to u.table) l) u) (sym (append-nil before))
names_push before (x ∷ xs) u =
    ap (λ l. one_unless (list_any (is_to x.table) before) x ++ l)
    (names_push (before ++ x ∷ []) xs u
    ∙ ap (λ l. names_after (before ++ x ∷ []) xs ++ one_unless (list_any (is_to u.table) l) u) (append_assoc before (x ∷ []) xs))
    ∙ sym (append_assoc (one_unless (list_any (is_to x.table) before) x) (names_after (before ++ x ∷ []) xs) (one_unless (list_any (is_to u.table) (before ++ x ∷ xs)) u))

none_kept : (p : Upload → Bool) (x : Upload) (ys : List Upload) (b : Bool) → b ≡ p x → cond b (x ∷ ys) ys ≡ [] → (p x ≡ false) × (ys ≡ [])
none_kept p x ys true is none = absurd (cc)
none_kept p x ys false is none = (sym is, none)

pub none_of : (p : Upload → Bool) (xs : List Upload) → filter p xs ≡ [] → list_any p xs ≡ false
none_of p [] none = refl
none_of p (x ∷ xs) none =
    let parts = none_kept p x (filter p xs) (p x) refl none in
    ap₂ (λ a b. a || b) parts.0 (none_of p xs parts.1)

pub no_more : (xs : List Upload) → like_the_first xs ≡ [] → xs ≡ []
no_more [] none = refl
no_more (x ∷ xs) none = absurd cc

kept_filtered : (x : Upload) (ys : List Upload) (b any : Bool) → (any ≡ false → ys ≡ []) → b || any ≡ false → cond b (x ∷ ys) ys ≡ []
kept_filtered x ys true any rest none = absurd (true≢false none)
kept_filtered x ys false any rest none = rest none

pub none_filtered : (p : Upload → Bool) (xs : List Upload) → list_any p xs ≡ false → filter p xs ≡ []
none_filtered p [] none = refl
none_filtered p (x ∷ xs) none = kept_filtered x (filter p xs) (p x) (list_any p xs) (none_filtered p xs) none

module _ (uploads : List Upload) (u : Upload) where
  -- a table that has no effective upload has had none
  pub is_no_table : effective u.table uploads ≡ [] → list_any (is_to u.table) (firsts [] uploads) ≡ false
  is_no_table none = none_of (is_to u.table) (firsts [] uploads) (no_more (filter (is_to u.table) (firsts [] uploads)) (sym (effective_is u.table uploads) ∙ none))

  there_is : (b : Bool) (first : Upload) (rest : List Upload) → list_any (is_to u.table) (firsts [] uploads) ≡ b → effective u.table uploads ≡ first ∷ rest → b ≡ true
  there_is true first rest is some = refl
  there_is false first rest is some =
      let none : effective u.table uploads ≡ [] = effective_is u.table uploads ∙ ap like_the_first (none_filtered (is_to u.table) (firsts [] uploads) is) in
      let clash : [] ≡ first ∷ rest = sym none ∙ some in
      absurd cc

  pub is_a_table : (first : Upload) (rest : List Upload) → effective u.table uploads ≡ first ∷ rest → list_any (is_to u.table) (firsts [] uploads) ≡ true
  is_a_table first rest some = there_is (list_any (is_to u.table) (firsts [] uploads)) first rest refl some

  names_with : (named to : Bool) → list_any (has_id u.id) uploads ≡ named → list_any (is_to u.table) (firsts [] uploads) ≡ to
      → table_names (uploads ++ u ∷ []) ≡ table_names uploads ++ (if named then [] else one_unless to u)
  names_with true to named is =
      ap (names_after []) (firsts_push [] uploads u ∙ ap (λ b. firsts [] uploads ++ unless b u) named ∙ append-nil (firsts [] uploads))
      ∙ sym (append-nil (table_names uploads))
  names_with false to named is =
      ap (names_after []) (firsts_push [] uploads u ∙ ap (λ b. firsts [] uploads ++ unless b u) named)
      ∙ names_push [] (firsts [] uploads) u
      ∙ ap (λ b. table_names uploads ++ one_unless b u) is

  pub names_named : list_any (has_id u.id) uploads ≡ true → table_names (uploads ++ u ∷ []) ≡ table_names uploads
  names_named named =
      names_with true (list_any (is_to u.table) (firsts [] uploads)) named refl ∙ append-nil (table_names uploads)

  pub names_same : list_any (has_id u.id) uploads ≡ false → list_any (is_to u.table) (firsts [] uploads) ≡ true → table_names (uploads ++ u ∷ []) ≡ table_names uploads
  names_same named is = names_with false true named is ∙ append-nil (table_names uploads)

  pub names_more : list_any (has_id u.id) uploads ≡ false → list_any (is_to u.table) (firsts [] uploads) ≡ false → table_names (uploads ++ u ∷ []) ≡ table_names uploads ++ u.table ∷ []
  names_more named is = names_with false false named is
