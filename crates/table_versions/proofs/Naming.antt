-- The tables that there are.
use Rattle.std.proofs.Common.{◌≡◌, ◌≢◌, ◌↔◌, refl, sym, ap, ap₂, ◌∙◌, ℕ, ◌||◌, Bool, true, false, true≢false, if◌then◌else◌, List, [], ◌∷◌, ◌++◌}
use Rattle.std.specs.List.{filter, list_any}
use Rattle.std.specs.Str.{bytes_eq}
use Rattle.std.proofs.lemmas.List.Folds.{list_any-append}
use Rattle.table_types.specs.Uploads.{Upload}
use Rattle.table_types.specs.Tables.{is_to, firsts, effective, names_after, table_names}
use Rattle.table_types.proofs.Filtered.{like_the_first, effective_is}
use Rattle.table_versions.proofs.Growing.{same_bytes, bytes_same}
use Rattle.table_versions.proofs.Taking.{none_of, no_more, none_filtered}

abbrev one_unless : Bool → Upload → List (List ℕ)
one_unless b u = if b then [] else u.table ∷ []

differ_back : (xs ys : List ℕ) (b : Bool) → bytes_eq ys xs ≡ b → bytes_eq xs ys ≡ false → b ≡ false
differ_back xs ys true is other =
    absurd (true≢false (sym (same_bytes xs) ∙ ap (bytes_eq xs) (sym (bytes_same ys xs is)) ∙ other))
differ_back xs ys false is other = refl

or_false : (b : Bool) → b || false ≡ b
or_false true = refl
or_false false = refl

named_first : (name : List ℕ) (x : Upload) (more : List (List ℕ)) (b : Bool) → b ≡ false → bytes_eq name x.table ≡ true → list_any (bytes_eq name) (one_unless b x ++ more) ≡ true
named_first name x more true new is = absurd (true≢false new)
named_first name x more false new is = ap (λ c. c || list_any (bytes_eq name) more) is

named_later : (name : List ℕ) (x : Upload) (more : List (List ℕ)) (b : Bool) → bytes_eq name x.table ≡ false
    → list_any (bytes_eq name) (one_unless b x ++ more) ≡ list_any (bytes_eq name) more
named_later name x more true other = refl
named_later name x more false other = ap (λ c. c || list_any (bytes_eq name) more) other

named_one : (name : List ℕ) (before : List Upload) (x : Upload) (xs : List Upload) (b : Bool) → is_to name x ≡ b → list_any (is_to name) before ≡ false
    → (list_any (is_to name) (before ++ x ∷ []) ≡ false → list_any (bytes_eq name) (names_after (before ++ x ∷ []) xs) ≡ list_any (is_to name) xs)
    → list_any (bytes_eq name) (names_after before (x ∷ xs)) ≡ list_any (is_to name) (x ∷ xs)
named_one name before x xs true is none rest =
    let same : x.table ≡ name = bytes_same x.table name is in
    named_first name x (names_after (before ++ x ∷ []) xs) (list_any (is_to x.table) before) (ap (λ n. list_any (is_to n) before) same ∙ none)
    (ap (bytes_eq name) same ∙ same_bytes name)
    ∙ sym (ap (λ c. c || list_any (is_to name) xs) is)
named_one name before x xs false is none rest =
    let other : bytes_eq name x.table ≡ false = differ_back x.table name (bytes_eq name x.table) refl is in
    named_later name x (names_after (before ++ x ∷ []) xs) (list_any (is_to x.table) before) other
    ∙ rest (list_any-append (is_to name) before (x ∷ []) ∙ ap₂ (λ a c. a || (c || false)) none is)
    ∙ sym (ap (λ c. c || list_any (is_to name) xs) is)

named_any : (name : List ℕ) (before xs : List Upload) → list_any (is_to name) before ≡ false → list_any (bytes_eq name) (names_after before xs) ≡ list_any (is_to name) xs
named_any name before [] none = refl
named_any name before (x ∷ xs) none =
    named_one name before x xs (is_to name x) refl none (named_any name (before ++ x ∷ []) xs)

abbrev any_to : List ℕ → List Upload → Bool
any_to name uploads = list_any (is_to name) (firsts [] uploads)

named_back : (name : List ℕ) (uploads : List Upload) (b : Bool) → any_to name uploads ≡ b → effective name uploads ≢ [] → b ≡ true
named_back name uploads true is some = refl
named_back name uploads false is some =
    absurd (some (effective_is name uploads ∙ ap like_the_first (none_filtered (is_to name) (firsts [] uploads) is)))

pub named_are_tables : (name : List ℕ) (uploads : List Upload) → (list_any (bytes_eq name) (table_names uploads) ≡ true) ↔ (effective name uploads ≢ [])
named_are_tables name uploads =
    let whole : list_any (bytes_eq name) (table_names uploads) ≡ any_to name uploads = named_any name [] (firsts [] uploads) refl in (
      λ named none.
          true≢false
          (sym (sym whole ∙ named)
          ∙ none_of (is_to name) (firsts [] uploads) (no_more (filter (is_to name) (firsts [] uploads)) (sym (effective_is name uploads) ∙ none))),
      λ some. whole ∙ named_back name uploads (any_to name uploads) refl some,
    )
