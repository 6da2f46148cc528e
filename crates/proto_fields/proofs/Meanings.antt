-- What fields mean after one field more, and when those that hold their default are left out.
use Rattle.std.proofs.Common.{◌≡◌, ℕ, ◌≤◌, Bool, true, false, cond, List, [], ◌∷◌, ◌++◌, length, Option, Some, None, refl, sym, ap, ◌∙◌, arith}
use Rattle.std.specs.Prelude.{not, ◌||◌, ◌&&◌, ◌==◌, filter}
use Rattle.std.specs.List.{list_all, cons_option}
use Rattle.std.proofs.lemmas.Bool.{eqb-true}
use Rattle.std.proofs.lemmas.List.{nil_from_length, append-nil}
use Rattle.std.proofs.lemmas.List.Elements.{filter_map-append}
use Rattle.proto_fields.specs.Field.{Held, Varint, Eight, Bytes, Four, Field, is_default, present}
use Rattle.proto_fields.specs.Meaning.{last_or, number_in, bytes_in, is_there, all_hold, things_of, meant, number_meant, bytes_meant, after}

last_or-push : {A : Type 0} (d : A) (xs : List A) (y : A) → last_or d (xs ++ y ∷ []) ≡ y
last_or-push d [] y = refl
last_or-push d (x ∷ xs) y = last_or-push x xs y

list_all-push : {X : Type 0} (p : X → Bool) (xs : List X) (y : X) → list_all p (xs ++ y ∷ []) ≡ (list_all p xs && p y)
list_all-push p [] y = elim (p y) as (λ b. (b && true) ≡ b) [ true ↦ refl | false ↦ refl ]
list_all-push p (x ∷ xs) y = elim (p x) as (λ b. (b && list_all p (xs ++ y ∷ [])) ≡ ((b && list_all p xs) && p y)) [ true ↦ list_all-push p xs y | false ↦ refl ]

-- one field more, by whether its number is the one, what it holds, and whether all fields before held such a thing
one_more : {A : Type 0} (here : Bool) (t : Option A) (held : Bool) (things : List A) (d : A)
    → cond (held && (not here || is_there t)) (Some (last_or d (things ++ cons_option (cond here t None) []))) None
    ≡ cond here (after (cond held (Some (last_or d things)) None) t) (cond held (Some (last_or d things)) None)
one_more false t true things d = ap (λ l. Some (last_or d l)) (append-nil things)
one_more false t false things d = refl
one_more true None true things d = refl
one_more true None false things d = refl
one_more true (Some x) true things d = ap Some (last_or-push d things x)
one_more true (Some x) false things d = refl

pub meant-push : {A : Type 0} (thing : Held → Option A) (default : A) (number : ℕ) (fields : List Field) (f : Field)
    → meant thing default number (fields ++ f ∷ []) ≡ cond (f.number == number) (after (meant thing default number fields) (thing f.held)) (meant thing default number fields)
meant-push thing default number fields f =
    rw (list_all-push (λ (g : Field). not (g.number == number) || is_there (thing g.held)) fields f, filter_map-append (λ (g : Field). cond (g.number == number) (thing g.held) None) fields (f ∷ []))
    (one_more (f.number == number) (thing f.held) (all_hold thing number fields) (things_of thing number fields) default)

pub number_meant-push : (number : ℕ) (fields : List Field) (f : Field)
    → number_meant number (fields ++ f ∷ []) ≡ cond (f.number == number) (after (number_meant number fields) (number_in f.held)) (number_meant number fields)
unfolding number_meant
number_meant-push number fields f = meant-push number_in 0 number fields f

pub bytes_meant-push : (number : ℕ) (fields : List Field) (f : Field)
    → bytes_meant number (fields ++ f ∷ []) ≡ cond (f.number == number) (after (bytes_meant number fields) (bytes_in f.held)) (bytes_meant number fields)
unfolding bytes_meant
bytes_meant-push number fields f = meant-push bytes_in [] number fields f

-- ---- what is left out where it holds its default

list_all-filter : {X : Type 0} (p q : X → Bool) (xs : List X) → list_all p xs ≡ true → list_all p (filter q xs) ≡ true
list_all-filter p q [] h = refl
list_all-filter p q (x ∷ xs) h =
    let parts = and_true (p x) (list_all p xs) h in
    elim (q x) as (λ b. list_all p (cond b (x ∷ filter q xs) (filter q xs)) ≡ true) [
      | true ↦ rw (parts.0, list_all-filter p q xs parts.1) refl
      | false ↦ list_all-filter p q xs parts.1
    ]
  where
    and_true : (a b : Bool) → (a && b) ≡ true → (a ≡ true) × (b ≡ true)
    and_true true true e = (refl, refl)
    and_true true false e = absurd cc
    and_true false b e = absurd cc

module _ {A : Type 0} (thing : Held → Option A) (default : A) (number : ℕ) (empty : (held : Held) (x : A) → is_default held ≡ true → thing held ≡ Some x → x ≡ default) where
  fewer_things : (fields : List Field) → length (things_of thing number (present fields)) ≤ length (things_of thing number fields)
  fewer_things [] = omega arith
  fewer_things (f ∷ fields) =
      let later = fewer_things fields in
      let t = cond (f.number == number) (thing f.held) None in
      elim (is_default f.held) as (λ b. length (things_of thing number (cond (not b) (f ∷ present fields) (present fields))) ≤ length (cons_option t (things_of thing number fields))) [
        | true ↦ elim t as (λ o. length (things_of thing number (present fields)) ≤ length (cons_option o (things_of thing number fields))) [ None ↦ later | Some x ↦ omega (arith, later) ]
        | false ↦ elim t as (λ o. length (cons_option o (things_of thing number (present fields))) ≤ length (cons_option o (things_of thing number fields))) [ None ↦ later | Some x ↦ omega (arith, later) ]
      ]

  no_things : (fields : List Field) → length (things_of thing number fields) ≡ 0 → (things_of thing number (present fields) ≡ []) × (things_of thing number fields ≡ [])
  no_things fields none = (nil_from_length _ (omega (arith, fewer_things fields)), nil_from_length _ none)

  dropped : (o : Option A) (some all : List A) → length (cons_option o all) ≤ 1 → ((x : A) → o ≡ Some x → x ≡ default) → (length all ≤ 1 → last_or default some ≡ last_or default all) → (length all ≡ 0 → (some ≡ []) × (all ≡ []))
      → last_or default some ≡ last_or default (cons_option o all)
  dropped None some all few at same none = same few
  dropped (Some x) some all few at same none =
      let e = none (omega arith) in
      rw (e.0, e.1, at x refl) refl

  kept : (o : Option A) (some all : List A) → length (cons_option o all) ≤ 1 → (length all ≤ 1 → last_or default some ≡ last_or default all) → (length all ≡ 0 → (some ≡ []) × (all ≡ []))
      → last_or default (cons_option o some) ≡ last_or default (cons_option o all)
  kept None some all few same none = same few
  kept (Some x) some all few same none =
      let e = none (omega arith) in
      rw (e.0, e.1) refl

  here_is_default : (f : Field) → is_default f.held ≡ true → (x : A) → cond (f.number == number) (thing f.held) None ≡ Some x → x ≡ default
  here_is_default f d x h = at (f.number == number) h
    where
      at : (b : Bool) → cond b (thing f.held) None ≡ Some x → x ≡ default
      at true e = empty f.held x d e
      at false e = absurd cc

  last_of_present : (fields : List Field) → length (things_of thing number fields) ≤ 1 → last_or default (things_of thing number (present fields)) ≡ last_or default (things_of thing number fields)
  last_of_present [] few = refl
  last_of_present (f ∷ fields) few = at (last_of_present fields) (is_default f.held) refl
    where
      at : (length (things_of thing number fields) ≤ 1 → last_or default (things_of thing number (present fields)) ≡ last_or default (things_of thing number fields)) → (b : Bool) → is_default f.held ≡ b → last_or default (things_of thing number (cond (not b) (f ∷ present fields) (present fields))) ≡ last_or default (cons_option (cond (f.number == number) (thing f.held) None) (things_of thing number fields))
      at later true d = dropped (cond (f.number == number) (thing f.held) None) (things_of thing number (present fields)) (things_of thing number fields) few (here_is_default f d) later (no_things fields)
      at later false d = kept (cond (f.number == number) (thing f.held) None) (things_of thing number (present fields)) (things_of thing number fields) few later (no_things fields)

  -- where at most one field has the number, what is left out means the same as what is written
  pub meant-present : (fields : List Field) → all_hold thing number fields ≡ true → length (things_of thing number fields) ≤ 1 → meant thing default number (present fields) ≡ meant thing default number fields
  meant-present fields hold few =
      rw (list_all-filter (λ (f : Field). not (f.number == number) || is_there (thing f.held)) (λ (f : Field). not (is_default f.held)) fields hold, hold, last_of_present fields few) refl

-- ---- numbers and bytes that hold their default

varint_is_default : (held : Held) (x : ℕ) → is_default held ≡ true → number_in held ≡ Some x → x ≡ 0
varint_is_default (Varint n) x d h = let same : n ≡ x = cc in sym same ∙ eqb-true _ _ d
varint_is_default (Eight bytes) x d h = absurd cc
varint_is_default (Bytes bytes) x d h = absurd cc
varint_is_default (Four bytes) x d h = absurd cc

bytes_are_default : (held : Held) (x : List ℕ) → is_default held ≡ true → bytes_in held ≡ Some x → x ≡ []
bytes_are_default (Varint n) x d h = absurd cc
bytes_are_default (Eight bytes) x d h = absurd cc
bytes_are_default (Bytes bytes) x d h = let same : bytes ≡ x = cc in sym same ∙ nil_from_length bytes (eqb-true _ _ d)
bytes_are_default (Four bytes) x d h = absurd cc

pub number_meant-present : (number : ℕ) (fields : List Field) → all_hold number_in number fields ≡ true → length (things_of number_in number fields) ≤ 1 → number_meant number (present fields) ≡ number_meant number fields
unfolding number_meant
number_meant-present number = meant-present number_in 0 number varint_is_default

pub bytes_meant-present : (number : ℕ) (fields : List Field) → all_hold bytes_in number fields ≡ true → length (things_of bytes_in number fields) ≤ 1 → bytes_meant number (present fields) ≡ bytes_meant number fields
unfolding bytes_meant
bytes_meant-present number = meant-present bytes_in [] number bytes_are_default
