-- Fields appended one after the other.
use Rattle.std.proofs.Common.{◌≡◌, ℕ, List, [], ◌++◌, map, Option, Some, None, Result, Ok, Err, OnErr, sym, ap, subst, ◌∙◌, append_assoc}
use Rattle.std.specs.List.{AllByRecursion}
use Rattle.std.specs.Option.{option_copied}
use Rattle.std.specs.Borrow.{Bor}
use Rattle.std.proofs.lemmas.Grind.{flat_map-append}
use Rattle.std.proofs.lemmas.List.{append-nil}
use Rattle.proto_fields.specs.Field.{Field, field_text, fields_text}
use Rattle.proto_fields.specs.Writing.{Grows}
use Rattle.proto_messages.specs.Stripping.{Strips}
use Rattle.proto_messages.proofs.Strips.{strips_both, strips_neither}

pub last_fields : (old new : List ℕ) (xs : List Field) → new ≡ old ++ fields_text xs → new ≡ old ++ fields_text (xs ++ [])
last_fields old new xs e = rw (append-nil xs) e

pub then_fields : (old mid new : List ℕ) (xs ys : List Field) → mid ≡ old ++ fields_text xs → new ≡ mid ++ fields_text ys → new ≡ old ++ fields_text (xs ++ ys)
then_fields old mid new xs ys first second =
    second ∙ ap (λ (l : List ℕ). l ++ fields_text ys) first ∙ append_assoc old (fields_text xs) (fields_text ys) ∙ ap (λ (l : List ℕ). old ++ l) (sym (flat_map-append field_text xs ys))

pub then_grows : (old mid new : List ℕ) (xs : List Field) → mid ≡ old ++ fields_text xs → Grows mid new → Grows old new
then_grows old mid new xs first second =
    (fields_text xs ++ second.0, second.1 ∙ ap (λ (l : List ℕ). l ++ second.0) first ∙ append_assoc old (fields_text xs) second.0)

pub on_err : {E P : Type 0} (r : Result (Unit {0}) E) → P → OnErr r P
on_err (Ok done) is = tt
on_err (Err fault) is = is

-- a field for each of these was appended, and each fits
abbrev pub Appended : {X V : Type 0} → (X → V) → (V → Field) → (V → Type 0) → List ℕ → List X → List ℕ → Type 0
Appended view field IsFit old xs new = (new ≡ old ++ fields_text (map field (map view xs))) × AllByRecursion IsFit (map view xs)

pub ruleset chains = (then_grows, then_fields, last_fields)

-- ---- fields taken off one after the other

-- what is left behind one part is what is left behind both
pub then_stripped : (text mid : List ℕ) (left : Option (List ℕ)) (xs ys : List Field) → Strips (fields_text xs) text (Some mid) → Strips (fields_text ys) mid left → Strips (fields_text (xs ++ ys)) text left
then_stripped text mid left xs ys first second =
    subst (λ (l : List ℕ). Strips l text left) (sym (flat_map-append field_text xs ys)) (strips_both (fields_text xs) (fields_text ys) text mid left first second)

pub not_stripped : (text : List ℕ) (xs ys : List Field) → Strips (fields_text xs) text None → Strips (fields_text (xs ++ ys)) text None
not_stripped text xs ys first =
    subst (λ (l : List ℕ). Strips l text None) (sym (flat_map-append field_text xs ys)) (strips_neither (fields_text xs) (fields_text ys) text first)

pub last_stripped : (text : List ℕ) (left : Option (List ℕ)) (xs : List Field) → Strips (fields_text xs) text left → Strips (fields_text (xs ++ [])) text left
last_stripped text left xs is = rw (append-nil xs) is

-- what a call returned that gave up
pub gave_up : (written text : List ℕ) (result : Option (Bor (List ℕ))) → result ≡ None → Strips written text None → Strips written text (option_copied result)
gave_up written text result e is = subst (λ (r : Option (Bor (List ℕ))). Strips written text (option_copied r)) (sym e) is

pub ruleset strips = (then_stripped, not_stripped, last_stripped, gave_up)
