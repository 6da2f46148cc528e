-- Fields written one after the other.
use Rattle.std.proofs.Common.{◌≡◌, ℕ, List, [], ◌∷◌, ◌++◌, sym, ap, ◌∙◌, append_assoc}
use Rattle.std.specs.Prelude.{not}
use Rattle.std.specs.List.{flat_map}
use Rattle.std.proofs.lemmas.List.Elements.{filter-append}
use Rattle.std.proofs.lemmas.Grind.{flat_map-append}
use Rattle.proto_fields.specs.Field.{Field, field_text, is_default, present}
use Rattle.proto_fields.specs.Writing.{Grows}
use Rattle.ballots.specs.Message.{written}

pub written-append : (xs ys : List Field) → written (xs ++ ys) ≡ written xs ++ written ys
written-append xs ys = ap (flat_map field_text) (filter-append (λ (f : Field). not (is_default f.held)) xs ys) ∙ flat_map-append field_text (present xs) (present ys)

-- two lists of fields, one after the other
pub then_written : (old mid new : List ℕ) (xs ys : List Field) → mid ≡ old ++ written xs → new ≡ mid ++ written ys → new ≡ old ++ written (xs ++ ys)
then_written old mid new xs ys first second =
    second ∙ ap (λ (l : List ℕ). l ++ written ys) first ∙ append_assoc old (written xs) (written ys) ∙ ap (λ (l : List ℕ). old ++ l) (sym (written-append xs ys))

pub two_written : (old mid new : List ℕ) (f g : Field) → mid ≡ old ++ written (f ∷ []) → new ≡ mid ++ written (g ∷ []) → new ≡ old ++ written (f ∷ g ∷ [])
two_written old mid new f g first second = then_written old mid new (f ∷ []) (g ∷ []) first second

pub three_written : (old a b new : List ℕ) (f g h : Field) → a ≡ old ++ written (f ∷ []) → b ≡ a ++ written (g ∷ []) → new ≡ b ++ written (h ∷ []) → new ≡ old ++ written (f ∷ g ∷ h ∷ [])
three_written old a b new f g h first second third = then_written old b new (f ∷ g ∷ []) (h ∷ []) (two_written old a b f g first second) third

pub parts_written : (old a b new : List ℕ) (xs ys zs : List Field) → a ≡ old ++ written xs → b ≡ a ++ written ys → new ≡ b ++ written zs → new ≡ old ++ written (xs ++ (ys ++ zs))
parts_written old a b new xs ys zs first second third = then_written old a new xs (ys ++ zs) first (then_written a b new ys zs second third)

pub four_written : (old a b c new : List ℕ) (xs ys zs ws : List Field) → a ≡ old ++ written xs → b ≡ a ++ written ys → c ≡ b ++ written zs → new ≡ c ++ written ws
    → new ≡ old ++ written (xs ++ (ys ++ (zs ++ ws)))
four_written old a b c new xs ys zs ws first second third fourth =
    then_written old a new xs (ys ++ (zs ++ ws)) first (parts_written a b c new ys zs ws second third fourth)

-- what was written grew, and then grew again
pub grows_on : (old mid new : List ℕ) → Grows old mid → Grows mid new → Grows old new
grows_on old mid new first second =
    (first.0 ++ second.0, second.1 ∙ ap (λ (l : List ℕ). l ++ second.0) first.1 ∙ append_assoc old first.0 second.0)

pub grows_written : (old mid new : List ℕ) (xs : List Field) → mid ≡ old ++ written xs → Grows mid new → Grows old new
grows_written old mid new xs first second = grows_on old mid new (written xs, first) second

pub ruleset written_rules = (two_written, three_written, then_written, parts_written, grows_written)
