-- The parts of an upload's encoding, one behind the other.
use Rattle.std.proofs.Common.{Bor, Some, None, false, ◌==◌}
use Rattle.std.proofs.Common.{◌≡◌, refl, sym, ap, subst, ◌∙◌, ℕ, ◌<◌, ◌^◌, List, [], ◌∷◌, ◌++◌, length}
use Rattle.std.proofs.lemmas.List.{append-nil}
use Rattle.std.specs.List.{AllByRecursion}
use Rattle.proto_fields.specs.Field.{Field, BeginsWith, EncodesField, FitsField, IsFields, IsFieldNumber, field_text, fields_text}
use Rattle.proto_fields.specs.declared.field.ContentRef.{ContentRef}
use Rattle.proto_fields.specs.Meaning.{bytes_in}
use Rattle.proto_fields.specs.Field.{held_at, field_at}
use Rattle.proto_messages.specs.Canonical.{bytes_field}
use Rattle.uploads.specs.Parts.{PartThen, batch_text, batches_text, IsEncodedBatch, HasLeft, Gives}
use Rattle.uploads.proofs.CallerLemmas.{empty_text, first_left}

-- ---- a field at the front

pub front_fields : (f : Field) (rest : List ℕ) → IsFields (fields_text (f ∷ [])) (f ∷ []) → BeginsWith (field_text f ++ rest) f rest
front_fields f rest is =
    let same : field_text f ≡ is.0 = sym (append-nil (field_text f)) ∙ is.2 ∙ ap (λ l. is.0 ++ l) is.4 ∙ append-nil is.0 in
    (field_text f, subst (EncodesField f) (sym same) is.3, refl)

pub part_fits : (number : ℕ) (content : List ℕ) → IsFieldNumber number → length content < 2 ^ 64 → AllByRecursion FitsField (bytes_field number content ∷ [])
part_fits number content is few = (record { number = is; held = few }, tt)

-- a field at the front, where the law of what is written for fields is at hand
pub part_begins : ((fields : List Field) → AllByRecursion FitsField fields → IsFields (fields_text fields) fields)
    → (number : ℕ) (text content rest : List ℕ) → PartThen number text content rest → BeginsWith text (bytes_field number content) rest
part_begins law number text content rest stands =
    subst (λ l. BeginsWith l (bytes_field number content) rest) (sym stands.parts)
    (front_fields (bytes_field number content) rest (law (bytes_field number content ∷ []) (part_fits number content stands.number_is stands.fits)))

pub bytes_are : (n : ℕ) (lent : ContentRef) (number : ℕ) (content found : List ℕ) → Some found ≡ bytes_in (held_at lent)
    → field_at n lent ≡ bytes_field number content → found ≡ content
bytes_are n lent number content found some same = some_is found content (some ∙ ap (λ f. bytes_in f.held) same)
  where
    some_is : (xs ys : List ℕ) → Some xs ≡ Some ys → xs ≡ ys
    some_is xs ys e = cc

pub no_bytes : (n : ℕ) (lent : ContentRef) (number : ℕ) (content : List ℕ) → None ≡ bytes_in (held_at lent)
    → field_at n lent ≡ bytes_field number content → ⊥
no_bytes n lent number content none same = not_some content (none ∙ ap (λ f. bytes_in f.held) same)
  where
    not_some : (xs : List ℕ) → None ≡ Some xs → ⊥
    not_some xs e = cc

-- ---- batches one after the other

pub left_first : (text : List ℕ) (batches : List (List ℕ × List ℕ)) → HasLeft text batches → (length text == 0) ≡ false
    → (parts : List ℕ × List ℕ) × (rest : List (List ℕ × List ℕ)) × (batches ≡ parts ∷ rest) × IsEncodedBatch parts
    × PartThen 4 text (batch_text parts) (batches_text rest) × AllByRecursion IsEncodedBatch rest
left_first text [] left there = absurd (empty_text text left.is there)
left_first text (parts ∷ rest) left there = (parts, rest, refl, left.each.0, first_left text parts rest left, left.each.1)

pub gives_next : (text batch behind : List ℕ) (given : Bor (List ℕ) × Bor (List ℕ)) (batches : List (List ℕ × List ℕ)) → HasLeft text batches
    → (length text == 0) ≡ false
    → ((number : ℕ) (content rest : List ℕ) → PartThen number text content rest → (batch ≡ content) × (behind ≡ rest))
    → ((parts : List ℕ × List ℕ) → IsEncodedBatch parts → batch ≡ batch_text parts → (given.0.now ≡ parts.0) × (given.1.now ≡ parts.1))
    → Gives (Some given) behind batches
gives_next text batch behind given [] left there split inner = absurd (empty_text text left.is there)
gives_next text batch behind given (parts ∷ rest) left there split inner =
    let front = split 4 (batch_text parts) (batches_text rest) (first_left text parts rest left) in
    let both = inner parts left.each.0 front.0 in
    (both.0, both.1, record { is = front.1; each = left.each.1 })
