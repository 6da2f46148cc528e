-- Fields at the front of a text, one after the other.
use Rattle.std.proofs.Common.{◌≡◌, ◌≢◌, ℕ, ◌<◌, Bool, true, false, eqb, List, [], ◌∷◌, ◌++◌, length, Result, Ok, Err, refl, sym, ap, subst, ◌∙◌, arith}
use Rattle.std.specs.Prelude.{IfOk, IfErr, IsOkAnd}
use Rattle.std.proofs.lemmas.List.{length-append, nil_from_length, append-nil}
use Rattle.std.proofs.lemmas.Bool.{eqb-true, false≢true}
use Rattle.proto_fields.specs.declared.fault.WireFault.{WireFault}
use Rattle.proto_fields.specs.Varint.{IsVarint}
use Rattle.proto_fields.specs.Field.{Field, EncodesField, BeginsWith, FieldFault, FieldsThen, IsFields}
use Rattle.proto_fields.specs.Reading.{IsBytes, Gives, field_read}
use Rattle.proto_fields.proofs.Steps.{ok_is, not_ok}
use Rattle.proto_fields.proofs.Fields.{field_takes, field_again, field_faults}

-- a field takes at least a byte
varint_is_some : (bytes : List ℕ) (n : ℕ) → IsVarint bytes n → 0 < length bytes
varint_is_some [] n is = absurd is.encodes
varint_is_some (b ∷ bytes) n is = omega arith

field_is_some : (f : Field) (first : List ℕ) → EncodesField f first → 0 < length first
field_is_some f first s = omega (arith, varint_is_some s.key _ s.encodes_key, ap length s.parts, length-append s.key s.content)

pub front_is_shorter : (text : List ℕ) (f : Field) (rest : List ℕ) → BeginsWith text f rest → length rest < length text
front_is_shorter text f rest h = omega (arith, field_is_some f h.0 h.1, ap length h.2, length-append h.0 rest)

-- what begins with a field is read as it
pub front_again : (text : List ℕ) (f : Field) (rest : List ℕ) → BeginsWith text f rest → field_read text ≡ Ok (f, rest)
front_again text f rest h = ap field_read h.2 ∙ field_again f h.0 rest h.1

pub front_takes : (text : List ℕ) (x : Field × List ℕ) → IsBytes text → field_read text ≡ Ok x → BeginsWith text x.0 x.1
front_takes text x fits e = let t = field_takes text x fits e in (t.0, t.2, t.1)

-- a text begins with one field only
pub front_is_one : (text : List ℕ) (f g : Field) (x y : List ℕ) → BeginsWith text f x → BeginsWith text g y → (f ≡ g) × (x ≡ y)
front_is_one text f g x y a b =
    let same : (λ (p : Field × List ℕ). p) (f, x) ≡ (g, y) = ok_is (f, x) (g, y) (sym (front_again text f x a) ∙ front_again text g y b) in
    (ap (λ (p : Field × List ℕ). p.0) same, ap (λ (p : Field × List ℕ). p.1) same)

-- ---- the four clauses of reading one field

module _ {X : Type 0} (view : X → Field × List ℕ) (text : List ℕ) (fits : IsBytes text) where
  pub is_read : (r : Result X WireFault) → Gives view r (field_read text) → IfOk r (λ x. BeginsWith text (view x).0 (view x).1)
  is_read (Ok x) e = front_takes text (view x) fits e
  is_read (Err fault) e = tt

  pub is_shorter : (r : Result X WireFault) → Gives view r (field_read text) → IfOk r (λ x. length (view x).1 < length text)
  is_shorter (Ok x) e = front_is_shorter text (view x).0 (view x).1 (front_takes text (view x) fits e)
  is_shorter (Err fault) e = tt

  pub is_only : (r : Result X WireFault) → Gives view r (field_read text) → (f : Field) (rest : List ℕ) → BeginsWith text f rest → IsOkAnd r (λ x. ((view x).0 ≡ f) × ((view x).1 ≡ rest))
  is_only (Ok x) e f rest h =
      let same : view x ≡ (f, rest) = ok_is (view x) (f, rest) (sym e ∙ front_again text f rest h) in
      (ap (λ (p : Field × List ℕ). p.0) same, ap (λ (p : Field × List ℕ). p.1) same)
  is_only (Err fault) e f rest h = not_ok (f, rest) fault (sym (front_again text f rest h) ∙ e)

  pub is_fault : (r : Result X WireFault) → Gives view r (field_read text) → IfErr r (λ fault. FieldFault fault text)
  is_fault (Ok x) e = tt
  is_fault (Err fault) e = field_faults text fault fits e

-- ---- lists of fields

-- one field more
pub fields_push : (text : List ℕ) (fields : List Field) (mid : List ℕ) (f : Field) (rest : List ℕ) → FieldsThen text fields mid → BeginsWith mid f rest
    → FieldsThen text (fields ++ f ∷ []) rest
fields_push text [] mid f rest h b = (b.0, rest, h ∙ b.2, b.1, refl)
fields_push text (g ∷ fields) mid f rest h b = (h.0, h.1, h.2, h.3, fields_push h.1 fields mid f rest h.4 b)

-- what is left after some of the fields is the others
pub fields_left : (text : List ℕ) (some : List Field) (rest : List ℕ) (all : List Field) → FieldsThen text some rest → IsFields text all
    → (others : List Field) × IsFields rest others × (all ≡ some ++ others)
fields_left text [] rest all h is = (all, subst (λ (t : List ℕ). IsFields t all) h is, refl)
fields_left text (f ∷ some) rest [] h is =
    absurd (omega (arith, front_is_shorter text f h.1 (h.0, h.3, h.2), ap length is))
fields_left text (f ∷ some) rest (g ∷ all) h is =
    let one = front_is_one text f g h.1 is.1 (h.0, h.3, h.2) (is.0, is.3, is.2) in
    let left = fields_left h.1 some rest all h.4 (subst (λ (t : List ℕ). IsFields t all) (sym one.1) is.4) in
    (left.0, left.1, ap (λ (x : Field). x ∷ all) (sym one.0) ∙ ap (λ (l : List Field). f ∷ l) left.2)

-- a text is one list of fields only
pub fields_same : (text : List ℕ) (fs gs : List Field) → IsFields text fs → IsFields text gs → gs ≡ fs
fields_same text fs gs a b =
    let left = fields_left text fs [] gs a b in
    left.2 ∙ ap (λ (l : List Field). fs ++ l) (nothing_left left.0 left.1) ∙ append-nil fs
  where
    nothing_left : (others : List Field) → IsFields [] others → others ≡ []
    nothing_left [] is = refl
    nothing_left (f ∷ others) is = absurd (omega (arith, front_is_shorter [] f is.1 (is.0, is.3, is.2)))

-- where a call read nothing at a text that isn't over, the whole is no list of fields
pub not_fields : (text : List ℕ) (some : List Field) (rest : List ℕ) (all : List Field) → FieldsThen text some rest → rest ≢ []
    → ((f : Field) (after : List ℕ) → BeginsWith rest f after → ⊥) → IsFields text all → ⊥
not_fields text some rest all h more none is =
    let left = fields_left text some rest all h is in at left.0 left.1
  where
    at : (others : List Field) → IsFields rest others → ⊥
    at [] is = more is
    at (f ∷ others) is = none f is.1 (is.0, is.3, is.2)

-- what a test for an empty text says
pub is_more : (b : Bool) (rest : List ℕ) → b ≡ eqb (length rest) 0 → b ≡ false → rest ≢ []
is_more b rest e is_false h =
    let empty : eqb (length rest) 0 ≡ true = ap (λ (l : List ℕ). eqb (length l) 0) h in
    absurd (false≢true (sym is_false ∙ e ∙ empty))

pub is_over : (b : Bool) (rest : List ℕ) → b ≡ eqb (length rest) 0 → b ≡ true → rest ≡ []
is_over b rest e is_true = nil_from_length rest (eqb-true _ _ (sym e ∙ is_true))
