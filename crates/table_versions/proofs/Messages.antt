-- How long the messages are that are served.
use Rattle.std.proofs.Common.{◌≡◌, refl, ap, ◌∙◌, ℕ, ◌+◌, ◌*◌, ◌≤◌, ◌==◌, Bool, true, false, not, cond, List, [], ◌∷◌, ◌++◌, length, length-append, arith}
use Rattle.std.proofs.lemmas.Bool.{eqb-true}
use Rattle.std.proofs.lemmas.Grind.{flat_map-append}
use Rattle.proto_fields.specs.Field.{Field, field_text, fields_text, present}
use Rattle.proto_fields.specs.Varint.{varint_text}
use Rattle.proto_messages.specs.Canonical.{bytes_field}
use Rattle.table_types.specs.Served.{data_text}

-- ---- fields one behind the other

pub text_long : (f : Field) (rest : List Field) → length (fields_text (f ∷ rest)) ≡ length (field_text f) + length (fields_text rest)
text_long f rest = length-append (field_text f) (fields_text rest)

pub held_long : (number : ℕ) (bytes : List ℕ) → length bytes ≤ length (field_text (bytes_field number bytes))
held_long number bytes =
    omega (
      arith,
      length-append (varint_text (8 * number + 2)) (varint_text (length bytes) ++ bytes),
      length-append (varint_text (length bytes)) bytes,
    )

kept_long : (f : Field) (n : ℕ) (b : Bool) → (b ≡ true → n ≡ 0) → n ≤ length (field_text f) → n ≤ length (fields_text (cond (not b) (f ∷ []) []))
kept_long f n true none few = omega (arith, none refl)
kept_long f n false none few = omega (arith, text_long f [], few)

pub present_long : (number : ℕ) (bytes : List ℕ) → length bytes ≤ length (fields_text (present (bytes_field number bytes ∷ [])))
present_long number bytes =
    kept_long (bytes_field number bytes) (length bytes) (length bytes == 0) (eqb-true (length bytes) 0) (held_long number bytes)

pub both_long : (xs ys : List Field) → length (fields_text (xs ++ ys)) ≡ length (fields_text xs) + length (fields_text ys)
both_long xs ys = ap length (flat_map-append field_text xs ys) ∙ length-append (fields_text xs) (fields_text ys)

-- ---- a message is its three fields, and no shorter than its body

pub message_long : (header metadata body : List ℕ) → length (data_text header metadata body)
    ≡ length (fields_text (present (bytes_field 2 header ∷ [])))
    + (length (fields_text (present (bytes_field 3 metadata ∷ []))) + length (fields_text (present (bytes_field 1000 body ∷ []))))
message_long header metadata body =
    omega (
      arith,
      both_long (present (bytes_field 2 header ∷ [])) (present (bytes_field 3 metadata ∷ []) ++ (present (bytes_field 1000 body ∷ []) ++ [])),
      both_long (present (bytes_field 3 metadata ∷ [])) (present (bytes_field 1000 body ∷ []) ++ []),
      both_long (present (bytes_field 1000 body ∷ [])) [],
    )

pub body_long : (header metadata body : List ℕ) → length body ≤ length (data_text header metadata body)
body_long header metadata body = omega (arith, message_long header metadata body, present_long 1000 body)
