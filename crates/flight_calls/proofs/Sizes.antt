-- A frame has room for what tells of an upload that counts.
use Rattle.std.proofs.Common.{◌≡◌, ◌≤◌, ◌+◌, ◌*◌, ◌/◌, ◌%◌, ℕ, zero, suc, Bool, true, false, not, cond, if◌then◌else◌, List, [], ◌∷◌, ◌++◌, length, ap, ◌∙◌, length-append, arith}
use Rattle.std.specs.Prelude.{nat_lt}
use Rattle.std.proofs.lemmas.Grind.{flat_map-append}
use Rattle.proto_fields.specs.Varint.{digits, varint_text}
use Rattle.proto_fields.specs.Field.{Field, Varint, is_default, field_text, fields_text, present}
use Rattle.proto_messages.specs.Canonical.{bytes_field, canonical}
use Rattle.table_types.specs.Valid.{FitsFrame}
use Rattle.call_protocol.specs.Results.{applied_descriptor, put_result}

digits_more : (b : Bool) (n most : ℕ) (others : List ℕ) → length others ≤ most → length (if b then n ∷ [] else (n % 128 + 128) ∷ others) ≤ suc most
digits_more true n most others few = omega arith
digits_more false n most others few = omega (arith, few)

digits_few : (most n : ℕ) → length (digits most n) ≤ most
digits_few zero n = omega arith
digits_few (suc most) n = digits_more (nat_lt n 128) n most (digits most (n / 128)) (digits_few most (n / 128))

varint_short : (n : ℕ) → length (varint_text n) ≤ 10
unfolding varint_text
varint_short n = digits_few 10 n

number_short : (number n : ℕ) → length (field_text (record { number = number; held = Varint n })) ≤ 20
number_short number n =
    omega (arith, length-append (varint_text (8 * number + 0)) (varint_text n), varint_short (8 * number + 0), varint_short n)

bytes_short : (number : ℕ) (bytes : List ℕ) → length (field_text (bytes_field number bytes)) ≤ 20 + length bytes
bytes_short number bytes =
    omega (
      arith,
      length-append (varint_text (8 * number + 2)) (varint_text (length bytes) ++ bytes),
      length-append (varint_text (length bytes)) bytes,
      varint_short (8 * number + 2),
      varint_short (length bytes),
    )

kept_short : (f : Field) (n : ℕ) (b : Bool) → length (field_text f) ≤ n → length (fields_text (cond (not b) (f ∷ []) [])) ≤ n
kept_short f n true few = omega arith
kept_short f n false few = omega (arith, length-append (field_text f) [], few)

present_short : (f : Field) (n : ℕ) → length (field_text f) ≤ n → length (fields_text (present (f ∷ []))) ≤ n
present_short f n few = kept_short f n (is_default f.held) few

both_long : (xs ys : List Field) → length (fields_text (xs ++ ys)) ≡ length (fields_text xs) + length (fields_text ys)
both_long xs ys = ap length (flat_map-append field_text xs ys) ∙ length-append (fields_text xs) (fields_text ys)

bytes_alone : (number : ℕ) (bytes : List ℕ) → length (fields_text (present (bytes_field number bytes ∷ []) ++ [])) ≤ 20 + length bytes
bytes_alone number bytes =
    let one : List Field = present (bytes_field number bytes ∷ []) in
    omega (arith, both_long one [], present_short (bytes_field number bytes) (20 + length bytes) (bytes_short number bytes))

bytes_and_number : (bytes : List ℕ) (n : ℕ)
    → length (fields_text (present (bytes_field 1 bytes ∷ []) ++ (present (record { number = 2; held = Varint n } ∷ []) ++ []))) ≤ 40 + length bytes
bytes_and_number bytes n =
    let first : List Field = present (bytes_field 1 bytes ∷ []) in
    let second : List Field = present (record { number = 2; held = Varint n } ∷ []) in
    let short : length (fields_text second) ≤ 20 = present_short (record { number = 2; held = Varint n }) 20 (number_short 2 n) in
    omega (
      arith,
      both_long first (second ++ []),
      both_long second [],
      present_short (bytes_field 1 bytes) (20 + length bytes) (bytes_short 1 bytes),
      short,
    )

pub applied_short : (id : List ℕ) (version : ℕ) → length id ≡ 16 → length (canonical applied_descriptor (id, (version, tt))) ≤ 56
applied_short id version whole = omega (arith, bytes_and_number id version, whole)

pub put_fits : (id : List ℕ) (version : ℕ) → length id ≡ 16 → FitsFrame (put_result id version)
put_fits id version whole =
    let told : List ℕ = canonical applied_descriptor (id, (version, tt)) in
    omega (arith, bytes_alone 1 told, applied_short id version whole)
