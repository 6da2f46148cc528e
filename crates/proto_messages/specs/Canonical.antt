-- The one written encoding of a message: Protocol Buffers, "Encoding" and "Default Field Values". Fields stand by rising numbers
-- with the shortest varints; those that hold their default are left out, but an embedded message or an element of a repeated field
-- is written, also where it is empty.
use Rattle.std.specs.Prelude.{ℕ, ◌^◌, ◌<◌, if◌then◌else◌, List, [], ◌∷◌, ◌++◌, length, map, Option, Some, None, IsUtf8}
use Rattle.std.specs.Int.{w32, w64, cast_unsigned}
use Rattle.std.specs.Int.RustNames.{FitsSigned}
use Rattle.std.specs.List.{AllByRecursion}
use Rattle.proto_fields.specs.Field.{Held, Varint, Bytes, Field, IsFieldNumber, fields_text, present}
use Rattle.proto_fields.specs.Scalar.{ScalarType, TypeEnum, TypeInt64, TypeUint64, TypeBool, TypeBytes, TypeString, Scalar}
use Rattle.proto_messages.specs.Descriptor.{Descriptor, NoMore, One, Strings, Message, Messages, Values}

-- what a field holds for a value: a signed number as 64 bits, a bool as 0 or 1
abbrev pub scalar_held : (type : ScalarType) → Scalar type → Held
scalar_held TypeEnum z = Varint (cast_unsigned w64 z)
scalar_held TypeInt64 z = Varint (cast_unsigned w64 z)
scalar_held TypeUint64 n = Varint n
scalar_held TypeBool b = Varint (if b then 1 else 0)
scalar_held TypeBytes bytes = Bytes bytes
scalar_held TypeString bytes = Bytes bytes

abbrev pub bytes_field : ℕ → List ℕ → Field
bytes_field number bytes = record { number = number; held = Bytes bytes }

abbrev pub elements : {A : Type 0} → Option A → List A
elements None = []
elements (Some x) = x ∷ []

-- the fields that are written, in the descriptor's order
abbrev pub canonical_fields : (descriptor : Descriptor) → Values descriptor → List Field
canonical_fields NoMore values = []
canonical_fields (One number type others) values =
    present (record { number = number; held = scalar_held type values.0 } ∷ []) ++ canonical_fields others values.1
canonical_fields (Strings number others) values = map (bytes_field number) values.0 ++ canonical_fields others values.1
canonical_fields (Message number inner others) values =
    map (λ value. bytes_field number (fields_text (canonical_fields inner value))) (elements values.0) ++ canonical_fields others values.1
canonical_fields (Messages number inner others) values =
    map (λ value. bytes_field number (fields_text (canonical_fields inner value))) values.0 ++ canonical_fields others values.1

abbrev pub canonical : (descriptor : Descriptor) → Values descriptor → List ℕ
canonical descriptor values = fields_text (canonical_fields descriptor values)

-- the numbers rise above this one, in embedded descriptors too
abbrev pub RisesFrom : ℕ → Descriptor → Type 0
RisesFrom least NoMore = Unit {0}
RisesFrom least (One number type others) = (least < number) × IsFieldNumber number × RisesFrom number others
RisesFrom least (Strings number others) = (least < number) × IsFieldNumber number × RisesFrom number others
RisesFrom least (Message number inner others) =
    (least < number) × IsFieldNumber number × RisesFrom 0 inner × RisesFrom number others
RisesFrom least (Messages number inner others) =
    (least < number) × IsFieldNumber number × RisesFrom 0 inner × RisesFrom number others

-- the values that there are
abbrev pub FitsScalar : (type : ScalarType) → Scalar type → Type 0
FitsScalar TypeEnum z = FitsSigned w32 z
FitsScalar TypeInt64 z = FitsSigned w64 z
FitsScalar TypeUint64 n = n < 2 ^ 64
FitsScalar TypeBool b = Unit {0}
FitsScalar TypeBytes bytes = length bytes < 2 ^ 64
FitsScalar TypeString bytes = IsUtf8 bytes × (length bytes < 2 ^ 64)

-- a message fits, and its text has a length of 64 bits
abbrev pub FitsEmbedded : {V : Type 0} → (V → Type 0) → (V → List Field) → V → Type 0
FitsEmbedded Fits written value = Fits value × (length (fields_text (written value)) < 2 ^ 64)

-- what a message of the descriptor can hold
abbrev pub Fits : (descriptor : Descriptor) → Values descriptor → Type 0
Fits NoMore values = Unit {0}
Fits (One number type others) values = FitsScalar type values.0 × Fits others values.1
Fits (Strings number others) values = AllByRecursion (FitsScalar TypeString) values.0 × Fits others values.1
Fits (Message number inner others) values =
    AllByRecursion (FitsEmbedded (Fits inner) (canonical_fields inner)) (elements values.0) × Fits others values.1
Fits (Messages number inner others) values =
    AllByRecursion (FitsEmbedded (Fits inner) (canonical_fields inner)) values.0 × Fits others values.1
