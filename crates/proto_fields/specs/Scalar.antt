-- What one field holds as a value of its type: Protocol Buffers, "Language Guide (proto3)" ("Scalar Value Types", "Enumerations",
-- "Default Field Values") and "Encoding" ("Length Types").
use Rattle.std.specs.Prelude.{◌≡◌, ◌≢◌, ℕ, ◌%◌, ◌^◌, ℤ, pos, ◌⊎◌, Bool, false, not, ◌==◌, if◌then◌else◌, List, [], Option, Some, None, IsUtf8}
use Rattle.std.specs.Int.{w32, w64, cast_signed}
use Rattle.std.specs.Option.{option_map}
use Rattle.std.specs.Str.{is_utf8}
use Rattle.proto_fields.specs.declared.fault.WireFault.{WireFault}
use Rattle.proto_fields.specs.declared.fault.WireFault.TheVariants.{BadWireType, NotUtf8}
use Rattle.proto_fields.specs.Field.{Held, wire_type}
use Rattle.proto_fields.specs.Meaning.{number_in, bytes_in}

-- the types that hold one number or one text: "Scalar Value Types", and an enumeration
pub data ScalarType : Type 0 where
  TypeEnum : ScalarType
  TypeInt64 : ScalarType
  TypeUint64 : ScalarType
  TypeBool : ScalarType
  TypeBytes : ScalarType
  TypeString : ScalarType

-- the values of a type; a string is its UTF-8
abbrev pub Scalar : ScalarType → Type 0
Scalar TypeEnum = ℤ
Scalar TypeInt64 = ℤ
Scalar TypeUint64 = ℕ
Scalar TypeBool = Bool
Scalar TypeBytes = List ℕ
Scalar TypeString = List ℕ

-- what an absent field means: "Default Field Values"
abbrev pub default_of : (type : ScalarType) → Scalar type
default_of TypeEnum = pos 0
default_of TypeInt64 = pos 0
default_of TypeUint64 = 0
default_of TypeBool = false
default_of TypeBytes = []
default_of TypeString = []

-- the wire type of a type
abbrev pub wire_type_of : ScalarType → ℕ
wire_type_of TypeEnum = 0
wire_type_of TypeInt64 = 0
wire_type_of TypeUint64 = 0
wire_type_of TypeBool = 0
wire_type_of TypeBytes = 2
wire_type_of TypeString = 2

-- An enumeration is the low 32 bits as a signed number, an int64 all 64 of them, a uint64 the number itself, and a bool is
-- true for all but 0.
abbrev pub enum_of : ℕ → ℤ
enum_of n = cast_signed w32 (n % 2 ^ 32)

abbrev pub int64_of : ℕ → ℤ
int64_of n = cast_signed w64 n

abbrev pub bool_of : ℕ → Bool
bool_of n = not (n == 0)

-- the bytes, where they are UTF-8
abbrev pub utf8_of : Option (List ℕ) → Option (List ℕ)
utf8_of None = None
utf8_of (Some bytes) = if is_utf8 bytes then Some bytes else None

-- what a field holds as a value of the type: none where it is of another wire type, or a string is not UTF-8
abbrev pub scalar_in : (type : ScalarType) → Held → Option (Scalar type)
scalar_in TypeEnum held = option_map enum_of (number_in held)
scalar_in TypeInt64 held = option_map int64_of (number_in held)
scalar_in TypeUint64 held = number_in held
scalar_in TypeBool held = option_map bool_of (number_in held)
scalar_in TypeBytes held = bytes_in held
scalar_in TypeString held = utf8_of (bytes_in held)

-- what is wrong with a field of the type
abbrev pub ScalarFault : ScalarType → WireFault → Held → Type 0
ScalarFault type fault held =
    ((fault ≡ BadWireType) × (wire_type held ≢ wire_type_of type))
    ⊎ ((fault ≡ NotUtf8) × (type ≡ TypeString) × ((bytes : List ℕ) × (bytes_in held ≡ Some bytes) × (¬ IsUtf8 bytes)))
