-- Whole numbers and floats by their bytes: Apache Arrow, "Arrow Columnar Format", "Physical memory layout" (the lowest
-- byte first, two's complement, IEEE 754), and RFC 8259, section 6. Floats that are no finite numbers are texts.
use Rattle.std.specs.Prelude.{◌≡◌, ◌⊎◌, ◌≤◌, ◌<◌, ◌*◌, ◌^◌, ℕ, ℤ, pos, ◌-ℤ◌, unsigned_abs, Bool, true, false, List, Float, from_bits, Option, Some, IfSome, option_map, option_and_then}
use Rattle.std.specs.Float.{Format, binary32, binary64, float_is_finite, round_to_format}
use Rattle.byteorder.specs.Endian.{little_bytes}
use Rattle.serde_json.specs.Data.{Data}
use Rattle.serde_json.specs.Find.{as_number, as_integer, to_float}
use Rattle.header_types.specs.declared.field_type.BitWidth.{BitWidth}
use Rattle.header_types.specs.declared.field_type.BitWidth.TheVariants.{Eight, Sixteen, ThirtyTwo, SixtyFour}
use Rattle.batch_types.specs.Layouts.{int_size}
use Rattle.json_rows.specs.NonFinites.{TellsNonFinite, double_bits_of, single_bits_of}

-- ---- whole numbers

-- half as many numbers as there are of so many bits
abbrev pub half_of : BitWidth → ℕ
half_of Eight = 2 ^ 7
half_of Sixteen = 2 ^ 15
half_of ThirtyTwo = 2 ^ 31
half_of SixtyFour = 2 ^ 63

-- the whole number stands in bits as this number: of two's complement, or without a sign
abbrev pub StandsAs : ℕ → Bool → ℤ → ℕ → Type 0
StandsAs half true z n = ((z ≡ pos n) × (n < half)) ⊎ ((z ≡ pos n -ℤ pos (2 * half)) × (half ≤ n) × (n < 2 * half))
StandsAs half false z n = (z ≡ pos n) × (n < 2 * half)

-- the whole number that a value is: digits with no point and no exponent, of 64 bits with or without a sign
abbrev pub whole_told : Data → Option ℤ
whole_told d = option_and_then as_integer (as_number d)

-- the value is a whole number, which has these bytes
pub record TellsWhole (width : BitWidth) (signed : Bool) (d : Data) (bytes : List ℕ) : Type 0 where
  pub whole : ℤ
  pub told : whole_told d ≡ Some whole
  pub stands : ℕ
  pub within : StandsAs (half_of width) signed whole stands
  pub bytes_are : bytes ≡ little_bytes (int_size width) stands

-- ---- floats

-- the float that is nearest to the number that a value is
abbrev pub float_told : Data → Option Float
float_told d = option_map to_float (as_number d)

-- the bytes are those of a float of this format that is finite
pub record AreBytesOf (format : Format) (size : ℕ) (value : Float) (bytes : List ℕ) : Type 0 where
  pub stands : ℕ
  pub within : stands < 256 ^ size
  pub value_is : from_bits format stands ≡ value
  pub finite : float_is_finite value ≡ true
  pub bytes_are : bytes ≡ little_bytes size stands

-- The number is one below the limit by a power of two. A float whose digits are below that limit holds such a whole number
-- without a change, and no other (IEEE 754, section 3.3: its exponents reach far beyond 64 bits).
abbrev pub IsExactBelow : (limit number : ℕ) → Type 0
IsExactBelow limit number = (digits exponent : ℕ) × (digits < limit) × (number ≡ digits * 2 ^ exponent)

-- the value is no whole number, or one that such a float holds without a change
abbrev pub IsHeldBelow : ℕ → Data → Type 0
IsHeldBelow limit d = IfSome (whole_told d) (λ whole. IsExactBelow limit (unsigned_abs whole))

-- what the digits of floats of eight bytes, and of four, are below (IEEE 754, table 3.5: 53 and 24 bits)
abbrev pub double_limit : ℕ
double_limit = 9007199254740992

abbrev pub single_limit : ℕ
single_limit = 16777216

-- The value is a number, of which these are the bytes of the nearest float of eight bytes. A whole number is that float.
pub record TellsFiniteDouble (d : Data) (bytes : List ℕ) : Type 0 where
  pub double : Float
  pub told : float_told d ≡ Some double
  pub held : IsHeldBelow double_limit d
  pub stands : AreBytesOf binary64 8 double bytes

-- and of that one rounded to four bytes, which a whole number is too
pub record TellsFiniteSingle (d : Data) (bytes : List ℕ) : Type 0 where
  pub double : Float
  pub told : float_told d ≡ Some double
  pub held : IsHeldBelow single_limit d
  pub finite : float_is_finite double ≡ true
  pub stands : AreBytesOf binary32 4 (round_to_format binary32 double) bytes

abbrev pub TellsDouble : Data → List ℕ → Type 0
TellsDouble d bytes = TellsFiniteDouble d bytes ⊎ TellsNonFinite double_bits_of 8 d bytes

abbrev pub TellsSingle : Data → List ℕ → Type 0
TellsSingle d bytes = TellsFiniteSingle d bytes ⊎ TellsNonFinite single_bits_of 4 d bytes
