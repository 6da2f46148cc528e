-- The types of fields, by their numbers in the union `Type` of "Schema.fbs", and the parameters in each type's table.
use Rattle.std.specs.Prelude.{◌≡◌, ℕ, ◌^◌, ℤ, pos, Bool, not, ◌||◌, ◌==◌, nat_lt, if◌then◌else◌, Option, Some, None}
use Rattle.std.specs.Option.{option_map, option_and_then}
use Rattle.std.specs.Int.{w32, cast_signed}
use Rattle.header_types.specs.declared.field_type.BitWidth.{BitWidth}
use Rattle.header_types.specs.declared.field_type.BitWidth.TheVariants.{Eight, Sixteen, ThirtyTwo, SixtyFour}
use Rattle.header_types.specs.declared.field_type.Precision.{Precision}
use Rattle.header_types.specs.declared.field_type.Precision.TheVariants.{Half, Single, Double}
use Rattle.header_types.specs.declared.field_type.DecimalWidth.{DecimalWidth}
use Rattle.header_types.specs.declared.field_type.DecimalWidth.TheVariants.{OneHundredTwentyEight, TwoHundredFiftySix}
use Rattle.header_types.specs.declared.field_type.DateUnit.{DateUnit}
use Rattle.header_types.specs.declared.field_type.DateUnit.TheVariants as date
use Rattle.header_types.specs.declared.field_type.TimeUnit.{TimeUnit}
use Rattle.header_types.specs.declared.field_type.TimeUnit.TheVariants as time
use Rattle.header_types.specs.Fields.{Text, DataType, null_type, int_type, floating_point_type, binary_type, utf8_type}
use Rattle.header_types.specs.Fields.{bool_type, decimal_type, date_type, time_type, timestamp_type, list_type}
use Rattle.header_types.specs.Fields.{struct_type, fixed_size_binary_type, fixed_size_list_type, duration_type}

-- ---- the tables of parameters

-- a parameter that is a number: its bytes, and what an absent one means
pub record Parameter : Type 0 where
  pub size : ℕ
  pub default : ℕ

-- the numbers at fields 0, 1 and 2 of a type's table, where the type has such parameters
pub record Parameters : Type 0 where
  pub first : Option Parameter
  pub second : Option Parameter
  pub third : Option Parameter

abbrev pub number_of : ℕ → ℕ → Option Parameter
number_of size default = Some (record { size = size; default = default })

-- those of the type of this number: 1, 4, 5, 6, 12 and 13 have none, and of what is not carried none are looked at
abbrev pub parameters_of : ℕ → Parameters
parameters_of type_id =
    if type_id == 2 then record { first = number_of 4 0; second = number_of 1 0; third = None }
    else if type_id == 3 then record { first = number_of 2 0; second = None; third = None }
    else if type_id == 7 then record { first = number_of 4 0; second = number_of 4 0; third = number_of 4 128 }
    else if type_id == 8 then record { first = number_of 2 1; second = None; third = None }
    else if type_id == 9 then record { first = number_of 2 1; second = number_of 4 32; third = None }
    else if type_id == 10 then record { first = number_of 2 0; second = None; third = None }
    else if type_id == 15 then record { first = number_of 4 0; second = None; third = None }
    else if type_id == 16 then record { first = number_of 4 0; second = None; third = None }
    else if type_id == 18 then record { first = number_of 2 1; second = None; third = None }
    else record { first = None; second = None; third = None }

-- field 1 of the type's table is a text
abbrev pub has_timezone : ℕ → Bool
has_timezone type_id = type_id == 10

-- ---- what the parameters say

abbrev pub bit_width_of : ℕ → Option BitWidth
bit_width_of bits =
    if bits == 8 then Some Eight else if bits == 16 then Some Sixteen else if bits == 32 then Some ThirtyTwo
    else if bits == 64 then Some SixtyFour else None

abbrev pub precision_of : ℕ → Option Precision
precision_of n = if n == 0 then Some Half else if n == 1 then Some Single else if n == 2 then Some Double else None

abbrev pub decimal_width_of : ℕ → Option DecimalWidth
decimal_width_of bits =
    if bits == 128 then Some OneHundredTwentyEight else if bits == 256 then Some TwoHundredFiftySix else None

abbrev pub date_unit_of : ℕ → Option DateUnit
date_unit_of n = if n == 0 then Some date.Day else if n == 1 then Some date.Millisecond else None

abbrev pub time_unit_of : ℕ → Option TimeUnit
time_unit_of n =
    if n == 0 then Some time.Second else if n == 1 then Some time.Millisecond
    else if n == 2 then Some time.Microsecond else if n == 3 then Some time.Nanosecond else None

-- the bits of a time of the day: "Schema.fbs", the table `Time`
abbrev pub time_bits : TimeUnit → ℕ
time_bits time.Second = 32
time_bits time.Millisecond = 32
time_bits time.Microsecond = 64
time_bits time.Nanosecond = 64

-- a number of two's complement in four bytes
abbrev pub int32_of : ℕ → ℤ
int32_of n = cast_signed w32 n

-- such a number, where it is not negative
abbrev pub size_of : ℕ → Option ℤ
size_of n = if nat_lt n (2 ^ 31) then Some (pos n) else None

abbrev pub time_from : ℕ → TimeUnit → Option DataType
time_from bits unit = if bits == time_bits unit then Some (time_type unit) else None

-- the type of this number with these parameters, where there is such a type
abbrev pub data_type_from : ℕ → ℕ → ℕ → ℕ → Option Text → Option DataType
data_type_from type_id a b c timezone =
    if type_id == 1 then Some null_type
    else if type_id == 2 then option_map (λ bits. int_type bits (not (b == 0))) (bit_width_of a)
    else if type_id == 3 then option_map floating_point_type (precision_of a)
    else if type_id == 4 then Some binary_type
    else if type_id == 5 then Some utf8_type
    else if type_id == 6 then Some bool_type
    else if type_id == 7 then option_map (decimal_type (int32_of a) (int32_of b)) (decimal_width_of c)
    else if type_id == 8 then option_map date_type (date_unit_of a)
    else if type_id == 9 then option_and_then (time_from b) (time_unit_of a)
    else if type_id == 10 then option_map (λ unit. timestamp_type unit timezone) (time_unit_of a)
    else if type_id == 12 then Some list_type
    else if type_id == 13 then Some struct_type
    else if type_id == 15 then option_map fixed_size_binary_type (size_of a)
    else if type_id == 16 then option_map fixed_size_list_type (size_of a)
    else if type_id == 18 then option_map duration_type (time_unit_of a)
    else None

-- the numbers of the types that are carried
abbrev pub is_carried : ℕ → Bool
is_carried type_id =
    (type_id == 1) || (type_id == 2) || (type_id == 3) || (type_id == 4) || (type_id == 5) || (type_id == 6) ||
    (type_id == 7) || (type_id == 8)
    || (type_id == 9) || (type_id == 10) || (type_id == 12) || (type_id == 13) || (type_id == 15) || (type_id == 16) ||
    (type_id == 18)

-- the type of this number is a decimal, whose other widths are types that are not carried
abbrev pub is_decimal : ℕ → Bool
is_decimal type_id = type_id == 7

-- so many fields may stand inside one of this type
abbrev pub AllowsChildren : DataType → ℕ → Type 0
AllowsChildren null_type count = count ≡ 0
AllowsChildren (int_type width signed) count = count ≡ 0
AllowsChildren (floating_point_type precision) count = count ≡ 0
AllowsChildren binary_type count = count ≡ 0
AllowsChildren utf8_type count = count ≡ 0
AllowsChildren bool_type count = count ≡ 0
AllowsChildren (decimal_type precision scale width) count = count ≡ 0
AllowsChildren (date_type unit) count = count ≡ 0
AllowsChildren (time_type unit) count = count ≡ 0
AllowsChildren (timestamp_type unit timezone) count = count ≡ 0
AllowsChildren list_type count = count ≡ 1
AllowsChildren struct_type count = Unit {0}
AllowsChildren (fixed_size_binary_type byte_width) count = count ≡ 0
AllowsChildren (fixed_size_list_type list_size) count = count ≡ 1
AllowsChildren (duration_type unit) count = count ≡ 0
