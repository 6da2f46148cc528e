-- What the tables of types show, as they are laid out: their fields, and the numbers in them.
use Rattle.std.proofs.Common.{◌≡◌, ℕ, ℤ, pos, ◌+◌, ◌^◌, ◌<◌, ◌≤ℤ◌, Bool, true, false, List, length, get_or}
use Rattle.std.proofs.Common.{Option, Some, None, option_map, arith, refl, ap, ap₂}
use Rattle.std.specs.Prelude.{negsuc, if◌then◌else◌}
use Rattle.std.specs.Int.{w32}
use Rattle.std.specs.Int.RustNames.{FitsSigned}
use Rattle.std.proofs.lemmas.Int.{ints, to_z-of_z}
use Rattle.std.proofs.lemmas.Bool.{lt-ltb}
use Rattle.flat_places.specs.Number.{ShowsUint, ShowsReference}
use Rattle.flat_places.specs.Vector.{ShowsVector, ShowsText}
use Rattle.header_types.specs.declared.field_type.BitWidth.{BitWidth}
use Rattle.header_types.specs.declared.field_type.BitWidth.TheVariants.{Eight, Sixteen, ThirtyTwo, SixtyFour}
use Rattle.header_types.specs.declared.field_type.Precision.{Precision}
use Rattle.header_types.specs.declared.field_type.Precision.TheVariants.{Half, Single, Double}
use Rattle.header_types.specs.declared.field_type.DecimalWidth.{DecimalWidth}
use Rattle.header_types.specs.declared.field_type.DecimalWidth.TheVariants.{OneHundredTwentyEight, TwoHundredFiftySix}
use Rattle.header_types.specs.declared.field_type.DateUnit.{DateUnit}
use Rattle.header_types.specs.declared.field_type.DateUnit.TheVariants as date
use Rattle.header_types.specs.declared.field_type.TimeUnit.{TimeUnit}
use Rattle.header_types.specs.declared.field_type.TimeUnit.TheVariants as time
use Rattle.header_types.specs.Fields.{Text, int_type, floating_point_type}
use Rattle.header_types.specs.Fields.{decimal_type, date_type, time_type, timestamp_type}
use Rattle.header_types.specs.Fields.{fixed_size_binary_type, fixed_size_list_type, duration_type}
use Rattle.header_types.specs.Slots.{ShowsNumber, ShowsReferenceField, ShowsString, no_vector, ShowsVectorRef}
use Rattle.header_types.specs.TypeIds.{time_bits, size_of}
use Rattle.header_types.specs.TypeIds.{data_type_from}
use Rattle.header_writing.specs.Canonical.{number, bits_of, precision_number, decimal_bits, date_unit_number}
use Rattle.header_writing.specs.Canonical.{time_unit_number, flag, int32_number}
use Rattle.header_writing.proofs.Lying.{TableLies}
use Rattle.header_writing.proofs.Lying.{field_lies, field_none}

-- ---- what a table's fields show

pub number_shown : (text : List ℕ) (table own_size : ℕ) (slots : List ℕ) (n v size default x : ℕ)
    → TableLies text table own_size slots → n < length slots
    → get_or slots n 0 ≡ v → 0 < v → v < 65536 → ShowsUint text (table + v) size x
    → ShowsNumber text table n size default x
number_shown text table own_size slots n v size default x lies few is above fits shown =
    record {
      field = Some (table + v);
      found = field_lies text table own_size slots n v lies few is above fits;
      number =
          shown;
    }

pub number_absent : (text : List ℕ) (table own_size : ℕ) (slots : List ℕ) (n size default : ℕ)
    → TableLies text table own_size slots → n < length slots
    → get_or slots n 0 ≡ 0 → ShowsNumber text table n size default default
number_absent text table own_size slots n size default lies few is =
    record { field = None; found = field_none text table own_size slots n lies few is; number = refl }

pub reference_shown : (text : List ℕ) (table own_size : ℕ) (slots : List ℕ) (n v target : ℕ)
    → TableLies text table own_size slots → n < length slots
    → get_or slots n 0 ≡ v → 0 < v → v < 65536 → ShowsReference text (table + v) target
    → ShowsReferenceField text table n (Some target)
reference_shown text table own_size slots n v target lies few is above fits shown =
    record {
      field = Some (table + v);
      found = field_lies text table own_size slots n v lies few is above fits;
      refers =
          shown;
    }

pub reference_absent : (text : List ℕ) (table own_size : ℕ) (slots : List ℕ) (n : ℕ)
    → TableLies text table own_size slots → n < length slots
    → get_or slots n 0 ≡ 0 → ShowsReferenceField text table n None
reference_absent text table own_size slots n lies few is =
    record { field = None; found = field_none text table own_size slots n lies few is; refers = tt }

pub string_at : (text : List ℕ) (table n target : ℕ) (bytes : Text) → ShowsReferenceField text table n (Some target)
    → ShowsText text target bytes
    → ShowsString text table n (Some bytes)
string_at text table n target bytes referred shown = record { target = Some target; referred = referred; shown = shown }

pub vector_at : (text : List ℕ) (table n target size first count : ℕ) → ShowsReferenceField text table n (Some target)
    → ShowsVector text target size first count
    → ShowsVectorRef text table n size (record { first = first; count = count })
vector_at text table n target size first count referred shown =
    record { target = Some target; referred = referred; shown = shown }

pub vector_absent : (text : List ℕ) (table n size : ℕ) → ShowsReferenceField text table n None
    → ShowsVectorRef text table n size no_vector
vector_absent text table n size referred = record { target = None; referred = referred; shown = refl }

-- ---- numbers

pub int32_fits : (z : ℤ) → FitsSigned w32 z → int32_number z < 256 ^ 4
int32_fits (pos n) fits = omega (arith, fits.sfits)
int32_fits (negsuc n) fits = omega arith

sized : (z : ℤ) → FitsSigned w32 z → pos 0 ≤ℤ z → size_of (int32_number z) ≡ Some z
sized (pos n) fits above =
    let near : n < 2 ^ 31 = fits.sfits in
    ap (λ t. if t then Some (pos n) else None) (lt-ltb n (2 ^ 31) near)
sized (negsuc n) fits above = absurd (omega (arith, ints))

pub int_means : (width : BitWidth) (signed : Bool)
    → data_type_from 2 (bits_of width) (flag signed) 0 None ≡ Some (int_type width signed)
int_means Eight false = refl
int_means Eight true = refl
int_means Sixteen false = refl
int_means Sixteen true = refl
int_means ThirtyTwo false = refl
int_means ThirtyTwo true = refl
int_means SixtyFour false = refl
int_means SixtyFour true = refl

pub floating_point_means : (precision : Precision)
    → data_type_from 3 (precision_number precision) 0 0 None ≡ Some (floating_point_type precision)
floating_point_means Half = refl
floating_point_means Single = refl
floating_point_means Double = refl

pub decimal_means : (p s : ℤ) (width : DecimalWidth) → FitsSigned w32 p → FitsSigned w32 s
    → data_type_from 7 (int32_number p) (int32_number s) (decimal_bits width) None ≡ Some (decimal_type p s width)
decimal_means p s OneHundredTwentyEight one two =
    ap₂ (λ x y. Some (decimal_type x y OneHundredTwentyEight)) (to_z-of_z w32 p one) (to_z-of_z w32 s two)
decimal_means p s TwoHundredFiftySix one two =
    ap₂ (λ x y. Some (decimal_type x y TwoHundredFiftySix)) (to_z-of_z w32 p one) (to_z-of_z w32 s two)

pub date_means : (unit : DateUnit) → data_type_from 8 (date_unit_number unit) 0 0 None ≡ Some (date_type unit)
date_means date.Day = refl
date_means date.Millisecond = refl

pub time_means : (unit : TimeUnit) → data_type_from 9 (time_unit_number unit) (time_bits unit) 0 None ≡ Some
    (time_type unit)
time_means time.Second = refl
time_means time.Millisecond = refl
time_means time.Microsecond = refl
time_means time.Nanosecond = refl

pub timestamp_means : (unit : TimeUnit) (timezone : Option Text)
    → data_type_from 10 (time_unit_number unit) 0 0 timezone ≡ Some (timestamp_type unit timezone)
timestamp_means time.Second timezone = refl
timestamp_means time.Millisecond timezone = refl
timestamp_means time.Microsecond timezone = refl
timestamp_means time.Nanosecond timezone = refl

pub duration_means : (unit : TimeUnit) → data_type_from 18 (time_unit_number unit) 0 0 None ≡ Some (duration_type unit)
duration_means time.Second = refl
duration_means time.Millisecond = refl
duration_means time.Microsecond = refl
duration_means time.Nanosecond = refl

pub fixed_size_binary_means : (z : ℤ) → FitsSigned w32 z → pos 0 ≤ℤ z
    → data_type_from 15 (int32_number z) 0 0 None ≡ Some (fixed_size_binary_type z)
fixed_size_binary_means z fits above = ap (option_map fixed_size_binary_type) (sized z fits above)

pub fixed_size_list_means : (z : ℤ) → FitsSigned w32 z → pos 0 ≤ℤ z
    → data_type_from 16 (int32_number z) 0 0 None ≡ Some (fixed_size_list_type z)
fixed_size_list_means z fits above = ap (option_map fixed_size_list_type) (sized z fits above)

pub time_unit_fits : (unit : TimeUnit) → time_unit_number unit < 256 ^ 2
time_unit_fits time.Second = omega arith
time_unit_fits time.Millisecond = omega arith
time_unit_fits time.Microsecond = omega arith
time_unit_fits time.Nanosecond = omega arith

pub time_bits_fit : (unit : TimeUnit) → time_bits unit < 256 ^ 4
time_bits_fit time.Second = omega arith
time_bits_fit time.Millisecond = omega arith
time_bits_fit time.Microsecond = omega arith
time_bits_fit time.Nanosecond = omega arith

pub date_unit_fits : (unit : DateUnit) → date_unit_number unit < 256 ^ 2
date_unit_fits date.Day = omega arith
date_unit_fits date.Millisecond = omega arith

pub precision_fits : (precision : Precision) → precision_number precision < 256 ^ 2
precision_fits Half = omega arith
precision_fits Single = omega arith
precision_fits Double = omega arith

pub bits_fit : (width : BitWidth) → bits_of width < 256 ^ 4
bits_fit Eight = omega arith
bits_fit Sixteen = omega arith
bits_fit ThirtyTwo = omega arith
bits_fit SixtyFour = omega arith

pub decimal_bits_fit : (width : DecimalWidth) → decimal_bits width < 256 ^ 4
decimal_bits_fit OneHundredTwentyEight = omega arith
decimal_bits_fit TwoHundredFiftySix = omega arith

pub flag_fits : (b : Bool) → flag b < 256 ^ 1
flag_fits false = omega arith
flag_fits true = omega arith
