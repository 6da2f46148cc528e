-- What the tables of types show, as they are laid out.
use Rattle.std.proofs.Common.{◌≡◌, ℕ, ℤ, ◌+◌, ◌^◌, ◌<◌, Bool, false, List, [], ◌∷◌}
use Rattle.std.proofs.Common.{Some, None, IsUtf8, arith, refl, sym, subst}
use Rattle.std.specs.Int.{w32}
use Rattle.std.specs.Int.RustNames.{FitsSigned}
use Rattle.header_types.specs.declared.field_type.BitWidth.{BitWidth}
use Rattle.header_types.specs.declared.field_type.DecimalWidth.{DecimalWidth}
use Rattle.header_types.specs.declared.field_type.DateUnit.TheVariants as date
use Rattle.header_types.specs.declared.field_type.TimeUnit.{TimeUnit}
use Rattle.header_types.specs.declared.field_type.TimeUnit.TheVariants as time
use Rattle.header_types.specs.Fields.{Text, DataType, null_type, int_type, floating_point_type, binary_type, utf8_type}
use Rattle.header_types.specs.Fields.{bool_type, decimal_type, date_type, time_type, timestamp_type, list_type}
use Rattle.header_types.specs.Fields.{struct_type, fixed_size_binary_type, fixed_size_list_type, duration_type}
use Rattle.header_types.specs.Slots.{ShowsNumber, ShowsReferenceField}
use Rattle.header_types.specs.TypeIds.{Parameters, number_of, parameters_of, has_timezone, time_bits}
use Rattle.header_types.specs.TypeIds.{data_type_from}
use Rattle.header_types.specs.Shown.{ShowsParameter, ShowsTimezone, ShowsDataType}
use Rattle.header_writing.specs.Objects.{string_object, Cells, no_cells, reference, lead, cells_size}
use Rattle.header_writing.specs.Canonical.{number, gap, bits_of, precision_number, decimal_bits, date_unit_number}
use Rattle.header_writing.specs.Canonical.{time_unit_number, flag, type_id_of, int32_number, short_table, word_table}
use Rattle.header_writing.specs.Canonical.{timestamp_table, type_object}
use Rattle.header_writing.specs.Written.{FitsDataType}
use Rattle.header_types.specs.Profile.{IsSized}
use Rattle.header_writing.proofs.Lying.{Lies, uint_lies, gap_lies, referred_lies, string_lies, table_lies}
use Rattle.header_writing.proofs.NumbersShown.{bits_fit, date_means, date_unit_fits, decimal_bits_fit, decimal_means}
use Rattle.header_writing.proofs.NumbersShown.{duration_means, fixed_size_binary_means, fixed_size_list_means}
use Rattle.header_writing.proofs.NumbersShown.{flag_fits}
use Rattle.header_writing.proofs.NumbersShown.{floating_point_means, int32_fits, int_means, number_shown}
use Rattle.header_writing.proofs.NumbersShown.{precision_fits}
use Rattle.header_writing.proofs.NumbersShown.{reference_absent, reference_shown, string_at, time_bits_fit, time_means}
use Rattle.header_writing.proofs.NumbersShown.{time_unit_fits, timestamp_means}

-- ---- tables of one number

short_lies : (text : List ℕ) (place default x : ℕ) → Lies text place (short_table x) → x < 256 ^ 2
    → ShowsNumber text (place + lead place (short_table x)) 0 2 default x
short_lies text place default x lies fits =
    let t : ℕ = place + lead place (short_table x) in
    let (table, cells) = table_lies text place 6 8 (4 ∷ []) (number 2 x (gap 2 no_cells)) lies refl (omega arith) in
    let (first, rest) = uint_lies text (t + 4) (t + 6) _ 2 x (gap 2 no_cells) cells fits (omega arith) in
    number_shown text t 6 (4 ∷ []) 0 4 2 default x table (omega arith) refl (omega arith) (omega arith) first

word_lies : (text : List ℕ) (place default x : ℕ) → Lies text place (word_table x) → x < 256 ^ 4
    → ShowsNumber text (place + lead place (word_table x)) 0 4 default x
word_lies text place default x lies fits =
    let t : ℕ = place + lead place (word_table x) in
    let (table, cells) = table_lies text place 6 8 (4 ∷ []) (number 4 x no_cells) lies refl (omega arith) in
    let (first, rest) = uint_lies text (t + 4) (t + 8) _ 4 x no_cells cells fits (omega arith) in
    number_shown text t 6 (4 ∷ []) 0 4 4 default x table (omega arith) refl (omega arith) (omega arith) first

-- ---- types

no_parameters : Parameters
no_parameters = record { first = None; second = None; third = None }

-- a type without parameters, and one of one number
plain : (text : List ℕ) (table type_id : ℕ) (data_type : DataType) → parameters_of type_id ≡ no_parameters
    → has_timezone type_id ≡ false
    → data_type_from type_id 0 0 0 None ≡ Some data_type → ShowsDataType text table type_id data_type
unfolding no_parameters
plain text table type_id data_type none zone means = record {
  a = 0;
  b = 0;
  c = 0;
  timezone = None;
  numbers = record {
    first = subst (λ (p : Parameters). ShowsParameter text table 0 p.first 0) (sym none) refl;
    second = subst (λ (p : Parameters). ShowsParameter text table 1 p.second 0) (sym none) refl;
    third = subst (λ (p : Parameters). ShowsParameter text table 2 p.third 0) (sym none) refl;
  };
  zone = subst (λ t. ShowsTimezone text table t None) (sym zone) refl;
  means = means;
}

one_parameter : ℕ → ℕ → Parameters
one_parameter size default = record { first = number_of size default; second = None; third = None }

single : (text : List ℕ) (table type_id type size default a : ℕ) (data_type : DataType)
    → parameters_of type_id ≡ one_parameter size default → has_timezone type_id ≡ false
    → data_type_from type_id a 0 0 None ≡ Some data_type → ShowsReferenceField text table 3 (Some type)
    → ShowsNumber text type 0 size default a
    → ShowsDataType text table type_id data_type
unfolding one_parameter
single text table type_id type size default a data_type one zone means referred shown = record {
  a = a;
  b = 0;
  c = 0;
  timezone = None;
  numbers = record {
    first = subst (λ (p : Parameters). ShowsParameter text table 0 p.first a) (sym one) (Some type, referred, shown);
    second = subst (λ (p : Parameters). ShowsParameter text table 1 p.second 0) (sym one) refl;
    third = subst (λ (p : Parameters). ShowsParameter text table 2 p.third 0) (sym one) refl;
  };
  zone = subst (λ t. ShowsTimezone text table t None) (sym zone) refl;
  means = means;
}

int_lies : (text : List ℕ) (table place : ℕ) (width : BitWidth) (signed : Bool)
    → Lies text place (type_object (int_type width signed))
    → ShowsReferenceField text table 3 (Some (place + lead place (type_object (int_type width signed))))
    → ShowsDataType text table 2 (int_type width signed)
int_lies text table place width signed lies referred =
    let t : ℕ = place + lead place (type_object (int_type width signed)) in
    let slots : List ℕ = 4 ∷ 8 ∷ [] in
    let (type, cells) =
    table_lies text place 8 12 slots (number 4 (bits_of width) (number 1 (flag signed) (gap 3 no_cells))) lies refl
    (omega arith) in
    let (first, rest) = uint_lies text (t + 4) (t + 8) _ 4 (bits_of width)
    (number 1 (flag signed) (gap 3 no_cells)) cells (bits_fit width) (omega arith) in
    let (second, _) = uint_lies text (t + 8) (t + 9) _ 1 (flag signed) (gap 3 no_cells) rest (flag_fits signed)
    (omega arith) in
    record {
      a = bits_of width;
      b = flag signed;
      c = 0;
      timezone = None;
      numbers = record {
        first = (
          Some t,
          referred,
          number_shown text t 8 slots 0 4 4 0 (bits_of width) type (omega arith) refl
              (omega arith) (omega arith) first,
        );
        second = (
          Some t,
          referred,
          number_shown text t 8 slots 1 8 1 0 (flag signed) type (omega arith) refl
              (omega arith) (omega arith) second,
        );
        third = refl;
      };
      zone = refl;
      means = int_means width signed;
    }

decimal_lies : (text : List ℕ) (table place : ℕ) (p s : ℤ) (width : DecimalWidth) → FitsSigned w32 p → FitsSigned w32 s
    → Lies text place (type_object (decimal_type p s width))
    → ShowsReferenceField text table 3 (Some (place + lead place (type_object (decimal_type p s width))))
    → ShowsDataType text table 7 (decimal_type p s width)
decimal_lies text table place p s width one two lies referred =
    let t : ℕ = place + lead place (type_object (decimal_type p s width)) in
    let slots : List ℕ = 4 ∷ 8 ∷ 12 ∷ [] in
    let bits : Cells = number 4 (decimal_bits width) no_cells in
    let scale : Cells = number 4 (int32_number s) bits in
    let (type, cells) = table_lies text place 10 16 slots (number 4 (int32_number p) scale) lies refl (omega arith) in
    let (first, after) = uint_lies text (t + 4) (t + 8) _ 4 (int32_number p) scale cells (int32_fits p one)
    (omega arith) in
    let (second, rest) = uint_lies text (t + 8) (t + 12) _ 4 (int32_number s) bits after (int32_fits s two)
    (omega arith) in
    let (third, _) = uint_lies text (t + 12) (t + 16) _ 4 (decimal_bits width) no_cells rest (decimal_bits_fit width)
    (omega arith) in
    record {
      a = int32_number p;
      b = int32_number s;
      c = decimal_bits width;
      timezone = None;
      numbers = record {
        first = (
          Some t,
          referred,
          number_shown text t 10 slots 0 4 4 0 (int32_number p) type (omega arith) refl
              (omega arith) (omega arith) first,
        );
        second = (
          Some t,
          referred,
          number_shown text t 10 slots 1 8 4 0 (int32_number s) type (omega arith) refl
              (omega arith) (omega arith) second,
        );
        third = (
          Some t,
          referred,
          number_shown text t 10 slots 2 12 4 128 (decimal_bits width) type (omega arith) refl
              (omega arith) (omega arith) third,
        );
      };
      zone = refl;
      means = decimal_means p s width one two;
    }

time_lies : (text : List ℕ) (table place : ℕ) (unit : TimeUnit) → Lies text place (type_object (time_type unit))
    → ShowsReferenceField text table 3 (Some (place + lead place (type_object (time_type unit))))
    → ShowsDataType text table 9 (time_type unit)
time_lies text table place unit lies referred =
    let t : ℕ = place + lead place (type_object (time_type unit)) in
    let slots : List ℕ = 4 ∷ 8 ∷ [] in
    let bits : Cells = number 4 (time_bits unit) no_cells in
    let (type, cells) = table_lies text place 8 12 slots (number 2 (time_unit_number unit) (gap 2 bits)) lies refl
    (omega arith) in
    let (first, after) = uint_lies text (t + 4) (t + 6) _ 2 (time_unit_number unit) (gap 2 bits) cells
    (time_unit_fits unit) (omega arith) in
    let rest = gap_lies text (t + 6) (t + 8) _ 2 bits after (omega arith) in
    let (second, _) = uint_lies text (t + 8) (t + 12) _ 4 (time_bits unit) no_cells rest (time_bits_fit unit)
    (omega arith) in
    record {
      a = time_unit_number unit;
      b = time_bits unit;
      c = 0;
      timezone = None;
      numbers = record {
        first = (
          Some t,
          referred,
          number_shown text t 8 slots 0 4 2 1 (time_unit_number unit) type (omega arith) refl
              (omega arith) (omega arith) first,
        );
        second = (
          Some t,
          referred,
          number_shown text t 8 slots 1 8 4 32 (time_bits unit) type (omega arith) refl
              (omega arith) (omega arith) second,
        );
        third = refl;
      };
      zone = refl;
      means = time_means unit;
    }

timestamp_plain : (text : List ℕ) (table place : ℕ) (unit : TimeUnit) → Lies text place (timestamp_table unit None)
    → ShowsReferenceField text table 3 (Some (place + lead place (timestamp_table unit None)))
    → ShowsDataType text table 10 (timestamp_type unit None)
timestamp_plain text table place unit lies referred =
    let t : ℕ = place + lead place (timestamp_table unit None) in
    let slots : List ℕ = 4 ∷ 0 ∷ [] in
    let gaps : Cells = gap 2 (gap 4 no_cells) in
    let (type, cells) = table_lies text place 8 12 slots (number 2 (time_unit_number unit) gaps) lies refl
    (omega arith) in
    let (first, _) = uint_lies text (t + 4) (t + 6) _ 2 (time_unit_number unit) gaps cells (time_unit_fits unit)
    (omega arith) in
    record {
      a = time_unit_number unit;
      b = 0;
      c = 0;
      timezone = None;
      numbers = record {
        first = (
          Some t,
          referred,
          number_shown text t 8 slots 0 4 2 0 (time_unit_number unit) type (omega arith) refl
              (omega arith) (omega arith) first,
        );
        second = refl;
        third = refl;
      };
      zone = (
        Some t,
        referred,
        record {
          target = None;
          referred =
              reference_absent text t 8 slots 1 type (omega arith) refl;
          shown = tt;
        },
      );
      means = timestamp_means unit None;
    }

timestamp_zoned : (text : List ℕ) (table place : ℕ) (unit : TimeUnit) (timezone : Text) → IsUtf8 timezone
    → Lies text place (timestamp_table unit (Some timezone))
    → ShowsReferenceField text table 3 (Some (place + lead place (timestamp_table unit (Some timezone))))
    → ShowsDataType text table 10 (timestamp_type unit (Some timezone))
timestamp_zoned text table place unit timezone utf8 lies referred =
    let t : ℕ = place + lead place (timestamp_table unit (Some timezone)) in
    let slots : List ℕ = 4 ∷ 8 ∷ [] in
    let zone : Cells = reference (string_object timezone) no_cells in
    let next : ℕ = t + 4 + cells_size (number 2 (time_unit_number unit) (gap 2 zone)) in
    let (type, cells) = table_lies text place 8 12 slots (number 2 (time_unit_number unit) (gap 2 zone)) lies refl
    (omega arith) in
    let (first, after) = uint_lies text (t + 4) (t + 6) next 2 (time_unit_number unit) (gap 2 zone) cells
    (time_unit_fits unit) (omega arith) in
    let rest = gap_lies text (t + 6) (t + 8) next 2 zone after (omega arith) in
    let (refers, string, _) = referred_lies text (t + 8) (t + 12) next (string_object timezone) no_cells rest
    (omega arith) in
    let target : ℕ = next + lead next (string_object timezone) in
    record {
      a = time_unit_number unit;
      b = 0;
      c = 0;
      timezone = Some timezone;
      numbers = record {
        first = (
          Some t,
          referred,
          number_shown text t 8 slots 0 4 2 0 (time_unit_number unit) type (omega arith) refl
              (omega arith) (omega arith) first,
        );
        second = refl;
        third = refl;
      };
      zone = (
        Some t,
        referred,
        string_at text t 1 target timezone (reference_shown text t 8 slots 1 8 target type (omega arith) refl
            (omega arith) (omega arith) refers)
            (string_lies text next timezone string utf8),
      );
      means = timestamp_means unit (Some timezone);
    }

-- the type's table shows the type
pub data_type_lies : (text : List ℕ) (table place : ℕ) (data_type : DataType) → FitsDataType data_type
    → IsSized data_type → Lies text place (type_object data_type)
    → ShowsReferenceField text table 3 (Some (place + lead place (type_object data_type)))
    → ShowsDataType text table (type_id_of data_type) data_type
unfolding no_parameters one_parameter
data_type_lies text table place null_type fits above lies referred = plain text table 1 null_type refl refl refl
data_type_lies text table place (int_type width signed) fits above lies referred =
    int_lies text table place width signed lies referred
data_type_lies text table place (floating_point_type precision) fits above lies referred =
    single text table 3 _ 2 0 (precision_number precision) (floating_point_type precision) refl refl
    (floating_point_means precision) referred
    (short_lies text place 0 (precision_number precision) lies (precision_fits precision))
data_type_lies text table place binary_type fits above lies referred = plain text table 4 binary_type refl refl refl
data_type_lies text table place utf8_type fits above lies referred = plain text table 5 utf8_type refl refl refl
data_type_lies text table place bool_type fits above lies referred = plain text table 6 bool_type refl refl refl
data_type_lies text table place (decimal_type p s width) fits above lies referred =
    decimal_lies text table place p s width fits.0 fits.1 lies referred
data_type_lies text table place (date_type unit) fits above lies referred =
    single text table 8 _ 2 1 (date_unit_number unit) (date_type unit) refl refl (date_means unit) referred
    (short_lies text place 1 (date_unit_number unit) lies (date_unit_fits unit))
data_type_lies text table place (time_type unit) fits above lies referred =
    time_lies text table place unit lies referred
data_type_lies text table place (timestamp_type unit None) fits above lies referred =
    timestamp_plain text table place unit lies referred
data_type_lies text table place (timestamp_type unit (Some timezone)) fits above lies referred =
    timestamp_zoned text table place unit timezone fits lies referred
data_type_lies text table place list_type fits above lies referred = plain text table 12 list_type refl refl refl
data_type_lies text table place struct_type fits above lies referred = plain text table 13 struct_type refl refl refl
data_type_lies text table place (fixed_size_binary_type z) fits above lies referred =
    single text table 15 _ 4 0 (int32_number z) (fixed_size_binary_type z) refl refl
    (fixed_size_binary_means z fits above) referred
    (word_lies text place 0 (int32_number z) lies (int32_fits z fits))
data_type_lies text table place (fixed_size_list_type z) fits above lies referred =
    single text table 16 _ 4 0 (int32_number z) (fixed_size_list_type z) refl refl
    (fixed_size_list_means z fits above) referred
    (word_lies text place 0 (int32_number z) lies (int32_fits z fits))
data_type_lies text table place (duration_type unit) fits above lies referred =
    single text table 18 _ 2 1 (time_unit_number unit) (duration_type unit) refl refl (duration_means unit) referred
    (short_lies text place 1 (time_unit_number unit) lies (time_unit_fits unit))
