-- The words of types and of fields (Apache Arrow, "Schema.fbs", the union `Type` and the table `Field`; the words are this service's own, after those that Arrow's
-- libraries print). Texts are lists of bytes.
use Rattle.std.specs.Prelude.{◌≡◌, ◌<◌, ◌==◌, ◌++◌, ⊤, ℕ, zero, suc, Bool, true, false, if◌then◌else◌, List, [], ◌∷◌, Option, Some, None, codes, length, unwrap_or}
use Rattle.std.specs.Fmt.{signed_decimal}
use Rattle.std.specs.List.{before_first, after_first, position_or_len, slice_split}
use Rattle.std.specs.Str.{IsTrimAscii}
use Rattle.header_types.specs.declared.field_type.BitWidth.TheVariants.{Eight, Sixteen, ThirtyTwo, SixtyFour}
use Rattle.header_types.specs.declared.field_type.DecimalWidth.{DecimalWidth}
use Rattle.header_types.specs.declared.field_type.DecimalWidth.TheVariants.{OneHundredTwentyEight, TwoHundredFiftySix}
use Rattle.header_types.specs.declared.field_type.Precision.TheVariants.{Half, Single, Double}
use Rattle.header_types.specs.declared.field_type.DateUnit.TheVariants as date
use Rattle.header_types.specs.declared.field_type.TimeUnit.{TimeUnit}
use Rattle.header_types.specs.declared.field_type.TimeUnit.TheVariants.{Second, Millisecond, Microsecond, Nanosecond}
use Rattle.header_types.specs.Fields.{Text, DataType, null_type, int_type, floating_point_type, binary_type, utf8_type, bool_type, decimal_type, date_type, time_type, timestamp_type, list_type, struct_type, fixed_size_binary_type, fixed_size_list_type, duration_type}
use Rattle.header_types.specs.Fields.{FieldHead, Tree, tree, Forest, no_more, more, SchemaTree}

-- ---- types

-- The words of a type that has nothing inside it and no number or text among its parameters.
abbrev pub plain_words : DataType → Option Text
plain_words null_type = Some (codes "null")
plain_words (int_type Eight true) = Some (codes "int8")
plain_words (int_type Sixteen true) = Some (codes "int16")
plain_words (int_type ThirtyTwo true) = Some (codes "int32")
plain_words (int_type SixtyFour true) = Some (codes "int64")
plain_words (int_type Eight false) = Some (codes "uint8")
plain_words (int_type Sixteen false) = Some (codes "uint16")
plain_words (int_type ThirtyTwo false) = Some (codes "uint32")
plain_words (int_type SixtyFour false) = Some (codes "uint64")
plain_words (floating_point_type Half) = Some (codes "float16")
plain_words (floating_point_type Single) = Some (codes "float32")
plain_words (floating_point_type Double) = Some (codes "float64")
plain_words binary_type = Some (codes "binary")
plain_words utf8_type = Some (codes "utf8")
plain_words bool_type = Some (codes "bool")
plain_words (decimal_type _ _ _) = None
plain_words (date_type date.Day) = Some (codes "date32")
plain_words (date_type date.Millisecond) = Some (codes "date64")
plain_words (time_type Second) = Some (codes "time32[s]")
plain_words (time_type Millisecond) = Some (codes "time32[ms]")
plain_words (time_type Microsecond) = Some (codes "time64[us]")
plain_words (time_type Nanosecond) = Some (codes "time64[ns]")
plain_words (timestamp_type Second None) = Some (codes "timestamp[s]")
plain_words (timestamp_type Millisecond None) = Some (codes "timestamp[ms]")
plain_words (timestamp_type Microsecond None) = Some (codes "timestamp[us]")
plain_words (timestamp_type Nanosecond None) = Some (codes "timestamp[ns]")
plain_words (timestamp_type _ (Some _)) = None
plain_words list_type = None
plain_words struct_type = None
plain_words (fixed_size_binary_type _) = None
plain_words (fixed_size_list_type _) = None
plain_words (duration_type Second) = Some (codes "duration[s]")
plain_words (duration_type Millisecond) = Some (codes "duration[ms]")
plain_words (duration_type Microsecond) = Some (codes "duration[us]")
plain_words (duration_type Nanosecond) = Some (codes "duration[ns]")

-- The words of any type, with those of the fields inside it. Numbers are decimal.
abbrev pub decimal_name : DecimalWidth → Text
decimal_name OneHundredTwentyEight = codes "decimal128("
decimal_name TwoHundredFiftySix = codes "decimal256("

abbrev pub unit_name : TimeUnit → Text
unit_name Second = codes "s"
unit_name Millisecond = codes "ms"
unit_name Microsecond = codes "us"
unit_name Nanosecond = codes "ns"

abbrev pub composed_words : DataType → Text → Text
composed_words (decimal_type precision scale width) inside =
    decimal_name width ++ (signed_decimal precision ++ (codes ", " ++ (signed_decimal scale ++ codes ")")))
composed_words (timestamp_type unit (Some zone)) inside = codes "timestamp[" ++ (unit_name unit ++ (codes ", " ++ (zone ++ codes "]")))
composed_words (fixed_size_binary_type width) inside = codes "fixed_size_binary[" ++ (signed_decimal width ++ codes "]")
composed_words list_type inside = codes "list<" ++ (inside ++ codes ">")
composed_words struct_type inside = codes "struct<" ++ (inside ++ codes ">")
composed_words (fixed_size_list_type size) inside =
    codes "fixed_size_list<" ++ (inside ++ (codes ">[" ++ (signed_decimal size ++ codes "]")))
composed_words _ inside = []

abbrev pub type_words : DataType → Text → Text
type_words t inside = unwrap_or (plain_words t) (composed_words t inside)

-- The words of a field, and those of fields side by side: its name, a colon, the words of its type, and `not null` where it may
-- hold no null.
abbrev pub head_words : FieldHead → Text → Text
head_words head inside =
    head.name ++ (codes ": " ++ (type_words head.data_type inside ++ (if head.nullable then [] else codes " not null")))

-- what stands before the words of the field in this place, from 0 on
abbrev pub comma_before : ℕ → Text
comma_before zero = []
comma_before (suc _) = codes ", "

abbrev mutual
  pub tree_words : Tree → Text
  tree_words (tree head _ inside) = head_words head (forest_words inside)

  pub forest_words : Forest → Text
  forest_words no_more = []
  forest_words (more t no_more) = tree_words t
  forest_words (more t (more u rest)) = tree_words t ++ (codes ", " ++ forest_words (more u rest))

-- ---- fields

abbrev pub is_colon : ℕ → Bool
is_colon b = b == 58

abbrev pub is_comma : ℕ → Bool
is_comma b = b == 44

abbrev pub is_space : ℕ → Bool
is_space b = b == 32

-- These words say of a field that it has this type and may hold nulls, or with `not null` behind them that it may hold none.
abbrev pub SpellsType : Text → DataType → Bool → Type 0
SpellsType said t true = plain_words t ≡ Some said
SpellsType said t false =
    (position_or_len is_space said < length said) × (plain_words t ≡ Some (before_first is_space said))
    × IsTrimAscii (after_first is_space said) (codes "not null")

-- A field is its name, a colon and what is said of it; white space round each of the two is passed over.
pub record SpellsField (part : Text) (head : FieldHead) : Type 0 where
  pub has_colon : position_or_len is_colon part < length part
  pub name : IsTrimAscii (before_first is_colon part) head.name
  pub said : Text
  pub behind : IsTrimAscii (after_first is_colon part) said
  pub type_said : SpellsType said head.data_type head.nullable

-- each part is a field, which has no metadata and nothing inside it
abbrev pub SpellsFields : List Text → Forest → Type 0
SpellsFields [] no_more = ⊤
SpellsFields [] (more _ _) = ⊥
SpellsFields (_ ∷ _) no_more = ⊥
SpellsFields (part ∷ parts) (more (tree head entries inside) others) =
    SpellsField part head × (entries ≡ []) × (inside ≡ no_more) × SpellsFields parts others

-- The words of a schema are those of its fields, with a comma between each two of them. It has no metadata.
pub record SpellsSchema (words : Text) (schema : SchemaTree) : Type 0 where
  pub fields : SpellsFields (slice_split is_comma words) schema.fields
  pub metadata : schema.metadata ≡ []
