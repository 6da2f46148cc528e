-- What a schema says: a tree of fields. Apache Arrow, "Schema.fbs", the tables `Schema`, `Field` and `KeyValue` and the
-- union `Type`. Texts are lists of bytes.
use Rattle.std.specs.Prelude.{ℕ, suc, ℤ, Bool, List, Option}
use Rattle.header_types.specs.declared.field_type.BitWidth.{BitWidth}
use Rattle.header_types.specs.declared.field_type.Precision.{Precision}
use Rattle.header_types.specs.declared.field_type.DecimalWidth.{DecimalWidth}
use Rattle.header_types.specs.declared.field_type.DateUnit.{DateUnit}
use Rattle.header_types.specs.declared.field_type.TimeUnit.{TimeUnit}

abbrev pub Text : Type 0
Text = List ℕ

-- a key and its value
abbrev pub Entry : Type 0
Entry = Text × Text

-- the union `Type`, with each type's parameters
pub data DataType : Type 0 where
  null_type : DataType
  int_type : BitWidth → Bool → DataType
  floating_point_type : Precision → DataType
  binary_type : DataType
  utf8_type : DataType
  bool_type : DataType
  decimal_type : ℤ → ℤ → DecimalWidth → DataType
  date_type : DateUnit → DataType
  time_type : TimeUnit → DataType
  timestamp_type : TimeUnit → Option Text → DataType
  list_type : DataType
  struct_type : DataType
  fixed_size_binary_type : ℤ → DataType
  fixed_size_list_type : ℤ → DataType
  duration_type : TimeUnit → DataType

-- a field, but for its metadata and the fields inside it
pub record FieldHead : Type 0 where
  pub name : Text
  pub nullable : Bool
  pub data_type : DataType

-- a field with its metadata and the fields inside it, in order
mutual
  pub data Tree : Type 0 where
    tree : FieldHead → List Entry → Forest → Tree

  pub data Forest : Type 0 where
    no_more : Forest
    more : Tree → Forest → Forest

-- how many trees stand side by side
abbrev pub width : Forest → ℕ
width no_more = 0
width (more t rest) = suc (width rest)

-- the top fields of a table, and the schema's metadata
pub record SchemaTree : Type 0 where
  pub fields : Forest
  pub metadata : List Entry
