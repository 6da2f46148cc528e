-- What is written of the program's values, and that their numbers are such of the program. Tools of the contracts of
-- private functions.
use Rattle.std.specs.Prelude.{ℕ, ℤ, List, [], ◌∷◌, ◌++◌, Some, None, IsUtf8}
use Rattle.std.specs.Int.{w64, w32}
use Rattle.std.specs.Int.RustNames.{FitsSigned}
use Rattle.std.specs.List.{AllByRecursion}
use Rattle.byteorder.specs.Endian.{little_bytes}
use Rattle.header_writing.specs.declared.layout.Cell.{Cell}
use Rattle.header_writing.specs.declared.layout.Cell.TheVariants.{Byte, Short, Word, Long}
use Rattle.header_types.specs.Fields.{Entry, DataType, null_type, int_type, floating_point_type, binary_type, utf8_type}
use Rattle.header_types.specs.Fields.{bool_type, decimal_type, date_type, time_type, timestamp_type, list_type}
use Rattle.header_types.specs.Fields.{struct_type, fixed_size_binary_type, fixed_size_list_type, duration_type}
use Rattle.header_types.specs.Fields.{FieldHead, Tree, tree, Forest, no_more, more, SchemaTree}
use Rattle.header_types.specs.Header.{Head}

abbrev pub cell_bytes : Cell → List ℕ
cell_bytes (Byte number) = little_bytes 1 number
cell_bytes (Short number) = little_bytes 2 number
cell_bytes (Word number) = little_bytes 4 number
cell_bytes (Long number) = little_bytes 8 number

abbrev pub cells_bytes : List Cell → List ℕ
cells_bytes [] = []
cells_bytes (cell ∷ rest) = cell_bytes cell ++ cells_bytes rest

-- ---- numbers of the program's types, and texts

abbrev pub FitsPair : ℤ × ℤ → Type 0
FitsPair pair = FitsSigned w64 pair.0 × FitsSigned w64 pair.1

abbrev pub FitsEntry : Entry → Type 0
FitsEntry entry = IsUtf8 entry.0 × IsUtf8 entry.1

abbrev pub FitsDataType : DataType → Type 0
FitsDataType null_type = Unit {0}
FitsDataType (int_type width signed) = Unit {0}
FitsDataType (floating_point_type precision) = Unit {0}
FitsDataType binary_type = Unit {0}
FitsDataType utf8_type = Unit {0}
FitsDataType bool_type = Unit {0}
FitsDataType (decimal_type precision scale width) = FitsSigned w32 precision × FitsSigned w32 scale
FitsDataType (date_type unit) = Unit {0}
FitsDataType (time_type unit) = Unit {0}
FitsDataType (timestamp_type unit None) = Unit {0}
FitsDataType (timestamp_type unit (Some timezone)) = IsUtf8 timezone
FitsDataType list_type = Unit {0}
FitsDataType struct_type = Unit {0}
FitsDataType (fixed_size_binary_type byte_width) = FitsSigned w32 byte_width
FitsDataType (fixed_size_list_type list_size) = FitsSigned w32 list_size
FitsDataType (duration_type unit) = Unit {0}

abbrev pub FitsField : FieldHead → Type 0
FitsField field = IsUtf8 field.name × FitsDataType field.data_type

abbrev mutual
  pub FitsTree : Tree → Type 0
  FitsTree (tree field entries inner) =
      IsUtf8 field.name × FitsDataType field.data_type × AllByRecursion FitsEntry entries × FitsForest inner

  pub FitsForest : Forest → Type 0
  FitsForest no_more = Unit {0}
  FitsForest (more t rest) = FitsTree t × FitsForest rest

pub record FitsSchema (schema : SchemaTree) : Type 0 where
  pub fields : FitsForest schema.fields
  pub metadata : AllByRecursion FitsEntry schema.metadata

-- what stands in the table of a batch
pub record FitsParts (head : Head) : Type 0 where
  pub length : FitsSigned w64 head.length
  pub nodes : AllByRecursion FitsPair head.nodes
  pub buffers : AllByRecursion FitsPair head.buffers

pub record FitsHead (head : Head) : Type 0 where
  pub length : FitsSigned w64 head.length
  pub nodes : AllByRecursion FitsPair head.nodes
  pub buffers : AllByRecursion FitsPair head.buffers
  pub body_length : FitsSigned w64 head.body_length
