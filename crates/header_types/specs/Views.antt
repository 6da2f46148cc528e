-- What the values of the program say.
use Rattle.std.specs.Prelude.{List, [], ◌∷◌, map, String, string_bytes}
use Rattle.std.specs.Option.{option_map}
use Rattle.std.specs.declared.alloc.Global.{Global}
use Rattle.header_types.specs.declared.field_type.Ty.{Ty}
use Rattle.header_types.specs.declared.field_type.Ty.TheVariants as types
use Rattle.header_types.specs.declared.schema.Field.{Field, fold-Field}
use Rattle.header_types.specs.declared.schema.Field.TheOpen.{Field-F}
use Rattle.header_types.specs.declared.schema.Schema.{Schema}
use Rattle.header_types.specs.Fields.{Entry, DataType, null_type, int_type, floating_point_type, binary_type, utf8_type}
use Rattle.header_types.specs.Fields.{bool_type, decimal_type, date_type, time_type, timestamp_type, list_type}
use Rattle.header_types.specs.Fields.{struct_type, fixed_size_binary_type, fixed_size_list_type, duration_type, Tree}
use Rattle.header_types.specs.Fields.{tree, Forest, no_more, more, SchemaTree}

abbrev pub data_type_of : Ty → DataType
data_type_of types.Null = null_type
data_type_of (types.Int width signed) = int_type width signed
data_type_of (types.FloatingPoint precision) = floating_point_type precision
data_type_of types.Binary = binary_type
data_type_of types.Utf8 = utf8_type
data_type_of types.Bool = bool_type
data_type_of (types.Decimal precision scale width) = decimal_type precision scale width
data_type_of (types.Date unit) = date_type unit
data_type_of (types.Time unit) = time_type unit
data_type_of (types.Timestamp unit timezone) = timestamp_type unit (option_map string_bytes timezone)
data_type_of types.List = list_type
data_type_of types.Struct = struct_type
data_type_of (types.FixedSizeBinary byte_width) = fixed_size_binary_type byte_width
data_type_of (types.FixedSizeList list_size) = fixed_size_list_type list_size
data_type_of (types.Duration unit) = duration_type unit

abbrev pub entry_of : String Global × String Global → Entry
entry_of pair = (string_bytes pair.0, string_bytes pair.1)

abbrev pub forest_of : List Tree → Forest
forest_of [] = no_more
forest_of (t ∷ ts) = more t (forest_of ts)

-- one level, with each field inside already seen as its tree
abbrev pub tree_step : Field-F Tree → Tree
tree_step f =
    tree (record { name = string_bytes f.name; nullable = f.nullable; data_type = data_type_of f.ty })
    (map entry_of f.metadata.items) (forest_of f.children.items)

abbrev pub tree_of : Field → Tree
tree_of = fold-Field Tree tree_step

abbrev pub schema_of : Schema → SchemaTree
schema_of s = record { fields = forest_of (map tree_of s.fields.items); metadata = map entry_of s.metadata.items }
