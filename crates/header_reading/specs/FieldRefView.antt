-- What the program reads of a field, as the field of the definitions.
use Rattle.std.specs.Prelude.{Option}
use Rattle.std.specs.Option.{option_map}
use Rattle.header_reading.specs.declared.field.FieldRef.{FieldRef}
use Rattle.header_types.specs.Fields.{Text, DataType, null_type, int_type, floating_point_type, binary_type, utf8_type}
use Rattle.header_types.specs.Fields.{bool_type, decimal_type, date_type, time_type, timestamp_type, list_type}
use Rattle.header_types.specs.Fields.{struct_type, fixed_size_binary_type, fixed_size_list_type, duration_type}
use Rattle.header_types.specs.Fields.{FieldHead}
use Rattle.header_types.specs.Views.{data_type_of}

-- the type with this time zone, where it is one that has a time zone
abbrev pub with_timezone : DataType → Option Text → DataType
with_timezone null_type timezone = null_type
with_timezone (int_type width signed) timezone = int_type width signed
with_timezone (floating_point_type precision) timezone = floating_point_type precision
with_timezone binary_type timezone = binary_type
with_timezone utf8_type timezone = utf8_type
with_timezone bool_type timezone = bool_type
with_timezone (decimal_type precision scale width) timezone = decimal_type precision scale width
with_timezone (date_type unit) timezone = date_type unit
with_timezone (time_type unit) timezone = time_type unit
with_timezone (timestamp_type unit old) timezone = timestamp_type unit timezone
with_timezone list_type timezone = list_type
with_timezone struct_type timezone = struct_type
with_timezone (fixed_size_binary_type byte_width) timezone = fixed_size_binary_type byte_width
with_timezone (fixed_size_list_type list_size) timezone = fixed_size_list_type list_size
with_timezone (duration_type unit) timezone = duration_type unit

abbrev pub field_view : FieldRef → FieldHead
field_view c = record {
  name = c.name.now;
  nullable = c.nullable;
  data_type = with_timezone (data_type_of c.ty) (option_map (λ zone. zone.now) c.timezone);
}
