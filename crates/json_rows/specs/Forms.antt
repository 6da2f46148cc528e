-- How the cells of each type stand in JSON: Apache Arrow, "Schema.fbs", the union `Type`, and RFC 8259, section 3. Dates,
-- times, timestamps and durations are the whole numbers that they are in a batch.
use Rattle.std.specs.Prelude.{true, nat_abs}
use Rattle.header_types.specs.declared.field_type.BitWidth.TheVariants.{ThirtyTwo, SixtyFour}
use Rattle.header_types.specs.declared.field_type.Precision.TheVariants as precision
use Rattle.header_types.specs.declared.field_type.DateUnit.TheVariants as date
use Rattle.header_types.specs.declared.field_type.TimeUnit.TheVariants as time
use Rattle.header_types.specs.Fields.{DataType, null_type, int_type, floating_point_type, binary_type, utf8_type}
use Rattle.header_types.specs.Fields.{bool_type, decimal_type, date_type, time_type, timestamp_type, list_type}
use Rattle.header_types.specs.Fields.{struct_type, fixed_size_binary_type, fixed_size_list_type, duration_type}
use Rattle.json_rows.specs.declared.form.Form.{Form}
use Rattle.json_rows.specs.declared.form.Form.TheVariants.{Null, Bool, Whole, Single, Double, Text, Bytes, SizedBytes, List, SizedList, Struct, Unsupported}

abbrev pub form_of : DataType → Form
form_of null_type = Null
form_of (int_type width signed) = Whole width signed
form_of (floating_point_type precision.Half) = Unsupported
form_of (floating_point_type precision.Single) = Single
form_of (floating_point_type precision.Double) = Double
form_of binary_type = Bytes
form_of utf8_type = Text
form_of bool_type = Bool
form_of (decimal_type precision scale width) = Unsupported
form_of (date_type date.Day) = Whole ThirtyTwo true
form_of (date_type date.Millisecond) = Whole SixtyFour true
form_of (time_type time.Second) = Whole ThirtyTwo true
form_of (time_type time.Millisecond) = Whole ThirtyTwo true
form_of (time_type time.Microsecond) = Whole SixtyFour true
form_of (time_type time.Nanosecond) = Whole SixtyFour true
form_of (timestamp_type unit timezone) = Whole SixtyFour true
form_of list_type = List
form_of struct_type = Struct
form_of (fixed_size_binary_type byte_width) = SizedBytes (nat_abs byte_width)
form_of (fixed_size_list_type list_size) = SizedList (nat_abs list_size)
form_of (duration_type unit) = Whole SixtyFour true
