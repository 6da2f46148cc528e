-- How the values of each type stand in buffers: Apache Arrow, "Arrow Columnar Format", "Physical memory layout", and
-- "Schema.fbs", the union `Type`, for the sizes.
use Rattle.std.specs.Prelude.{ℕ, nat_abs}
use Rattle.header_types.specs.declared.field_type.BitWidth.{BitWidth}
use Rattle.header_types.specs.declared.field_type.BitWidth.TheVariants.{Eight, Sixteen, ThirtyTwo, SixtyFour}
use Rattle.header_types.specs.declared.field_type.Precision.{Precision}
use Rattle.header_types.specs.declared.field_type.Precision.TheVariants.{Half, Single, Double}
use Rattle.header_types.specs.declared.field_type.DecimalWidth.{DecimalWidth}
use Rattle.header_types.specs.declared.field_type.DecimalWidth.TheVariants.{OneHundredTwentyEight, TwoHundredFiftySix}
use Rattle.header_types.specs.declared.field_type.DateUnit.{DateUnit}
use Rattle.header_types.specs.declared.field_type.DateUnit.TheVariants as date
use Rattle.header_types.specs.declared.field_type.TimeUnit.{TimeUnit}
use Rattle.header_types.specs.declared.field_type.TimeUnit.TheVariants as time
use Rattle.header_types.specs.Fields.{DataType, null_type, int_type, floating_point_type, binary_type, utf8_type}
use Rattle.header_types.specs.Fields.{bool_type, decimal_type, date_type, time_type, timestamp_type, list_type}
use Rattle.header_types.specs.Fields.{struct_type, fixed_size_binary_type, fixed_size_list_type, duration_type}

-- Offsets have so many bytes each: four, or eight for the types whose names begin with Large. The layout of texts is that
-- of bytes; they stand apart because texts have to be UTF-8.
pub data Layout : Type 0 where
  -- "Null layout": no buffer
  null_layout : Layout
  -- "Fixed-size primitive layout", bits: validity, data
  bits_layout : Layout
  -- "Fixed-size primitive layout", so many bytes a value: validity, data
  bytes_layout : ℕ → Layout
  -- "Variable-size binary layout", any bytes: validity, offsets, data
  binary_layout : ℕ → Layout
  -- "Variable-size binary layout", texts in UTF-8: validity, offsets, data
  utf8_layout : ℕ → Layout
  -- "Variable-size list layout": validity, offsets
  list_layout : ℕ → Layout
  -- "Fixed-size list layout", so many elements a value: validity
  fixed_size_list_layout : ℕ → Layout
  -- "Struct layout": validity
  struct_layout : Layout

-- ---- sizes of values, in bytes

abbrev pub int_size : BitWidth → ℕ
int_size Eight = 1
int_size Sixteen = 2
int_size ThirtyTwo = 4
int_size SixtyFour = 8

abbrev pub float_size : Precision → ℕ
float_size Half = 2
float_size Single = 4
float_size Double = 8

abbrev pub decimal_size : DecimalWidth → ℕ
decimal_size OneHundredTwentyEight = 16
decimal_size TwoHundredFiftySix = 32

abbrev pub date_size : DateUnit → ℕ
date_size date.Day = 4
date_size date.Millisecond = 8

abbrev pub time_size : TimeUnit → ℕ
time_size time.Second = 4
time_size time.Millisecond = 4
time_size time.Microsecond = 8
time_size time.Nanosecond = 8

-- offsets of the types that are not Large
abbrev pub offset_size : ℕ
offset_size = 4

-- ---- the layout of each type; a size that is below zero is no size of a type

abbrev pub layout_of : DataType → Layout
layout_of null_type = null_layout
layout_of (int_type width signed) = bytes_layout (int_size width)
layout_of (floating_point_type precision) = bytes_layout (float_size precision)
layout_of binary_type = binary_layout offset_size
layout_of utf8_type = utf8_layout offset_size
layout_of bool_type = bits_layout
layout_of (decimal_type precision scale width) = bytes_layout (decimal_size width)
layout_of (date_type unit) = bytes_layout (date_size unit)
layout_of (time_type unit) = bytes_layout (time_size unit)
layout_of (timestamp_type unit timezone) = bytes_layout 8
layout_of list_type = list_layout offset_size
layout_of struct_type = struct_layout
layout_of (fixed_size_binary_type byte_width) = bytes_layout (nat_abs byte_width)
layout_of (fixed_size_list_type list_size) = fixed_size_list_layout (nat_abs list_size)
layout_of (duration_type unit) = bytes_layout 8

-- "Buffer listing for each layout": how many buffers a column has, those of the columns inside it aside
abbrev pub buffers_in_layout : Layout → ℕ
buffers_in_layout null_layout = 0
buffers_in_layout bits_layout = 2
buffers_in_layout (bytes_layout size) = 2
buffers_in_layout (binary_layout offset) = 3
buffers_in_layout (utf8_layout offset) = 3
buffers_in_layout (list_layout offset) = 2
buffers_in_layout (fixed_size_list_layout size) = 1
buffers_in_layout struct_layout = 1
