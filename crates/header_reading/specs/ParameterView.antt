-- The program's parameters of a type, as those of the definitions.
use Rattle.std.specs.Prelude.{◌^◌, ◌<◌, ◌≤◌, Option, Some, None}
use Rattle.std.specs.Option.{option_map}
use Rattle.flat_places.specs.Number.{IsNumberSize}
use Rattle.header_reading.specs.declared.type_id.Parameter.{Parameter as ReadParameter}
use Rattle.header_reading.specs.declared.type_id.Parameters.{Parameters as ReadParameters}
use Rattle.header_types.specs.TypeIds.{Parameter, Parameters}

abbrev pub parameter_view : ReadParameter → Parameter
parameter_view p = record { size = p.size; default = p.default }

abbrev pub option_parameter_view : Option ReadParameter → Option Parameter
option_parameter_view = option_map parameter_view

abbrev pub parameters_view : ReadParameters → Parameters
parameters_view p =
    record {
      first = option_parameter_view p.first;
      second = option_parameter_view p.second;
      third =
          option_parameter_view p.third;
    }

-- a number of at most four bytes
abbrev pub IsShort : Option ReadParameter → Type 0
IsShort None = Unit {0}
IsShort (Some p) = IsNumberSize p.size × (p.size ≤ 4) × (p.default < 2 ^ 32)
