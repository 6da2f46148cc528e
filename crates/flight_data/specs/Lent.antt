-- What a message holds whose bytes are lent, field by field in the order of its descriptor.
use Rattle.std.specs.Option.{option_map}
use Rattle.proto_messages.specs.Descriptor.{Values}
use Rattle.proto_wire.specs.Flight.{data_descriptor}
use Rattle.proto_wire.specs.FlightValues.{descriptor_values}
use Rattle.flight_data.specs.declared.lent.LentFlightData.{LentFlightData}

abbrev pub lent_values : LentFlightData → Values data_descriptor
lent_values m =
    (option_map descriptor_values m.flight_descriptor, (m.data_header.now, (m.app_metadata.now, (m.data_body.now, tt))))
