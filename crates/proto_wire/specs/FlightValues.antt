-- What each message of Arrow Flight holds, field by field in the order of its descriptor.
use Rattle.std.specs.Prelude.{map}
use Rattle.std.specs.Option.{option_copied, option_map}
use Rattle.std.specs.String.{string_bytes}
use Rattle.proto_wire.specs.declared.flight.descriptor.FlightDescriptor.{FlightDescriptor}
use Rattle.proto_wire.specs.declared.flight.endpoint.Ticket.{Ticket}
use Rattle.proto_wire.specs.declared.flight.endpoint.Location.{Location}
use Rattle.proto_wire.specs.declared.flight.endpoint.FlightEndpoint.{FlightEndpoint}
use Rattle.proto_wire.specs.declared.flight.info.FlightInfo.{FlightInfo}
use Rattle.proto_wire.specs.declared.flight.info.SchemaResult.{SchemaResult}
use Rattle.proto_wire.specs.declared.flight.info.Criteria.{Criteria}
use Rattle.proto_wire.specs.declared.flight.data.FlightData.{FlightData}
use Rattle.proto_wire.specs.declared.flight.data.FlightDataRef.{FlightDataRef}
use Rattle.proto_wire.specs.declared.flight.data.PutResult.{PutResult}
use Rattle.proto_messages.specs.Descriptor.{Values}
use Rattle.proto_wire.specs.Flight.{flight_descriptor_descriptor, ticket_descriptor, location_descriptor, endpoint_descriptor, info_descriptor, schema_result_descriptor, criteria_descriptor, data_descriptor, put_result_descriptor}

abbrev pub descriptor_values : FlightDescriptor → Values flight_descriptor_descriptor
descriptor_values m = (m.descriptor_type.0, (m.cmd.items, (map string_bytes m.path.items, tt)))

abbrev pub ticket_values : Ticket → Values ticket_descriptor
ticket_values m = (m.ticket.items, tt)

abbrev pub location_values : Location → Values location_descriptor
location_values m = (string_bytes m.uri, tt)

abbrev pub endpoint_values : FlightEndpoint → Values endpoint_descriptor
endpoint_values m = (option_map ticket_values m.ticket, (map location_values m.location.items, tt))

abbrev pub info_values : FlightInfo → Values info_descriptor
info_values m = (
  m.schema.items,
  (
    option_map descriptor_values m.flight_descriptor,
    (map endpoint_values m.endpoint.items, (m.total_records, (m.total_bytes, (m.ordered, tt)))),
  ),
)

abbrev pub schema_result_values : SchemaResult → Values schema_result_descriptor
schema_result_values m = (m.schema.items, tt)

abbrev pub criteria_values : Criteria → Values criteria_descriptor
criteria_values m = (m.expression.items, tt)

abbrev pub data_values : FlightData → Values data_descriptor
data_values m =
    (option_map descriptor_values m.flight_descriptor, (m.data_header.items, (m.app_metadata.items, (m.data_body.items, tt))))

-- the same of lent bytes
abbrev pub data_ref_values : FlightDataRef → Values data_descriptor
data_ref_values m =
    (option_map descriptor_values (option_copied m.flight_descriptor), (m.data_header.now, (m.app_metadata.now, (m.data_body.now, tt))))

abbrev pub put_result_values : PutResult → Values put_result_descriptor
put_result_values m = (m.app_metadata.items, tt)
