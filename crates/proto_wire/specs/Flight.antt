-- The messages of Arrow Flight, each as the list of its fields: Apache Arrow, "Flight.proto".
use Rattle.std.specs.Prelude.{ℤ, pos}
use Rattle.proto_fields.specs.Scalar.{TypeEnum, TypeInt64, TypeBool, TypeBytes, TypeString}
use Rattle.proto_messages.specs.Descriptor.{Descriptor, NoMore, One, Strings, Message, Messages}

-- the numbers of the types of a descriptor: "enum DescriptorType"
abbrev pub unknown_type : ℤ
unknown_type = pos 0

abbrev pub path_type : ℤ
path_type = pos 1

abbrev pub cmd_type : ℤ
cmd_type = pos 2

-- type, cmd, path
abbrev pub flight_descriptor_descriptor : Descriptor
flight_descriptor_descriptor = One 1 TypeEnum (One 2 TypeBytes (Strings 3 NoMore))

-- ticket
abbrev pub ticket_descriptor : Descriptor
ticket_descriptor = One 1 TypeBytes NoMore

-- uri
abbrev pub location_descriptor : Descriptor
location_descriptor = One 1 TypeString NoMore

-- ticket, location
abbrev pub endpoint_descriptor : Descriptor
endpoint_descriptor = Message 1 ticket_descriptor (Messages 2 location_descriptor NoMore)

-- schema, flight_descriptor, endpoint, total_records, total_bytes, ordered
abbrev pub info_descriptor : Descriptor
info_descriptor =
    One 1 TypeBytes (Message 2 flight_descriptor_descriptor (Messages 3 endpoint_descriptor (One 4 TypeInt64 (One 5 TypeInt64 (One 6 TypeBool NoMore)))))

-- schema
abbrev pub schema_result_descriptor : Descriptor
schema_result_descriptor = One 1 TypeBytes NoMore

-- expression
abbrev pub criteria_descriptor : Descriptor
criteria_descriptor = One 1 TypeBytes NoMore

-- flight_descriptor, data_header, app_metadata, data_body
abbrev pub data_descriptor : Descriptor
data_descriptor = Message 1 flight_descriptor_descriptor (One 2 TypeBytes (One 3 TypeBytes (One 1000 TypeBytes NoMore)))

-- app_metadata
abbrev pub put_result_descriptor : Descriptor
put_result_descriptor = One 1 TypeBytes NoMore
