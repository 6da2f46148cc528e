-- The messages that tell of what a backend described, by what it holds: tools of the contracts of private functions. What
-- they have to be is defined in `Replies`.
use Rattle.std.specs.Prelude.{ℕ, true, List, [], ◌∷◌, map, Some, string_bytes}
use Rattle.proto_messages.specs.Descriptor.{Values}
use Rattle.proto_messages.specs.Canonical.{canonical}
use Rattle.proto_wire.specs.Flight.{info_descriptor, endpoint_descriptor, schema_result_descriptor}
use Rattle.header_writing.specs.Canonical.{encapsulated}
use Rattle.table_types.specs.Valid.{FitsFrame}
use Rattle.table_types.specs.Ticket.{TableVersion, IsTableVersion, ticket_text}
use Rattle.call_protocol.specs.Names.{table_descriptor}
use Rattle.flight_calls.specs.declared.table_description.TableDescription.{TableDescription}
use Rattle.flight_calls.specs.Replies.{total_of}

-- the version that is described
abbrev pub version_in : TableDescription → TableVersion
version_in d = record { table = string_bytes d.info.table; version = d.info.version }

abbrev pub locations_in : TableDescription → List (List ℕ)
locations_in d = map string_bytes d.locations.items

-- there can be such a version, and a frame has room for its schema
pub record CanBeTold (d : TableDescription) : Type 0 where
  pub valid : IsTableVersion (version_in d)
  pub small : FitsFrame d.info.schema.items

-- where a version is served
abbrev pub endpoint_told : TableVersion → List (List ℕ) → Values endpoint_descriptor
endpoint_told version locations = (Some (ticket_text version, tt), (map (λ uri. (uri, tt)) locations, tt))

-- what is told of a version, with the message of its schema
abbrev pub values_told : TableVersion → ℕ → ℕ → List ℕ → List (List ℕ) → Values info_descriptor
values_told version records total_bytes schema locations = (
  encapsulated schema,
  (
    Some (table_descriptor version.table),
    (endpoint_told version locations ∷ [], (total_of records, (total_of total_bytes, (true, tt)))),
  ),
)

unfoldable pub message_told : TableVersion → ℕ → ℕ → List ℕ → List (List ℕ) → List ℕ
message_told version records total_bytes schema locations =
    canonical info_descriptor (values_told version records total_bytes schema locations)

-- the message that tells of what is described
abbrev pub message_of : TableDescription → List ℕ
message_of d = message_told (version_in d) d.info.records d.info.total_bytes d.info.schema.items (locations_in d)

-- the message with a schema, whose own message this is
abbrev pub schema_told : List ℕ → List ℕ
schema_told schema = canonical schema_result_descriptor (encapsulated schema, tt)
