-- What a client writes for each call: Apache Arrow, "Flight.proto", service `FlightService`, and "Arrow Flight RPC", "RPC Methods
-- and Request Patterns". How tables and uploads are named in a descriptor is this service's own.
use Rattle.std.specs.Prelude.{ℕ, List, [], ◌∷◌, map, Some}
use Rattle.proto_messages.specs.Canonical.{canonical}
use Rattle.proto_wire.specs.Flight.{flight_descriptor_descriptor, criteria_descriptor, ticket_descriptor, data_descriptor}
use Rattle.header_types.specs.Fields.{SchemaTree}
use Rattle.batch_types.specs.Cells.{Rows}
use Rattle.batch_types.specs.Canonical.{canonical_body}
use Rattle.table_types.specs.Uploads.{Upload, schema_text, head_text}
use Rattle.table_types.specs.Served.{data_text}
use Rattle.table_types.specs.Ticket.{TableVersion, ticket_text}
use Rattle.call_protocol.specs.declared.method.Method.TheVariants as methods
use Rattle.call_protocol.specs.Methods.{path_text}
use Rattle.call_protocol.specs.Names.{table_descriptor, upload_descriptor}
use Rattle.call_protocol.specs.Texts.{call_text}

-- ---- what is told of a table

-- the one message: a descriptor of the table
abbrev pub table_message : List ℕ → List ℕ
table_message table = canonical flight_descriptor_descriptor (table_descriptor table)

abbrev pub info_request : List ℕ → List ℕ
info_request table = call_text (path_text methods.GetFlightInfo) (table_message table ∷ [])

-- ---- what is told of all tables

-- the one message: criteria without an expression, which all tables meet
abbrev pub criteria_message : List ℕ
criteria_message = canonical criteria_descriptor ([], tt)

abbrev pub list_request : List ℕ
list_request = call_text (path_text methods.ListFlights) (criteria_message ∷ [])

-- ---- the batches of a version

-- the one message: a ticket
abbrev pub ticket_message : TableVersion → List ℕ
ticket_message asked = canonical ticket_descriptor (ticket_text asked, tt)

abbrev pub get_request : TableVersion → List ℕ
get_request asked = call_text (path_text methods.DoGet) (ticket_message asked ∷ [])

-- ---- an upload

-- the first message: which upload to which table it is, and the schema
abbrev pub opening_message : Upload → List ℕ
opening_message upload =
    canonical data_descriptor (Some (upload_descriptor upload.table upload.id), (schema_text upload.schema, ([], ([], tt))))

-- the message of a batch
abbrev pub further_message : SchemaTree → Rows → List ℕ
further_message schema rows = data_text (head_text schema rows) [] (canonical_body schema rows)

abbrev pub put_messages : Upload → List (List ℕ)
put_messages upload = opening_message upload ∷ map (further_message upload.schema) upload.batches

abbrev pub put_request : Upload → List ℕ
put_request upload = call_text (path_text methods.DoPut) (put_messages upload)
