-- What answers a ticket: the frames of a version of a table. Apache Arrow, "Flight.proto", `FlightData`; gRPC, "gRPC over
-- HTTP2", "Length-Prefixed-Message".
use Rattle.std.specs.Prelude.{ℕ, List, ◌∷◌, ◌++◌, map}
use Rattle.std.specs.List.{flat_map}
use Rattle.table_types.specs.Served.{in_frame, upload_messages, schema_message}
use Rattle.table_types.specs.Tables.{Version}

-- the schema, and then what is served of each upload
abbrev pub answer_messages : Version → List (List ℕ)
answer_messages version = schema_message version.schema ∷ flat_map upload_messages version.uploads

abbrev pub answer_of : Version → List ℕ
answer_of version = flat_map in_frame (answer_messages version)
