-- What is served of an upload: Apache Arrow, "Flight.proto", `FlightData`, in frames of gRPC ("gRPC over HTTP2",
-- "Length-Prefixed-Message").
use Rattle.std.specs.Prelude.{ℕ, Option, None, List, [], ◌∷◌, map}
use Rattle.grpc_frames.specs.Frame.{Frame, frame_text}
use Rattle.proto_messages.specs.Canonical.{canonical}
use Rattle.proto_wire.specs.Flight.{data_descriptor}
use Rattle.header_types.specs.Fields.{SchemaTree}
use Rattle.batch_types.specs.Cells.{Rows}
use Rattle.batch_types.specs.Canonical.{canonical_body}
use Rattle.table_types.specs.Uploads.{Upload, schema_text, head_text}

-- a message with this header, what the service adds, and this body
abbrev pub data_text : List ℕ → List ℕ → List ℕ → List ℕ
data_text header metadata body = canonical data_descriptor (None, (header, (metadata, (body, tt))))

-- in a frame of its own, which is no trailer
abbrev pub in_frame : List ℕ → List ℕ
in_frame payload = frame_text (record { flag = 0; payload = payload })

-- the messages of an upload: each batch with the upload's id; without batches one message with the id alone
abbrev pub batch_message : Upload → Rows → List ℕ
batch_message upload rows =
    data_text (head_text upload.schema rows) upload.id (canonical_body upload.schema rows)

abbrev pub messages_of : Upload → List Rows → List (List ℕ)
messages_of upload [] = data_text [] upload.id [] ∷ []
messages_of upload (rows ∷ rest) = map (batch_message upload) (rows ∷ rest)

abbrev pub upload_messages : Upload → List (List ℕ)
upload_messages upload = messages_of upload upload.batches

-- the message with which an answer begins: the schema alone
abbrev pub schema_message : SchemaTree → List ℕ
schema_message schema = data_text (schema_text schema) [] []
