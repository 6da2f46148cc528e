-- What is told of an upload that counts: Apache Arrow, "Flight.proto", `PutResult`, "Upload response message". Its metadata are
-- a message of two fields in its one written encoding (Protocol Buffers, "Encoding"), which is this service's own: the
-- upload's id, and the version that it made.
use Rattle.std.specs.Prelude.{ℕ, List}
use Rattle.proto_fields.specs.Scalar.{TypeBytes, TypeUint64}
use Rattle.proto_messages.specs.Descriptor.{Descriptor, NoMore, One}
use Rattle.proto_messages.specs.Canonical.{canonical}
use Rattle.proto_wire.specs.Flight.{put_result_descriptor}

-- id, version
abbrev pub applied_descriptor : Descriptor
applied_descriptor = One 1 TypeBytes (One 2 TypeUint64 NoMore)

-- the metadata, and the message
abbrev pub applied_text : List ℕ → ℕ → List ℕ
applied_text id version = canonical applied_descriptor (id, (version, tt))

abbrev pub put_result : List ℕ → ℕ → List ℕ
put_result id version = canonical put_result_descriptor (applied_text id version, tt)
