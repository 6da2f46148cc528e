use Rattle.std.proofs.Common.{◌≡◌, ℕ, List, IfOk, subst}
use Rattle.proto_messages.specs.Canonical.{canonical}
use Rattle.proto_wire.specs.Flight.{schema_result_descriptor}
use Rattle.flight_calls.proofs.describing.schema_message.Goals as goal

pub returns : goal.returns
returns c =
    subst (λ (text : List ℕ). IfOk c.encoded.result (λ bytes. bytes.items ≡ canonical schema_result_descriptor (text, tt))) c.in_ok-schema.ensures
    c.encoded.ensures
