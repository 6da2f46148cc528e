use Rattle.std.proofs.Common.{◌≡◌, IfOk, subst}
use Rattle.proto_messages.specs.Descriptor.{Values}
use Rattle.proto_messages.specs.Canonical.{canonical}
use Rattle.proto_wire.specs.Flight.{info_descriptor}
use Rattle.flight_calls.specs.Describing.{message_told}
use Rattle.flight_calls.proofs.describing.info_message.Goals as goal

pub returns : goal.returns
unfolding message_told
returns c =
    subst (λ (values : Values info_descriptor). IfOk c.encoded.result (λ bytes. bytes.items ≡ canonical info_descriptor values)) c.in_ok-info.ensures
    c.encoded.ensures
