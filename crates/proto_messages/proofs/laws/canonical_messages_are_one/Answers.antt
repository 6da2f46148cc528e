use Rattle.std.proofs.Common.{sym, subst}
use Rattle.proto_messages.specs.Canonical.{canonical}
use Rattle.proto_messages.specs.Descriptor.{IsMessage}
use Rattle.proto_messages.proofs.MessageFaults.{message_is_one}
use Rattle.proto_messages.proofs.MessageWriting.{canonical_is_message}
use Rattle.proto_messages.proofs.laws.canonical_messages_are_one.Goals as goal

pub returns : goal.returns
returns c = λ descriptor v w rises fits_v fits_w same.
    message_is_one descriptor (canonical descriptor v) v w (canonical_is_message descriptor v rises fits_v)
    (subst (λ text. IsMessage descriptor text w) (sym same) (canonical_is_message descriptor w rises fits_w))
