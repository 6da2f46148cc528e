use Rattle.std.proofs.Common.{take}
use Rattle.proto_messages.specs.Canonical.{bytes_field, canonical, canonical_fields, Fits, FitsEmbedded}
use Rattle.proto_messages.proofs.CallerLemmas.{Appended}
use Rattle.proto_messages.proofs.appending.append_messages.Given as goal

abbrev pub invariant-loop-message : goal.invariant-loop-message
invariant-loop-message g l =
    let descriptor = g.M.ProtoMessage.descriptor in
    Appended g.M.ProtoMessage.values (λ value. bytes_field l.number (canonical descriptor value)) (FitsEmbedded (Fits descriptor) (canonical_fields descriptor))
    l.fn.out.items (take l.message-index l.messages) l.out.items
