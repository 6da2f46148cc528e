use Rattle.std.proofs.Common.{drop}
use Rattle.proto_messages.specs.Canonical.{bytes_field, canonical}
use Rattle.proto_messages.proofs.Strips.{GivesAs, text_of}
use Rattle.proto_messages.proofs.stripping.strip_messages.Given as goal

abbrev pub invariant-loop-message : goal.invariant-loop-message
invariant-loop-message g l =
    GivesAs (text_of g.M.ProtoMessage.values (λ value. bytes_field l.number (canonical g.M.ProtoMessage.descriptor value)) (drop l.message-index l.messages)) l.rest
    (text_of g.M.ProtoMessage.values (λ value. bytes_field l.number (canonical g.M.ProtoMessage.descriptor value)) l.messages) l.bytes
