use Rattle.std.proofs.Common.{length}
use Rattle.proto_messages.specs.Taking.{Takes}
use Rattle.proto_messages.proofs.Merging.{Merged}
use Rattle.proto_messages.proofs.message.merge.Given as goal

abbrev pub invariant-loop-rest : goal.invariant-loop-rest
invariant-loop-rest g l =
    Merged (Takes g.M.ProtoMessage.descriptor) l.bytes l.rest (g.M.ProtoMessage.values l.fn.message) (g.M.ProtoMessage.values l.message)

abbrev pub decreases-loop-rest : goal.decreases-loop-rest
decreases-loop-rest g l = length l.rest
