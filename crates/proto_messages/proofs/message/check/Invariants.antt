use Rattle.std.proofs.Common.{List, length}
use Rattle.proto_fields.specs.Field.{Field, FieldsThen}
use Rattle.proto_messages.proofs.Sound.{AllSound}
use Rattle.proto_messages.proofs.message.check.Given as goal

-- every field so far is sound
abbrev pub invariant-loop-left : goal.invariant-loop-left
invariant-loop-left g l = (fields : List Field) × FieldsThen l.bytes fields l.left × AllSound g.M.ProtoMessage.descriptor fields

abbrev pub decreases-loop-left : goal.decreases-loop-left
decreases-loop-left g l = length l.left
