use Rattle.proto_fields.specs.Varint.{varint_text}
use Rattle.proto_messages.proofs.Strips.{GivesAs}
use Rattle.proto_messages.proofs.stripping.strip_number.Given as goal

abbrev pub invariant-loop-left : goal.invariant-loop-left
invariant-loop-left l = GivesAs (varint_text l.left) l.rest (varint_text l.number) l.bytes

abbrev pub decreases-loop-left : goal.decreases-loop-left
decreases-loop-left l = l.left
