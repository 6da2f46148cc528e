use Rattle.std.proofs.Common.{List, length}
use Rattle.proto_fields.specs.Field.{Field, FieldsThen}
use Rattle.proto_fields.proofs.field.check_fields.Given as goal

-- there are fields so far
abbrev pub invariant-loop-left : goal.invariant-loop-left
invariant-loop-left l = (fields : List Field) × FieldsThen l.bytes fields l.left

abbrev pub decreases-loop-left : goal.decreases-loop-left
decreases-loop-left l = length l.left
