use Rattle.std.proofs.Common.{length}
use Rattle.proto_fields.specs.Field.{FieldsThen, fields_of}
use Rattle.proto_fields.proofs.field.collect_fields.Given as goal

abbrev pub invariant-loop-rest : goal.invariant-loop-rest
invariant-loop-rest l = FieldsThen l.bytes (fields_of l.fields.items) l.rest

abbrev pub decreases-loop-rest : goal.decreases-loop-rest
decreases-loop-rest l = length l.rest
