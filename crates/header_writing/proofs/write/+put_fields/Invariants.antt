use Rattle.header_writing.specs.Writing.{FieldsLeft}
use Rattle.header_writing.proofs.write.+put_fields.Given as goal

abbrev pub decreases-put_fields : goal.decreases-put_fields
decreases-put_fields l = goal.size-put_fields l

abbrev pub invariant-loop-index : goal.invariant-loop-index
invariant-loop-index l = FieldsLeft l.fn.text.items l.text.items l.from l.start l.index l.fields
