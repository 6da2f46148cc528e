use Rattle.std.proofs.Common.{◌≡◌, ◌++◌}
use Rattle.proto_fields.specs.Varint.{varint_text}
use Rattle.proto_fields.specs.Writing.{Grows}
use Rattle.proto_fields.proofs.writing.append_number.Given as goal

abbrev pub invariant-loop-left : goal.invariant-loop-left
invariant-loop-left l =
    (l.out.items ++ varint_text l.left ≡ l.fn.out.items ++ varint_text l.number) × Grows l.fn.out.items l.out.items

abbrev pub decreases-loop-left : goal.decreases-loop-left
decreases-loop-left l = l.left
