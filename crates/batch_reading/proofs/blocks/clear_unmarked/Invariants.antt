use Rattle.std.proofs.Common.{◌≡◌, take}
use Rattle.batch_reading.specs.Cleared.{cleared}
use Rattle.batch_reading.proofs.blocks.clear_unmarked.Given as goal

abbrev pub invariant-loop-number : goal.invariant-loop-number
invariant-loop-number l = l.blocks ≡ cleared l.fn.size (take l.number l.fn.marks) l.initial.blocks
