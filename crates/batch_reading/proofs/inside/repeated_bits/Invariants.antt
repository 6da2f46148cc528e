use Rattle.std.proofs.Common.{◌≡◌, take, replicate}
use Rattle.std.specs.List.{flat_map}
use Rattle.batch_reading.proofs.inside.repeated_bits.Given as goal

abbrev pub invariant-loop-number : goal.invariant-loop-number
invariant-loop-number l = l.made ≡ flat_map (replicate l.fn.size) (take l.number l.fn.bits)
