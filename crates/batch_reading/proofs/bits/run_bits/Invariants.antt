use Rattle.std.proofs.Common.{◌≡◌, map, take}
use Rattle.bitmaps.specs.Bits.{bit_of}
use Rattle.batch_reading.specs.Spots.{places_of}
use Rattle.batch_reading.proofs.bits.run_bits.Given as goal

abbrev pub invariant-loop-run : goal.invariant-loop-run
invariant-loop-run l = l.bits ≡ map (bit_of l.fn.bytes) (places_of (take l.run-index l.fn.runs))
