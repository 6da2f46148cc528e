use Rattle.std.proofs.Common.{◌≡◌, ◌*◌}
use Rattle.bitmaps.specs.Bits.{bits_of, zeros}
use Rattle.bitmaps.proofs.bits.zeros_in.Given as goal

abbrev pub invariant-loop-byte : goal.invariant-loop-byte
invariant-loop-byte l = l.zeros ≡ zeros (bits_of l.fn.bytes 0 (8 * l.byte-index))
