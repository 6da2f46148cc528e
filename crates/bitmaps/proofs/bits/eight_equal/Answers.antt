use Rattle.std.proofs.Common.{◌∙◌, ap, sym, ◌==◌}
use Rattle.std.proofs.lemmas.Nat.Bits.{bit_at_ones, bit_at-zero}
use Rattle.bitmaps.proofs.bits.eight_equal.Goals as goal

pub returns-then-bit : goal.returns-then-bit
returns-then-bit c = λ i low. ap (λ d. d == 1) (bit_at_ones 8 i low) ∙ sym c.if-bit.true

pub returns-else-bit : goal.returns-else-bit
returns-else-bit c = λ i low. ap (λ d. d == 1) (bit_at-zero i) ∙ sym c.if-bit.false
