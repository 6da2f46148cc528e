use Rattle.std.proofs.Common.{◌∙◌, ◌||◌, ◌+◌, sym, ap}
use Rattle.bitmaps.specs.Bits.{bit_of}
use Rattle.batch_lengths.proofs.Eights.{whole_bit}
use Rattle.batch_lengths.proofs.bits.eight_valid.Goals as goal

pub returns-then-is_empty : goal.returns-then-is_empty
returns-then-is_empty c i low =
    whole_bit i low ∙ ap (λ b. b || bit_of c.args.validity.now (c.args.start + i)) (sym c.if-is_empty.true ∙ c.is_empty.ensures)
