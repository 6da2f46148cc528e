use Rattle.std.proofs.Common.{◌∙◌, ◌||◌, ◌+◌, ◌*◌, sym, ap}
use Rattle.bitmaps.specs.Bits.{bit_of}
use Rattle.batch_lengths.proofs.Eights.{whole_bit}
use Rattle.batch_lengths.proofs.validity_mask.ValidityMask.eight_marks.Goals as goal

pub returns-then-self : goal.returns-then-self
returns-then-self c i low = whole_bit i low ∙ ap (λ all. all || bit_of c.args.self.now.set (8 * c.args.number + i)) (sym c.if-self.true)
