use Rattle.bitmaps.proofs.Bytes.{eight_from}
use Rattle.batch_lengths.proofs.bits.eight_bits.Goals as goal

pub returns : goal.returns
returns c = λ i low. eight_from c.args.bytes.now c.args.start c.byte_at.result c.byte_at-2.result i c.byte_at.ensures c.byte_at-2.ensures c.byte_at.type_inv c.if-shift-eq0.false low
