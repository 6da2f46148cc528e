use Rattle.std.proofs.Common.{length, arith}
use Rattle.batch_checking.proofs.Spread.{value_ends}
use Rattle.batch_checking.proofs.texts.is_text.Goals as goal

pub part-requires : goal.part-requires
part-requires c =
    let ends = value_ends c.args.source.now.offsets.now c.args.source.now.length (length c.args.source.now.values.now) c.args.row c.requires.spread c.requires.within in
    (omega (arith, ends.0, c.start_at-start.ensures, c.start_at-end.ensures), omega (arith, ends.1, c.start_at-end.ensures))
