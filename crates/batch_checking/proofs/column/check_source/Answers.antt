use Rattle.std.proofs.Common.{refl, arith}
use Rattle.batch_checking.proofs.Steady.{texts_spread}
use Rattle.batch_checking.proofs.column.check_source.Goals as goal

pub has_texts-requires-clause-spread : goal.has_texts-requires-clause-spread
has_texts-requires-clause-spread c =
    texts_spread c.args.source.now.layout c.args.source.now.length c.args.source.now.nulls c.args.first c.args.source.now.validity.now
    c.args.source.now.offsets.now c.args.source.now.values.now (c.if-not-is_long.ensures.0 refl) (c.if-not-has_offsets.ensures.0 refl)

pub has_texts-requires-clause-within : goal.has_texts-requires-clause-within
has_texts-requires-clause-within c = c.requires.reaches (omega arith)
