use Rattle.table_types.proofs.Decoding.{name_utf8}
use Rattle.table_types.proofs.reading.text_of.Goals as goal

pub unreachable-requires : goal.unreachable-requires
unreachable-requires c = c.in-Err.ensures.cases.0 (name_utf8 c.args.name.now c.requires)
