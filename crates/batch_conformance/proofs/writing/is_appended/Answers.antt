use Rattle.std.proofs.Common.{rules}
use Rattle.header_types.specs.Views.{schema_of}
use Rattle.batch_conformance.proofs.Short.{short}
use Rattle.batch_conformance.proofs.writing.is_appended.Goals as goal

pub batch_head-requires-clause-short : goal.batch_head-requires-clause-short
batch_head-requires-clause-short c =
    short (schema_of c.args.schema.now) c.args.batch.now _ (search rules steps 300000) c.in-Some.ensures.known c.in-Some.ensures.fits
