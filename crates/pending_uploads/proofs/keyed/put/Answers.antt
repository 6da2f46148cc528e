-- A key under which nothing stands goes last.
use Rattle.std.proofs.Common.{◌∙◌}
use Rattle.indexmap.proofs.CallerLemmas.{insert_entry-new}
use Rattle.pending_uploads.proofs.Finding.{none_found}
use Rattle.pending_uploads.proofs.keyed.put.Goals as goal

pub returns-clause-put : goal.returns-clause-put
returns-clause-put g c = c.in-Ok.ensures.entries ∙ insert_entry-new g.K.PartialEq.eq c.args.uploads.now c.args.key c.args.upload
    (none_found _ c.contains_key.result c.contains_key.ensures c.if-contains_key.false)
