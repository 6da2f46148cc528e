-- The test tells of each upload whether these tables know nothing of it, and changes none.
use Rattle.std.proofs.Common.{rules}
use Rattle.pending_uploads.proofs.Keeping.{keeps_unknown}
use Rattle.pending_uploads.proofs.keyed.keep_unknown.Goals as goal

pub returns-clause-kept : goal.returns-clause-kept
returns-clause-kept g c = keeps_unknown _ _ c.args.tables.now (λ key text answer left f' k. search rules) _ _ c.retain.ensures.filtered
