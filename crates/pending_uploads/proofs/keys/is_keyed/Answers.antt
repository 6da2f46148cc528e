-- What is not among the first is among both where it is among the others.
use Rattle.std.proofs.Common.{sym, ◌∙◌, true≢false}
use Rattle.indexmap.specs.IndexMap.{values}
use Rattle.pending_uploads.proofs.Finding.{among_later}
use Rattle.pending_uploads.proofs.keys.is_keyed.Goals as goal

pub returns-else-is_named : goal.returns-else-is_named
returns-else-is_named c =
    among_later (values c.args.named.now) (values c.args.hashed.now) c.args.upload.now
    (λ there. true≢false (sym (c.is_named.ensures.1 there) ∙ c.if-is_named.false)) c.is_hashed.ensures
