-- It is among those that have a key, or among the others.
use Rattle.std.proofs.Common.{◌↔◌, ◌++◌, sym, subst, ap, ◌∙◌, rules, IsTrue, Contains, true≢false}
use Rattle.indexmap.specs.IndexMap.{values}
use Rattle.pending_uploads.proofs.Finding.{among_first, among_later}
use Rattle.pending_uploads.proofs.pending.PendingUploads.contains.Goals as goal

pub returns-then-is_keyed : goal.returns-then-is_keyed
returns-then-is_keyed c =
    subst (λ texts. IsTrue c.is_keyed.result ↔ Contains texts c.args.upload.now) (ap (λ w. w.texts) c.self.view_is)
    (among_first (values c.self.inside.named ++ values c.self.inside.hashed) c.self.inside.others.items c.args.upload.now c.is_keyed.ensures
    c.if-is_keyed.true)

pub returns-else-is_keyed : goal.returns-else-is_keyed
returns-else-is_keyed c =
    subst (λ texts. IsTrue c.contains.result ↔ Contains texts c.args.upload.now) (ap (λ w. w.texts) c.self.view_is)
    (among_later (values c.self.inside.named ++ values c.self.inside.hashed) c.self.inside.others.items c.args.upload.now
    (λ there. true≢false (sym (c.is_keyed.ensures.1 there) ∙ c.if-is_keyed.false))
    (let others : IsTrue c.contains.result ↔ Contains c.self.inside.others.items c.args.upload.now = search rules in others))
