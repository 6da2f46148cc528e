-- The first of those under names, else of those under hashes, else of the others, is the one that waits longest.
use Rattle.std.proofs.Common.{◌∙◌, ap, subst, slice_get}
use Rattle.std.specs.List.{AllByRecursion}
use Rattle.table_types.specs.Texts.{IsUploadText}
use Rattle.pending_uploads.proofs.Keeping.{longest_is, kept_are_uploads}
use Rattle.pending_uploads.proofs.pending.PendingUploads.first.Goals as goal

pub returns-clause-first : goal.returns-clause-first
returns-clause-first c =
    rw (c.or-2.ensures, c.or.ensures)
    (longest_is (λ b. b.now) _ _ _ c.first.result c.first-2.result c.first-3.result c.first.ensures c.first-2.ensures
    (c.first-3.ensures.value ∙ ap (λ l. slice_get l 0) c.deref.ensures.value) _ (ap (λ w. w.texts) c.self.view_is))

pub returns-clause-uploads : goal.returns-clause-uploads
returns-clause-uploads c =
    subst (AllByRecursion IsUploadText) (ap (λ w. w.texts) c.self.view_is) (kept_are_uploads _ _ _ _ c.self.invariant.0)
