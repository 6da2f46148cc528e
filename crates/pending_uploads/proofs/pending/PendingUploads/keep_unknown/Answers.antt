-- The test tells of each upload whether these tables know nothing of it.
use Rattle.std.proofs.Common.{rules, arith, subst, ap, ◌++◌}
use Rattle.std.specs.Map.{values_of}
use Rattle.std.proofs.ByRecursion.{All-from_retain}
use Rattle.histories.specs.Due.{AreStillWaiting}
use Rattle.pending_uploads.proofs.Keeping.{holds_of_kept, kept_wait, filtered_wait, both_wait}
use Rattle.pending_uploads.proofs.pending.PendingUploads.keep_unknown.Goals as goal

pub invariant_of-self : goal.invariant_of-self
invariant_of-self c =
    let kept = c.self.invariant.0 in
    let room = c.self.invariant.1 in (
      record {
        by_name = holds_of_kept c.args.tables.now _ _ _ c.keep_unknown.ensures.kept kept.by_name;
        by_hash = holds_of_kept c.args.tables.now _ _ _ c.keep_unknown-2.ensures.kept kept.by_hash;
        are_uploads = All-from_retain _ _ _ (λ text answer f' k. search rules) _ _ c.retain.ensures.filtered;
      },
      record {
        by_name = omega (arith, room.by_name, c.keep_unknown.ensures.room);
        by_hash = omega (arith, room.by_hash, c.keep_unknown-2.ensures.room);
        behind = omega (arith, room.behind, c.retain.ensures.bound, c.retain.ensures.capacity);
      },
    )

pub returns-clause-texts : goal.returns-clause-texts
returns-clause-texts c = λ values uploads taken are.
    subst (λ texts. AreStillWaiting uploads texts (values_of c.keep_unknown.new.uploads.entries ++ values_of c.keep_unknown-2.new.uploads.entries ++ c.retain.new.self.items))
    (ap (λ w. w.texts) c.self.view_is)
    (both_wait uploads _ _ _ _
    (both_wait uploads _ _ _ _ (kept_wait c.args.tables.now values uploads taken are _ _ c.keep_unknown.ensures.kept)
    (kept_wait c.args.tables.now values uploads taken are _ _ c.keep_unknown-2.ensures.kept))
    (filtered_wait c.args.tables.now values uploads taken are _ _ (λ text answer f' k. search rules) _ _ c.retain.ensures.filtered))
