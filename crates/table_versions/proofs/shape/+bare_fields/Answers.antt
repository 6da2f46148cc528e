use Rattle.std.proofs.Common.{refl}
use Rattle.table_versions.proofs.BareFields.{bare_push}
use Rattle.table_versions.proofs.shape.+bare_fields.Goals as goal

pub loop-field-preserved : goal.loop-field-preserved
loop-field-preserved t c =
    bare_push c.loop-field.yielded c.in-Some.field _ c.loop-field.bare.items c.push.new.self.items c.in_ok-push.ensures.items c.loop-field.invariant refl refl refl
    c.new-metadata.ensures.items c.in_ok-children.ensures
