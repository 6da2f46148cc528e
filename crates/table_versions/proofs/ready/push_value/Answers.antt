use Rattle.std.proofs.Common.{sym, subst}
use Rattle.table_versions.specs.Preparing.{PushesValue}
use Rattle.table_versions.proofs.Readying.{pushes_noop}
use Rattle.table_versions.proofs.ready.push_value.Goals as goal

pub returns-in-Noop : goal.returns-in-Noop
returns-in-Noop g c =
    subst (PushesValue c.args.uploads.now.items c.args.uploads.now.items) (sym c.in-Noop.is) (pushes_noop c.texts_hold_one_list_of_uploads.ensures.none c.args.uploads.now.items)
