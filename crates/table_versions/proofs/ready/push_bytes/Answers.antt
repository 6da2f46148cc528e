use Rattle.std.proofs.Common.{subst}
use Rattle.table_versions.specs.Preparing.{PreparesBytes}
use Rattle.table_versions.proofs.Readying.{pushes_none, pushes_some}
use Rattle.table_versions.proofs.ready.push_bytes.Goals as goal

pub returns-in_ok-push_back-in-Some : goal.returns-in_ok-push_back-in-Some
returns-in_ok-push_back-in-Some g c =
    pushes_some c.args.uploads.now.items c.push_back.new.self.items c.args.bytes.now c.in-Some.prepared
    (subst (PreparesBytes c.args.bytes.now) c.in-Some.is c.in_ok-prepared.ensures) c.in_ok-push_back-in-Some.ensures.items

pub returns-in-None : goal.returns-in-None
returns-in-None g c =
    pushes_none c.args.uploads.now.items c.args.bytes.now (subst (PreparesBytes c.args.bytes.now) c.in-None.is c.in_ok-prepared.ensures)
