use Rattle.std.proofs.Common.{map, string_bytes, subst, arith}
use Rattle.node_threads.specs.parts.table_types.specs.Tables.{effective}
use Rattle.call_reading.specs.Requests.{describes}
use Rattle.flight_calls.specs.Replies.{described}
use Rattle.table_backend.proofs.Tables.{describes_latest, tells_latest}
use Rattle.cluster_backend.specs.Backing.{MayAnswer}
use Rattle.cluster_backend.proofs.backend.ClusterBackendBackend.info.Goals as goal

pub returns-clause-described : goal.returns-clause-described
returns-clause-described g c =
    let of = c.in-Ok-Some.ensures.latest in
    let table = c.args.table.now in
    let locations = map string_bytes c.self.inside.locations.now in
    let valid = c.values_hold_one_list_of_uploads.ensures.valid of.2.0 of.0 of.2.1 in
    let few = c.values_hold_one_list_of_uploads.ensures.few of.2.0 of.0 of.2.1 in
    let made = c.in_ok-of.ensures in
    let told = tells_latest locations table (effective table of.0) c.in-Ok-Some.field-0 c.in-Ok-Some.info c.in_ok-of.field-0 of.3 c.in-Ok-Some.field-0-is made.0 made.1 in
    let d = describes_latest table of.0 valid c.tables_have_one_shape.ensures.table (omega (arith, few, of.2.2)) locations c.in_ok-of.field-0 told in
    (d.0, subst (λ b. MayAnswer g.C.Nodes.entered g.C.Nodes.holds g.C.Nodes.fails g.P.Caller.may_leave b (describes table) (described d.0)) c.self.view_is (of.0, of.1, d.1), d.2)
