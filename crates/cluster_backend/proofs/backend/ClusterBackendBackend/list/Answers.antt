use Rattle.node_threads.specs.parts.table_types.specs.Tables.{table_names}
use Rattle.std.proofs.Common.{map, string_bytes, subst, arith}
use Rattle.call_reading.specs.Requests.{lists}
use Rattle.flight_calls.specs.Replies.{listed}
use Rattle.table_backend.proofs.Tables.{describe_all}
use Rattle.cluster_backend.specs.Backing.{MayAnswer}
use Rattle.cluster_backend.proofs.backend.ClusterBackendBackend.list.Goals as goal

pub returns-clause-listed : goal.returns-clause-listed
returns-clause-listed g c =
    let of = c.in-Ok.ensures.all in
    let locations = map string_bytes c.self.inside.locations.now in
    let valid = c.values_hold_one_list_of_uploads.ensures.valid of.2.0 of.0 of.2.1 in
    let few = c.values_hold_one_list_of_uploads.ensures.few of.2.0 of.0 of.2.1 in
    let ds = describe_all of.0 valid c.tables_have_one_shape.ensures.table (omega (arith, few, of.2.2)) locations (table_names of.0) c.in-Ok.all.items of.3 in
    (ds.0, subst (λ b. MayAnswer g.C.Nodes.entered g.C.Nodes.holds g.C.Nodes.fails g.P.Caller.may_leave b lists (listed ds.0)) c.self.view_is (of.0, of.1, ds.1), ds.2)
