use Rattle.std.proofs.Common.{sym, subst, refl, ◌∙◌}
use Rattle.node_threads.specs.parts.table_types.specs.Valid.{FitsFrame}
use Rattle.call_reading.specs.Requests.{shows}
use Rattle.flight_calls.specs.Replies.{shown}
use Rattle.table_backend.proofs.Tables.{schema_of_latest}
use Rattle.cluster_backend.specs.Backing.{MayAnswer}
use Rattle.cluster_backend.proofs.backend.ClusterBackendBackend.schema.Goals as goal

pub returns-clause-shown : goal.returns-clause-shown
returns-clause-shown g c =
    let told = c.in-Ok-Some.ensures.latest in
    let table = c.args.table.now in
    let valid = c.values_hold_one_list_of_uploads.ensures.valid told.2.0 told.0 told.2.1 in
    let s = schema_of_latest table told.0 valid c.in-Ok-Some.field-0 c.in-Ok-Some.info told.3 c.in-Ok-Some.field-0-is in
    let is = c.into_schema.ensures ∙ s.3 in (
      s.0.schema,
      subst (λ b. MayAnswer g.C.Nodes.entered g.C.Nodes.holds g.C.Nodes.fails g.P.Caller.may_leave b (shows table) (shown s.0.schema)) c.self.view_is (told.0, told.1, (s.0, s.1, s.2, refl)),
      is,
      subst FitsFrame (sym is) s.4,
    )
