use Rattle.std.proofs.Common.{IfErr, sym, subst, refl, inr, ◌∙◌}
use Rattle.std.proofs.lemmas.Result.{err_from_is_err_and}
use Rattle.table_types.specs.Valid.{FitsFrame}
use Rattle.call_reading.specs.Requests.{shows}
use Rattle.flight_calls.specs.Replies.{shown, failed}
use Rattle.table_backend.specs.Backing.{MayAnswer}
use Rattle.table_backend.proofs.Tables.{schema_of_latest}
use Rattle.table_backend.proofs.backend.TableBackendBackend.schema.Goals as goal

pub returns-clause-shown : goal.returns-clause-shown
returns-clause-shown c =
    let values = c.self.invariant.0 in
    let taken = c.self.invariant.1 in
    let uploads = taken.uploads in
    let table = c.args.table.now in
    let valid = c.values_hold_one_list_of_uploads.ensures.valid values uploads taken.are in
    let s = schema_of_latest table uploads valid c.in_ok-info.field-0 c.in-Some.info (c.in_ok-info.ensures.latest values uploads taken taken.are) c.in-Some.is in
    let is = c.into_schema.ensures ∙ s.3 in (
      s.0.schema,
      subst (λ b. MayAnswer b (shows table) (shown s.0.schema)) c.self.view_is (values, uploads, taken, taken.are, (s.0, s.1, s.2, refl)),
      is,
      subst FitsFrame (sym is) s.4,
    )

pub returns-in_err-info-clause-fault : goal.returns-in_err-info-clause-fault
returns-in_err-info-clause-fault c =
    let values = c.self.invariant.0 in
    let taken = c.self.invariant.1 in
    let refused = err_from_is_err_and c.from_residual.result c.from_residual.ensures.1 in
    subst (λ r. IfErr r (λ fault. MayAnswer c.args.self.now (shows c.args.table.now) (failed fault))) (sym refused.1)
    (subst (λ b. MayAnswer b (shows c.args.table.now) (failed refused.0)) c.self.view_is
    (values, taken.uploads, taken, taken.are, inr (c.in_err-info.ensures.memory values taken.uploads taken taken.are, refused.2)))
