use Rattle.std.proofs.Common.{IfErr, map, string_bytes, ap, sym, inr, subst, ◌∙◌, arith}
use Rattle.std.proofs.lemmas.Result.{err_from_is_err_and}
use Rattle.table_types.specs.Tables.{effective}
use Rattle.call_reading.specs.Requests.{describes}
use Rattle.flight_calls.specs.Replies.{described, failed}
use Rattle.table_backend.specs.Backing.{MayAnswer}
use Rattle.table_backend.proofs.Tables.{describes_latest, some_counts, tells_latest}
use Rattle.table_backend.proofs.backend.TableBackendBackend.info.Goals as goal

pub returns-clause-described : goal.returns-clause-described
returns-clause-described c =
    let values = c.self.invariant.0 in
    let taken = c.self.invariant.1 in
    let uploads = taken.uploads in
    let table = c.args.table.now in
    let locations = map string_bytes c.self.inside.locations.items in
    let valid = c.values_hold_one_list_of_uploads.ensures.valid values uploads taken.are in
    let few = c.values_hold_one_list_of_uploads.ensures.few values uploads taken.are in
    let latest = c.in_ok-info.ensures.latest values uploads taken taken.are in
    let made = c.in_ok-of.ensures in
    let told = tells_latest locations table (effective table uploads) c.in_ok-info.field-0 c.in-Some.info c.in_ok-of.field-0 latest c.in-Some.is made.0 (made.1 ∙ ap (λ l. map string_bytes l) c.deref.ensures.value) in
    let d = describes_latest table uploads valid c.tables_have_one_shape.ensures.table (omega (arith, few, taken.few)) locations c.in_ok-of.field-0 told in
    (d.0, subst (λ b. MayAnswer b (describes table) (described d.0)) c.self.view_is (values, uploads, taken, taken.are, d.1), d.2)

pub returns-in_err-info-clause-fault : goal.returns-in_err-info-clause-fault
returns-in_err-info-clause-fault c =
    let values = c.self.invariant.0 in
    let taken = c.self.invariant.1 in
    let refused = err_from_is_err_and c.from_residual.result c.from_residual.ensures.1 in
    subst (λ r. IfErr r (λ fault. MayAnswer c.args.self.now (describes c.args.table.now) (failed fault))) (sym refused.1)
    (subst (λ b. MayAnswer b (describes c.args.table.now) (failed refused.0)) c.self.view_is
    (values, taken.uploads, taken, taken.are, inr (c.in_err-info.ensures.memory values taken.uploads taken taken.are, refused.2)))

pub returns-in_err-of-clause-fault : goal.returns-in_err-of-clause-fault
returns-in_err-of-clause-fault c =
    let values = c.self.invariant.0 in
    let taken = c.self.invariant.1 in
    let table = c.args.table.now in
    let counts = some_counts table (effective table taken.uploads) c.in_ok-info.field-0 c.in-Some.info
    (c.in_ok-info.ensures.latest values taken.uploads taken taken.are) c.in-Some.is in
    let refused = err_from_is_err_and c.from_residual-in_err-of.result c.from_residual-in_err-of.ensures.1 in
    subst (λ r. IfErr r (λ fault. MayAnswer c.args.self.now (describes table) (failed fault))) (sym refused.1)
    (subst (λ b. MayAnswer b (describes table) (failed refused.0)) c.self.view_is (values, taken.uploads, taken, taken.are, inr (counts, refused.2)))
