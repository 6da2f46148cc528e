use Rattle.std.proofs.Common.{map, string_bytes, ap, subst, ◌∙◌, arith}
use Rattle.std.specs.List.{AllZip}
use Rattle.std.proofs.lemmas.Result.{IfOk-weaker}
use Rattle.table_types.specs.Tables.{effective}
use Rattle.call_reading.specs.Requests.{lists}
use Rattle.flight_calls.specs.Replies.{listed}
use Rattle.table_backend.specs.Backing.{MayAnswer, TellsLatest, DescribesTable}
use Rattle.table_backend.proofs.Tables.{describe_all}
use Rattle.table_backend.proofs.backend.TableBackendBackend.list.Goals as goal

pub all_described-requires : goal.all_described-requires
all_described-requires c =
    let values = c.self.invariant.0 in
    let taken = c.self.invariant.1 in (
      values,
      taken.uploads,
      taken,
      taken.are,
      ap (λ l. map string_bytes l) c.deref.ensures.value ∙ c.in_ok-names.ensures.names values taken.uploads taken taken.are,
    )

pub returns-clause-listed : goal.returns-clause-listed
returns-clause-listed c =
    let values = c.self.invariant.0 in
    let taken = c.self.invariant.1 in
    let uploads = taken.uploads in
    let locations = map string_bytes c.self.inside.locations.items in
    let valid = c.values_hold_one_list_of_uploads.ensures.valid values uploads taken.are in
    let few = c.values_hold_one_list_of_uploads.ensures.few values uploads taken.are in
    let names = ap (λ l. map string_bytes l) c.deref.ensures.value ∙ c.in_ok-names.ensures.names values uploads taken taken.are in
    IfOk-weaker c.all_described.result _ _
    (λ all told.
    let at = subst (λ l. AllZip (λ name found. TellsLatest l name (effective name uploads) found) (map string_bytes c.deref.result.now) all.items) (ap (λ l. map string_bytes l) c.deref-2.ensures.value) (told values uploads taken taken.are) in
    let ds = describe_all uploads valid c.tables_have_one_shape.ensures.table (omega (arith, few, taken.few)) locations (map string_bytes c.deref.result.now) all.items at in (
      ds.0,
      subst (λ b. MayAnswer b lists (listed ds.0)) c.self.view_is
          (values, uploads, taken, taken.are, subst (λ l. AllZip (λ name d. DescribesTable locations name (effective name uploads) d) l ds.0) names ds.1),
      ds.2,
    ))
    c.all_described.ensures.told
