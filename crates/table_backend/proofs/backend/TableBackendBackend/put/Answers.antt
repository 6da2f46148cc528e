use Rattle.std.proofs.Common.{sym, ap, subst, inl, ◌∙◌, arith}
use Rattle.std.proofs.lemmas.Result.{IfErr-weaker}
use Rattle.table_types.specs.Tables.{outcome_of}
use Rattle.table_versions.specs.State.{HasTaken}
use Rattle.table_versions.specs.Outcomes.{told}
use Rattle.call_reading.specs.Requests.{puts}
use Rattle.flight_calls.specs.Replies.{failed}
use Rattle.table_backend.specs.Backing.{MayAnswer}
use Rattle.table_backend.proofs.States.{unknown_is_taken, known_is_kept, on_ok_both, put_fault}
use Rattle.table_backend.proofs.backend.TableBackendBackend.put.Goals as goal

pub returns-in-Unknown-clause-leaves : goal.returns-in-Unknown-clause-leaves
returns-in-Unknown-clause-leaves c =
    let same = c.hand.ensures.same in
    on_ok_both c.take.result
    (λ takes room. record {
      tables = λ values uploads upload taken are valid is.
          unknown_is_taken (outcome_of uploads upload) c.args.upload.now c.args.self.now.slots c.args.self.now.tables c.take.new.self.tables
          (sym (c.outcome-outcome.ensures values uploads upload (subst (λ b. HasTaken b.tables values) (sym c.self.view_is) taken) are valid is)
          ∙ ap told c.in-Unknown.is)
          (omega (arith, room, ap (λ t. t.taken) same.0, same.2))
          (λ more held. takes more (subst (λ t. HasTaken t more) (sym same.0) held));
      locations = c.take.ensures.same.1 ∙ same.1;
      slots = c.take.ensures.same.2 ∙ same.2;
    })
    c.take.ensures.takes c.take.ensures.room

pub returns-in-Unknown-clause-fault : goal.returns-in-Unknown-clause-fault
returns-in-Unknown-clause-fault c =
    let same = c.hand.ensures.same in
    let values = c.self.invariant.0 in
    let taken = c.self.invariant.1 in
    IfErr-weaker c.take.result _ (λ fault. MayAnswer c.args.self.now (puts c.args.upload.now) (failed fault))
    (λ fault refused. (
      values,
      taken.uploads,
      subst (λ b. HasTaken b.tables values) c.self.view_is taken,
      taken.are,
      put_fault c.args.self.now c.hand.new.self taken.uploads c.args.upload.now fault same.0 same.2
          (λ upload valid is.
          sym (c.outcome-outcome.ensures values taken.uploads upload taken taken.are valid is) ∙ ap told c.in-Unknown.is)
          refused,
    ))
    c.take.ensures.fault

pub returns-in-Applied : goal.returns-in-Applied
returns-in-Applied c =
    let same = c.hand.ensures.same in
    record {
      hands = inl c.in-Ok.ensures.handed;
      leaves =
          record {
            tables = λ values uploads upload taken are valid is.
                known_is_kept (outcome_of uploads upload) c.outcome-outcome.result c.args.upload.now c.args.self.now.slots c.args.self.now.tables
                c.hand.new.self.tables
                (c.outcome-outcome.ensures values uploads upload (subst (λ b. HasTaken b.tables values) (sym c.self.view_is) taken) are valid is)
                c.in-Applied.is same.0;
            locations = same.1;
            slots = same.2;
          };
      stays = tt;
      fault = tt;
    }
