use Rattle.std.proofs.Common.{ℕ, List, [], Bor, Some, refl}
use Rattle.std.specs.Option.{option_map}
use Rattle.std.proofs.lemmas.List.{get_or-replicate}
use Rattle.std.proofs.lemmas.Result.{err_from_is_err_and}
use Rattle.proto_fields.specs.Field.{field_at}
use Rattle.proto_fields.specs.Meaning.{number_meant, bytes_meant}
use Rattle.proto_fields.proofs.Fronts.{not_fields, is_more, is_over}
use Rattle.ballots.proofs.Gathering.{gathered_more, gathered_whole, gathered_only}
use Rattle.ballots.proofs.fields.gather.Goals as goal

pub loop-rest-init : goal.loop-rest-init
unfolding number_meant bytes_meant
loop-rest-init c = record {
  fields = [];
  before = refl;
  gathers = record {
    numbers_are = λ number within. get_or-replicate 9 number (Some 0) _ within;
    bytes_are = refl;
  };
}

pub loop-rest-preserved : goal.loop-rest-preserved
loop-rest-preserved c =
    gathered_more c.args.value c.args.text.now c.loop-rest.rest.now c.in_ok-number.after.now _ _ _
    (option_map (λ (b : Bor (List ℕ)). b.now) c.bytes_after-last.result) (field_at c.in_ok-number.number c.in_ok-number.content)
    c.loop-rest.invariant c.in_ok-number.ensures.read c.note_number.ensures c.bytes_after-last.ensures

pub returns-in_err-number-clause-only : goal.returns-in_err-number-clause-only
returns-in_err-number-clause-only c = λ fields is.
    absurd (not_fields c.args.text.now c.loop-rest.invariant.fields c.loop-rest.rest.now fields c.loop-rest.invariant.before (is_more c.is_empty.result c.loop-rest.rest.now c.is_empty.ensures c.loop-rest-test.true) (λ f after b. c.in_err-number.ensures.only f after b) is)

pub returns-in_err-number-clause-fault : goal.returns-in_err-number-clause-fault
returns-in_err-number-clause-fault c =
    let p = err_from_is_err_and c.from_residual.result c.from_residual.ensures.1 in
    rw (p.1, p.2) (record {
      fields = c.loop-rest.invariant.fields;
      rest = c.loop-rest.rest.now;
      before = c.loop-rest.invariant.before;
      more = is_more c.is_empty.result c.loop-rest.rest.now c.is_empty.ensures c.loop-rest-test.true;
      stands = c.in_err-number.ensures.fault;
    })

pub returns-clause-read : goal.returns-clause-read
returns-clause-read c =
    let over = is_over c.is_empty.result c.loop-rest.rest.now c.is_empty.ensures c.loop-rest-test.false in
    (c.loop-rest.invariant.fields, gathered_whole _ c.args.text.now c.loop-rest.rest.now _ _ c.loop-rest.invariant over)

pub returns-clause-only : goal.returns-clause-only
returns-clause-only c = λ fields is.
    let over = is_over c.is_empty.result c.loop-rest.rest.now c.is_empty.ensures c.loop-rest-test.false in
    gathered_only c.args.value c.args.text.now c.loop-rest.rest.now _ _ c.loop-rest.invariant over fields is
