use Rattle.std.proofs.Common.{ℕ, [], Option, Some, None, refl, subst, inl}
use Rattle.std.proofs.lemmas.Result.{err_from_is_err_and}
use Rattle.proto_fields.specs.Field.{field_at}
use Rattle.proto_fields.specs.Meaning.{number_in, number_meant}
use Rattle.proto_fields.proofs.Fronts.{not_fields, is_more, is_over}
use Rattle.proto_fields.proofs.Meanings.{number_meant-push}
use Rattle.proto_fields.proofs.Lookups.{MeantSoFar, meant_more, text_means, another_type, means_only}
use Rattle.proto_fields.proofs.lookup.number_at.Goals as goal

pub loop-rest-init : goal.loop-rest-init
unfolding number_meant
loop-rest-init c = ([], refl, refl)

pub loop-rest-preserved : goal.loop-rest-preserved
loop-rest-preserved c =
    meant_more (number_meant c.args.number) number_in c.args.number (number_meant-push c.args.number) c.args.bytes.now c.loop-rest.rest.now c.in_ok-found.after.now _ (c.number_after-meant.result) (field_at c.in_ok-found.found c.in_ok-found.content) c.loop-rest.invariant c.in_ok-found.ensures.read c.number_after-meant.ensures

pub returns-in_err-found-clause-only : goal.returns-in_err-found-clause-only
returns-in_err-found-clause-only c = λ fields is.
    absurd (not_fields c.args.bytes.now c.loop-rest.invariant.0 c.loop-rest.rest.now fields c.loop-rest.invariant.1 (is_more c.is_empty.result c.loop-rest.rest.now c.is_empty.ensures c.loop-rest-test.true) (λ f after b. c.in_err-found.ensures.only f after b) is)

pub returns-in_err-found-clause-fault : goal.returns-in_err-found-clause-fault
returns-in_err-found-clause-fault c =
    let p = err_from_is_err_and c.from_residual.result c.from_residual.ensures.1 in
    rw (p.1, p.2) (inl (record {
      fields = c.loop-rest.invariant.0;
      rest = c.loop-rest.rest.now;
      before = c.loop-rest.invariant.1;
      more = is_more c.is_empty.result c.loop-rest.rest.now c.is_empty.ensures c.loop-rest-test.true;
      stands = c.in_err-found.ensures.fault;
    }))

pub returns-in-Some-clause-read : goal.returns-in-Some-clause-read
returns-in-Some-clause-read c =
    text_means (number_meant c.args.number) c.args.bytes.now c.loop-rest.rest.now (is_over c.is_empty.result c.loop-rest.rest.now c.is_empty.ensures c.loop-rest-test.false) c.in-Some.last (subst (λ (o : Option ℕ). MeantSoFar (number_meant c.args.number) c.args.bytes.now c.loop-rest.rest.now o) c.in-Some.is c.loop-rest.invariant)

pub returns-in-Some-clause-only : goal.returns-in-Some-clause-only
returns-in-Some-clause-only c = λ fields is.
    means_only (number_meant c.args.number) c.args.bytes.now c.loop-rest.rest.now (is_over c.is_empty.result c.loop-rest.rest.now c.is_empty.ensures c.loop-rest-test.false) (Some c.in-Some.last) (subst (λ (o : Option ℕ). MeantSoFar (number_meant c.args.number) c.args.bytes.now c.loop-rest.rest.now o) c.in-Some.is c.loop-rest.invariant) fields is

pub returns-in-None-clause-only : goal.returns-in-None-clause-only
returns-in-None-clause-only c = λ fields is.
    (means_only (number_meant c.args.number) c.args.bytes.now c.loop-rest.rest.now (is_over c.is_empty.result c.loop-rest.rest.now c.is_empty.ensures c.loop-rest-test.false) None (subst (λ (o : Option ℕ). MeantSoFar (number_meant c.args.number) c.args.bytes.now c.loop-rest.rest.now o) c.in-None.is c.loop-rest.invariant) fields is, refl)

pub returns-in-None-clause-fault : goal.returns-in-None-clause-fault
returns-in-None-clause-fault c =
    another_type (number_meant c.args.number) c.args.bytes.now c.loop-rest.rest.now (is_over c.is_empty.result c.loop-rest.rest.now c.is_empty.ensures c.loop-rest-test.false) (subst (λ (o : Option ℕ). MeantSoFar (number_meant c.args.number) c.args.bytes.now c.loop-rest.rest.now o) c.in-None.is c.loop-rest.invariant)
