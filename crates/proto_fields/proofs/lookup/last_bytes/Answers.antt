use Rattle.std.proofs.Common.{ℕ, List, [], Bor, Option, Some, None, refl, sym, subst, inl, append-nil}
use Rattle.std.specs.Option.{option_map}
use Rattle.std.proofs.lemmas.Result.{err_from_is_err_and}
use Rattle.proto_fields.specs.Field.{field_at}
use Rattle.proto_fields.specs.Meaning.{bytes_in, bytes_meant}
use Rattle.proto_fields.proofs.Fronts.{not_fields, is_more, is_over}
use Rattle.proto_fields.proofs.Meanings.{bytes_meant-push}
use Rattle.proto_fields.proofs.Lookups.{MeantSoFar, meant_more, stands_more, text_means, another_type, means_only}
use Rattle.proto_fields.proofs.lookup.last_bytes.Goals as goal

pub loop-rest-init : goal.loop-rest-init
unfolding bytes_meant
loop-rest-init c = (([], refl, refl), (c.args.bytes.now, sym (append-nil c.args.bytes.now)))

pub loop-rest-preserved : goal.loop-rest-preserved
loop-rest-preserved c =
    let f = field_at c.in_ok-found.found c.in_ok-found.content in (
      meant_more (bytes_meant c.args.number) bytes_in c.args.number (bytes_meant-push c.args.number) c.args.bytes.now c.loop-rest.rest.now c.in_ok-found.after.now _ (option_map (λ (b : Bor (List ℕ)). b.now) c.bytes_after-meant.result) (field_at c.in_ok-found.found c.in_ok-found.content) c.loop-rest.invariant.0 c.in_ok-found.ensures.read c.bytes_after-meant.ensures,
      stands_more c.args.number c.args.bytes.now c.loop-rest.rest.now c.in_ok-found.after.now c.loop-rest.invariant.0.0 _ (option_map (λ (b : Bor (List ℕ)). b.now) c.bytes_after-meant.result) _ _ f
          c.loop-rest.invariant.0.1 c.in_ok-found.ensures.read c.loop-rest.invariant.1 c.bytes_after-meant.ensures c.behind_after-behind.ensures,
    )

pub returns-in_err-found-clause-only : goal.returns-in_err-found-clause-only
returns-in_err-found-clause-only c = λ fields is.
    absurd (not_fields c.args.bytes.now c.loop-rest.invariant.0.0 c.loop-rest.rest.now fields c.loop-rest.invariant.0.1 (is_more c.is_empty.result c.loop-rest.rest.now c.is_empty.ensures c.loop-rest-test.true) (λ f after b. c.in_err-found.ensures.only f after b) is)

pub returns-in_err-found-clause-fault : goal.returns-in_err-found-clause-fault
returns-in_err-found-clause-fault c =
    let p = err_from_is_err_and c.from_residual.result c.from_residual.ensures.1 in
    rw (p.1, p.2) (inl (record {
      fields = c.loop-rest.invariant.0.0;
      rest = c.loop-rest.rest.now;
      before = c.loop-rest.invariant.0.1;
      more = is_more c.is_empty.result c.loop-rest.rest.now c.is_empty.ensures c.loop-rest-test.true;
      stands = c.in_err-found.ensures.fault;
    }))

pub returns-in-Some-clause-read : goal.returns-in-Some-clause-read
returns-in-Some-clause-read c =
    text_means (bytes_meant c.args.number) c.args.bytes.now c.loop-rest.rest.now (is_over c.is_empty.result c.loop-rest.rest.now c.is_empty.ensures c.loop-rest-test.false) c.in-Some.last.now (subst (λ (o : Option (Bor (List ℕ))). MeantSoFar (bytes_meant c.args.number) c.args.bytes.now c.loop-rest.rest.now (option_map (λ (b : Bor (List ℕ)). b.now) o)) c.in-Some.is c.loop-rest.invariant.0)

pub returns-in-Some-clause-only : goal.returns-in-Some-clause-only
returns-in-Some-clause-only c = λ fields is.
    means_only (bytes_meant c.args.number) c.args.bytes.now c.loop-rest.rest.now (is_over c.is_empty.result c.loop-rest.rest.now c.is_empty.ensures c.loop-rest-test.false) (Some c.in-Some.last.now) (subst (λ (o : Option (Bor (List ℕ))). MeantSoFar (bytes_meant c.args.number) c.args.bytes.now c.loop-rest.rest.now (option_map (λ (b : Bor (List ℕ)). b.now) o)) c.in-Some.is c.loop-rest.invariant.0) fields is

pub returns-in-None-clause-only : goal.returns-in-None-clause-only
returns-in-None-clause-only c = λ fields is.
    (means_only (bytes_meant c.args.number) c.args.bytes.now c.loop-rest.rest.now (is_over c.is_empty.result c.loop-rest.rest.now c.is_empty.ensures c.loop-rest-test.false) None (subst (λ (o : Option (Bor (List ℕ))). MeantSoFar (bytes_meant c.args.number) c.args.bytes.now c.loop-rest.rest.now (option_map (λ (b : Bor (List ℕ)). b.now) o)) c.in-None.is c.loop-rest.invariant.0) fields is, refl)

pub returns-in-None-clause-fault : goal.returns-in-None-clause-fault
returns-in-None-clause-fault c =
    another_type (bytes_meant c.args.number) c.args.bytes.now c.loop-rest.rest.now (is_over c.is_empty.result c.loop-rest.rest.now c.is_empty.ensures c.loop-rest-test.false) (subst (λ (o : Option (Bor (List ℕ))). MeantSoFar (bytes_meant c.args.number) c.args.bytes.now c.loop-rest.rest.now (option_map (λ (b : Bor (List ℕ)). b.now) o)) c.in-None.is c.loop-rest.invariant.0)
