use Rattle.std.proofs.Common.{sym, ◌∙◌, arith}
use Rattle.uploads.proofs.Fronts.{one_passed, all_passed, not_batches}
use Rattle.uploads.proofs.finding.are_batches.Goals as goal

pub returns-then-count-eq-MAX_UPLOAD_BATCHES-clause-no : goal.returns-then-count-eq-MAX_UPLOAD_BATCHES-clause-no
returns-then-count-eq-MAX_UPLOAD_BATCHES-clause-no c = λ is.
    not_batches c.args.id.now c.args.batches.now c.loop-rest.rest.now c.loop-rest.count c.loop-rest.invariant (sym c.is_empty.ensures ∙ c.loop-rest-test.true)
    (λ parts left next below. omega (arith, c.if-count-eq-MAX_UPLOAD_BATCHES.true, below))

pub returns-in_default-clause-no : goal.returns-in_default-clause-no
returns-in_default-clause-no c = λ is.
    not_batches c.args.id.now c.args.batches.now c.loop-rest.rest.now c.loop-rest.count c.loop-rest.invariant (sym c.is_empty.ensures ∙ c.loop-rest-test.true)
    (λ parts left next below. c.in_default.ensures.none parts left next)

pub loop-rest-smaller : goal.loop-rest-smaller
loop-rest-smaller c =
    (one_passed c.args.id.now c.args.batches.now c.loop-rest.rest.now c.in-Some.behind.now c.loop-rest.count (sym c.is_empty.ensures ∙ c.loop-rest-test.true)
    (omega (arith, c.loop-rest.invariant.few, c.if-count-eq-MAX_UPLOAD_BATCHES.false)) c.in-Some.ensures.some.0 c.in-Some.ensures.some.1 c.in-Some.ensures.only c.loop-rest.invariant).1

pub loop-rest-preserved : goal.loop-rest-preserved
loop-rest-preserved c =
    (one_passed c.args.id.now c.args.batches.now c.loop-rest.rest.now c.in-Some.behind.now c.loop-rest.count (sym c.is_empty.ensures ∙ c.loop-rest-test.true)
    (omega (arith, c.loop-rest.invariant.few, c.if-count-eq-MAX_UPLOAD_BATCHES.false)) c.in-Some.ensures.some.0 c.in-Some.ensures.some.1 c.in-Some.ensures.only c.loop-rest.invariant).0

pub returns-clause-yes : goal.returns-clause-yes
returns-clause-yes c = λ is.
    all_passed c.args.id.now c.args.batches.now c.loop-rest.rest.now c.loop-rest.count c.loop-rest.invariant (sym c.is_empty.ensures ∙ c.loop-rest-test.false)
