use Rattle.std.proofs.Common.{None, not, ap, ◌∙◌}
use Rattle.proposer.proofs.Results.{where_err}
use Rattle.proposer.proofs.Further.{gives, refused, nothing_next, has_next}
use Rattle.proposer.proofs.ranged.see_go_on_for.Goals as goal

pub returns-then-is_none-clause-answers : goal.returns-then-is_none-clause-answers
returns-then-is_none-clause-answers c = λ members calls holds.
    nothing_next members calls c.next_for.result (c.is_none.ensures ∙ ap not c.if-is_none.true) (c.next_for.ensures members calls holds)

pub returns-in_err-given-clause-memory : goal.returns-in_err-given-clause-memory
returns-in_err-given-clause-memory c = where_err c.from_residual.result (λ members calls holds.
    refused members calls c.args.attempt.now holds c.args.candidate.now
    (has_next members calls c.args.attempt.now holds c.next_for.result (c.is_none.ensures ∙ ap not c.if-is_none.false) (c.next_for.ensures members calls holds)) c.in_err-given.ensures.memory)

pub returns-in-Some-clause-answers : goal.returns-in-Some-clause-answers
returns-in-Some-clause-answers c = λ members calls holds.
    gives members calls c.args.attempt.now holds c.args.candidate.now _
    (has_next members calls c.args.attempt.now holds c.next_for.result (c.is_none.ensures ∙ ap not c.if-is_none.false) (c.next_for.ensures members calls holds)) (rw c.in-Some.is at c.in_ok-given.ensures.gives)

pub returns-in-None-clause-answers : goal.returns-in-None-clause-answers
returns-in-None-clause-answers c = λ members calls holds.
    gives members calls c.args.attempt.now holds c.args.candidate.now None
    (has_next members calls c.args.attempt.now holds c.next_for.result (c.is_none.ensures ∙ ap not c.if-is_none.false) (c.next_for.ensures members calls holds)) (rw c.in-None.is at c.in_ok-given.ensures.gives)
