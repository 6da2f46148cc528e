use Rattle.std.proofs.Common.{refl, sym, ap, subst, ◌∙◌}
use Rattle.journal.specs.parts.histories.specs.EventResult as results
use Rattle.journal.specs.parts.node_events.specs.declared.event_result.EventResult.TheVariants as given
use Rattle.seats.specs.declared.query.Query.{Query}
use Rattle.seats.specs.Steps.{AnswersQuery, HasAnswer}
use Rattle.seats.proofs.Told.{an_answer, no_answer}
use Rattle.seats.proofs.reading.answer_of.Goals as goal

pub returns-in-Ok-Some : goal.returns-in-Ok-Some
returns-in-Ok-Some c = λ views uploads has of.
    subst (λ (q : Query). AnswersQuery uploads q (given.Answer c.in-Ok-Some.answer)) (sym c.in-Get.is)
    (an_answer uploads c.in-Get.ticket.table c.in-Get.ticket.version c.in-Ok-Some.answer (sym c.in-Ok-Some.field-0-is ∙ c.in-Ok-Some.ensures.answer views uploads has of))

pub returns-in-Ok-None : goal.returns-in-Ok-None
returns-in-Ok-None c = λ views uploads has of.
    subst (λ (q : Query). AnswersQuery uploads q given.Unavailable) (sym c.in-Get.is)
    (no_answer uploads c.in-Get.ticket.table c.in-Get.ticket.version (sym c.in-Ok-None.field-0-is ∙ c.in-Ok-None.ensures.answer views uploads has of))

pub returns-in-Err : goal.returns-in-Err
returns-in-Err c = (
  refl,
  λ views uploads has of. subst (λ (q : Query). HasAnswer uploads q) (sym c.in-Get.is) (c.in-Err.ensures.memory views uploads has of),
)

pub returns-in-Outcome : goal.returns-in-Outcome
returns-in-Outcome c = λ views uploads has of.
    let upload = c.as_slice-text.ensures.upload in
    subst (λ (q : Query). AnswersQuery uploads q (given.Outcome c.outcome.result)) (sym c.in-Outcome.is)
    (upload.0, upload.1, ap (λ o. results.Outcome o) (c.outcome.ensures views uploads upload.0 has of upload.1))
