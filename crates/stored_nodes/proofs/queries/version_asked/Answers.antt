use Rattle.std.proofs.Common.{sym, refl, ◌∙◌, inl}
use Rattle.histories.specs.EventResult as results
use Rattle.stored_nodes.proofs.Answering.{an_answer, no_answer, no_memory}
use Rattle.stored_nodes.proofs.queries.version_asked.Goals as goal

pub returns-in-Ok-Some : goal.returns-in-Ok-Some
returns-in-Ok-Some c = λ views uploads has of.
    an_answer uploads c.args.ticket.now.table c.args.ticket.now.version c.in-Ok-Some.answer (results.Answer c.in-Ok-Some.answer)
    (sym c.in-Ok-Some.field-0-is ∙ c.in-Ok-Some.ensures.answer views uploads has of) (inl refl)

pub returns-in-Ok-None : goal.returns-in-Ok-None
returns-in-Ok-None c = λ views uploads has of.
    no_answer uploads c.args.ticket.now.table c.args.ticket.now.version results.Unavailable
    (sym c.in-Ok-None.field-0-is ∙ c.in-Ok-None.ensures.answer views uploads has of)
    refl

pub returns-in-Err : goal.returns-in-Err
returns-in-Err c = λ views uploads has of.
    no_memory uploads c.args.ticket.now.table c.args.ticket.now.version (results.Refused results.OutOfMemory) (c.in-Err.ensures.memory views uploads has of) refl
