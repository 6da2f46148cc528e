use Rattle.traces.proofs.Telling.{told_step}
use Rattle.traces.proofs.laws.one_ticket_has_one_answer.Goals as goal

pub returns : goal.returns
returns c = λ config events trace i j node other ticket x y run one two.
    run.safe.same_ticket_same_bytes i j node other ticket.version ticket.table x y (told_step trace.steps i _ one) (told_step trace.steps j _ two)
