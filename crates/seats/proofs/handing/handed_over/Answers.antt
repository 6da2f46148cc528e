use Rattle.std.proofs.Common.{Option, sym, subst}
use Rattle.journal.specs.parts.agreement.specs.declared.refusal.Refusal.{Refusal}
use Rattle.node_core.specs.Plans.{IsRefused, JudgesPut}
use Rattle.seats.specs.declared.input.SeatInput.{SeatInput}
use Rattle.seats.specs.Inputs.{input_of}
use Rattle.seats.proofs.Told.{judged_refused}
use Rattle.seats.proofs.handing.handed_over.Goals as goal

pub returns-in-Some-clause-refused : goal.returns-in-Some-clause-refused
returns-in-Some-clause-refused c = λ views has.
    subst (λ (i : SeatInput). IsRefused c.args.node.now views (input_of i) c.in-Some.refusal) (sym c.in-Put.is)
    (judged_refused c.args.node.now views c.in-Put.upload c.in-Some.refusal
    (subst (λ (r : Option Refusal). JudgesPut c.args.node.now views c.in-Put.upload r) c.in-Some.is (c.refuses_put.ensures views has)))
