use Rattle.resumed_nodes.proofs.Taking.{refusal_answers, done, never_broken}
use Rattle.resumed_nodes.proofs.hearing.hear_copy.Goals as goal

pub returns-in-Err-clause-gives : goal.returns-in-Err-clause-gives
returns-in-Err-clause-gives g c = λ views placed up.
    refusal_answers c.args.seat.now c.plan.new.self views c.args.message c.requires up c.in-Err.reason c.in-Err.ensures.gives c.fault_for.result c.fault_for.ensures

pub returns-in-Ok-take-clause-gives : goal.returns-in-Ok-take-clause-gives
returns-in-Ok-take-clause-gives g c = λ views placed up.
    let same = c.in-Ok.ensures.same in
    let planned = c.in-Ok.ensures.gives.1 views up in
    done c.args.seat.now c.plan.new.self views c.args.message c.requires up c.take.new.self same c.in-Ok.plan
    (c.in-Ok-take.ensures.gives views _ (same.placed placed) planned)

pub returns-in-Err-take-clause-gives : goal.returns-in-Err-take-clause-gives
returns-in-Err-take-clause-gives g c = λ views placed up.
    let same = c.in-Ok.ensures.same in
    let planned = c.in-Ok.ensures.gives.1 views up in
    never_broken c.args.seat.now c.plan.new.self views c.args.message c.requires up c.take.new.self same c.in-Ok.plan
    (c.in-Err-take.ensures.gives views _ (same.placed placed) planned)
