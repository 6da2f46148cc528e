use Rattle.std.proofs.Common.{Err, refl, sym, subst, ◌∙◌}
use Rattle.node_core.specs.Inputs.{input_of as node_input}
use Rattle.journal.specs.Journaled.{seats_in}
use Rattle.seats.specs.State.{RunningSeat}
use Rattle.seats.specs.Steps.{PrepareGives}
use Rattle.seats.proofs.Ready.{led_still, planned_so}
use Rattle.seats.proofs.Preparing.{refused_gives, prepared_gives}
use Rattle.seats.specs.contracts.seat.Seat.{the_view}
use Rattle.seats.proofs.seat.Seat.prepare.Goals as goal

pub invariant_of-self : goal.invariant_of-self
invariant_of-self g c =
    let view : RunningSeat g.row.S.Denot = the_view g.row.S g.row.J g.row.M g.S.Stable g.J.Beginning g.J.Naming g.M.Retention c.self.inside in
    let still = c.plan.ensures.same in
    let led = c.self.invariant.1 in (
      c.self.invariant.0 ∙ sym still.me_is,
      (
        led.0,
        led_still view c.plan.new.self led.0 still.me_is still.config_is (still.placed led.1.placed) (planned_so c.self.inside.node c.plan.new.self led.0 still led.1.stands) led.1,
      ),
      c.self.invariant.2,
      c.self.invariant.3,
    )

pub returns-in-Err-plan-clause-gives : goal.returns-in-Err-plan-clause-gives
returns-in-Err-plan-clause-gives g c =
    let view : RunningSeat g.row.S.Denot = the_view g.row.S g.row.J g.row.M g.S.Stable g.J.Beginning g.J.Naming g.M.Retention c.self.inside in
    let new : RunningSeat g.row.S.Denot = record { config = c.self.inside.config; start = seats_in g.J.Beginning.start c.self.inside.me; node = c.plan.new.self; own = c.self.inside.own.entries; keeps = c.self.inside.own.keeps; known = c.self.inside.known } in
    subst (λ (s : RunningSeat g.row.S.Denot). PrepareGives s new c.args.input (Err c.fault_for.result)) c.self.view_is
    (refused_gives view new c.plan.new.self c.args.input (node_input c.in-Ok.copy) c.in-Err-plan.reason c.fault_for.result c.in-Ok.ensures.copy c.fault_for.ensures c.in-Err-plan.ensures.gives)

pub returns-clause-gives : goal.returns-clause-gives
returns-clause-gives g c =
    let view : RunningSeat g.row.S.Denot = the_view g.row.S g.row.J g.row.M g.S.Stable g.J.Beginning g.J.Naming g.M.Retention c.self.inside in (
      refl,
      prepared_gives view c.plan.new.self c.args.input (node_input c.in-Ok.copy) c.in-Ok-plan.plan c.in-Ok.ensures.copy c.self.invariant.1 c.plan.ensures.same c.in-Ok-plan.ensures.gives,
    )
