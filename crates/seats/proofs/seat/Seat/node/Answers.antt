use Rattle.std.proofs.Common.{sym, ap, subst, ◌∙◌}
use Rattle.std.specs.Option.{option_map}
use Rattle.seats.specs.State.{RunningSeat, IsLedNode}
use Rattle.seats.proofs.Holding.{led_node, has_taken}
use Rattle.seats.specs.contracts.seat.Seat.{the_view}
use Rattle.seats.proofs.seat.Seat.node.Goals as goal

pub returns-in-Some-clause-led : goal.returns-in-Some-clause-led
returns-in-Some-clause-led g c =
    let view : RunningSeat g.row.S.Denot = the_view g.row.S g.row.J g.row.M g.S.Stable g.J.Beginning g.J.Naming g.M.Retention c.self.inside in
    let here = sym (ap (λ o. option_map (λ node. node.now) o) c.in-Some.is) ∙ c.node.ensures in
    subst (λ (s : RunningSeat g.row.S.Denot). IsLedNode s c.in-Some.node.now) c.self.view_is (led_node view c.in-Some.node.now c.self.invariant.1 here)

pub returns-in-Some-clause-tables : goal.returns-in-Some-clause-tables
returns-in-Some-clause-tables g c =
    let view : RunningSeat g.row.S.Denot = the_view g.row.S g.row.J g.row.M g.S.Stable g.J.Beginning g.J.Naming g.M.Retention c.self.inside in
    let here = sym (ap (λ o. option_map (λ node. node.now) o) c.in-Some.is) ∙ c.node.ensures in
    has_taken view c.in-Some.node.now (led_node view c.in-Some.node.now c.self.invariant.1 here)
