use Rattle.std.proofs.Common.{Bool, refl, sym, ◌∙◌, subst, [], ◌∷◌, ◌++◌}
use Rattle.node_worker.specs.Deeds.{Looked}
use Rattle.node_worker.specs.Stepping.{TicksIf}
use Rattle.node_worker.proofs.Doing.{one, first, joined}
use Rattle.node_worker.proofs.stepping.tick_where_due.Goals as goal

pub returns-then-is_due : goal.returns-then-is_due
returns-then-is_due g c me members happened paced =
    let looked = Looked c.waits.result in
    let given = c.tick.ensures me members happened paced in
    let again = c.look_at_each.ensures in
    let If : Bool → Type 0 = λ (due : Bool). TicksIf {T = g.row.P-Settled.Denot} due g.P.Workplace.nodes me members happened (given.0 ++ again.0) given.1 in (
      looked ∷ (given.0 ++ again.0),
      given.1,
      first g.P.Workplace.does c.args.place.now c.waits.new.self c.look_at_each.new.place looked (given.0 ++ again.0) c.waits.ensures
          (joined g.P.Workplace.does given.0 again.0 c.waits.new.self c.tick.new.place c.look_at_each.new.place given.2 again.1),
      (c.waits.result, given.0 ++ again.0, refl, subst If (sym c.if-is_due.true ∙ c.is_due.ensures me members happened paced) (given.0, again.0, refl, given.3, again.2)),
      given.4,
    )

pub returns-else-is_due : goal.returns-else-is_due
returns-else-is_due g c me members happened paced =
    let looked = Looked c.waits.result in
    let If : Bool → Type 0 = λ (due : Bool). TicksIf {T = g.row.P-Settled.Denot} due g.P.Workplace.nodes me members happened [] happened in (
      looked ∷ [],
      happened,
      one g.P.Workplace.does c.args.place.now c.waits.new.self looked c.waits.ensures,
      (c.waits.result, [], refl, subst If (sym c.if-is_due.false ∙ c.is_due.ensures me members happened paced) (refl, refl)),
      paced,
    )
