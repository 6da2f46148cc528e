use Rattle.std.proofs.Common.{refl, sym, ap, subst, ◌∙◌}
use Rattle.std.specs.Option.{option_map}
use Rattle.seats.specs.State.{RunningSeat}
use Rattle.seats.specs.Steps.{IsFoundBy, IsDown, OfItsTables, AnswersQuery, HasAnswer}
use Rattle.seats.proofs.Told.{is_up, of_its_tables}
use Rattle.seats.specs.contracts.seat.Seat.{the_view}
use Rattle.seats.proofs.seat.Seat.read.Goals as goal

pub returns-in-Ok : goal.returns-in-Ok
returns-in-Ok g c =
    let view : RunningSeat g.row.S.Denot = the_view g.row.S g.row.J g.row.M g.S.Stable g.J.Beginning g.J.Naming g.M.Retention c.self.inside in
    let here = sym (ap (λ o. option_map (λ node. node.now) o) c.in-Some.is) ∙ c.node.ensures in (
      refl,
      subst (λ (s : RunningSeat g.row.S.Denot). IsFoundBy s (record { query = c.args.query; answer = c.in-Ok.answer })) c.self.view_is
          (record {
            up = is_up view c.in-Some.node.now here;
            answers = of_its_tables view c.in-Some.node.now (λ uploads. AnswersQuery uploads c.args.query c.in-Ok.answer) here c.in-Ok.ensures;
          }),
    )

pub returns-in-Err : goal.returns-in-Err
returns-in-Err g c =
    let view : RunningSeat g.row.S.Denot = the_view g.row.S g.row.J g.row.M g.S.Stable g.J.Beginning g.J.Naming g.M.Retention c.self.inside in
    let here = sym (ap (λ o. option_map (λ node. node.now) o) c.in-Some.is) ∙ c.node.ensures in (
      c.in-Err.ensures.0,
      subst (λ (s : RunningSeat g.row.S.Denot). IsDown s → ⊥) c.self.view_is (is_up view c.in-Some.node.now here),
      subst (λ (s : RunningSeat g.row.S.Denot). OfItsTables s (λ uploads. HasAnswer uploads c.args.query)) c.self.view_is
          (of_its_tables view c.in-Some.node.now (λ uploads. HasAnswer uploads c.args.query) here c.in-Err.ensures.1),
    )
