use Rattle.std.proofs.Common.{refl, subst, [], ◌∷◌, ◌++◌}
use Rattle.node_worker.specs.declared.stepping.Next.{Next}
use Rattle.node_worker.specs.Paces.{Passed}
use Rattle.node_worker.specs.Stepping.{Heeds}
use Rattle.node_worker.proofs.Doing.{joined}
use Rattle.node_worker.proofs.stepping.step.Goals as goal

pub returns-in-Wait : goal.returns-in-Wait
returns-in-Wait g c me members happened paced =
    let heard = c.heed.ensures me members (Passed c.args.waited ∷ happened) (c.pass.ensures me members happened paced) in
    let looked = c.look_at_each.ensures in
    let ticked = c.tick_where_due.ensures me members heard.1 heard.4 in
    let For : Next → Type 0 = λ (goes : Next). Heeds g.P.Workplace.nodes c.args.note (Passed c.args.waited ∷ happened) goes heard.0 heard.1 in
    let rest = looked.0 ++ ticked.0 in (
      heard.0 ++ rest,
      ticked.1,
      joined g.P.Workplace.does heard.0 rest c.args.place.now c.heed.new.place c.tick_where_due.new.place heard.2
          (joined g.P.Workplace.does looked.0 ticked.0 c.heed.new.place c.look_at_each.new.place c.tick_where_due.new.place looked.1 ticked.2),
      (heard.1, heard.0, rest, refl, subst For c.in-Wait.is heard.3, (looked.0, ticked.0, refl, looked.2, ticked.3)),
      ticked.4,
    )

pub returns-in-End : goal.returns-in-End
returns-in-End g c me members happened paced =
    let heard = c.heed.ensures me members (Passed c.args.waited ∷ happened) (c.pass.ensures me members happened paced) in
    let For : Next → Type 0 = λ (goes : Next). Heeds g.P.Workplace.nodes c.args.note (Passed c.args.waited ∷ happened) goes heard.0 heard.1 in (
      heard.0 ++ [],
      heard.1,
      joined g.P.Workplace.does heard.0 [] c.args.place.now c.heed.new.place c.heed.new.place heard.2 refl,
      (heard.1, heard.0, [], refl, subst For c.in-End.is heard.3, (refl, refl)),
      heard.4,
    )
