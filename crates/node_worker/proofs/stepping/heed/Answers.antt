use Rattle.std.proofs.Common.{Option, refl, sym, ap, ◌∙◌, subst, [], ◌∷◌, Some}
use Rattle.node_worker.specs.declared.workplace.Note.{Note}
use Rattle.node_worker.specs.declared.stepping.Next.TheVariants.{Wait, End}
use Rattle.node_worker.specs.Paces.{Acted}
use Rattle.node_worker.specs.Stepping.{Heeds}
use Rattle.node_worker.proofs.stepping.heed.Goals as goal

pub returns-in-Message : goal.returns-in-Message
returns-in-Message g c me members happened paced =
    let heard = c.hear.ensures me members happened paced in
    let For : Option Note → Type 0 = λ (note : Option Note). Heeds {T = g.row.P-Settled.Denot} g.P.Workplace.nodes note happened Wait heard.0 heard.1 in
    (heard.0, heard.1, heard.2, subst For (sym (c.in-Some.is ∙ ap (λ (note : Note). Some note) c.in-Message.is)) (refl, heard.3), heard.4)

pub returns-in-Look : goal.returns-in-Look
returns-in-Look g c me members happened paced =
    let For : Option Note → Type 0 = λ (note : Option Note). Heeds {T = g.row.P-Settled.Denot} g.P.Workplace.nodes note happened Wait [] (Acted ∷ happened) in (
      [],
      Acted ∷ happened,
      refl,
      subst For (sym (c.in-Some.is ∙ ap (λ (note : Note). Some note) c.in-Look.is)) (refl, refl, refl),
      c.hear_event.ensures me members happened paced,
    )

pub returns-in-Stop : goal.returns-in-Stop
returns-in-Stop g c me members happened paced =
    let ended = c.end_each.ensures in
    let For : Option Note → Type 0 = λ (note : Option Note). Heeds {T = g.row.P-Settled.Denot} g.P.Workplace.nodes note happened End ended.0 happened in
    (ended.0, happened, ended.1, subst For (sym (c.in-Some.is ∙ ap (λ (note : Note). Some note) c.in-Stop.is)) (refl, ended.2, refl), paced)

pub returns-in_default : goal.returns-in_default
returns-in_default g c me members happened paced =
    let For : Option Note → Type 0 = λ (note : Option Note). Heeds {T = g.row.P-Settled.Denot} g.P.Workplace.nodes note happened Wait [] happened in
    ([], happened, refl, subst For (sym c.in_default.is) (refl, refl, refl), paced)
