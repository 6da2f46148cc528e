use Rattle.std.proofs.Common.{ℕ, refl, subst, ◌∷◌, ◌++◌}
use Rattle.node_worker.specs.declared.workplace.WorkInput.TheVariants.{Tick}
use Rattle.node_worker.specs.Paces.{Ticked}
use Rattle.node_worker.specs.Stepping.{Hands}
use Rattle.node_worker.proofs.Doing.{joined}
use Rattle.node_worker.proofs.stepping.tick.Goals as goal

pub returns : goal.returns
returns g c me members happened paced =
    let handed = c.hand-sent.ensures in
    let seen = c.read_first-message.ensures in
    let For : ℕ → Type 0 = λ (left : ℕ). Hands g.P.Workplace.nodes (Tick left) c.hand-sent.result handed.0 in (
      handed.0 ++ seen.0,
      Ticked c.read_first-message.result ∷ happened,
      joined g.P.Workplace.does handed.0 seen.0 c.args.place.now c.hand-sent.new.place c.read_first-message.new.place handed.1 seen.1,
      (c.hand-sent.result, c.read_first-message.result, handed.0, seen.0, refl, subst For (c.left.ensures me members happened paced) handed.2, seen.2, refl),
      c.pass_tick.ensures me members happened paced,
    )
