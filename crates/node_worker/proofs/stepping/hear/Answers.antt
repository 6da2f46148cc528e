use Rattle.std.proofs.Common.{refl, inl, inr, [], ◌∷◌, Some, None}
use Rattle.node_worker.specs.Paces.{Came}
use Rattle.node_worker.specs.Deeds.{Read}
use Rattle.node_worker.proofs.Doing.{one, first}
use Rattle.node_worker.proofs.stepping.hear.Goals as goal

pub returns-in-Some : goal.returns-in-Some
returns-in-Some g c me members happened paced =
    let read = Read c.args.number (Some c.in-Some.message) in
    let handed = c.hand.ensures in (
      read ∷ handed.0,
      Came c.in-Some.message ∷ happened,
      first g.P.Workplace.does c.args.place.now c.read.new.self c.hand.new.place read handed.0 c.in-Some.ensures handed.1,
      inr (c.in-Some.message, c.hand.result, handed.0, refl, handed.2, refl),
      c.hear.ensures me members happened paced,
    )

pub returns-in_default : goal.returns-in_default
returns-in_default g c me members happened paced =
    let read = Read c.args.number None in (
      read ∷ [],
      happened,
      one g.P.Workplace.does c.args.place.now c.read.new.self read c.in_default.ensures,
      inl (refl, refl),
      paced,
    )
