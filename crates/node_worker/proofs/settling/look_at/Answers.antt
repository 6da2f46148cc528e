use Rattle.std.proofs.Common.{refl, inl, inr, [], ◌∷◌, Some, None}
use Rattle.node_worker.specs.Deeds.{Found}
use Rattle.node_worker.proofs.Doing.{one, first}
use Rattle.node_worker.proofs.settling.look_at.Goals as goal

pub returns-in-Some : goal.returns-in-Some
returns-in-Some g c =
    let found = Found c.args.at (Some c.in-Some.put) in
    let rest = c.settle.ensures in (
      found ∷ rest.0,
      first g.P.Workplace.does c.args.place.now c.find.new.self c.settle.new.place found rest.0 c.in-Some.ensures rest.1,
      inr (c.in-Some.put, rest.0, refl, rest.2),
    )

pub returns-in_default : goal.returns-in_default
returns-in_default g c =
    let found = Found c.args.at None in (found ∷ [], one g.P.Workplace.does c.args.place.now c.find.new.self found c.in_default.ensures, inl refl)
