use Rattle.std.proofs.Common.{refl, inl, inr, [], ◌∷◌, Some, None, Err}
use Rattle.node_worker.specs.Deeds.{Found, Answered}
use Rattle.node_worker.proofs.Doing.{one, two}
use Rattle.node_worker.proofs.settling.end_at.Goals as goal

pub returns-in-Some : goal.returns-in-Some
returns-in-Some g c =
    let found = Found c.args.at (Some c.in-Some.put) in
    let answered = Answered c.in-Some.put (Err c.args.end) in (
      found ∷ answered ∷ [],
      two g.P.Workplace.does c.args.place.now c.find.new.self c.answer.new.self found answered c.in-Some.ensures c.answer.ensures,
      inr (c.in-Some.put, refl),
    )

pub returns-in_default : goal.returns-in_default
returns-in_default g c =
    let found = Found c.args.at None in (found ∷ [], one g.P.Workplace.does c.args.place.now c.find.new.self found c.in_default.ensures, inl refl)
