use Rattle.std.proofs.Common.{refl, [], ◌∷◌, Some, None, Ok, Err, sym, ◌∙◌}
use Rattle.node_worker.specs.Deeds.{Entered, Answered}
use Rattle.node_worker.proofs.Doing.{one, two}
use Rattle.node_worker.proofs.settling.settle.Goals as goal

pub returns-in-Ok-Some : goal.returns-in-Ok-Some
returns-in-Ok-Some g c =
    let known = Ok (Some c.in-Ok-Some.settled) in
    let entered = Entered c.args.put known in
    let answered = Answered c.args.put (Ok c.in-Ok-Some.settled) in (
      entered ∷ answered ∷ [],
      two g.P.Workplace.does c.args.place.now c.enter.new.self c.answer.new.self entered answered (rw (sym c.in-Ok-Some.field-0-is, sym c.in-Ok-Some.is) c.enter.ensures) c.answer.ensures,
      (known, answered ∷ [], refl, refl),
    )

pub returns-in-Ok-None : goal.returns-in-Ok-None
returns-in-Ok-None g c =
    let entered = Entered c.args.put (Ok None) in (
      entered ∷ [],
      one g.P.Workplace.does c.args.place.now c.enter.new.self entered (rw (sym c.in-Ok-None.field-0-is, sym c.in-Ok-None.is) c.enter.ensures),
      (Ok None, [], refl, refl),
    )

pub returns-in-Some : goal.returns-in-Some
returns-in-Some g c =
    let entered = Entered c.args.put (Err c.in-Err.fault) in
    let answered = Answered c.args.put (Err c.in-Some.why) in (
      entered ∷ answered ∷ [],
      two g.P.Workplace.does c.args.place.now c.enter.new.self c.answer-in-Some.new.self entered answered c.in-Err.ensures c.answer-in-Some.ensures,
      (Err c.in-Err.fault, answered ∷ [], refl, rw (sym c.end_of.ensures ∙ c.in-Some.is) refl),
    )

pub returns-in_default : goal.returns-in_default
returns-in_default g c =
    let entered = Entered c.args.put (Err c.in-Err.fault) in (
      entered ∷ [],
      one g.P.Workplace.does c.args.place.now c.enter.new.self entered c.in-Err.ensures,
      (Err c.in-Err.fault, [], refl, rw (sym c.end_of.ensures ∙ c.in_default.is) refl),
    )
