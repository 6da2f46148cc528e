use Rattle.std.proofs.Common.{refl, sym, ◌∙◌, [], ◌∷◌, Ok, Err, subst, Option}
use Rattle.node_worker.specs.Deeds.{Handed}
use Rattle.node_worker.specs.declared.workplace.End.{End}
use Rattle.node_worker.specs.Stepping.{EndsFor}
use Rattle.node_worker.proofs.Doing.{one, first}
use Rattle.node_worker.proofs.stepping.hand.Goals as goal

pub returns-in-Ok : goal.returns-in-Ok
returns-in-Ok g c =
    let gave = Ok c.in-Ok.sent in
    let handed = Handed c.args.input gave in
    let told = c.tell_all.ensures in (
      handed ∷ told.0,
      first g.P.Workplace.does c.args.place.now c.hand.new.self c.tell_all.new.place handed told.0 c.in-Ok.ensures told.1,
      (gave, told.0, refl, (refl, told.2)),
    )

pub returns-in-Some : goal.returns-in-Some
returns-in-Some g c =
    let gave = Err c.in-Err.fault in
    let handed = Handed c.args.input gave in
    let ended = c.end_each.ensures in
    let For : Option End → Type 0 = λ (end : Option End). EndsFor end ended.0 in (
      handed ∷ ended.0,
      first g.P.Workplace.does c.args.place.now c.hand.new.self c.end_each.new.place handed ended.0 c.in-Err.ensures ended.1,
      (gave, ended.0, refl, (refl, subst For (sym (sym c.end_of.ensures ∙ c.in-Some.is)) ended.2)),
    )

pub returns-in_default : goal.returns-in_default
returns-in_default g c =
    let gave = Err c.in-Err.fault in
    let handed = Handed c.args.input gave in (
      handed ∷ [],
      one g.P.Workplace.does c.args.place.now c.hand.new.self handed c.in-Err.ensures,
      (gave, [], refl, (refl, rw (sym c.end_of.ensures ∙ c.in_default.is) refl)),
    )
