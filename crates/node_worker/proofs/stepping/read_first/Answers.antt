use Rattle.std.proofs.Common.{Option, refl, sym, [], ◌∷◌, subst}
use Rattle.std.proofs.lemmas.Bool.{lt-ltb}
use Rattle.node_worker.specs.Deeds.{Read}
use Rattle.node_worker.specs.declared.workplace.Sent.{Sent}
use Rattle.node_worker.specs.Stepping.{ReadsFirst}
use Rattle.node_worker.proofs.Doing.{one}
use Rattle.node_worker.proofs.stepping.read_first.Goals as goal

pub returns-then-sent : goal.returns-then-sent
returns-then-sent g c =
    let read = Read c.in_ok-sent.sent.first c.read.result in
    let Reads : Option Sent → Type 0 = λ (sent : Option Sent). ReadsFirst sent c.read.result (read ∷ []) in (
      read ∷ [],
      one g.P.Workplace.does c.args.place.now c.read.new.self read c.read.ensures,
      subst Reads (sym c.in_ok-sent.was) (rw (lt-ltb c.in_ok-sent.sent.first c.in_ok-sent.sent.next c.if-sent.true) refl),
    )
