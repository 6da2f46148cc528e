use Rattle.std.proofs.Common.{ℕ, List, Option, None, sym, subst}
use Rattle.cluster_folder.specs.Gates.{GoesOn, LeadsTo}
use Rattle.cluster_folder.proofs.gates.closed_gate.Goals as goal

pub returns-clause-closed : goal.returns-clause-closed
returns-clause-closed g c = λ told gate closed.
    let file = g.D.Disk.content c.loop-next.disk in
    let place = c.loop-next.gate in
    let P : List ℕ → Type 0 = λ l. LeadsTo l place gate in
    let Q : Option ℕ → Type 0 = λ next. GoesOn file place next in
    let leads : LeadsTo file place gate =
    subst P (sym (c.loop-next.invariant.same told)) (c.loop-next.invariant.leads told gate closed) in
    let ends : GoesOn file place None = subst Q c.in_default.is (c.in_ok-next.ensures.goes_on told) in
    sym (ends gate leads)
