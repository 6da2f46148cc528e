use Rattle.std.proofs.Common.{◌≡◌, ℕ, IfOk, sym, ap, subst, ◌∙◌}
use Rattle.node_threads.specs.Told.{IsTold}
use Rattle.node_threads.proofs.locks.Locks.take.Goals as goal

pub returns : goal.returns
returns g c =
    let same = ap (λ seat. seat.node.me) (c.deref_mut.ensures.value ∙ sym c.deref.ensures) in
    let here : c.deref_mut-2.result.now.node.me ≡ c.args.self.now.node =
    ap (λ seat. seat.node.me) c.deref_mut-2.ensures.value ∙ c.in_ok-prepared.ensures.same.me_is ∙ same ∙ c.in_ok-is_at.ensures in
    subst (λ (node : ℕ). IfOk c.take_prepared.result (IsTold node c.args.input)) here
    (subst (λ input. IfOk c.take_prepared.result (IsTold c.deref_mut-2.result.now.node.me input)) c.in_ok-prepared.ensures.gives.0 c.take_prepared.ensures)
