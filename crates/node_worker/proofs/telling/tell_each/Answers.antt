use Rattle.std.proofs.Common.{◌≡◌, ℕ, [], ◌∷◌, refl, ◌∙◌, subst, arith}
use Rattle.node_worker.specs.Deeds.{Told}
use Rattle.node_worker.specs.Stepping.{TellsEach}
use Rattle.node_worker.proofs.Doing.{one, grown}
use Rattle.node_worker.proofs.telling.tell_each.Goals as goal

pub loop-node-preserved : goal.loop-node-preserved
loop-node-preserved g c =
    let told = Told c.loop-node.node c.args.number in
    grown g.P.Workplace.does (λ node own. own ≡ Told node c.args.number ∷ []) c.loop-node.node c.args.place.now c.loop-node.place c.tell.new.self c.loop-node.invariant
    (told ∷ [], one g.P.Workplace.does c.loop-node.place c.tell.new.self told c.tell.ensures, refl)

pub returns : goal.returns
returns g c =
    let all : c.loop-node.node ≡ c.count-node-end.result = omega (arith, c.loop-node-test.false, c.loop-node.auto.node-end) in
    let done = c.loop-node.invariant in
    let Each : ℕ → Type 0 = λ (n : ℕ). TellsEach n c.args.number done.0 in
    (done.0, done.1, subst Each (all ∙ c.count-node-end.ensures) done.2)
