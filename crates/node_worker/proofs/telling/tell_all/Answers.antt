use Rattle.std.proofs.Common.{◌≡◌, ℕ, ◌+◌, ◌-◌, List, subst, arith}
use Rattle.node_worker.specs.Deeds.{Deed, ForEach}
use Rattle.node_worker.specs.Stepping.{TellsEach}
use Rattle.node_worker.proofs.Doing.{grown}
use Rattle.node_worker.proofs.telling.tell_all.Goals as goal

pub loop-number-preserved : goal.loop-number-preserved
loop-number-preserved g c =
    let first = c.args.sent.first in
    let part : ℕ → List (Deed g.row.P-Settled.Denot) → Type 0 = λ k own. TellsEach g.P.Workplace.nodes (first + k) own in
    let here : c.loop-number.number ≡ first + (c.loop-number.number - first) = omega (arith, c.loop-number.auto.number) in
    let next : c.loop-number.number - first + 1 ≡ c.loop-number.number + 1 - first = omega (arith, c.loop-number.auto.number) in
    let told = c.tell_each.ensures in
    let Own : ℕ → Type 0 = λ (number : ℕ). TellsEach g.P.Workplace.nodes number told.0 in
    let all = grown g.P.Workplace.does part (c.loop-number.number - first) c.args.place.now c.loop-number.place c.tell_each.new.place c.loop-number.invariant.0
    (told.0, told.1, subst Own here told.2) in
    let Each : ℕ → Type 0 = λ (n : ℕ). ForEach part n all.0 in (
      (all.0, all.1, subst Each next all.2),
      omega (arith, c.loop-number-test.true, c.loop-number.auto.number),
    )

pub returns : goal.returns
returns g c =
    let first = c.args.sent.first in
    let part : ℕ → List (Deed g.row.P-Settled.Denot) → Type 0 = λ k own. TellsEach g.P.Workplace.nodes (first + k) own in
    let done = c.loop-number.invariant.0 in
    let all : c.loop-number.number - first ≡ c.args.sent.next - first = omega (arith, c.loop-number-test.false, c.loop-number.invariant.1) in
    let Each : ℕ → Type 0 = λ (n : ℕ). ForEach part n done.0 in
    (done.0, done.1, subst Each all done.2)
