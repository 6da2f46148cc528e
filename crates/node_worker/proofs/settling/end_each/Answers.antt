use Rattle.std.proofs.Common.{◌≡◌, ℕ, ◌∷◌, refl, subst, arith}
use Rattle.node_worker.specs.Deeds.{Counted, ForEach}
use Rattle.node_worker.specs.Stepping.{EndsAt}
use Rattle.node_worker.proofs.Doing.{first, grown}
use Rattle.node_worker.proofs.settling.end_each.Goals as goal

pub loop-at-preserved : goal.loop-at-preserved
loop-at-preserved g c =
    grown g.P.Workplace.does (EndsAt c.args.end) c.loop-at.at c.places-at-end.new.self c.loop-at.place c.end_at.new.place c.loop-at.invariant c.end_at.ensures

pub returns : goal.returns
returns g c =
    let all : c.loop-at.at ≡ c.places-at-end.result = omega (arith, c.loop-at-test.false, c.loop-at.auto.at-end) in
    let done = c.loop-at.invariant in
    let counted = Counted c.places-at-end.result in
    let Each : ℕ → Type 0 = λ (n : ℕ). ForEach (EndsAt c.args.end) n done.0 in (
      counted ∷ done.0,
      first g.P.Workplace.does c.args.place.now c.places-at-end.new.self c.loop-at.place counted done.0 c.places-at-end.ensures done.1,
      (c.places-at-end.result, done.0, refl, subst Each all done.2),
    )
