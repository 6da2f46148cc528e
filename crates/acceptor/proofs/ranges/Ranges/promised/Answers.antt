use Rattle.std.proofs.Common.{◌≡◌, ◌<◌, ◌≤◌, arith, rules}
use Rattle.ballots.specs.Limits.{max_slot}
use Rattle.acceptor.proofs.Ranging.{ranged_none, ranged_some}
use Rattle.acceptor.proofs.ranges.Ranges.promised.Goals as goal

pub returns-then-begun-eq0 : goal.returns-then-begun-eq0
returns-then-begun-eq0 c =
    let within : c.number.result ≤ max_slot = omega (arith, c.number.ensures.value, c.number.ensures.within) in
    let none : c.begun_below-begun.result ≡ 0 = search rules in
    rw (← c.self.view_is, ← c.deref.ensures.value, ← c.number.ensures.value)
    (ranged_none c.deref.result.now c.number.result c.begun_below-begun.result within none c.begun_below-begun.ensures.later)

pub returns : goal.returns
returns c =
    let within : c.number.result ≤ max_slot = omega (arith, c.number.ensures.value, c.number.ensures.within) in
    let some : 0 < c.begun_below-begun.result = search rules in
    rw (← c.self.view_is, ← c.number.ensures.value)
    (ranged_some c.self.inside.ranges.items c.number.result c.begun_below-begun.result c.index.result.now within some (rw (← c.deref.ensures.value) c.begun_below-begun.ensures.bound) c.index.ensures
    (rw (← c.deref.ensures.value) c.begun_below-begun.ensures.earlier) (rw (← c.deref.ensures.value) c.begun_below-begun.ensures.later))
