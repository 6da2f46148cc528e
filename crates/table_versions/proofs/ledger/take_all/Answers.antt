use Rattle.std.proofs.Common.{ap, subst, ◌∙◌, length, arith}
use Rattle.table_versions.proofs.Queue.{IsLeft, left_next, left_prepared, left_step, left_end, no_items}
use Rattle.table_versions.proofs.ledger.take_all.Goals as goal

pub take-requires-clause-ledger : goal.take-requires-clause-ledger
take-requires-clause-ledger c =
    let r = c.requires.ledger in
    left_next c.loop-prepared.firsts.entries c.loop-prepared.tables.entries c.loop-prepared.frames.entries r.0 r.1 c.in-Some.prepared c.pop_front.new.self.items
    (subst (IsLeft c.loop-prepared.firsts.entries c.loop-prepared.tables.entries c.loop-prepared.frames.entries r.0 r.1) c.in-Some.ensures.items
    (c.loop-prepared.invariant.left r.0 r.1 r.2 r.3)) r.4

pub take-requires-clause-prepared : goal.take-requires-clause-prepared
take-requires-clause-prepared c =
    let r = c.requires.ledger in
    left_prepared c.loop-prepared.firsts.entries c.loop-prepared.tables.entries c.loop-prepared.frames.entries r.0 r.1 c.in-Some.prepared c.pop_front.new.self.items
    (subst (IsLeft c.loop-prepared.firsts.entries c.loop-prepared.tables.entries c.loop-prepared.frames.entries r.0 r.1) c.in-Some.ensures.items
    (c.loop-prepared.invariant.left r.0 r.1 r.2 r.3))

pub loop-prepared-preserved : goal.loop-prepared-preserved
loop-prepared-preserved c =
    let i = c.loop-prepared.invariant in
    let e = c.take.ensures in
    let items = ap length c.in-Some.ensures.items in
    record {
      first_room = omega (arith, i.first_room, e.first_room, items);
      table_room = omega (arith, i.table_room, e.table_room, items);
      frame_room = omega (arith, i.frame_room, e.frame_room, items);
      first_used = omega (arith, i.first_used, e.first_room, items);
      table_used = omega (arith, i.table_used, e.table_room, items);
      frame_used = omega (arith, i.frame_used, e.frame_room, items);
      left = λ taken more ledger ready.
          left_step c.loop-prepared.firsts.entries c.loop-prepared.tables.entries c.loop-prepared.frames.entries taken more c.take.new.firsts.entries c.take.new.tables.entries
          c.take.new.frames.entries c.in-Some.prepared c.pop_front.new.self.items c.take.ensures.takes
          (subst (IsLeft c.loop-prepared.firsts.entries c.loop-prepared.tables.entries c.loop-prepared.frames.entries taken more) c.in-Some.ensures.items
          (c.loop-prepared.invariant.left taken more ledger ready));
    }

pub returns-clause-takes : goal.returns-clause-takes
returns-clause-takes c = λ taken more ledger ready.
    left_end c.loop-prepared.firsts.entries c.loop-prepared.tables.entries c.loop-prepared.frames.entries taken more
    (subst (IsLeft c.loop-prepared.firsts.entries c.loop-prepared.tables.entries c.loop-prepared.frames.entries taken more)
    (no_items c.loop-prepared.uploads.items (c.in_default.ensures.items ∙ c.in_default.ensures.rest)) (c.loop-prepared.invariant.left taken more ledger ready))
