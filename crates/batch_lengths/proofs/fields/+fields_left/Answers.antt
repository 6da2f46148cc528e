use Rattle.std.proofs.Common.{◌≡◌, sym, ap, subst, ◌+◌, ◌<◌, [], drop, arith}
use Rattle.std.proofs.lemmas.List.{drop_all}
use Rattle.batch_types.specs.Laid.{node_count}
use Rattle.batch_columns.specs.Held.{layout_named}
use Rattle.batch_reading.specs.Readable.{forest_seen}
use Rattle.batch_lengths.specs.Sizes.{size_there, MayMeasure}
use Rattle.batch_lengths.proofs.Measuring.{field_may, field_few, field_there, own_long_here, spots_here, field_inside, field_next, inside_long_here}
use Rattle.batch_lengths.proofs.Walking.{falls_fields, three_buffers}
use Rattle.batch_lengths.proofs.fields.+fields_left.Goals as goal

pub offset_bounds-table-next : goal.offset_bounds-table-next
offset_bounds-table-next t c = let m = field_may c.args.fields.now c.loop-field.field-index c.field-item.result c.loop-field-test.true c.field-item.is c.args.head.now c.args.place
    c.loop-field.next c.args.body.now c.args.count c.args.table.now c.requires.may.0 c.args.most c.loop-field.left (c.loop-field.invariant c.requires.may.0 c.requires.may.1) in omega (arith, m.walk.nodes_few)

pub bounds-table-next : goal.bounds-table-next
bounds-table-next t c = field_there c.args.fields.now c.loop-field.field-index c.field-item.result c.loop-field-test.true c.field-item.is c.args.head.now c.args.place
    c.loop-field.next c.args.body.now c.args.count c.args.table.now c.requires.may.0 c.args.most c.loop-field.left (c.loop-field.invariant c.requires.may.0 c.requires.may.1)

pub own_left-requires-clause-few : goal.own_left-requires-clause-few
own_left-requires-clause-few t c = field_few c.args.fields.now c.loop-field.field-index c.field-item.result c.loop-field-test.true c.field-item.is c.args.head.now c.args.place
    c.loop-field.next c.args.body.now c.args.count c.args.table.now c.requires.may.0 c.args.most c.loop-field.left (c.loop-field.invariant c.requires.may.0 c.requires.may.1)

pub own_left-requires-clause-left : goal.own_left-requires-clause-left
own_left-requires-clause-left t c =
    let was = c.loop-field.invariant c.requires.may.0 c.requires.may.1 in omega (arith, was.fits, c.requires.few)

pub returns-in_default-clause-long : goal.returns-in_default-clause-long
returns-in_default-clause-long t c spots may =
    own_long_here c.args.fields.now c.loop-field.field-index c.field-item.result c.loop-field-test.true c.field-item.is c.args.head.now c.args.place
    c.loop-field.next c.args.body.now c.args.count c.args.table.now spots c.args.most c.loop-field.left (c.loop-field.invariant spots may) c.layout_of-layout.result c.layout_of-layout.ensures _ c.in_default.ensures.long

pub count_inside-cells-requires : goal.count_inside-cells-requires
count_inside-cells-requires t c = field_few c.args.fields.now c.loop-field.field-index c.field-item.result c.loop-field-test.true c.field-item.is c.args.head.now c.args.place
    c.loop-field.next c.args.body.now c.args.count c.args.table.now c.requires.may.0 c.args.most c.loop-field.left (c.loop-field.invariant c.requires.may.0 c.requires.may.1)

pub inside-first-requires-clause-node : goal.inside-first-requires-clause-node
inside-first-requires-clause-node t c = let m = field_may c.args.fields.now c.loop-field.field-index c.field-item.result c.loop-field-test.true c.field-item.is c.args.head.now c.args.place
    c.loop-field.next c.args.body.now c.args.count c.args.table.now c.requires.may.0 c.args.most c.loop-field.left (c.loop-field.invariant c.requires.may.0 c.requires.may.1) in omega (arith, m.walk.nodes_few)

pub inside-first-requires-clause-buffer : goal.inside-first-requires-clause-buffer
inside-first-requires-clause-buffer t c =
    let m = field_may c.args.fields.now c.loop-field.field-index c.field-item.result c.loop-field-test.true c.field-item.is c.args.head.now c.args.place
    c.loop-field.next c.args.body.now c.args.count c.args.table.now c.requires.may.0 c.args.most c.loop-field.left (c.loop-field.invariant c.requires.may.0 c.requires.may.1) in omega (arith, m.walk.nodes_few, m.walk.buffers_few, three_buffers (layout_named c.layout_of-layout.result))

pub fields_left-requires : goal.fields_left-requires
fields_left-requires t c = (
  subst (λ n. node_count (forest_seen c.deref.result.now) < n) c.decreases
      (subst (λ n. n < node_count (forest_seen c.args.fields.now)) (ap (λ l. node_count (forest_seen l)) (sym c.deref.ensures.value))
      (falls_fields c.args.fields.now c.loop-field.field-index c.field-item.result c.loop-field-test.true c.field-item.is)),
  (
    (
      spots_here c.args.fields.now c.loop-field.field-index c.field-item.result c.loop-field-test.true c.field-item.is c.args.head.now c.args.place
          c.loop-field.next c.args.body.now c.args.count c.args.table.now c.requires.may.0 c.args.most c.loop-field.left (c.loop-field.invariant c.requires.may.0 c.requires.may.1) c.layout_of-layout.result c.layout_of-layout.ensures _
          c.count_inside-cells.result c.count_inside-cells.ensures c.inside-first.result c.inside-first.ensures.node c.inside-first.ensures.buffer,
      subst (λ l. MayMeasure (forest_seen l) c.args.head.now c.inside-first.result c.args.body.now c.count_inside-cells.result c.args.table.now
          (spots_here c.args.fields.now c.loop-field.field-index c.field-item.result c.loop-field-test.true c.field-item.is c.args.head.now c.args.place
          c.loop-field.next c.args.body.now c.args.count c.args.table.now c.requires.may.0 c.args.most c.loop-field.left (c.loop-field.invariant c.requires.may.0 c.requires.may.1) c.layout_of-layout.result c.layout_of-layout.ensures _
          c.count_inside-cells.result c.count_inside-cells.ensures c.inside-first.result c.inside-first.ensures.node c.inside-first.ensures.buffer))
          (sym c.deref.ensures.value)
          (field_inside c.args.fields.now c.loop-field.field-index c.field-item.result c.loop-field-test.true c.field-item.is c.args.head.now c.args.place
          c.loop-field.next c.args.body.now c.args.count c.args.table.now c.requires.may.0 c.args.most c.loop-field.left (c.loop-field.invariant c.requires.may.0 c.requires.may.1) c.layout_of-layout.result c.layout_of-layout.ensures _
          c.count_inside-cells.result c.count_inside-cells.ensures c.inside-first.result c.inside-first.ensures.node c.inside-first.ensures.buffer),
    ),
    (let was = c.loop-field.invariant c.requires.may.0 c.requires.may.1 in omega (arith, was.fits, c.in-Some.ensures.fits, c.requires.few)),
  ),
)

pub returns-in_default-fields_left-clause-long : goal.returns-in_default-fields_left-clause-long
returns-in_default-fields_left-clause-long t c spots may =
    inside_long_here c.args.fields.now c.loop-field.field-index c.field-item.result c.loop-field-test.true c.field-item.is c.args.head.now c.args.place
    c.loop-field.next c.args.body.now c.args.count c.args.table.now spots c.args.most c.loop-field.left (c.loop-field.invariant spots may) c.layout_of-layout.result c.layout_of-layout.ensures _
    c.count_inside-cells.result c.count_inside-cells.ensures c.inside-first.result c.inside-first.ensures.node c.inside-first.ensures.buffer
    c.in-Some.rest c.in-Some.ensures.fits
    (subst (λ l. c.in-Some.rest < size_there c.args.body.now (forest_seen l) c.args.head.now c.inside-first.result
    (spots_here c.args.fields.now c.loop-field.field-index c.field-item.result c.loop-field-test.true c.field-item.is c.args.head.now c.args.place
    c.loop-field.next c.args.body.now c.args.count c.args.table.now spots c.args.most c.loop-field.left (c.loop-field.invariant spots may) c.layout_of-layout.result c.layout_of-layout.ensures _
    c.count_inside-cells.result c.count_inside-cells.ensures c.inside-first.result c.inside-first.ensures.node c.inside-first.ensures.buffer)) c.deref.ensures.value
    (c.in_default-fields_left.ensures.long
    (spots_here c.args.fields.now c.loop-field.field-index c.field-item.result c.loop-field-test.true c.field-item.is c.args.head.now c.args.place
    c.loop-field.next c.args.body.now c.args.count c.args.table.now spots c.args.most c.loop-field.left (c.loop-field.invariant spots may) c.layout_of-layout.result c.layout_of-layout.ensures _
    c.count_inside-cells.result c.count_inside-cells.ensures c.inside-first.result c.inside-first.ensures.node c.inside-first.ensures.buffer)
    (subst (λ l. MayMeasure (forest_seen l) c.args.head.now c.inside-first.result c.args.body.now c.count_inside-cells.result c.args.table.now
    (spots_here c.args.fields.now c.loop-field.field-index c.field-item.result c.loop-field-test.true c.field-item.is c.args.head.now c.args.place
    c.loop-field.next c.args.body.now c.args.count c.args.table.now spots c.args.most c.loop-field.left (c.loop-field.invariant spots may) c.layout_of-layout.result c.layout_of-layout.ensures _
    c.count_inside-cells.result c.count_inside-cells.ensures c.inside-first.result c.inside-first.ensures.node c.inside-first.ensures.buffer))
    (sym c.deref.ensures.value)
    (field_inside c.args.fields.now c.loop-field.field-index c.field-item.result c.loop-field-test.true c.field-item.is c.args.head.now c.args.place
    c.loop-field.next c.args.body.now c.args.count c.args.table.now spots c.args.most c.loop-field.left (c.loop-field.invariant spots may) c.layout_of-layout.result c.layout_of-layout.ensures _
    c.count_inside-cells.result c.count_inside-cells.ensures c.inside-first.result c.inside-first.ensures.node c.inside-first.ensures.buffer))))

pub place_after-next-requires-clause-node : goal.place_after-next-requires-clause-node
place_after-next-requires-clause-node t c = let m = field_may c.args.fields.now c.loop-field.field-index c.field-item.result c.loop-field-test.true c.field-item.is c.args.head.now c.args.place
    c.loop-field.next c.args.body.now c.args.count c.args.table.now c.requires.may.0 c.args.most c.loop-field.left (c.loop-field.invariant c.requires.may.0 c.requires.may.1) in omega (arith, m.walk.nodes_few)

pub place_after-next-requires-clause-buffer : goal.place_after-next-requires-clause-buffer
place_after-next-requires-clause-buffer t c = let m = field_may c.args.fields.now c.loop-field.field-index c.field-item.result c.loop-field-test.true c.field-item.is c.args.head.now c.args.place
    c.loop-field.next c.args.body.now c.args.count c.args.table.now c.requires.may.0 c.args.most c.loop-field.left (c.loop-field.invariant c.requires.may.0 c.requires.may.1) in m.walk.buffers_few

pub loop-field-preserved : goal.loop-field-preserved
loop-field-preserved t c spots may =
    field_next c.args.fields.now c.loop-field.field-index c.field-item.result c.loop-field-test.true c.field-item.is c.args.head.now c.args.place
    c.loop-field.next c.args.body.now c.args.count c.args.table.now spots c.args.most c.loop-field.left (c.loop-field.invariant spots may) c.layout_of-layout.result c.layout_of-layout.ensures _
    c.count_inside-cells.result c.count_inside-cells.ensures c.inside-first.result c.inside-first.ensures.node c.inside-first.ensures.buffer
    c.place_after-next.result c.place_after-next.ensures.node c.place_after-next.ensures.buffer c.place_after-next.ensures.few
    c.in-Some.rest c.in-Some-fields_left.rest c.in-Some.ensures.fits
    (subst (λ l. c.in-Some-fields_left.rest + size_there c.args.body.now (forest_seen l) c.args.head.now c.inside-first.result
    (spots_here c.args.fields.now c.loop-field.field-index c.field-item.result c.loop-field-test.true c.field-item.is c.args.head.now c.args.place
    c.loop-field.next c.args.body.now c.args.count c.args.table.now spots c.args.most c.loop-field.left (c.loop-field.invariant spots may) c.layout_of-layout.result c.layout_of-layout.ensures _
    c.count_inside-cells.result c.count_inside-cells.ensures c.inside-first.result c.inside-first.ensures.node c.inside-first.ensures.buffer) ≡ c.in-Some.rest) c.deref.ensures.value
    (c.in-Some-fields_left.ensures.fits
    (spots_here c.args.fields.now c.loop-field.field-index c.field-item.result c.loop-field-test.true c.field-item.is c.args.head.now c.args.place
    c.loop-field.next c.args.body.now c.args.count c.args.table.now spots c.args.most c.loop-field.left (c.loop-field.invariant spots may) c.layout_of-layout.result c.layout_of-layout.ensures _
    c.count_inside-cells.result c.count_inside-cells.ensures c.inside-first.result c.inside-first.ensures.node c.inside-first.ensures.buffer)
    (subst (λ l. MayMeasure (forest_seen l) c.args.head.now c.inside-first.result c.args.body.now c.count_inside-cells.result c.args.table.now
    (spots_here c.args.fields.now c.loop-field.field-index c.field-item.result c.loop-field-test.true c.field-item.is c.args.head.now c.args.place
    c.loop-field.next c.args.body.now c.args.count c.args.table.now spots c.args.most c.loop-field.left (c.loop-field.invariant spots may) c.layout_of-layout.result c.layout_of-layout.ensures _
    c.count_inside-cells.result c.count_inside-cells.ensures c.inside-first.result c.inside-first.ensures.node c.inside-first.ensures.buffer))
    (sym c.deref.ensures.value)
    (field_inside c.args.fields.now c.loop-field.field-index c.field-item.result c.loop-field-test.true c.field-item.is c.args.head.now c.args.place
    c.loop-field.next c.args.body.now c.args.count c.args.table.now spots c.args.most c.loop-field.left (c.loop-field.invariant spots may) c.layout_of-layout.result c.layout_of-layout.ensures _
    c.count_inside-cells.result c.count_inside-cells.ensures c.inside-first.result c.inside-first.ensures.node c.inside-first.ensures.buffer))))

pub returns-clause-fits : goal.returns-clause-fits
returns-clause-fits t c spots may =
    let was = c.loop-field.invariant spots may in
    let done : drop c.loop-field.field-index c.args.fields.now ≡ [] = drop_all c.loop-field.field-index c.args.fields.now c.loop-field-test.false in
    omega (arith, was.fits, was.whole, ap (λ l. size_there c.args.body.now (forest_seen l) c.args.head.now c.loop-field.next spots) done)
