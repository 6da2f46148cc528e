use Rattle.std.proofs.Common.{◌≡◌, ◌∙◌, ap, [], vec_len, ◌+◌, ◌*◌, ◌<◌, sym, subst, ℕ, List, drop, arith}
use Rattle.std.proofs.lemmas.Result.{err_from_is_err_and}
use Rattle.header_types.specs.declared.schema.Field.{Field, out-Field}
use Rattle.header_types.specs.FieldView.{fields_in}
use Rattle.header_types.specs.Limits.{forest_depth}
use Rattle.batch_types.specs.Laid.{LaidColumns}
use Rattle.batch_types.specs.Layouts.{buffers_in_layout}
use Rattle.batch_types.specs.LaysOut.{AreSound, HaveFault}
use Rattle.batch_checking.specs.Columns.{forest_seen, columns_at, places_in, MayCheck, IsBehind}
use Rattle.batch_checking.proofs.Came.{one_may, inside_may, moved_inside, own_fault, inside_fault, went_on, came_next, depth_falls, none_inside, bare_nodes, bare_buffers, bare_is_sound}
use Rattle.batch_checking.proofs.Placing.{no_items}
use Rattle.batch_checking.proofs.fields.+checking.Goals as goal

pub check_fields-check_column-requires : goal.check_fields-check_column-requires
check_fields-check_column-requires t c =
    let came = came_next c.args.body.now c.args.head.now c.args.asked c.args.around.now c.args.fields.now c.args.place c.loop-field.place
    c.loop-field.field-index c.field-item.result c.loop-field-test.true c.field-item.is c.loop-field.invariant in
    one_may c.args.body.now c.args.head.now c.args.asked c.args.around.now c.field-item.result (forest_seen (drop (c.loop-field.field-index + 1) c.args.fields.now))
    c.loop-field.place came.may

pub check_fields-check_inside-requires : goal.check_fields-check_inside-requires
check_fields-check_inside-requires t c =
    let came = came_next c.args.body.now c.args.head.now c.args.asked c.args.around.now c.args.fields.now c.args.place c.loop-field.place
    c.loop-field.field-index c.field-item.result c.loop-field-test.true c.field-item.is c.loop-field.invariant in
    let may = one_may c.args.body.now c.args.head.now c.args.asked c.args.around.now c.field-item.result (forest_seen (drop (c.loop-field.field-index + 1) c.args.fields.now))
    c.loop-field.place came.may in (
      subst (λ n. 2 * forest_depth (fields_in c.field-item.result) + 1 < n) c.decreases
          (omega (arith, depth_falls c.args.fields.now c.loop-field.field-index c.field-item.result c.loop-field-test.true c.field-item.is)),
      ((c.args.asked, may), (c.in_ok-source.ensures.source, c.in_ok-source.ensures.seen)),
    )

pub check_fields-returns-in_err-source-clause-fault : goal.check_fields-returns-in_err-source-clause-fault
check_fields-returns-in_err-source-clause-fault t c =
    let came = came_next c.args.body.now c.args.head.now c.args.asked c.args.around.now c.args.fields.now c.args.place c.loop-field.place
    c.loop-field.field-index c.field-item.result c.loop-field-test.true c.field-item.is c.loop-field.invariant in
    let p = err_from_is_err_and c.from_residual.result c.from_residual.ensures.1 in
    rw (p.1, p.2)
    (own_fault c.args.body.now c.args.head.now c.args.asked c.args.around.now (forest_seen c.args.fields.now) c.args.place c.field-item.result
    (forest_seen (drop (c.loop-field.field-index + 1) c.args.fields.now)) c.loop-field.place c.in_err-source.field-0.0 came c.in_err-source.ensures.fault)

pub check_fields-returns-in_err-place-clause-fault : goal.check_fields-returns-in_err-place-clause-fault
check_fields-returns-in_err-place-clause-fault t c =
    let came = came_next c.args.body.now c.args.head.now c.args.asked c.args.around.now c.args.fields.now c.args.place c.loop-field.place
    c.loop-field.field-index c.field-item.result c.loop-field-test.true c.field-item.is c.loop-field.invariant in
    let p = err_from_is_err_and c.from_residual-in_err-place.result c.from_residual-in_err-place.ensures.1 in
    rw (p.1, p.2)
    (inside_fault c.args.body.now c.args.head.now c.args.asked c.args.around.now (forest_seen c.args.fields.now) c.args.place c.field-item.result
    (forest_seen (drop (c.loop-field.field-index + 1) c.args.fields.now)) c.loop-field.place c.in_err-place.field-0.0 came c.in_ok-source.ensures.kept
    c.in_err-place.ensures.fault)

pub check_fields-loop-field-preserved : goal.check_fields-loop-field-preserved
check_fields-loop-field-preserved t c =
    let came = came_next c.args.body.now c.args.head.now c.args.asked c.args.around.now c.args.fields.now c.args.place c.loop-field.place
    c.loop-field.field-index c.field-item.result c.loop-field-test.true c.field-item.is c.loop-field.invariant in
    went_on c.args.body.now c.args.head.now c.args.asked c.args.around.now (forest_seen c.args.fields.now) c.args.place c.field-item.result
    (forest_seen (drop (c.loop-field.field-index + 1) c.args.fields.now)) c.loop-field.place c.in_ok-place.place came
    (c.in_ok-source.ensures.kept, c.in_ok-place.ensures.sound) c.in_ok-place.ensures.node c.in_ok-place.ensures.buffer

pub check_inside-returns-then-is_empty-clause-node : goal.check_inside-returns-then-is_empty-clause-node
check_inside-returns-then-is_empty-clause-node t c =
    let items = (out-Field c.args.field.now).children.items in
    let none : items ≡ [] =
    no_items items (vec_len (out-Field c.args.field.now).children) (out-Field c.args.field.now).children.ok.0 (sym c.is_empty.ensures ∙ c.if-is_empty.true) in
    c.inside-inside.ensures.node ∙ ap (λ n. c.args.place.node + n) (sym (bare_nodes c.args.body.now c.args.head.now c.args.around.now c.args.field.now c.args.place (none_inside c.args.field.now none)))

pub check_inside-returns-then-is_empty-clause-buffer : goal.check_inside-returns-then-is_empty-clause-buffer
check_inside-returns-then-is_empty-clause-buffer t c =
    let items = (out-Field c.args.field.now).children.items in
    let none : items ≡ [] =
    no_items items (vec_len (out-Field c.args.field.now).children) (out-Field c.args.field.now).children.ok.0 (sym c.is_empty.ensures ∙ c.if-is_empty.true) in
    c.inside-inside.ensures.buffer ∙ ap (λ l. c.args.place.buffer + buffers_in_layout l) c.requires.source.layout_is
    ∙ ap (λ n. c.args.place.buffer + n) (sym (bare_buffers c.args.body.now c.args.head.now c.args.around.now c.args.field.now c.args.place (none_inside c.args.field.now none)))

pub check_inside-returns-then-is_empty-clause-sound : goal.check_inside-returns-then-is_empty-clause-sound
check_inside-returns-then-is_empty-clause-sound t c =
    let items = (out-Field c.args.field.now).children.items in
    let none : items ≡ [] =
    no_items items (vec_len (out-Field c.args.field.now).children) (out-Field c.args.field.now).children.ok.0 (sym c.is_empty.ensures ∙ c.if-is_empty.true) in
    bare_is_sound c.args.body.now c.args.head.now c.args.around.now c.args.field.now c.args.place (none_inside c.args.field.now none)

pub check_inside-with-around-requires-clause-free : goal.check_inside-with-around-requires-clause-free
check_inside-with-around-requires-clause-free t c = omega (arith, c.requires.may.1.shallow)

pub check_inside-check_fields-requires : goal.check_inside-check_fields-requires
check_inside-check_fields-requires t c = (
  subst (λ n. 2 * forest_depth (forest_seen c.deref.result.now) < n) c.decreases
      (subst (λ (l : List Field). 2 * forest_depth (forest_seen l) < 2 * forest_depth (fields_in c.args.field.now) + 1) (sym c.deref.ensures.value) (omega arith)),
  subst (λ (l : List Field). MayCheck (forest_seen l) c.args.head.now c.inside-inside.result c.asked_inside-asked.result c.with-around.result)
      (sym c.deref.ensures.value)
      (inside_may c.args.body.now c.args.head.now c.requires.may.0 c.args.around.now c.args.field.now c.args.place c.inside-inside.result c.args.source.now
      c.with-around.result c.asked_inside-asked.result c.requires.source c.inside-inside.ensures.node c.inside-inside.ensures.buffer
      c.with-around.ensures.rows c.with-around.ensures.depth c.with-around.ensures.room c.with-around.ensures.sources c.asked_inside-asked.ensures c.requires.may.1 c.requires.seen),
)

pub check_inside-returns-in-Ok-clause-sound : goal.check_inside-returns-in-Ok-clause-sound
check_inside-returns-in-Ok-clause-sound t c =
    moved_inside c.args.body.now c.args.head.now c.requires.may.0 c.args.around.now c.args.field.now c.args.place c.inside-inside.result c.args.source.now
    c.with-around.result c.asked_inside-asked.result c.requires.source c.inside-inside.ensures.node c.inside-inside.ensures.buffer
    c.with-around.ensures.rows c.with-around.ensures.depth c.with-around.ensures.room c.with-around.ensures.sources c.asked_inside-asked.ensures (AreSound c.args.body.now)
    (subst (λ (l : List Field). AreSound c.args.body.now (columns_at (forest_seen l) c.args.head.now c.inside-inside.result) c.asked_inside-asked.result
    (places_in c.with-around.result)) c.deref.ensures.value c.in-Ok.ensures.sound)

pub check_inside-returns-in-Err-clause-fault : goal.check_inside-returns-in-Err-clause-fault
check_inside-returns-in-Err-clause-fault t c =
    moved_inside c.args.body.now c.args.head.now c.requires.may.0 c.args.around.now c.args.field.now c.args.place c.inside-inside.result c.args.source.now
    c.with-around.result c.asked_inside-asked.result c.requires.source c.inside-inside.ensures.node c.inside-inside.ensures.buffer
    c.with-around.ensures.rows c.with-around.ensures.depth c.with-around.ensures.room c.with-around.ensures.sources c.asked_inside-asked.ensures
    (λ (cs : LaidColumns) (n : ℕ) (ps : List ℕ). HaveFault c.args.body.now cs n ps c.in-Err.fault)
    (subst (λ (l : List Field). HaveFault c.args.body.now (columns_at (forest_seen l) c.args.head.now c.inside-inside.result) c.asked_inside-asked.result
    (places_in c.with-around.result) c.in-Err.fault) c.deref.ensures.value c.in-Err.ensures.fault)

pub check_inside-returns-in-Ok-clause-node : goal.check_inside-returns-in-Ok-clause-node
check_inside-returns-in-Ok-clause-node t c =
    let behind : IsBehind (fields_in c.args.field.now) c.inside-inside.result c.in-Ok.next =
    subst (λ (l : List Field). IsBehind (forest_seen l) c.inside-inside.result c.in-Ok.next) c.deref.ensures.value c.in-Ok.ensures.next in
    omega (arith, behind.0, c.inside-inside.ensures.node)

pub check_inside-returns-in-Ok-clause-buffer : goal.check_inside-returns-in-Ok-clause-buffer
check_inside-returns-in-Ok-clause-buffer t c =
    let behind : IsBehind (fields_in c.args.field.now) c.inside-inside.result c.in-Ok.next =
    subst (λ (l : List Field). IsBehind (forest_seen l) c.inside-inside.result c.in-Ok.next) c.deref.ensures.value c.in-Ok.ensures.next in
    let buffer = c.inside-inside.ensures.buffer ∙ ap (λ l. c.args.place.buffer + buffers_in_layout l) c.requires.source.layout_is in
    omega (arith, behind.1, buffer)
