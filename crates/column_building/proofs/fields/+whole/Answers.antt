use Rattle.std.proofs.Common.{◌*◌, ◌<◌, ◌&&◌, ◌∙◌, sym, ap, subst, arith}
use Rattle.batch_columns.specs.FieldShapes.{field_shapes}
use Rattle.batch_columns.specs.Held.{layout_named, height}
use Rattle.column_building.specs.Whole.{field_shape, are_whole}
use Rattle.column_building.proofs.Shaped.{height_there, whole_of}
use Rattle.column_building.proofs.fields.+whole.Goals as goal

pub are_whole-is_whole-requires : goal.are_whole-is_whole-requires
are_whole-is_whole-requires t c =
    let there = height_there c.args.fields.now c.loop-field.field-index c.field-item.result c.loop-field-test.true c.field-item.is in
    (subst (λ n. 2 * height (field_shape c.field-item.result) < n) c.decreases (omega (arith, there)), tt)

pub is_whole-returns-then-allows : goal.is_whole-returns-then-allows
is_whole-returns-then-allows t c =
    c.are_whole.ensures
    ∙ sym (whole_of (field_shape c.args.field.now) (layout_named c.layout_in.result) c.fields_in-inside.result.now c.allows.result
    c.layout_in.ensures c.fields_in-inside.ensures c.allows.ensures
    ∙ ap (λ b. b && are_whole (field_shapes c.fields_in-inside.result.now)) c.if-allows.true)

pub is_whole-returns-else-allows : goal.is_whole-returns-else-allows
is_whole-returns-else-allows t c =
    c.if-allows.false
    ∙ sym (whole_of (field_shape c.args.field.now) (layout_named c.layout_in.result) c.fields_in-inside.result.now c.allows.result
    c.layout_in.ensures c.fields_in-inside.ensures c.allows.ensures
    ∙ ap (λ b. b && are_whole (field_shapes c.fields_in-inside.result.now)) c.if-allows.false)
