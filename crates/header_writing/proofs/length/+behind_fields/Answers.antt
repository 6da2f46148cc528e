use Rattle.std.proofs.Common.{arith, ap, sym, ◌∙◌, subst, map, drop, length, ◌+◌, ◌<◌, ◌^◌}
use Rattle.header_types.specs.FieldView.{field_head_of, entries_in, fields_in}
use Rattle.header_types.specs.Limits.{forest_depth}
use Rattle.header_types.specs.Views.{entry_of, tree_of, forest_of}
use Rattle.header_types.specs.Fields.{tree}
use Rattle.header_writing.specs.Canonical.{field_object, field_cells, metadata_cell}
use Rattle.header_writing.specs.Objects.{references_object, objects_text}
use Rattle.header_writing.specs.Weights.{weight, objects_weight, Behind, behind}
use Rattle.header_writing.proofs.Lengths.{fields_room, fields_begin, field_left, field_front, field_end, front_room, item_room}
use Rattle.header_writing.proofs.Lengths.{metadata_room, behind_object, depth_falls}
use Rattle.header_writing.proofs.length.+behind_fields.Goals as goal

pub behind_references-end-requires : goal.behind_references-end-requires
behind_references-end-requires t c = omega (arith, fields_room c.args.place c.args.fields.now c.requires)

pub loop-field-init : goal.loop-field-init
loop-field-init t c = fields_begin c.args.place c.behind_references-end.result c.args.fields.now c.behind_references-end.ensures c.requires

pub behind_front-front-requires : goal.behind_front-front-requires
behind_front-front-requires t c =
    let x = c.field-item.result in
    front_room _ c.loop-field.end (field_head_of x) (entries_in x) (fields_in x) _
    (field_left _ c.loop-field.end c.args.fields.now c.loop-field.field-index c.field-item.result c.loop-field-test.true c.field-item.is c.loop-field.invariant)

pub behind_fields-inner-requires : goal.behind_fields-inner-requires
behind_fields-inner-requires t c =
    let x = c.field-item.result in
    let left = field_left _ c.loop-field.end c.args.fields.now c.loop-field.field-index c.field-item.result c.loop-field-test.true c.field-item.is c.loop-field.invariant in
    let front = field_front c.loop-field.end c.behind_front-front.result (field_head_of x) (entries_in x) (fields_in x)
    (item_room _ c.loop-field.end _ _ left) c.behind_front-front.ensures in (
      subst (λ n. forest_depth (forest_of (map tree_of c.deref.result.now)) < n) c.decreases
          (subst (λ l. forest_depth (forest_of (map tree_of l)) < forest_depth (forest_of (map tree_of c.args.fields.now))) (sym c.deref.ensures.value)
          (depth_falls c.args.fields.now c.loop-field.field-index c.field-item.result c.loop-field-test.true c.field-item.is)),
      subst (λ l. c.behind_front-front.result + weight (references_object (field_cells (forest_of (map tree_of l)))) < 2 ^ 32) (sym c.deref.ensures.value)
          (item_room _ c.behind_front-front.result _ _ front),
    )

pub behind_metadata-end-requires : goal.behind_metadata-end-requires
behind_metadata-end-requires t c =
    let x = c.field-item.result in
    let left = field_left _ c.loop-field.end c.args.fields.now c.loop-field.field-index c.field-item.result c.loop-field-test.true c.field-item.is c.loop-field.invariant in
    let front = field_front c.loop-field.end c.behind_front-front.result (field_head_of x) (entries_in x) (fields_in x)
    (item_room _ c.loop-field.end _ _ left) c.behind_front-front.ensures in
    let inner = c.behind_fields-inner.ensures ∙ ap (λ l. behind c.behind_front-front.result (references_object (field_cells (forest_of (map tree_of l))))) c.deref.ensures.value in
    subst (λ l. c.behind_fields-inner.result + objects_weight (metadata_cell (map entry_of l)) < 2 ^ 32) (sym c.deref-in-loop-field.ensures.value)
    (metadata_room _ c.behind_front-front.result c.behind_fields-inner.result _ (entries_in x) front inner)

pub loop-field-preserved : goal.loop-field-preserved
loop-field-preserved t c =
    let x = c.field-item.result in
    let left = field_left _ c.loop-field.end c.args.fields.now c.loop-field.field-index c.field-item.result c.loop-field-test.true c.field-item.is c.loop-field.invariant in
    let front = field_front c.loop-field.end c.behind_front-front.result (field_head_of x) (entries_in x) (fields_in x)
    (item_room _ c.loop-field.end _ _ left) c.behind_front-front.ensures in
    let inner = c.behind_fields-inner.ensures ∙ ap (λ l. behind c.behind_front-front.result (references_object (field_cells (forest_of (map tree_of l))))) c.deref.ensures.value in
    let last = c.behind_metadata-end.ensures ∙ ap (λ l. c.behind_fields-inner.result + length (objects_text c.behind_fields-inner.result (metadata_cell (map entry_of l)))) c.deref-in-loop-field.ensures.value in
    let end = field_end c.loop-field.end c.behind_front-front.result c.behind_fields-inner.result c.behind_metadata-end.result (field_head_of x) (entries_in x) (fields_in x) front inner last in
    subst (λ p. Behind (behind c.args.place (references_object (field_cells (forest_of (map tree_of c.args.fields.now))))) p (field_cells (forest_of (map tree_of (drop (c.loop-field.field-index + 1) c.args.fields.now)))))
    (sym end) (behind_object _ c.loop-field.end _ _ left)
