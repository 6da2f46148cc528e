use Rattle.std.proofs.Common.{refl, sym, ap, ap₂, ◌∙◌, subst, ◌+◌, ◌<◌, [], ◌∷◌, ◌++◌, length, take, drop, arith, append_assoc}
use Rattle.std.proofs.lemmas.List.{append-nil, drop_all}
use Rattle.header_types.proofs.FieldTrees.{forest_next}
use Rattle.header_types.specs.FieldView.{field_head_of, entries_in, fields_in}
use Rattle.batch_types.specs.Laid.{node_count, buffer_count}
use Rattle.batch_types.specs.Layouts.{layout_of, buffers_in_layout}
use Rattle.batch_types.specs.Shapes.{shape}
use Rattle.batch_columns.specs.Held.{layout_named, shapes_held}
use Rattle.batch_reading.specs.Spots.{spots_of}
use Rattle.batch_reading.specs.Readable.{forest_seen, AreReadable, HasFewValues, HaveFewValues, AreBuilt}
use Rattle.batch_reading.proofs.Bounding.{both_all}
use Rattle.batch_reading.proofs.Counting.{few_of, wanted_few}
use Rattle.batch_reading.proofs.Running.{cells_long}
use Rattle.batch_reading.proofs.Stepping.{falls_fields, readable_next, as_buffers, source_reads, inside_readable, field_cells, field_kept, field_is, next_readable, built_more}
use Rattle.batch_reading.proofs.building.+build_columns.Goals as goal

pub source_of-source-requires-clause-inside : goal.source_of-source-requires-clause-inside
source_of-source-requires-clause-inside t c = (readable_next c.args.fields.now c.loop-field.field-index c.field-item.result c.args.head.now c.loop-field.next c.args.body.now c.args.selection.now c.loop-field-test.true c.field-item.is c.loop-field.invariant.readable).sound.0.0.0.within

pub plan_column-requires : goal.plan_column-requires
plan_column-requires t c =
    source_reads (field_head_of c.field-item.result) (entries_in c.field-item.result) (fields_in c.field-item.result) (forest_seen (drop (c.loop-field.field-index + 1) c.args.fields.now)) c.args.head.now c.loop-field.next c.args.body.now c.args.selection.now
    (readable_next c.args.fields.now c.loop-field.field-index c.field-item.result c.args.head.now c.loop-field.next c.args.body.now c.args.selection.now c.loop-field-test.true c.field-item.is c.loop-field.invariant.readable)
    (λ k. omega (arith, c.type_inv.body k)) c.source_of-source.result.layout c.source_of-source.ensures.layout_is
    c.source_of-source.result.offsets.now c.source_of-source.result.values.now c.source_of-source.ensures.offsets_is c.source_of-source.ensures.values_is

pub build_columns-requires : goal.build_columns-requires
build_columns-requires t c = (
  subst (λ n. node_count (forest_seen c.as_slice.result.now) < n) c.decreases
      (subst (λ n. n < node_count (forest_seen c.args.fields.now)) (ap (λ l. node_count (forest_seen l)) (sym c.as_slice.ensures.value))
      (falls_fields c.args.fields.now c.loop-field.field-index c.field-item.result c.loop-field-test.true c.field-item.is)),
  subst (λ f. AreReadable f c.args.head.now c.inside-first.result c.args.body.now c.selection-inner.result) (ap forest_seen (sym c.as_slice.ensures.value))
      (inside_readable (field_head_of c.field-item.result) (entries_in c.field-item.result) (fields_in c.field-item.result) (forest_seen (drop (c.loop-field.field-index + 1) c.args.fields.now)) c.args.head.now c.loop-field.next c.args.body.now c.args.selection.now (readable_next c.args.fields.now c.loop-field.field-index c.field-item.result c.args.head.now c.loop-field.next c.args.body.now c.args.selection.now c.loop-field-test.true c.field-item.is c.loop-field.invariant.readable) (λ k. omega (arith, c.type_inv.body k)) c.source_of-source.result.layout c.source_of-source.ensures.layout_is c.in_ok-plan.plan.inside c.selection-inner.result c.inside-first.result (as_buffers (layout_named c.source_of-source.result.layout) (layout_of (field_head_of c.field-item.result).data_type) c.source_of-source.ensures.layout_is c.args.body.now (take (buffers_in_layout (layout_of (field_head_of c.field-item.result).data_type)) (drop c.loop-field.next.buffer c.args.head.now.buffers.items)) c.source_of-source.result.validity.now c.source_of-source.result.offsets.now c.source_of-source.result.values.now (spots_of c.args.selection.now) c.in_ok-plan.plan c.source_of-source.ensures.validity_is c.source_of-source.ensures.offsets_is c.source_of-source.ensures.values_is c.in_ok-plan.ensures).inside_is c.selection-inner.ensures.runs c.selection-inner.ensures.count c.selection-inner.ensures.there c.inside-first.ensures.node c.inside-first.ensures.buffer),
)

pub column_of-requires : goal.column_of-requires
column_of-requires t c = (
  (field_cells (field_head_of c.field-item.result) (entries_in c.field-item.result) (fields_in c.field-item.result) (forest_seen (drop (c.loop-field.field-index + 1) c.args.fields.now)) c.args.head.now c.loop-field.next c.args.body.now c.args.selection.now (readable_next c.args.fields.now c.loop-field.field-index c.field-item.result c.args.head.now c.loop-field.next c.args.body.now c.args.selection.now c.loop-field-test.true c.field-item.is c.loop-field.invariant.readable) (λ k. omega (arith, c.type_inv.body k)) c.source_of-source.result.layout c.source_of-source.ensures.layout_is c.in_ok-plan.plan.inside c.selection-inner.result c.inside-first.result (as_buffers (layout_named c.source_of-source.result.layout) (layout_of (field_head_of c.field-item.result).data_type) c.source_of-source.ensures.layout_is c.args.body.now (take (buffers_in_layout (layout_of (field_head_of c.field-item.result).data_type)) (drop c.loop-field.next.buffer c.args.head.now.buffers.items)) c.source_of-source.result.validity.now c.source_of-source.result.offsets.now c.source_of-source.result.values.now (spots_of c.args.selection.now) c.in_ok-plan.plan c.source_of-source.ensures.validity_is c.source_of-source.ensures.offsets_is c.source_of-source.ensures.values_is c.in_ok-plan.ensures).inside_is c.selection-inner.ensures.runs c.selection-inner.ensures.count c.selection-inner.ensures.there c.inside-first.ensures.node c.inside-first.ensures.buffer c.in_ok-inside.inside.items),
  (cells_long (readable_next c.args.fields.now c.loop-field.field-index c.field-item.result c.args.head.now c.loop-field.next c.args.body.now c.args.selection.now c.loop-field-test.true c.field-item.is c.loop-field.invariant.readable).asked c.args.selection.now (readable_next c.args.fields.now c.loop-field.field-index c.field-item.result c.args.head.now c.loop-field.next c.args.body.now c.args.selection.now c.loop-field-test.true c.field-item.is c.loop-field.invariant.readable).wanted_is _),
  (field_kept (field_head_of c.field-item.result) (entries_in c.field-item.result) (fields_in c.field-item.result) (forest_seen (drop (c.loop-field.field-index + 1) c.args.fields.now)) c.args.head.now c.loop-field.next c.args.body.now c.args.selection.now (readable_next c.args.fields.now c.loop-field.field-index c.field-item.result c.args.head.now c.loop-field.next c.args.body.now c.args.selection.now c.loop-field-test.true c.field-item.is c.loop-field.invariant.readable) (λ k. omega (arith, c.type_inv.body k)) c.source_of-source.result.layout c.source_of-source.ensures.layout_is c.in_ok-plan.plan.inside c.selection-inner.result c.inside-first.result (as_buffers (layout_named c.source_of-source.result.layout) (layout_of (field_head_of c.field-item.result).data_type) c.source_of-source.ensures.layout_is c.args.body.now (take (buffers_in_layout (layout_of (field_head_of c.field-item.result).data_type)) (drop c.loop-field.next.buffer c.args.head.now.buffers.items)) c.source_of-source.result.validity.now c.source_of-source.result.offsets.now c.source_of-source.result.values.now (spots_of c.args.selection.now) c.in_ok-plan.plan c.source_of-source.ensures.validity_is c.source_of-source.ensures.offsets_is c.source_of-source.ensures.values_is c.in_ok-plan.ensures).inside_is c.selection-inner.ensures.runs c.selection-inner.ensures.count c.selection-inner.ensures.there c.inside-first.ensures.node c.inside-first.ensures.buffer c.in_ok-plan.plan c.in_ok-inside.inside.items (as_buffers (layout_named c.source_of-source.result.layout) (layout_of (field_head_of c.field-item.result).data_type) c.source_of-source.ensures.layout_is c.args.body.now (take (buffers_in_layout (layout_of (field_head_of c.field-item.result).data_type)) (drop c.loop-field.next.buffer c.args.head.now.buffers.items)) c.source_of-source.result.validity.now c.source_of-source.result.offsets.now c.source_of-source.result.values.now (spots_of c.args.selection.now) c.in_ok-plan.plan c.source_of-source.ensures.validity_is c.source_of-source.ensures.offsets_is c.source_of-source.ensures.values_is c.in_ok-plan.ensures) (subst (λ f. AreBuilt f c.args.head.now c.inside-first.result c.args.body.now c.selection-inner.result c.in_ok-inside.inside.items) (ap forest_seen c.as_slice.ensures.value) c.in_ok-inside.ensures.built)),
)

pub loop-field-preserved : goal.loop-field-preserved
loop-field-preserved t c = record {
  readable =
      next_readable (field_head_of c.field-item.result) (entries_in c.field-item.result) (fields_in c.field-item.result) (forest_seen (drop (c.loop-field.field-index + 1) c.args.fields.now)) c.args.head.now c.loop-field.next c.args.body.now c.args.selection.now (readable_next c.args.fields.now c.loop-field.field-index c.field-item.result c.args.head.now c.loop-field.next c.args.body.now c.args.selection.now c.loop-field-test.true c.field-item.is c.loop-field.invariant.readable) (λ k. omega (arith, c.type_inv.body k)) c.in_ok-inside.behind (omega (arith, c.in_ok-inside.ensures.node, c.inside-first.ensures.node, ap (λ l. node_count (forest_seen l)) c.as_slice.ensures.value)) (omega (arith, c.in_ok-inside.ensures.buffer, c.inside-first.ensures.buffer, ap (λ l. buffer_count (forest_seen l)) c.as_slice.ensures.value, ap buffers_in_layout c.source_of-source.ensures.layout_is));
  done = λ rest built.
      subst (AreBuilt (forest_seen c.args.fields.now) c.args.head.now c.args.place c.args.body.now c.args.selection.now)
      (sym (ap (λ l. l ++ rest) c.in_ok-push.ensures.items ∙ append_assoc c.loop-field.columns.items (c.column_of.result ∷ []) rest))
      (c.loop-field.invariant.done (c.column_of.result ∷ rest)
      (subst (λ f. AreBuilt f c.args.head.now c.loop-field.next c.args.body.now c.args.selection.now (c.column_of.result ∷ rest)) (sym (forest_next c.args.fields.now c.loop-field.field-index c.field-item.result c.loop-field-test.true c.field-item.is))
      (built_more (field_head_of c.field-item.result) (entries_in c.field-item.result) (fields_in c.field-item.result) (forest_seen (drop (c.loop-field.field-index + 1) c.args.fields.now)) c.args.head.now c.loop-field.next c.args.body.now c.args.selection.now (readable_next c.args.fields.now c.loop-field.field-index c.field-item.result c.args.head.now c.loop-field.next c.args.body.now c.args.selection.now c.loop-field-test.true c.field-item.is c.loop-field.invariant.readable) (λ k. omega (arith, c.type_inv.body k)) c.in_ok-inside.behind (omega (arith, c.in_ok-inside.ensures.node, c.inside-first.ensures.node, ap (λ l. node_count (forest_seen l)) c.as_slice.ensures.value)) (omega (arith, c.in_ok-inside.ensures.buffer, c.inside-first.ensures.buffer, ap (λ l. buffer_count (forest_seen l)) c.as_slice.ensures.value, ap buffers_in_layout c.source_of-source.ensures.layout_is)) c.column_of.result rest
      (c.column_of.ensures.shape ∙ ap₂ shape c.source_of-source.ensures.layout_is (subst (λ f. AreBuilt f c.args.head.now c.inside-first.result c.args.body.now c.selection-inner.result c.in_ok-inside.inside.items) (ap forest_seen c.as_slice.ensures.value) c.in_ok-inside.ensures.built).0)
      (c.column_of.ensures.cells (field_cells (field_head_of c.field-item.result) (entries_in c.field-item.result) (fields_in c.field-item.result) (forest_seen (drop (c.loop-field.field-index + 1) c.args.fields.now)) c.args.head.now c.loop-field.next c.args.body.now c.args.selection.now (readable_next c.args.fields.now c.loop-field.field-index c.field-item.result c.args.head.now c.loop-field.next c.args.body.now c.args.selection.now c.loop-field-test.true c.field-item.is c.loop-field.invariant.readable) (λ k. omega (arith, c.type_inv.body k)) c.source_of-source.result.layout c.source_of-source.ensures.layout_is c.in_ok-plan.plan.inside c.selection-inner.result c.inside-first.result (as_buffers (layout_named c.source_of-source.result.layout) (layout_of (field_head_of c.field-item.result).data_type) c.source_of-source.ensures.layout_is c.args.body.now (take (buffers_in_layout (layout_of (field_head_of c.field-item.result).data_type)) (drop c.loop-field.next.buffer c.args.head.now.buffers.items)) c.source_of-source.result.validity.now c.source_of-source.result.offsets.now c.source_of-source.result.values.now (spots_of c.args.selection.now) c.in_ok-plan.plan c.source_of-source.ensures.validity_is c.source_of-source.ensures.offsets_is c.source_of-source.ensures.values_is c.in_ok-plan.ensures).inside_is c.selection-inner.ensures.runs c.selection-inner.ensures.count c.selection-inner.ensures.there c.inside-first.ensures.node c.inside-first.ensures.buffer c.in_ok-inside.inside.items) (cells_long (readable_next c.args.fields.now c.loop-field.field-index c.field-item.result c.args.head.now c.loop-field.next c.args.body.now c.args.selection.now c.loop-field-test.true c.field-item.is c.loop-field.invariant.readable).asked c.args.selection.now (readable_next c.args.fields.now c.loop-field.field-index c.field-item.result c.args.head.now c.loop-field.next c.args.body.now c.args.selection.now c.loop-field-test.true c.field-item.is c.loop-field.invariant.readable).wanted_is _) (field_kept (field_head_of c.field-item.result) (entries_in c.field-item.result) (fields_in c.field-item.result) (forest_seen (drop (c.loop-field.field-index + 1) c.args.fields.now)) c.args.head.now c.loop-field.next c.args.body.now c.args.selection.now (readable_next c.args.fields.now c.loop-field.field-index c.field-item.result c.args.head.now c.loop-field.next c.args.body.now c.args.selection.now c.loop-field-test.true c.field-item.is c.loop-field.invariant.readable) (λ k. omega (arith, c.type_inv.body k)) c.source_of-source.result.layout c.source_of-source.ensures.layout_is c.in_ok-plan.plan.inside c.selection-inner.result c.inside-first.result (as_buffers (layout_named c.source_of-source.result.layout) (layout_of (field_head_of c.field-item.result).data_type) c.source_of-source.ensures.layout_is c.args.body.now (take (buffers_in_layout (layout_of (field_head_of c.field-item.result).data_type)) (drop c.loop-field.next.buffer c.args.head.now.buffers.items)) c.source_of-source.result.validity.now c.source_of-source.result.offsets.now c.source_of-source.result.values.now (spots_of c.args.selection.now) c.in_ok-plan.plan c.source_of-source.ensures.validity_is c.source_of-source.ensures.offsets_is c.source_of-source.ensures.values_is c.in_ok-plan.ensures).inside_is c.selection-inner.ensures.runs c.selection-inner.ensures.count c.selection-inner.ensures.there c.inside-first.ensures.node c.inside-first.ensures.buffer c.in_ok-plan.plan c.in_ok-inside.inside.items (as_buffers (layout_named c.source_of-source.result.layout) (layout_of (field_head_of c.field-item.result).data_type) c.source_of-source.ensures.layout_is c.args.body.now (take (buffers_in_layout (layout_of (field_head_of c.field-item.result).data_type)) (drop c.loop-field.next.buffer c.args.head.now.buffers.items)) c.source_of-source.result.validity.now c.source_of-source.result.offsets.now c.source_of-source.result.values.now (spots_of c.args.selection.now) c.in_ok-plan.plan c.source_of-source.ensures.validity_is c.source_of-source.ensures.offsets_is c.source_of-source.ensures.values_is c.in_ok-plan.ensures) (subst (λ f. AreBuilt f c.args.head.now c.inside-first.result c.args.body.now c.selection-inner.result c.in_ok-inside.inside.items) (ap forest_seen c.as_slice.ensures.value) c.in_ok-inside.ensures.built)) ∙ field_is (field_head_of c.field-item.result) (entries_in c.field-item.result) (fields_in c.field-item.result) (forest_seen (drop (c.loop-field.field-index + 1) c.args.fields.now)) c.args.head.now c.loop-field.next c.args.body.now c.args.selection.now (readable_next c.args.fields.now c.loop-field.field-index c.field-item.result c.args.head.now c.loop-field.next c.args.body.now c.args.selection.now c.loop-field-test.true c.field-item.is c.loop-field.invariant.readable) (λ k. omega (arith, c.type_inv.body k)) c.source_of-source.result.layout c.source_of-source.ensures.layout_is c.in_ok-plan.plan.inside c.selection-inner.result c.inside-first.result (as_buffers (layout_named c.source_of-source.result.layout) (layout_of (field_head_of c.field-item.result).data_type) c.source_of-source.ensures.layout_is c.args.body.now (take (buffers_in_layout (layout_of (field_head_of c.field-item.result).data_type)) (drop c.loop-field.next.buffer c.args.head.now.buffers.items)) c.source_of-source.result.validity.now c.source_of-source.result.offsets.now c.source_of-source.result.values.now (spots_of c.args.selection.now) c.in_ok-plan.plan c.source_of-source.ensures.validity_is c.source_of-source.ensures.offsets_is c.source_of-source.ensures.values_is c.in_ok-plan.ensures).inside_is c.selection-inner.ensures.runs c.selection-inner.ensures.count c.selection-inner.ensures.there c.inside-first.ensures.node c.inside-first.ensures.buffer c.in_ok-inside.inside.items (subst (λ f. AreBuilt f c.args.head.now c.inside-first.result c.args.body.now c.selection-inner.result c.in_ok-inside.inside.items) (ap forest_seen c.as_slice.ensures.value) c.in_ok-inside.ensures.built).0)
      built)));
  few =
      subst HaveFewValues (sym c.in_ok-push.ensures.items)
      (both_all (λ column. HasFewValues column.shape column.cells) c.loop-field.columns.items (c.column_of.result ∷ []) c.loop-field.invariant.few (
        subst (λ s. HasFewValues s c.column_of.result.cells) (sym c.column_of.ensures.shape)
            (subst (HasFewValues (shape (layout_named c.source_of-source.result.layout) (shapes_held c.in_ok-inside.inside.items))) (sym (c.column_of.ensures.cells (field_cells (field_head_of c.field-item.result) (entries_in c.field-item.result) (fields_in c.field-item.result) (forest_seen (drop (c.loop-field.field-index + 1) c.args.fields.now)) c.args.head.now c.loop-field.next c.args.body.now c.args.selection.now (readable_next c.args.fields.now c.loop-field.field-index c.field-item.result c.args.head.now c.loop-field.next c.args.body.now c.args.selection.now c.loop-field-test.true c.field-item.is c.loop-field.invariant.readable) (λ k. omega (arith, c.type_inv.body k)) c.source_of-source.result.layout c.source_of-source.ensures.layout_is c.in_ok-plan.plan.inside c.selection-inner.result c.inside-first.result (as_buffers (layout_named c.source_of-source.result.layout) (layout_of (field_head_of c.field-item.result).data_type) c.source_of-source.ensures.layout_is c.args.body.now (take (buffers_in_layout (layout_of (field_head_of c.field-item.result).data_type)) (drop c.loop-field.next.buffer c.args.head.now.buffers.items)) c.source_of-source.result.validity.now c.source_of-source.result.offsets.now c.source_of-source.result.values.now (spots_of c.args.selection.now) c.in_ok-plan.plan c.source_of-source.ensures.validity_is c.source_of-source.ensures.offsets_is c.source_of-source.ensures.values_is c.in_ok-plan.ensures).inside_is c.selection-inner.ensures.runs c.selection-inner.ensures.count c.selection-inner.ensures.there c.inside-first.ensures.node c.inside-first.ensures.buffer c.in_ok-inside.inside.items) (cells_long (readable_next c.args.fields.now c.loop-field.field-index c.field-item.result c.args.head.now c.loop-field.next c.args.body.now c.args.selection.now c.loop-field-test.true c.field-item.is c.loop-field.invariant.readable).asked c.args.selection.now (readable_next c.args.fields.now c.loop-field.field-index c.field-item.result c.args.head.now c.loop-field.next c.args.body.now c.args.selection.now c.loop-field-test.true c.field-item.is c.loop-field.invariant.readable).wanted_is _) (field_kept (field_head_of c.field-item.result) (entries_in c.field-item.result) (fields_in c.field-item.result) (forest_seen (drop (c.loop-field.field-index + 1) c.args.fields.now)) c.args.head.now c.loop-field.next c.args.body.now c.args.selection.now (readable_next c.args.fields.now c.loop-field.field-index c.field-item.result c.args.head.now c.loop-field.next c.args.body.now c.args.selection.now c.loop-field-test.true c.field-item.is c.loop-field.invariant.readable) (λ k. omega (arith, c.type_inv.body k)) c.source_of-source.result.layout c.source_of-source.ensures.layout_is c.in_ok-plan.plan.inside c.selection-inner.result c.inside-first.result (as_buffers (layout_named c.source_of-source.result.layout) (layout_of (field_head_of c.field-item.result).data_type) c.source_of-source.ensures.layout_is c.args.body.now (take (buffers_in_layout (layout_of (field_head_of c.field-item.result).data_type)) (drop c.loop-field.next.buffer c.args.head.now.buffers.items)) c.source_of-source.result.validity.now c.source_of-source.result.offsets.now c.source_of-source.result.values.now (spots_of c.args.selection.now) c.in_ok-plan.plan c.source_of-source.ensures.validity_is c.source_of-source.ensures.offsets_is c.source_of-source.ensures.values_is c.in_ok-plan.ensures).inside_is c.selection-inner.ensures.runs c.selection-inner.ensures.count c.selection-inner.ensures.there c.inside-first.ensures.node c.inside-first.ensures.buffer c.in_ok-plan.plan c.in_ok-inside.inside.items (as_buffers (layout_named c.source_of-source.result.layout) (layout_of (field_head_of c.field-item.result).data_type) c.source_of-source.ensures.layout_is c.args.body.now (take (buffers_in_layout (layout_of (field_head_of c.field-item.result).data_type)) (drop c.loop-field.next.buffer c.args.head.now.buffers.items)) c.source_of-source.result.validity.now c.source_of-source.result.offsets.now c.source_of-source.result.values.now (spots_of c.args.selection.now) c.in_ok-plan.plan c.source_of-source.ensures.validity_is c.source_of-source.ensures.offsets_is c.source_of-source.ensures.values_is c.in_ok-plan.ensures) (subst (λ f. AreBuilt f c.args.head.now c.inside-first.result c.args.body.now c.selection-inner.result c.in_ok-inside.inside.items) (ap forest_seen c.as_slice.ensures.value) c.in_ok-inside.ensures.built))))
            (few_of (layout_named c.source_of-source.result.layout) (field_cells (field_head_of c.field-item.result) (entries_in c.field-item.result) (fields_in c.field-item.result) (forest_seen (drop (c.loop-field.field-index + 1) c.args.fields.now)) c.args.head.now c.loop-field.next c.args.body.now c.args.selection.now (readable_next c.args.fields.now c.loop-field.field-index c.field-item.result c.args.head.now c.loop-field.next c.args.body.now c.args.selection.now c.loop-field-test.true c.field-item.is c.loop-field.invariant.readable) (λ k. omega (arith, c.type_inv.body k)) c.source_of-source.result.layout c.source_of-source.ensures.layout_is c.in_ok-plan.plan.inside c.selection-inner.result c.inside-first.result (as_buffers (layout_named c.source_of-source.result.layout) (layout_of (field_head_of c.field-item.result).data_type) c.source_of-source.ensures.layout_is c.args.body.now (take (buffers_in_layout (layout_of (field_head_of c.field-item.result).data_type)) (drop c.loop-field.next.buffer c.args.head.now.buffers.items)) c.source_of-source.result.validity.now c.source_of-source.result.offsets.now c.source_of-source.result.values.now (spots_of c.args.selection.now) c.in_ok-plan.plan c.source_of-source.ensures.validity_is c.source_of-source.ensures.offsets_is c.source_of-source.ensures.values_is c.in_ok-plan.ensures).inside_is c.selection-inner.ensures.runs c.selection-inner.ensures.count c.selection-inner.ensures.there c.inside-first.ensures.node c.inside-first.ensures.buffer c.in_ok-inside.inside.items) c.in_ok-inside.inside.items
            (wanted_few (readable_next c.args.fields.now c.loop-field.field-index c.field-item.result c.args.head.now c.loop-field.next c.args.body.now c.args.selection.now c.loop-field-test.true c.field-item.is c.loop-field.invariant.readable).asked c.args.selection.now (readable_next c.args.fields.now c.loop-field.field-index c.field-item.result c.args.head.now c.loop-field.next c.args.body.now c.args.selection.now c.loop-field-test.true c.field-item.is c.loop-field.invariant.readable).wanted_is (length (field_cells (field_head_of c.field-item.result) (entries_in c.field-item.result) (fields_in c.field-item.result) (forest_seen (drop (c.loop-field.field-index + 1) c.args.fields.now)) c.args.head.now c.loop-field.next c.args.body.now c.args.selection.now (readable_next c.args.fields.now c.loop-field.field-index c.field-item.result c.args.head.now c.loop-field.next c.args.body.now c.args.selection.now c.loop-field-test.true c.field-item.is c.loop-field.invariant.readable) (λ k. omega (arith, c.type_inv.body k)) c.source_of-source.result.layout c.source_of-source.ensures.layout_is c.in_ok-plan.plan.inside c.selection-inner.result c.inside-first.result (as_buffers (layout_named c.source_of-source.result.layout) (layout_of (field_head_of c.field-item.result).data_type) c.source_of-source.ensures.layout_is c.args.body.now (take (buffers_in_layout (layout_of (field_head_of c.field-item.result).data_type)) (drop c.loop-field.next.buffer c.args.head.now.buffers.items)) c.source_of-source.result.validity.now c.source_of-source.result.offsets.now c.source_of-source.result.values.now (spots_of c.args.selection.now) c.in_ok-plan.plan c.source_of-source.ensures.validity_is c.source_of-source.ensures.offsets_is c.source_of-source.ensures.values_is c.in_ok-plan.ensures).inside_is c.selection-inner.ensures.runs c.selection-inner.ensures.count c.selection-inner.ensures.there c.inside-first.ensures.node c.inside-first.ensures.buffer c.in_ok-inside.inside.items)) (cells_long (readable_next c.args.fields.now c.loop-field.field-index c.field-item.result c.args.head.now c.loop-field.next c.args.body.now c.args.selection.now c.loop-field-test.true c.field-item.is c.loop-field.invariant.readable).asked c.args.selection.now (readable_next c.args.fields.now c.loop-field.field-index c.field-item.result c.args.head.now c.loop-field.next c.args.body.now c.args.selection.now c.loop-field-test.true c.field-item.is c.loop-field.invariant.readable).wanted_is _)) (field_kept (field_head_of c.field-item.result) (entries_in c.field-item.result) (fields_in c.field-item.result) (forest_seen (drop (c.loop-field.field-index + 1) c.args.fields.now)) c.args.head.now c.loop-field.next c.args.body.now c.args.selection.now (readable_next c.args.fields.now c.loop-field.field-index c.field-item.result c.args.head.now c.loop-field.next c.args.body.now c.args.selection.now c.loop-field-test.true c.field-item.is c.loop-field.invariant.readable) (λ k. omega (arith, c.type_inv.body k)) c.source_of-source.result.layout c.source_of-source.ensures.layout_is c.in_ok-plan.plan.inside c.selection-inner.result c.inside-first.result (as_buffers (layout_named c.source_of-source.result.layout) (layout_of (field_head_of c.field-item.result).data_type) c.source_of-source.ensures.layout_is c.args.body.now (take (buffers_in_layout (layout_of (field_head_of c.field-item.result).data_type)) (drop c.loop-field.next.buffer c.args.head.now.buffers.items)) c.source_of-source.result.validity.now c.source_of-source.result.offsets.now c.source_of-source.result.values.now (spots_of c.args.selection.now) c.in_ok-plan.plan c.source_of-source.ensures.validity_is c.source_of-source.ensures.offsets_is c.source_of-source.ensures.values_is c.in_ok-plan.ensures).inside_is c.selection-inner.ensures.runs c.selection-inner.ensures.count c.selection-inner.ensures.there c.inside-first.ensures.node c.inside-first.ensures.buffer c.in_ok-plan.plan c.in_ok-inside.inside.items (as_buffers (layout_named c.source_of-source.result.layout) (layout_of (field_head_of c.field-item.result).data_type) c.source_of-source.ensures.layout_is c.args.body.now (take (buffers_in_layout (layout_of (field_head_of c.field-item.result).data_type)) (drop c.loop-field.next.buffer c.args.head.now.buffers.items)) c.source_of-source.result.validity.now c.source_of-source.result.offsets.now c.source_of-source.result.values.now (spots_of c.args.selection.now) c.in_ok-plan.plan c.source_of-source.ensures.validity_is c.source_of-source.ensures.offsets_is c.source_of-source.ensures.values_is c.in_ok-plan.ensures) (subst (λ f. AreBuilt f c.args.head.now c.inside-first.result c.args.body.now c.selection-inner.result c.in_ok-inside.inside.items) (ap forest_seen c.as_slice.ensures.value) c.in_ok-inside.ensures.built)).held_inside c.in_ok-inside.ensures.few)),
        tt,
      ));
  node = omega (arith, c.loop-field.invariant.node, ap node_count (forest_next c.args.fields.now c.loop-field.field-index c.field-item.result c.loop-field-test.true c.field-item.is), c.in_ok-inside.ensures.node, c.inside-first.ensures.node, ap (λ l. node_count (forest_seen l)) c.as_slice.ensures.value);
  buffer = omega (arith, c.loop-field.invariant.buffer, ap buffer_count (forest_next c.args.fields.now c.loop-field.field-index c.field-item.result c.loop-field-test.true c.field-item.is), c.in_ok-inside.ensures.buffer, c.inside-first.ensures.buffer, ap (λ l. buffer_count (forest_seen l)) c.as_slice.ensures.value, ap buffers_in_layout c.source_of-source.ensures.layout_is);
}

pub returns-clause-built : goal.returns-clause-built
returns-clause-built t c =
    subst (AreBuilt (forest_seen c.args.fields.now) c.args.head.now c.args.place c.args.body.now c.args.selection.now) (append-nil c.loop-field.columns.items)
    (c.loop-field.invariant.done []
    (subst (λ fs. AreBuilt (forest_seen fs) c.args.head.now c.loop-field.next c.args.body.now c.args.selection.now [])
    (sym (drop_all c.loop-field.field-index c.args.fields.now c.loop-field-test.false)) (refl, refl)))
