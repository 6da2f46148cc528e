use Rattle.std.proofs.Common.{refl, subst, pos, get_or, take, drop, List}
use Rattle.header_types.specs.FieldView.{field_head_of}
use Rattle.batch_types.specs.Layouts.{layout_of, buffers_in_layout}
use Rattle.batch_types.specs.Order.{column_order, AreKept, IsFirstBroken}
use Rattle.batch_columns.specs.Held.{layout_named}
use Rattle.batch_columns.specs.declared.encoded_column.EncodedColumn.{EncodedColumn}
use Rattle.batch_columns.specs.Read.{column_at}
use Rattle.batch_checking.specs.Around.{places_around}
use Rattle.batch_checking.specs.Checked.{SourceKeeps}
use Rattle.batch_checking.specs.Columns.{first_places, places_in, inside_of, LeadsInto}
use Rattle.batch_checking.proofs.Keeping.{source_kept, source_breaks}
use Rattle.batch_checking.proofs.Steady.{steady_by, leads_by}
use Rattle.batch_checking.proofs.Placing.{few_values, reaches}
use Rattle.batch_checking.proofs.fields.check_column.Goals as goal

pub returns-in-Ok-clause-kept : goal.returns-in-Ok-clause-kept
returns-in-Ok-clause-kept c =
    source_kept c.args.body.now c.args.asked (places_in c.args.around.now) c.in-Some.source c.first_inside-first.result
    (column_at c.args.field.now c.args.head.now c.args.place) (inside_of (column_at c.args.field.now c.args.head.now c.args.place))
    c.in-Some.ensures.source (c.in-Some.ensures.inside.0 refl)
    (layout_of (field_head_of c.args.field.now).data_type) (get_or (drop c.args.place.node c.args.head.now.nodes.items) 0 (pos 0, pos 0))
    (take (buffers_in_layout (layout_of (field_head_of c.args.field.now).data_type)) (drop c.args.place.buffer c.args.head.now.buffers.items))
    refl c.first_inside-first.ensures
    (subst (λ (l : List EncodedColumn). AreKept (SourceKeeps c.in-Some.source c.first_inside-first.result c.args.asked (places_around (first_places c.args.around.now) l)) column_order)
    c.sources.ensures.sources c.in-Ok.ensures.kept)

pub returns-in-Ok-clause-seen : goal.returns-in-Ok-clause-seen
returns-in-Ok-clause-seen c = record {
  steady = record {
    few = few_values c.args.body.now c.args.field.now c.args.head.now c.args.place c.args.asked c.args.around.now c.requires c.in-Some.source c.in-Some.ensures.source;
    steady = steady_by c.in-Some.source.layout c.in-Some.source.length c.in-Some.source.nulls c.first_inside-first.result c.in-Some.source.validity.now
        c.in-Some.source.offsets.now c.in-Some.source.values.now c.in-Ok.ensures.kept.0 c.in-Ok.ensures.kept.1.1.0;
  };
  below = reaches c.args.body.now c.args.field.now c.args.head.now c.args.place c.args.asked c.args.around.now c.requires c.in-Some.source c.in-Some.ensures.source
      c.in-Ok.ensures.kept.1.1.1.0;
  leads = subst (LeadsInto (layout_named c.in-Some.source.layout) c.in-Some.source.length c.in-Some.source.offsets.now) c.first_inside-first.ensures
      (leads_by c.in-Some.source.layout c.in-Some.source.length c.in-Some.source.nulls c.first_inside-first.result c.in-Some.source.validity.now
      c.in-Some.source.offsets.now c.in-Some.source.values.now c.in-Ok.ensures.kept.0 c.in-Ok.ensures.kept.1.1.0);
}

pub returns-in-Err-clause-fault : goal.returns-in-Err-clause-fault
returns-in-Err-clause-fault c =
    source_breaks c.args.body.now c.args.asked (places_in c.args.around.now) c.in-Some.source c.first_inside-first.result
    (column_at c.args.field.now c.args.head.now c.args.place) (inside_of (column_at c.args.field.now c.args.head.now c.args.place))
    c.in-Some.ensures.source (c.in-Some.ensures.inside.0 refl)
    (layout_of (field_head_of c.args.field.now).data_type) (get_or (drop c.args.place.node c.args.head.now.nodes.items) 0 (pos 0, pos 0))
    (take (buffers_in_layout (layout_of (field_head_of c.args.field.now).data_type)) (drop c.args.place.buffer c.args.head.now.buffers.items))
    refl c.first_inside-first.ensures c.in-Err.fault
    (subst (λ (l : List EncodedColumn). IsFirstBroken (SourceKeeps c.in-Some.source c.first_inside-first.result c.args.asked (places_around (first_places c.args.around.now) l)) column_order c.in-Err.fault)
    c.sources.ensures.sources c.in-Err.ensures.fault)
