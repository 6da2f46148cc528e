use Rattle.std.proofs.Common.{refl, ap, ◌∙◌}
use Rattle.batch_types.specs.Layouts.{layout_of, buffers_in_layout}
use Rattle.header_types.specs.FieldView.{field_head_of}
use Rattle.batch_columns.proofs.Reading.{none_inside, all_inside}
use Rattle.batch_columns.proofs.encoded_column.encoded_column_at.Goals as goal

pub returns-in_err-validity-clause-inside : goal.returns-in_err-validity-clause-inside
returns-in_err-validity-clause-inside c =
    none_inside c.args.body.now c.args.head.now.buffers.items c.args.place.buffer c.buffers_in-count.result
    (layout_of (field_head_of c.args.field.now).data_type) (c.buffers_in-count.ensures ∙ ap buffers_in_layout c.layout_of-layout.ensures) c.requires.buffers
    c.from_residual.result 0 c.from_residual.ensures
    (rw c.as_slice-buffers.ensures.value at c.in_err-validity.ensures.none)

pub returns-in_err-second-clause-inside : goal.returns-in_err-second-clause-inside
returns-in_err-second-clause-inside c =
    none_inside c.args.body.now c.args.head.now.buffers.items c.args.place.buffer c.buffers_in-count.result
    (layout_of (field_head_of c.args.field.now).data_type) (c.buffers_in-count.ensures ∙ ap buffers_in_layout c.layout_of-layout.ensures) c.requires.buffers
    c.from_residual-in_err-second.result 1 c.from_residual-in_err-second.ensures
    (rw c.as_slice-buffers.ensures.value at c.in_err-second.ensures.none)

pub returns-in_err-third-clause-inside : goal.returns-in_err-third-clause-inside
returns-in_err-third-clause-inside c =
    none_inside c.args.body.now c.args.head.now.buffers.items c.args.place.buffer c.buffers_in-count.result
    (layout_of (field_head_of c.args.field.now).data_type) (c.buffers_in-count.ensures ∙ ap buffers_in_layout c.layout_of-layout.ensures) c.requires.buffers
    c.from_residual-in_err-third.result 2 c.from_residual-in_err-third.ensures
    (rw c.as_slice-buffers.ensures.value at c.in_err-third.ensures.none)

pub returns-clause-inside : goal.returns-clause-inside
returns-clause-inside c = (
  λ yes. all_inside c.args.body.now c.args.head.now.buffers.items c.args.place.buffer c.buffers_in-count.result
      (layout_of (field_head_of c.args.field.now).data_type) (c.buffers_in-count.ensures ∙ ap buffers_in_layout c.layout_of-layout.ensures) c.requires.buffers
      (rw c.as_slice-buffers.ensures.value at c.in_ok-validity.ensures.some.0)
      (rw c.as_slice-buffers.ensures.value at c.in_ok-second.ensures.some.0)
      (rw c.as_slice-buffers.ensures.value at c.in_ok-third.ensures.some.0),
  λ all. refl,
)
