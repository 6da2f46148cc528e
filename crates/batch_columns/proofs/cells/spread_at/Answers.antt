use Rattle.std.proofs.Common.{refl, ap₂, ◌∙◌, ◌-◌, arith}
use Rattle.batch_types.specs.Canonical.{own_buffers}
use Rattle.batch_types.specs.Placed.{bytes_from}
use Rattle.batch_columns.specs.Buffers.{values_among}
use Rattle.batch_columns.specs.Contents.{layout_in}
use Rattle.batch_columns.proofs.Looking.{spread_part}
use Rattle.batch_columns.proofs.cells.spread_at.Goals as goal

pub start_at-start-requires : goal.start_at-start-requires
start_at-start-requires c =
    let found = (spread_part c.written_values_are_the_cells.ensures.starts c.written_values_are_the_cells.ensures.sized_by_offsets (layout_in c.args.column.now)
    c.args.column.now.cells c.offsets-offsets.result.now (values_among (layout_in c.args.column.now) (own_buffers (layout_in c.args.column.now) c.args.column.now.cells)) c.args.row c.requires.spread c.requires.within c.offsets-offsets.ensures.room
    c.offsets-offsets.ensures.buffer refl) in
    omega (arith, found.0)

pub overflow_add-row : goal.overflow_add-row
overflow_add-row c =
    let found = (spread_part c.written_values_are_the_cells.ensures.starts c.written_values_are_the_cells.ensures.sized_by_offsets (layout_in c.args.column.now)
    c.args.column.now.cells c.offsets-offsets.result.now (values_among (layout_in c.args.column.now) (own_buffers (layout_in c.args.column.now) c.args.column.now.cells)) c.args.row c.requires.spread c.requires.within c.offsets-offsets.ensures.room
    c.offsets-offsets.ensures.buffer refl) in
    omega (arith, found.0, c.offsets-offsets.type_inv.0)

pub start_at-end-requires : goal.start_at-end-requires
start_at-end-requires c =
    let found = (spread_part c.written_values_are_the_cells.ensures.starts c.written_values_are_the_cells.ensures.sized_by_offsets (layout_in c.args.column.now)
    c.args.column.now.cells c.offsets-offsets.result.now (values_among (layout_in c.args.column.now) (own_buffers (layout_in c.args.column.now) c.args.column.now.cells)) c.args.row c.requires.spread c.requires.within c.offsets-offsets.ensures.room
    c.offsets-offsets.ensures.buffer refl) in
    found.0

pub part-requires : goal.part-requires
part-requires c =
    let found = (spread_part c.written_values_are_the_cells.ensures.starts c.written_values_are_the_cells.ensures.sized_by_offsets (layout_in c.args.column.now)
    c.args.column.now.cells c.offsets-offsets.result.now c.values.result.now c.args.row c.requires.spread c.requires.within c.offsets-offsets.ensures.room
    c.offsets-offsets.ensures.buffer c.values.ensures.buffer) in
    (omega (arith, found.1, c.start_at-start.ensures, c.start_at-end.ensures), omega (arith, found.2, c.start_at-end.ensures))

pub returns : goal.returns
returns c =
    let found = (spread_part c.written_values_are_the_cells.ensures.starts c.written_values_are_the_cells.ensures.sized_by_offsets (layout_in c.args.column.now)
    c.args.column.now.cells c.offsets-offsets.result.now c.values.result.now c.args.row c.requires.spread c.requires.within c.offsets-offsets.ensures.room
    c.offsets-offsets.ensures.buffer c.values.ensures.buffer) in
    c.part.ensures ∙ ap₂ (λ start end. bytes_from c.values.result.now start (end - start)) c.start_at-start.ensures c.start_at-end.ensures ∙ found.3
