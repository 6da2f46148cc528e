use Rattle.std.proofs.Common.{◌∙◌, ap, ap₂, ◌-◌, ◌+◌, arith}
use Rattle.std.specs.List.{range_with_len}
use Rattle.batch_types.specs.Cells.{list_cell}
use Rattle.batch_types.specs.Placed.{start_of}
use Rattle.batch_columns.specs.Held.{elements_held}
use Rattle.batch_cells.proofs.Looked.{offsets_long, list_there}
use Rattle.batch_cells.proofs.looking.list_span.Goals as goal

pub start_at-requires : goal.start_at-requires
start_at-requires c =
    omega (arith, offsets_long c.args.column.now c.offsets-offsets.result.now c.requires.list c.offsets-offsets.ensures.buffer, c.requires.there.within)

pub overflow_add-row : goal.overflow_add-row
overflow_add-row c =
    omega (
      arith,
      offsets_long c.args.column.now c.offsets-offsets.result.now c.requires.list c.offsets-offsets.ensures.buffer,
      c.requires.there.within,
      c.offsets-offsets.type_inv.0,
    )

pub start_at-requires-2 : goal.start_at-requires-2
start_at-requires-2 c =
    omega (arith, offsets_long c.args.column.now c.offsets-offsets.result.now c.requires.list c.offsets-offsets.ensures.buffer, c.requires.there.within)

pub returns : goal.returns
returns c inside held shapes =
    ap₂ (λ start end. list_cell (elements_held inside (range_with_len start (end - start))))
    (c.start_at.ensures ∙ ap (λ b. start_of 4 b c.args.row) c.offsets-offsets.ensures.buffer)
    (c.start_at-2.ensures ∙ ap (λ b. start_of 4 b (c.args.row + 1)) c.offsets-offsets.ensures.buffer)
    ∙ list_there c.written_values_are_the_cells.ensures.cells c.args.column.now c.args.row c.requires.there c.offsets-offsets.ensures.fit
    c.offsets-offsets.ensures.room inside held shapes c.requires.list
