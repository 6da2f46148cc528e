use Rattle.std.proofs.Common.{◌≡◌, refl, sym, ap, ap₂, ◌∙◌, subst, ◌+◌, ◌-◌, ◌*◌, ◌<◌, ◌++◌, ◌∷◌, [], map, arith}
use Rattle.std.specs.List.{range_with_len}
use Rattle.std.proofs.lemmas.List.{map_push}
use Rattle.std.proofs.lemmas.List.FromFn.{map-range_with_len_more}
use Rattle.batch_types.specs.Cells.{list_cell, cells_of}
use Rattle.batch_columns.specs.Held.{height}
use Rattle.batch_cells.specs.CellViews.{cell_of}
use Rattle.batch_cells.specs.Places.{cell_in}
use Rattle.batch_cells.proofs.Looked.{block_within, block_cells, tuple_cells, height_there}
use Rattle.batch_cells.proofs.looking.+cell.Goals as goal

pub block_at-block_span-start-requires : goal.block_at-block_span-start-requires
block_at-block_span-start-requires t c =
    block_within c.args.column.now.shape c.args.column.now.cells c.inside.result.now c.elements-item.result c.args.size c.args.row
    c.requires.sized c.layout.ensures.fit c.inside.ensures.held (omega (arith, c.in-len1-up.len_at_least)) c.elements-item.is
    c.requires.there.within

pub block_at-returns-in_ok-cells_between-in-len1-up : goal.block_at-returns-in_ok-cells_between-in-len1-up
block_at-returns-in_ok-cells_between-in-len1-up t c =
    c.list_of.ensures ∙ ap (λ cells. list_cell (cells_of cells)) c.in_ok-cells_between-in-len1-up.ensures
    ∙ block_cells c.written_values_are_the_cells.ensures.cells c.args.column.now c.args.row c.requires.there c.layout.ensures.fit
    c.layout.ensures.room c.inside.result.now c.inside.ensures.held c.inside.ensures.shapes c.args.size
    c.block_span-start.result.0 c.block_span-start.result.1 c.elements-item.result c.requires.sized (omega (arith, c.in-len1-up.len_at_least))
    c.elements-item.is c.block_span-start.ensures.start c.block_span-start.ensures.end

pub cell_at-returns-in_ok-fields_at-in-Struct : goal.cell_at-returns-in_ok-fields_at-in-Struct
cell_at-returns-in_ok-fields_at-in-Struct t c =
    c.tuple_of.ensures
    ∙ tuple_cells c.written_values_are_the_cells.ensures.cells c.args.column.now c.args.row (c.if-not-is_there.ensures.there refl) c.layout.ensures.fit
    c.layout.ensures.room c.inside-in-Struct.result.now c.inside-in-Struct.ensures.held c.inside-in-Struct.ensures.shapes
    (map cell_of c.in_ok-fields_at-in-Struct.field-0.items) (sym c.in-Struct.ensures.named) c.in_ok-fields_at-in-Struct.ensures

pub cells_between-loop-row-preserved : goal.cells_between-loop-row-preserved
cells_between-loop-row-preserved t c =
    let row = c.loop-row.row in
    let more : row - c.args.start + 1 ≡ row + 1 - c.args.start = omega (arith, c.loop-row.auto.row) in (
      ap (map cell_of) c.in_ok-push.ensures.items
          ∙ map_push cell_of c.loop-row.cells.items c.in_ok-cell_at.field-0
          ∙ ap₂ (λ xs x. xs ++ x ∷ []) c.loop-row.invariant.0 c.in_ok-cell_at.ensures
          ∙ sym (map-range_with_len_more (cell_in c.args.column.now) c.args.start (row - c.args.start) row (omega (arith, c.loop-row.auto.row)))
          ∙ ap (λ n. map (cell_in c.args.column.now) (range_with_len c.args.start n)) more,
      omega (arith, c.loop-row.auto.row, c.loop-row-test.true),
    )

pub fields_at-cell_at-requires : goal.fields_at-cell_at-requires
fields_at-cell_at-requires t c =
    let there = height_there c.args.columns.now c.loop-column.column-index c.column-item.result c.loop-column-test.true c.column-item.is in (
      subst (λ n. 4 * height c.column-item.result.shape + 1 < n) c.decreases (omega (arith, there)),
      tt,
    )
