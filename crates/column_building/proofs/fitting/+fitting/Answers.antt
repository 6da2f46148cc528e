use Rattle.std.proofs.Common.{◌≡◌, ◌*◌, ◌<◌, ◌∙◌, refl, sym, ap, subst, length, map, arith, eq-eqb}
use Rattle.std.proofs.lemmas.Bool.{false≢true, eqb-true}
use Rattle.batch_types.specs.Cells.{Cell, bit_cell, list_cell, cells_of}
use Rattle.batch_types.specs.Typed.{IsCellOf}
use Rattle.batch_columns.specs.Contents.{shapes_of_shape}
use Rattle.batch_columns.specs.FieldShapes.{field_shapes}
use Rattle.batch_columns.specs.Held.{layout_named, height}
use Rattle.batch_cells.specs.declared.cell.Cell.{fold-roll-Cell}
use Rattle.batch_cells.specs.declared.cell.Cell.TheVariants.{rolls-Bit, rolls-List}
use Rattle.batch_cells.specs.declared.cell.Cell.TheOpen as level
use Rattle.batch_cells.specs.CellViews.{cell_of, cell_step}
use Rattle.column_building.specs.Whole.{field_shape}
use Rattle.column_building.proofs.Shaped.{height_there, made_of}
use Rattle.column_building.proofs.Telling.{none_same, first_same, fields_long, bit_same, list_same}
use Rattle.column_building.proofs.fitting.+fitting.Goals as goal

pub are_elements_of-returns-in-empty : goal.are_elements_of-returns-in-empty
are_elements_of-returns-in-empty t c =
    let same = none_same c.args.fields.now c.args.cells.now (omega (arith, c.in-empty.len_below)) in (
      λ yes. same.to (eqb-true (length c.args.cells.now) 0 (sym c.is_empty.ensures ∙ yes)),
      λ all. c.is_empty.ensures ∙ eq-eqb (length c.args.cells.now) 0 (same.from all),
    )

pub are_elements_of-returns-in-len1-up : goal.are_elements_of-returns-in-len1-up
are_elements_of-returns-in-len1-up t c =
    let same = first_same c.args.fields.now c.field-item.result (map cell_of c.args.cells.now) (omega (arith, c.in-len1-up.len_at_least)) c.field-item.is in
    (λ yes. same.to (c.are_cells_of.ensures.0 yes), λ all. c.are_cells_of.ensures.1 (same.from all))

pub are_fields_of-returns-then-fields-cells : goal.are_fields_of-returns-then-fields-cells
are_fields_of-returns-then-fields-cells t c = (
  λ yes. absurd (false≢true yes),
  λ all. absurd (c.if-fields-cells.true (fields_long c.args.fields.now c.args.cells.now all)),
)

pub are_fields_of-is_cell_of-requires : goal.are_fields_of-is_cell_of-requires
are_fields_of-is_cell_of-requires t c =
    let there = subst (λ n. c.loop-index.index < n) (sym c.if-fields-cells.false) c.loop-index-test.true in
    let deep = height_there c.args.fields.now c.loop-index.index c.index-fields-index.result there c.index-fields-index.is in
    (subst (λ n. 3 * height (field_shape c.index-fields-index.result) < n) c.decreases (omega (arith, deep)), tt)

pub is_cell_of-returns-in-Bit : goal.is_cell_of-returns-in-Bit
is_cell_of-returns-in-Bit t c =
    let s = field_shape c.args.field.now in
    let e : cell_of c.args.cell.now ≡ bit_cell c.in-Bit.field-0 =
    ap cell_of (c.in-Bit.is ∙ sym (rolls-Bit c.in-Bit.field-0)) ∙ fold-roll-Cell Cell cell_step (level.Bit c.in-Bit.field-0) in
    let same = bit_same s (layout_named c.layout_in-layout.result) (shapes_of_shape s)
    (made_of s (layout_named c.layout_in-layout.result) (shapes_of_shape s) c.layout_in-layout.ensures refl) c.in-Bit.field-0 in (
      λ yes. subst (IsCellOf s) (sym e) (same.to ((c.fits_bits.ensures c.in-Bit.field-0).0 yes)),
      λ fits. (c.fits_bits.ensures c.in-Bit.field-0).1 (same.from (subst (IsCellOf s) e fits)),
    )

pub is_cell_of-returns-then-fits_lists : goal.is_cell_of-returns-then-fits_lists
is_cell_of-returns-then-fits_lists t c =
    let s = field_shape c.args.field.now in
    let layout = layout_named c.layout_in-layout.result in
    let inside = field_shapes c.fields_in.result.now in
    let cells = c.as_slice-cells.result.now in
    let e : cell_of c.args.cell.now ≡ list_cell (cells_of (map cell_of cells)) =
    ap cell_of (c.in-List.is ∙ sym (rolls-List c.in-List.cells)) ∙ fold-roll-Cell Cell cell_step (level.List c.in-List.cells)
    ∙ ap (λ l. list_cell (cells_of (map cell_of l))) (sym c.as_slice-cells.ensures.value) in
    let same = list_same s layout inside (made_of s layout inside c.layout_in-layout.ensures c.fields_in.ensures) cells in (
      λ yes. subst (IsCellOf s) (sym e) (same.to (c.fits_lists.ensures.0 c.if-fits_lists.true, c.are_elements_of.ensures.0 yes)),
      λ fits. c.are_elements_of.ensures.1 (same.from (subst (IsCellOf s) e fits)).1,
    )

pub is_cell_of-returns-else-fits_lists : goal.is_cell_of-returns-else-fits_lists
is_cell_of-returns-else-fits_lists t c =
    let s = field_shape c.args.field.now in
    let layout = layout_named c.layout_in-layout.result in
    let inside = shapes_of_shape s in
    let cells = c.as_slice-cells.result.now in
    let e : cell_of c.args.cell.now ≡ list_cell (cells_of (map cell_of cells)) =
    ap cell_of (c.in-List.is ∙ sym (rolls-List c.in-List.cells)) ∙ fold-roll-Cell Cell cell_step (level.List c.in-List.cells)
    ∙ ap (λ l. list_cell (cells_of (map cell_of l))) (sym c.as_slice-cells.ensures.value) in
    let same = list_same s layout inside (made_of s layout inside c.layout_in-layout.ensures refl) cells in (
      λ yes. absurd (false≢true (sym c.if-fits_lists.false ∙ yes)),
      λ fits. c.fits_lists.ensures.1 (same.from (subst (IsCellOf s) e fits)).0,
    )
