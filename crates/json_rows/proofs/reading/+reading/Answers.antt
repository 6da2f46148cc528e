use Rattle.std.proofs.Common.{rules, arith, sym, ap, subst, ◌∙◌, ◌≡◌, ◌+◌, ◌*◌, ◌<◌, List, [], ◌∷◌, ◌++◌, map, take, length}
use Rattle.std.specs.List.{AllZip}
use Rattle.std.specs.Prelude.{vec_len}
use Rattle.std.proofs.lemmas.List.{length-map, take_all}
use Rattle.serde_json.specs.View.{view}
use Rattle.header_types.specs.Views.{tree_of}
use Rattle.batch_types.specs.Cells.{Cell as Seen}
use Rattle.batch_cells.specs.CellViews.{cell_of as seen}
use Rattle.batch_columns.specs.Held.{height}
use Rattle.column_building.specs.Whole.{field_shape}
use Rattle.column_building.proofs.Shaped.{height_there, dropped}
use Rattle.json_rows.specs.declared.form.Form.{Form}
use Rattle.json_rows.specs.declared.fault.CellFault.TheVariants.{OutOfMemory}
use Rattle.json_rows.specs.Cells.{TellsCell, TellsElement, TellsFields, TellsForm, forest_in}
use Rattle.json_rows.proofs.Told.{TellsMember, not_null_told, form_closed, form_opened, members_zip, zip_members, elements_told, elements_open, elements_none, elements_long, not_empty, flat_alike, if_ok}
use Rattle.json_rows.proofs.Zipped.{told_on, zip_more, zipped_at, mapped_push}
use Rattle.json_rows.proofs.reading.+reading.Goals as goal

pub cell_of-returns-then-not-is_null-clause-read : goal.cell_of-returns-then-not-is_null-clause-read
cell_of-returns-then-not-is_null-clause-read t c =
    if_ok _ _ c.form_cell.result
    (λ cell told. form_closed c.args.field.now c.form_of.result c.as_slice.result.now (view c.args.value.now) (seen cell)
    c.form_of.ensures c.as_slice.ensures.value told) c.form_cell.ensures.read

pub cell_of-returns-then-not-is_null-clause-refused : goal.cell_of-returns-then-not-is_null-clause-refused
cell_of-returns-then-not-is_null-clause-refused t c = λ cell told.
    c.form_cell.ensures.refused cell
    (form_opened c.args.field.now c.form_of.result c.as_slice.result.now (view c.args.value.now) cell c.form_of.ensures
    c.as_slice.ensures.value (not_null_told (view c.args.value.now) c.if-not-is_null.ensures) told)

pub cells_at-member_cell-requires : goal.cells_at-member_cell-requires
cells_at-member_cell-requires t c =
    let there = height_there c.args.fields.now c.loop-field.field-index c.field-item.result c.loop-field-test.true c.field-item.is in
    (subst (λ n. 8 * height (field_shape c.field-item.result) + 1 < n) c.decreases (omega (arith, there)), tt)

pub cells_at-returns-in_err-cell-clause-refused : goal.cells_at-returns-in_err-cell-clause-refused
cells_at-returns-in_err-cell-clause-refused t c = λ cells told.
    let fields = c.args.fields.now in
    let d = view c.args.value.now in
    let here = zipped_at (TellsMember d) tree_of fields cells c.loop-field.field-index c.field-item.result (members_zip (map tree_of fields) d cells told) c.loop-field-test.true c.field-item.is in
    told_on c.from_residual.result c.in_err-cell.field-0.0 OutOfMemory c.from_residual.ensures.1 (c.in_err-cell.ensures.refused here.0 here.1)

pub cells_at-loop-field-preserved : goal.cells_at-loop-field-preserved
cells_at-loop-field-preserved t c =
    let d = view c.args.value.now in
    let pushed : c.push.new.self.items ≡ c.loop-field.cells.items ++ c.in_ok-cell.cell ∷ [] = search rules in
    let held = ap (map seen) pushed ∙ mapped_push seen c.loop-field.cells.items c.in_ok-cell.cell in
    subst (λ (l : List Seen). AllZip (TellsMember d) (map tree_of (take (c.loop-field.field-index + 1) c.args.fields.now)) l) (sym held)
    (zip_more (TellsMember d) tree_of c.args.fields.now c.loop-field.field-index c.field-item.result (map seen c.loop-field.cells.items) (seen c.in_ok-cell.cell) c.loop-field-test.true c.field-item.is c.loop-field.invariant c.in_ok-cell.ensures.read)

pub cells_at-returns-clause-read : goal.cells_at-returns-clause-read
cells_at-returns-clause-read t c =
    let whole : take c.loop-field.field-index c.args.fields.now ≡ c.args.fields.now = take_all c.loop-field.field-index c.args.fields.now (omega (arith, c.loop-field-test.false)) in
    zip_members (map tree_of c.args.fields.now) (view c.args.value.now) (map seen c.loop-field.cells.items)
    (subst (λ fs. AllZip (TellsMember (view c.args.value.now)) (map tree_of fs) (map seen c.loop-field.cells.items)) whole c.loop-field.invariant)

pub cells_of-returns-in_err-cell-clause-refused : goal.cells_of-returns-in_err-cell-clause-refused
cells_of-returns-in_err-cell-clause-refused t c = λ cells told.
    let here = zipped_at (TellsCell (tree_of c.args.field.now)) view c.args.values.now cells c.loop-value.value-index c.value-item.result told c.loop-value-test.true c.value-item.is in
    told_on c.from_residual.result c.in_err-cell.field-0.0 OutOfMemory c.from_residual.ensures.1 (c.in_err-cell.ensures.refused here.0 here.1)

pub cells_of-loop-value-preserved : goal.cells_of-loop-value-preserved
cells_of-loop-value-preserved t c =
    let Told = TellsCell (tree_of c.args.field.now) in
    let pushed : c.push.new.self.items ≡ c.loop-value.cells.items ++ c.in_ok-cell.cell ∷ [] = search rules in
    let held = ap (map seen) pushed ∙ mapped_push seen c.loop-value.cells.items c.in_ok-cell.cell in
    subst (λ (l : List Seen). AllZip Told (map view (take (c.loop-value.value-index + 1) c.args.values.now)) l) (sym held)
    (zip_more Told view c.args.values.now c.loop-value.value-index c.value-item.result (map seen c.loop-value.cells.items) (seen c.in_ok-cell.cell) c.loop-value-test.true c.value-item.is c.loop-value.invariant c.in_ok-cell.ensures.read)

pub elements_of-returns-in-empty-2-clause-refused : goal.elements_of-returns-in-empty-2-clause-refused
elements_of-returns-in-empty-2-clause-refused t c = λ cells told.
    let none = elements_none c.args.fields.now (view c.args.value.now) c.in-Some.values.now.items cells c.in-empty.len_below c.in-Some.ensures told in
    absurd (not_empty (vec_len c.in-Some.values.now) c.if-is_empty.ensures (omega (arith, c.in-Some.values.now.ok.0, none)))

pub elements_of-returns-in-len1-up-clause-read : goal.elements_of-returns-in-len1-up-clause-read
elements_of-returns-in-len1-up-clause-read t c =
    let first = dropped c.args.fields.now 0 c.field-item.result (omega (arith, c.in-len1-up.len_at_least)) c.field-item.is in
    if_ok _ _ c.cells_of.result
    (λ cells zip. elements_told c.args.fields.now c.field-item.result (view c.args.value.now) c.in-Some.values.now.items (map seen cells.items) first c.in-Some.ensures
    (subst (λ vs. AllZip (TellsCell (tree_of c.field-item.result)) (map view vs) (map seen cells.items)) c.deref.ensures.value zip)) c.cells_of.ensures.read

pub elements_of-returns-in-len1-up-clause-refused : goal.elements_of-returns-in-len1-up-clause-refused
elements_of-returns-in-len1-up-clause-refused t c = λ cells told.
    let first = dropped c.args.fields.now 0 c.field-item.result (omega (arith, c.in-len1-up.len_at_least)) c.field-item.is in
    c.cells_of.ensures.refused cells
    (subst (λ vs. AllZip (TellsCell (tree_of c.field-item.result)) (map view vs) cells) (sym c.deref.ensures.value)
    (elements_open c.args.fields.now c.field-item.result (view c.args.value.now) c.in-Some.values.now.items cells first c.in-Some.ensures told))

pub form_cell-returns-in_err-elements_of-in-List-clause-refused : goal.form_cell-returns-in_err-elements_of-in-List-clause-refused
form_cell-returns-in_err-elements_of-in-List-clause-refused t c = λ cell told.
    let inside = forest_in c.args.fields.now in
    let here = subst (λ (f : Form). TellsForm f (TellsElement inside) (TellsFields inside) (view c.args.value.now) cell) c.in-List.is told in
    told_on c.from_residual.result c.in_err-elements_of-in-List.field-0.0 OutOfMemory c.from_residual.ensures.1 (c.in_err-elements_of-in-List.ensures.refused here.0 here.1)

pub form_cell-returns-in_err-cells-in-SizedList-clause-refused : goal.form_cell-returns-in_err-cells-in-SizedList-clause-refused
form_cell-returns-in_err-cells-in-SizedList-clause-refused t c = λ cell told.
    let inside = forest_in c.args.fields.now in
    let here = subst (λ (f : Form). TellsForm f (TellsElement inside) (TellsFields inside) (view c.args.value.now) cell) c.in-SizedList.is told in
    told_on c.from_residual-in_err-cells-in-SizedList.result c.in_err-cells-in-SizedList.field-0.0 OutOfMemory c.from_residual-in_err-cells-in-SizedList.ensures.1
    (c.in_err-cells-in-SizedList.ensures.refused here.0 here.1)

pub form_cell-returns-then-len-size-clause-read : goal.form_cell-returns-then-len-size-clause-read
form_cell-returns-then-len-size-clause-read t c =
    let inside = forest_in c.args.fields.now in
    let cells = c.in_ok-cells-in-SizedList.cells in
    let long : length (map seen cells.items) ≡ c.in-SizedList.size = length-map cells.items seen ∙ omega (arith, cells.ok.0, c.len.ensures, c.if-len-size.true) in
    subst (λ (f : Form). TellsForm f (TellsElement inside) (TellsFields inside) (view c.args.value.now) (seen c.list_of-then-len-size.result)) (sym c.in-SizedList.is)
    (map seen cells.items, c.in_ok-cells-in-SizedList.ensures.read, long, c.list_of-then-len-size.ensures)

pub form_cell-returns-else-len-size-clause-refused : goal.form_cell-returns-else-len-size-clause-refused
form_cell-returns-else-len-size-clause-refused t c = λ cell told.
    let inside = forest_in c.args.fields.now in
    let here = subst (λ (f : Form). TellsForm f (TellsElement inside) (TellsFields inside) (view c.args.value.now) cell) c.in-SizedList.is told in
    let cells = c.in_ok-cells-in-SizedList.cells in
    let long = elements_long (TellsElement inside) (view c.args.value.now) here.0 (map seen cells.items) here.1 c.in_ok-cells-in-SizedList.ensures.read in
    let counted = length-map cells.items seen in
    absurd (c.if-len-size.false (omega (arith, c.len.ensures, cells.ok.0, long, counted, here.2)))

pub form_cell-returns-in-Null : goal.form_cell-returns-in-Null
form_cell-returns-in-Null t c =
    let inside = forest_in c.args.fields.now in
    let d = view c.args.value.now in record {
      read = if_ok _ _ c.flat_cell.result
          (λ cell told. (flat_alike (TellsElement inside) (TellsFields inside) d (seen cell) c.args.form c.in-Null.is).1 told) c.flat_cell.ensures.read;
      refused = λ cell told. c.flat_cell.ensures.refused cell ((flat_alike (TellsElement inside) (TellsFields inside) d cell c.args.form c.in-Null.is).0 told);
    }
