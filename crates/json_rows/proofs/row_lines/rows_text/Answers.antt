use Rattle.std.proofs.Common.{refl, sym, ap, subst, ◌∙◌, ◌≡◌, List, map, length, Vec, Global, ℕ, take}
use Rattle.std.specs.List.{AllByRecursion, AllZip}
use Rattle.std.proofs.lemmas.List.{length-map}
use Rattle.header_types.specs.Views.{schema_of}
use Rattle.batch_types.specs.Cells.{Cell as Seen}
use Rattle.batch_cells.specs.declared.cell.Cell.{Cell as Plain}
use Rattle.batch_cells.specs.CellViews.{cell_of as seen}
use Rattle.batch_columns.specs.Batches.{IsBatchOf}
use Rattle.batch_columns.specs.Few.{columns_cells}
use Rattle.json_rows.specs.Cells.{IsObjectOf, forest_in}
use Rattle.json_rows.specs.Lines.{TellsLine, TellsColumns, lines_of}
use Rattle.json_rows.proofs.Cut.{ends_lines, lines_again}
use Rattle.json_rows.proofs.Columns.{columns_counted, cells_long, columns_whole, all_same}
use Rattle.json_rows.proofs.Told.{if_ok}
use Rattle.json_rows.proofs.row_lines.rows_text.Goals as goal

abbrev column : Vec Plain Global → List Seen
column cells = map seen cells.items

pub lines_text-requires-clause-counts : goal.lines_text-requires-clause-counts
lines_text-requires-clause-counts c =
    let batch = c.args.batch.now in
    let held : IsBatchOf (schema_of c.args.schema.now) batch = c.if-not-is_of.ensures.0 refl in
    let columns = batch.columns.items in
    let all = c.in_ok-columns.columns.items in
    let same : map column all ≡ columns_cells columns = c.in_ok-columns.ensures ∙ ap columns_cells c.deref.ensures.value in
    ap length c.deref-2.ensures.value
    ∙ sym (length-map all column) ∙ ap length same ∙ length-map columns (λ x. x.cells)
    ∙ columns_counted c.args.schema.now.fields.items columns held.shapes
    ∙ sym (ap length c.as_slice-fields.ensures.value)

pub lines_text-requires-clause-long : goal.lines_text-requires-clause-long
lines_text-requires-clause-long c =
    let batch = c.args.batch.now in
    let held : IsBatchOf (schema_of c.args.schema.now) batch = c.if-not-is_of.ensures.0 refl in
    let all = c.in_ok-columns.columns.items in
    let same : map column all ≡ columns_cells batch.columns.items = c.in_ok-columns.ensures ∙ ap columns_cells c.deref.ensures.value in
    let long = cells_long column batch.rows all batch.columns.items same held.counts in
    subst (AllByRecursion (λ cells. length cells.items ≡ batch.rows)) (sym c.deref-2.ensures.value)
    (all_same (λ cells. length (column cells) ≡ batch.rows) (λ cells. length cells.items ≡ batch.rows) (λ cells is. sym (length-map cells.items seen) ∙ is) all long)

pub returns-clause-written : goal.returns-clause-written
returns-clause-written c =
    let batch = c.args.batch.now in
    let fields = c.args.schema.now.fields.items in
    let held : IsBatchOf (schema_of c.args.schema.now) batch = c.if-not-is_of.ensures.0 refl in
    let all = c.in_ok-columns.columns.items in
    let same : map column all ≡ columns_cells batch.columns.items = c.in_ok-columns.ensures ∙ ap columns_cells c.deref.ensures.value in
    let long = cells_long column batch.rows all batch.columns.items same held.counts in
    let whole : map (take batch.rows) (map column c.deref-2.result.now) ≡ columns_cells batch.columns.items =
    ap (λ l. map (take batch.rows) (map column l)) c.deref-2.ensures.value ∙ columns_whole column batch.rows all long ∙ same in
    if_ok _ _ c.lines_text.result
    (λ text w. (
      w.values,
      subst (λ (l : List (List ℕ)). AllZip TellsLine l w.values) (sym (ap lines_of w.text_is ∙ lines_again w.lines w.whole)) w.read,
      record {
        count = sym w.count;
        objects = subst (λ fs. AllByRecursion (IsObjectOf (forest_in fs)) w.values) c.as_slice-fields.ensures.value w.objects;
        columns = subst (λ fs. TellsColumns (forest_in fs) w.values (columns_cells batch.columns.items)) c.as_slice-fields.ensures.value
            (subst (TellsColumns (forest_in c.as_slice-fields.result.now) w.values) whole w.told);
      },
    )) c.lines_text.ensures.written

pub returns-clause-ends : goal.returns-clause-ends
returns-clause-ends c = if_ok _ _ c.lines_text.result (λ text w. ends_lines text.items w.lines w.text_is w.whole) c.lines_text.ensures.written

pub returns-clause-cell : goal.returns-clause-cell
returns-clause-cell c = λ values told.
    let fields = c.args.schema.now.fields.items in
    let all = c.in_ok-columns.columns.items in
    let same : map column all ≡ columns_cells c.args.batch.now.columns.items = c.in_ok-columns.ensures ∙ ap columns_cells c.deref.ensures.value in
    let columns : map column c.deref-2.result.now ≡ columns_cells c.args.batch.now.columns.items = ap (map column) c.deref-2.ensures.value ∙ same in
    let in_fields = sym c.as_slice-fields.ensures.value in
    c.lines_text.ensures.told values (sym told.count) (subst (λ fs. AllByRecursion (IsObjectOf (forest_in fs)) values) in_fields told.objects)
    (subst (λ fs. TellsColumns (forest_in fs) values (map column c.deref-2.result.now)) in_fields
    (subst (TellsColumns (forest_in fields) values) (sym columns) told.columns))
