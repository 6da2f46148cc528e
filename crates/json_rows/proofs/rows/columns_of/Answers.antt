use Rattle.std.proofs.Common.{rules, arith, sym, ap, subst, ◌∙◌, ◌≡◌, ◌+◌, List, [], ◌∷◌, ◌++◌, map, take, Vec, Global}
use Rattle.std.specs.List.{AllZip}
use Rattle.std.proofs.lemmas.List.{take_all}
use Rattle.serde_json.specs.View.{view}
use Rattle.header_types.specs.declared.schema.Field.{Field}
use Rattle.header_types.specs.Views.{tree_of}
use Rattle.batch_types.specs.Cells.{Cell as Seen}
use Rattle.batch_cells.specs.declared.cell.Cell.{Cell as Plain}
use Rattle.batch_cells.specs.CellViews.{cell_of as seen}
use Rattle.json_rows.specs.Lines.{TellsColumn}
use Rattle.json_rows.proofs.Columns.{column_of_rows, zip_columns}
use Rattle.json_rows.proofs.Zipped.{zip_more, mapped_push}
use Rattle.json_rows.proofs.rows.columns_of.Goals as goal

abbrev column : Vec Plain Global → List Seen
column cells = map seen cells.items

pub returns-in-Err-clause-refused : goal.returns-in-Err-clause-refused
returns-in-Err-clause-refused c = λ all.
    c.fault_at.ensures.memory
    (c.in-Err.ensures.refused (column_of_rows c.args.fields.now c.loop-index.index c.index-fields-index.result (map view c.args.values.now) c.loop-index-test.true c.index-fields-index.is all))

pub loop-index-preserved : goal.loop-index-preserved
loop-index-preserved c =
    let Told = TellsColumn (map view c.args.values.now) in
    let pushed : c.push.new.self.items ≡ c.loop-index.columns.items ++ c.in-Ok.cells ∷ [] = search rules in
    let held = ap (map column) pushed ∙ mapped_push column c.loop-index.columns.items c.in-Ok.cells in
    subst (λ (l : List (List Seen)). AllZip Told (map tree_of (take (c.loop-index.index + 1) c.args.fields.now)) l) (sym held)
    (zip_more Told tree_of c.args.fields.now c.loop-index.index c.index-fields-index.result (map column c.loop-index.columns.items) (column c.in-Ok.cells) c.loop-index-test.true c.index-fields-index.is c.loop-index.invariant c.in-Ok.ensures.read)

pub returns-clause-read : goal.returns-clause-read
returns-clause-read c =
    let ds = map view c.args.values.now in
    let columns = map column c.loop-index.columns.items in
    let whole = take_all c.loop-index.index c.args.fields.now (omega (arith, c.loop-index-test.false)) in
    zip_columns (map tree_of c.args.fields.now) ds columns
    (subst (λ (fs : List Field). AllZip (TellsColumn ds) (map tree_of fs) columns) whole c.loop-index.invariant)
