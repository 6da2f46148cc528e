use Rattle.std.proofs.Common.{◌≡◌, ◌∙◌, refl, sym, ap, ◌+◌, ◌<◌, ◌++◌, ◌∷◌, [], List, ℕ, map, length, get_or, Vec, Global, false, arith}
use Rattle.std.proofs.lemmas.List.{length_push}
use Rattle.serde_json.specs.Data.{null}
use Rattle.batch_types.specs.Cells.{Cell as Seen}
use Rattle.batch_cells.specs.declared.cell.Cell.{Cell as Plain}
use Rattle.batch_cells.specs.CellViews.{cell_of as seen}
use Rattle.std.proofs.lemmas.List.{length-map}
use Rattle.json_rows.specs.Cells.{IsObjectOf, forest_in}
use Rattle.json_rows.specs.Lines.{IsOfCell, TellsLine, WritesLine, cell_at, has_feed}
use Rattle.json_rows.proofs.Columns.{all_same, at_place, columns_then, no_columns, row_told}
use Rattle.json_rows.proofs.Cut.{all_then, text_joined}
use Rattle.json_rows.proofs.Zipped.{holds_on, zip_push}
use Rattle.json_rows.proofs.row_lines.lines_text.Goals as goal

abbrev column : Vec Plain Global → List Seen
column cells = map seen cells.items

pub loop-row-init : goal.loop-row-init
loop-row-init c = record {
  lines = [];
  values = [];
  text_is = c.new-text.ensures.items;
  whole = tt;
  read = tt;
  count = refl;
  objects = tt;
  told = no_columns column c.args.fields.now c.args.columns.now c.requires.counts;
}

pub put_line-requires-clause-within : goal.put_line-requires-clause-within
put_line-requires-clause-within c =
    all_same (λ cells. length cells.items ≡ c.args.rows) (λ cells. c.loop-row.row < length cells.items) (λ cells long. omega (arith, long, c.loop-row-test.true)) c.args.columns.now c.requires.long

pub loop-row-preserved : goal.loop-row-preserved
loop-row-preserved c =
    let forest = forest_in c.args.fields.now in
    let row = c.loop-row.row in
    let done = c.loop-row.invariant in
    let line : WritesLine forest (map (cell_at row) c.args.columns.now) c.loop-row.text.items c.put_line.new.text.items = c.in_ok-put_line.ensures.written in
    let within = all_same (λ cells. length cells.items ≡ c.args.rows) (λ cells. row < length (column cells))
    (λ cells long. omega (arith, long, c.loop-row-test.true, length-map cells.items seen)) c.args.columns.now c.requires.long in
    record {
      lines = done.lines ++ line.line ∷ [];
      values = done.values ++ line.value ∷ [];
      text_is = line.text ∙ ap (λ (l : List ℕ). l ++ (line.line ++ 10 ∷ [])) done.text_is ∙ sym (text_joined done.lines line.line);
      whole = all_then (λ l. has_feed l ≡ false) done.lines line.line done.whole line.whole;
      read = zip_push TellsLine done.lines done.values line.line line.value done.read line.reads;
      count = length_push done.values line.value ∙ ap (λ n. n + 1) done.count;
      objects = all_then (IsObjectOf forest) done.values line.value done.objects line.told.0;
      told = columns_then column forest done.values line.value c.args.columns.now row within done.told line.told.1;
    }

pub returns-in_err-put_line-clause-told : goal.returns-in_err-put_line-clause-told
returns-in_err-put_line-clause-told c = λ values long objects told.
    let forest = forest_in c.args.fields.now in
    let row = c.loop-row.row in
    let within = all_same (λ cells. length cells.items ≡ c.args.rows) (λ cells. row < length (column cells))
    (λ cells is. omega (arith, is, c.loop-row-test.true, length-map cells.items seen)) c.args.columns.now c.requires.long in
    let cells = row_told column forest values c.args.columns.now row within told in
    let object = at_place (IsObjectOf forest) values row null objects (omega (arith, long, c.loop-row-test.true)) in
    holds_on (λ fault. IsOfCell fault → ⊥) c.from_residual.result c.in_err-put_line.field-0.0 c.from_residual.ensures.1
    (c.in_err-put_line.ensures.told (get_or values row null) (object, cells))
