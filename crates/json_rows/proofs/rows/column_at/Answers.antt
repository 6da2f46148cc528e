use Rattle.std.proofs.Common.{rules, sym, ap, subst, ◌∙◌, ◌≡◌, ◌+◌, List, [], ◌∷◌, ◌++◌, map, take}
use Rattle.std.specs.List.{AllZip}
use Rattle.serde_json.specs.Data.{Data}
use Rattle.serde_json.specs.View.{view}
use Rattle.header_types.specs.Views.{tree_of}
use Rattle.batch_types.specs.Cells.{Cell as Seen}
use Rattle.batch_cells.specs.CellViews.{cell_of as seen}
use Rattle.json_rows.specs.Cells.{TellsCell, name_of, told_at}
use Rattle.json_rows.proofs.Columns.{all_at}
use Rattle.json_rows.proofs.Zipped.{zip_more, mapped_push}
use Rattle.json_rows.proofs.rows.column_at.Goals as goal

pub returns-in-Err-clause-refused : goal.returns-in-Err-clause-refused
returns-in-Err-clause-refused c = λ all.
    let t = tree_of c.args.field.now in
    let here = all_at (λ d. (cell : Seen) × TellsCell t (told_at (name_of t) d) cell) view c.args.values.now c.loop-index.index c.index-values-index.result all c.loop-index-test.true c.index-values-index.is in
    c.in-Err.ensures.refused here.0 here.1

pub loop-index-preserved : goal.loop-index-preserved
loop-index-preserved c =
    let t = tree_of c.args.field.now in
    let Told = λ (d : Data) (cell : Seen). TellsCell t (told_at (name_of t) d) cell in
    let pushed : c.push.new.self.items ≡ c.loop-index.cells.items ++ c.in-Ok.cell ∷ [] = search rules in
    let held = ap (map seen) pushed ∙ mapped_push seen c.loop-index.cells.items c.in-Ok.cell in
    subst (λ (l : List Seen). AllZip Told (map view (take (c.loop-index.index + 1) c.args.values.now)) l) (sym held)
    (zip_more Told view c.args.values.now c.loop-index.index c.index-values-index.result (map seen c.loop-index.cells.items) (seen c.in-Ok.cell) c.loop-index-test.true c.index-values-index.is c.loop-index.invariant c.in-Ok.ensures.read)
