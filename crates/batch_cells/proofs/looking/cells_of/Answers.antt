use Rattle.std.proofs.Common.{◌≡◌, ◌∙◌, ◌-◌, map}
use Rattle.std.specs.List.{range_with_len}
use Rattle.std.proofs.lemmas.Result.{IfOk-weaker}
use Rattle.batch_cells.specs.CellViews.{cell_of}
use Rattle.batch_cells.specs.Places.{cell_in}
use Rattle.batch_cells.proofs.Looked.{all_listed}
use Rattle.batch_cells.proofs.looking.cells_of.Goals as goal

pub returns : goal.returns
returns c =
    IfOk-weaker c.cells_between.result
    (λ cells. map cell_of cells.items ≡ map (cell_in c.args.column.now) (range_with_len 0 (c.len.result - 0)))
    (λ cells. map cell_of cells.items ≡ c.args.column.now.cells)
    (λ cells same. same ∙ all_listed c.args.column.now c.len.result c.len.ensures)
    c.cells_between.ensures
