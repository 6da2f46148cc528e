use Rattle.std.proofs.Common.{sym, ap, ◌∙◌, length}
use Rattle.batch_columns.specs.Held.{cell_held, layout_named}
use Rattle.batch_columns.proofs.Holding.{counted_map}
use Rattle.batch_columns.proofs.column.Column.len.Goals as goal

pub returns : goal.returns
returns c =
    sym (counted_map
    (cell_held (layout_named c.self.inside.layout) c.self.inside.validity.items c.self.inside.offsets.items c.self.inside.values.items c.self.inside.inside.items)
    0 c.self.inside.length)
    ∙ ap (λ x. length x.cells) c.self.view_is
