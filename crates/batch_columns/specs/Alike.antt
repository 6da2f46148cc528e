-- Columns whose own buffers are the same.
use Rattle.std.specs.Prelude.{◌≡◌, [], length, get_or}
use Rattle.batch_types.specs.Canonical.{own_buffers}
use Rattle.batch_columns.specs.Buffers.{offsets_among, values_among}
use Rattle.batch_columns.specs.Contents.{Contents, layout_in}

-- one layout, as many cells, and the same buffers, those of the columns inside aside
pub record AreAlike (x y : Contents) : Type 0 where
  pub layouts : layout_in x ≡ layout_in y
  pub counts : length x.cells ≡ length y.cells
  pub validity : get_or (own_buffers (layout_in x) x.cells) 0 [] ≡ get_or (own_buffers (layout_in y) y.cells) 0 []
  pub offsets : offsets_among (layout_in x) (own_buffers (layout_in x) x.cells)
      ≡ offsets_among (layout_in y) (own_buffers (layout_in y) y.cells)
  pub values : values_among (layout_in x) (own_buffers (layout_in x) x.cells)
      ≡ values_among (layout_in y) (own_buffers (layout_in y) y.cells)
