-- A batch of a schema is its rows.
use Rattle.std.proofs.Common.{◌≡◌, refl, sym, ap, ap₂, ◌∙◌, ℕ, List, [], ◌∷◌}
use Rattle.header_types.specs.Fields.{SchemaTree}
use Rattle.header_types.specs.Header.{Head}
use Rattle.batch_types.specs.Cells.{Cell, Rows}
use Rattle.batch_types.specs.LaysOut.{LaysOut}
use Rattle.batch_types.specs.Shapes.{Shape, Shapes, no_shape, shape_then}
use Rattle.batch_columns.specs.Batches.{rows_of, IsBatchOf}
use Rattle.batch_columns.specs.Contents.{Contents}
use Rattle.batch_columns.specs.Few.{columns_cells}
use Rattle.batch_columns.specs.Held.{shapes_held}
use Rattle.batch_columns.specs.declared.batch.Batch.{Batch}

abbrev first_or : Shape → Shapes → Shape
first_or s no_shape = s
first_or s (shape_then t rest) = t

abbrev behind : Shapes → Shapes
behind no_shape = no_shape
behind (shape_then s rest) = rest

abbrev head_or : List Cell → List (List Cell) → List Cell
head_or cells [] = cells
head_or cells (x ∷ xs) = x

abbrev tail_of : List (List Cell) → List (List Cell)
tail_of [] = []
tail_of (x ∷ xs) = xs

-- columns are their shapes and their cells
same_columns : (xs ys : List Contents) → shapes_held xs ≡ shapes_held ys → columns_cells xs ≡ columns_cells ys → xs ≡ ys
same_columns [] [] shapes cells = refl
same_columns [] (y ∷ ys) shapes cells = cc
same_columns (x ∷ xs) [] shapes cells = cc
same_columns (x ∷ xs) (y ∷ ys) shapes cells =
    ap₂ (λ c cs. c ∷ cs)
    (ap₂ (λ s l. let c : Contents = record { shape = s; cells = l } in c) (ap (first_or x.shape) shapes) (ap (head_or x.cells) cells))
    (same_columns xs ys (ap behind shapes) (ap tail_of cells))

pub one_batch : (schema : SchemaTree) (x y : Batch) → IsBatchOf schema x → IsBatchOf schema y → rows_of x ≡ rows_of y → x.columns.items ≡ y.columns.items
one_batch schema x y one other same =
    same_columns x.columns.items y.columns.items (one.shapes ∙ sym other.shapes) (ap (λ rows. rows.columns) same)

module _ (law : (schema : SchemaTree) (head : Head) (body : List ℕ) (x y : Rows) → LaysOut schema head body x → LaysOut schema head body y → x ≡ y) where
  pub read_back : (schema : SchemaTree) (head : Head) (body : List ℕ) (x y : Batch) → IsBatchOf schema x → IsBatchOf schema y
      → LaysOut schema head body (rows_of x) → LaysOut schema head body (rows_of y) → (x.rows ≡ y.rows) × (x.columns.items ≡ y.columns.items)
  read_back schema head body x y one other laid too =
      let same : rows_of x ≡ rows_of y = law schema head body (rows_of x) (rows_of y) laid too in
      (ap (λ rows. rows.count) same, one_batch schema x y one other same)
