-- Columns that are made one after the other are those of a batch.
use Rattle.std.proofs.Common.{◌≡◌, ℕ, ◌≤◌, List, [], ◌∷◌, ◌++◌, map, length, drop, refl, sym, ap, ap₂, ◌∙◌, subst, arith}
use Rattle.std.proofs.lemmas.List.{append-nil, drop_all, length-map}
use Rattle.std.specs.List.{AllByRecursion}
use Rattle.header_types.specs.declared.schema.Field.{Field}
use Rattle.batch_types.specs.Cells.{Cell}
use Rattle.batch_types.specs.Laid.{Node}
use Rattle.batch_types.specs.Canonical.{parts_of, columns_parts}
use Rattle.batch_types.specs.Shapes.{Shapes, no_shape, shape_then}
use Rattle.batch_columns.specs.Contents.{Contents}
use Rattle.batch_columns.specs.Few.{columns_cells}
use Rattle.batch_columns.specs.FieldShapes.{field_shapes}
use Rattle.batch_columns.specs.Held.{shapes_held}
use Rattle.batch_cells.specs.declared.cell.Cell.{Cell as Plain}
use Rattle.batch_cells.specs.CellViews.{cell_of}
use Rattle.column_building.specs.Built.{AreFewNodes}
use Rattle.column_building.specs.Rows.{AreMade}

-- behind the last field all are made
pub made_done : {X : Type 0} (f : X → List Cell) (fields : List Field) (columns : List X) (i : ℕ) (inside : Shapes) (whole : List (List Cell)) (made : List Contents)
    → length fields ≤ i → length columns ≡ length fields
    → ((rest : List Contents) → AreMade (field_shapes (drop i fields)) (map f (drop i columns)) rest → AreMade inside whole (made ++ rest)) → AreMade inside whole made
made_done f fields columns i inside whole made end long done =
    subst (AreMade inside whole) (append-nil made)
    (done []
    (subst (λ l. AreMade (field_shapes l) (map f (drop i columns)) []) (sym (drop_all i fields end))
    (subst (λ l. AreMade no_shape (map f l) []) (sym (drop_all i columns (omega (arith, long, end)))) tt)))

-- ---- all columns

all_append : (xs ys : List Node) → AreFewNodes xs → AreFewNodes ys → AreFewNodes (xs ++ ys)
all_append [] ys first last = last
all_append (x ∷ xs) ys first last = (first.0, all_append xs ys first.1 last)

pub made_shapes : (shapes : Shapes) (columns : List (List Cell)) (made : List Contents) → AreMade shapes columns made → shapes_held made ≡ shapes
made_shapes no_shape [] [] are = refl
made_shapes no_shape [] (column ∷ made) are = absurd are
made_shapes no_shape (held ∷ columns) made are = absurd are
made_shapes (shape_then s shapes) [] made are = absurd are
made_shapes (shape_then s shapes) (held ∷ columns) [] are = absurd are
made_shapes (shape_then s shapes) (held ∷ columns) (column ∷ made) are = ap₂ shape_then are.0.shape (made_shapes shapes columns made are.1)

pub made_cells : (shapes : Shapes) (columns : List (List Cell)) (made : List Contents) → AreMade shapes columns made → columns_cells made ≡ columns
made_cells no_shape [] [] are = refl
made_cells no_shape [] (column ∷ made) are = absurd are
made_cells no_shape (held ∷ columns) made are = absurd are
made_cells (shape_then s shapes) [] made are = absurd are
made_cells (shape_then s shapes) (held ∷ columns) [] are = absurd are
made_cells (shape_then s shapes) (held ∷ columns) (column ∷ made) are = ap₂ (λ c cs. c ∷ cs) are.0.cells (made_cells shapes columns made are.1)

pub made_few : (shapes : Shapes) (columns : List (List Cell)) (made : List Contents) → AreMade shapes columns made → AreFewNodes (columns_parts shapes columns).nodes
made_few no_shape columns made are = tt
made_few (shape_then s shapes) [] made are = absurd are
made_few (shape_then s shapes) (held ∷ columns) [] are = absurd are
made_few (shape_then s shapes) (held ∷ columns) (column ∷ made) are =
    all_append (parts_of s held).nodes (columns_parts shapes columns).nodes are.0.few (made_few shapes columns made are.1)

pub made_counts : {X : Type 0} (items : X → List Plain) (rows : ℕ) (shapes : Shapes) (columns : List X) (made : List Contents)
    → AreMade shapes (map (λ cells. map cell_of (items cells)) columns) made → AllByRecursion (λ cells. length (items cells) ≡ rows) columns
    → AllByRecursion (λ column. length column.cells ≡ rows) made
made_counts items rows no_shape [] [] are all = tt
made_counts items rows no_shape [] (column ∷ made) are all = absurd are
made_counts items rows no_shape (cells ∷ columns) made are all = absurd are
made_counts items rows (shape_then s shapes) [] made are all = absurd are
made_counts items rows (shape_then s shapes) (cells ∷ columns) [] are all = absurd are
made_counts items rows (shape_then s shapes) (cells ∷ columns) (column ∷ made) are all = (
  ap length are.0.cells ∙ length-map (items cells) cell_of ∙ all.0,
  made_counts items rows shapes columns made are.1 all.1,
)
