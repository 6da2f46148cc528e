-- Codes of shapes and cells: each is stored as the list of steps that build it on a stack, the inner before the outer.
use Rattle.std.specs.Prelude.{◌≡◌, ◌⊎◌, ℕ, Bool, true, false, List, [], ◌∷◌, refl}
use Rattle.std.specs.Coded.{Coded, code_by, coded_ℕ, coded_bool, coded_list, coded×, coded⊎}
use mathlib.Core.Logic.{inl, inr}
use mathlib.Core.Path.{ap, ◌∙◌}
use Rattle.batch_types.specs.Cells.{Cell, null_cell, bit_cell, bytes_cell, list_cell, tuple_cell, Cells, no_cell}
use Rattle.batch_types.specs.Cells.{cell_then}
use Rattle.batch_types.specs.Layouts.{Layout, null_layout, bits_layout, bytes_layout, binary_layout, utf8_layout}
use Rattle.batch_types.specs.Layouts.{list_layout, fixed_size_list_layout, struct_layout}
use Rattle.batch_types.specs.Shapes.{Shape, shape, Shapes, no_shape, shape_then}
use Rattle.batch_columns.specs.Contents.{Contents}

-- ---- stacks

-- the top of a stack, this where it is empty, and what is below the top
module _ {X : Type 0} where
  abbrev pub top : X → List X → X
  top none [] = none
  top none (x ∷ below) = x

  abbrev pub below : List X → List X
  below [] = []
  below (x ∷ rest) = rest

-- ---- layouts

-- which one it is, and its size
abbrev pub LayoutCode : Type 0
LayoutCode = (Bool × (Bool × Bool)) × ℕ

abbrev pub layout_code : Layout → LayoutCode
layout_code null_layout = ((false, (false, false)), 0)
layout_code bits_layout = ((false, (false, true)), 0)
layout_code struct_layout = ((false, (true, false)), 0)
layout_code (bytes_layout size) = ((false, (true, true)), size)
layout_code (binary_layout offset) = ((true, (false, false)), offset)
layout_code (utf8_layout offset) = ((true, (false, true)), offset)
layout_code (list_layout offset) = ((true, (true, false)), offset)
layout_code (fixed_size_list_layout size) = ((true, (true, true)), size)

abbrev pub coded_as : LayoutCode → Layout
coded_as ((false, (false, false)), size) = null_layout
coded_as ((false, (false, true)), size) = bits_layout
coded_as ((false, (true, false)), size) = struct_layout
coded_as ((false, (true, true)), size) = bytes_layout size
coded_as ((true, (false, false)), size) = binary_layout size
coded_as ((true, (false, true)), size) = utf8_layout size
coded_as ((true, (true, false)), size) = list_layout size
coded_as ((true, (true, true)), size) = fixed_size_list_layout size

pub layout_back : (layout : Layout) → coded_as (layout_code layout) ≡ layout
layout_back null_layout = refl
layout_back bits_layout = refl
layout_back struct_layout = refl
layout_back (bytes_layout size) = refl
layout_back (binary_layout offset) = refl
layout_back (utf8_layout offset) = refl
layout_back (list_layout offset) = refl
layout_back (fixed_size_list_layout size) = refl

-- ---- shapes

-- a layout around the shapes on top; no shapes; or the shape on top before those below it
abbrev pub ShapeStep : Type 0
ShapeStep = LayoutCode ⊎ Bool

abbrev pub one_shape : Shape → Shapes
one_shape s = shape_then s no_shape

abbrev pub first_shape : Shapes → Shape
first_shape no_shape = shape null_layout no_shape
first_shape (shape_then s rest) = s

abbrev pub shape_step : ShapeStep → List Shapes → List Shapes
shape_step (inl code) stack = one_shape (shape (coded_as code) (top no_shape stack)) ∷ below stack
shape_step (inr true) stack = no_shape ∷ stack
shape_step (inr false) stack =
    shape_then (first_shape (top no_shape stack)) (top no_shape (below stack)) ∷ below (below stack)

abbrev pub shapes_built : List ShapeStep → List Shapes → List Shapes
shapes_built [] stack = stack
shapes_built (step ∷ steps) stack = shapes_built steps (shape_step step stack)

abbrev mutual
  pub shape_steps : Shape → List ShapeStep → List ShapeStep
  shape_steps (shape layout inside) next = shapes_steps inside (inl (layout_code layout) ∷ next)

  pub shapes_steps : Shapes → List ShapeStep → List ShapeStep
  shapes_steps no_shape next = inr true ∷ next
  shapes_steps (shape_then s rest) next = shapes_steps rest (shape_steps s (inr false ∷ next))

mutual
  pub shape_back : (s : Shape) (next : List ShapeStep) (stack : List Shapes)
      → shapes_built (shape_steps s next) stack ≡ shapes_built next (one_shape s ∷ stack)
  shape_back (shape layout inside) next stack =
      shapes_back inside (inl (layout_code layout) ∷ next) stack
      ∙ ap (λ l. shapes_built next (one_shape (shape l inside) ∷ stack)) (layout_back layout)

  pub shapes_back : (s : Shapes) (next : List ShapeStep) (stack : List Shapes)
      → shapes_built (shapes_steps s next) stack ≡ shapes_built next (s ∷ stack)
  shapes_back no_shape next stack = refl
  shapes_back (shape_then s rest) next stack =
      shapes_back rest (shape_steps s (inr false ∷ next)) stack ∙ shape_back s (inr false ∷ next) (rest ∷ stack)

abbrev pub coded_shape : Coded Shape
coded_shape =
    code_by (List ShapeStep) (coded_list (coded⊎ (coded× (coded× coded_bool (coded× coded_bool coded_bool)) coded_ℕ) coded_bool))
    (λ s. shape_steps s []) (λ steps. first_shape (top no_shape (shapes_built steps [])))
    (λ s. ap (λ stack. first_shape (top no_shape stack)) (shape_back s [] []))

-- ---- cells

-- a null; no cells; a list or a tuple of the cells on top; the cell on top before the cells below it; a bit; or bytes
abbrev pub CellStep : Type 0
CellStep = (Bool × Bool) ⊎ (Bool ⊎ (Bool ⊎ List ℕ))

abbrev pub one_cell : Cell → Cells
one_cell c = cell_then c no_cell

abbrev pub first_cell : Cells → Cell
first_cell no_cell = null_cell
first_cell (cell_then c rest) = c

abbrev pub cell_step : CellStep → List Cells → List Cells
cell_step (inl (true, true)) stack = one_cell null_cell ∷ stack
cell_step (inl (true, false)) stack = no_cell ∷ stack
cell_step (inl (false, true)) stack = one_cell (list_cell (top no_cell stack)) ∷ below stack
cell_step (inl (false, false)) stack = one_cell (tuple_cell (top no_cell stack)) ∷ below stack
cell_step (inr (inl both)) stack =
    cell_then (first_cell (top no_cell stack)) (top no_cell (below stack)) ∷ below (below stack)
cell_step (inr (inr (inl bit))) stack = one_cell (bit_cell bit) ∷ stack
cell_step (inr (inr (inr bytes))) stack = one_cell (bytes_cell bytes) ∷ stack

abbrev pub cells_built : List CellStep → List Cells → List Cells
cells_built [] stack = stack
cells_built (step ∷ steps) stack = cells_built steps (cell_step step stack)

abbrev mutual
  pub cell_steps : Cell → List CellStep → List CellStep
  cell_steps null_cell next = inl (true, true) ∷ next
  cell_steps (bit_cell bit) next = inr (inr (inl bit)) ∷ next
  cell_steps (bytes_cell bytes) next = inr (inr (inr bytes)) ∷ next
  cell_steps (list_cell cells) next = cells_steps cells (inl (false, true) ∷ next)
  cell_steps (tuple_cell cells) next = cells_steps cells (inl (false, false) ∷ next)

  pub cells_steps : Cells → List CellStep → List CellStep
  cells_steps no_cell next = inl (true, false) ∷ next
  cells_steps (cell_then c rest) next = cells_steps rest (cell_steps c (inr (inl true) ∷ next))

mutual
  pub cell_back : (c : Cell) (next : List CellStep) (stack : List Cells)
      → cells_built (cell_steps c next) stack ≡ cells_built next (one_cell c ∷ stack)
  cell_back null_cell next stack = refl
  cell_back (bit_cell bit) next stack = refl
  cell_back (bytes_cell bytes) next stack = refl
  cell_back (list_cell cells) next stack = cells_back cells (inl (false, true) ∷ next) stack
  cell_back (tuple_cell cells) next stack = cells_back cells (inl (false, false) ∷ next) stack

  pub cells_back : (c : Cells) (next : List CellStep) (stack : List Cells)
      → cells_built (cells_steps c next) stack ≡ cells_built next (c ∷ stack)
  cells_back no_cell next stack = refl
  cells_back (cell_then c rest) next stack =
      cells_back rest (cell_steps c (inr (inl true) ∷ next)) stack ∙ cell_back c (inr (inl true) ∷ next) (rest ∷ stack)

abbrev pub coded_cell : Coded Cell
coded_cell =
    code_by (List CellStep)
    (coded_list (coded⊎ (coded× coded_bool coded_bool) (coded⊎ coded_bool (coded⊎ coded_bool (coded_list coded_ℕ)))))
    (λ c. cell_steps c []) (λ steps. first_cell (top no_cell (cells_built steps [])))
    (λ c. ap (λ stack. first_cell (top no_cell stack)) (cell_back c [] []))

-- ---- contents

abbrev pub coded_contents : Coded Contents
coded_contents =
    code_by (Shape × List Cell) (coded× coded_shape (coded_list coded_cell)) (λ c. (c.shape, c.cells))
    (λ pair. record { shape = pair.0; cells = pair.1 }) (λ c. refl)
