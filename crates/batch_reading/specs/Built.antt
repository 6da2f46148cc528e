-- The cells of a column at the selected places: Apache Arrow, "Arrow Columnar Format", "Physical memory layout".
use Rattle.std.specs.Prelude.{ℕ, if◌then◌else◌, List, [], ◌∷◌, map}
use Rattle.std.specs.List.{AllByRecursion}
use Rattle.batch_types.specs.Cells.{Cell, null_cell, no_cell}
use Rattle.batch_types.specs.Layouts.{Layout}
use Rattle.batch_types.specs.Shapes.{Shape, Shapes, no_shape, shape_then}
use Rattle.batch_types.specs.Laid.{LaidColumn, LaidColumns, no_column, column_then}
use Rattle.batch_types.specs.Placed.{is_valid, cell_at}
use Rattle.batch_types.specs.Canonical.{blank_cell, blank_of}
use Rattle.batch_types.specs.Typed.{IsCellOf}
use Rattle.batch_columns.specs.Buffers.{value_by}
use Rattle.batch_reading.specs.Spots.{Spot}

-- the cell at a spot, or the blank one where it is not selected
abbrev pub cell_wanted : (ℕ → Cell) → Cell → Spot → Cell
cell_wanted cell_there blank spot = if spot.1 then cell_there spot.0 else blank

-- the cells of a column at these spots, with blank ones of the shape
abbrev pub cells_wanted : List ℕ → LaidColumn → Shape → List Spot → List Cell
cells_wanted body column s spots = map (cell_wanted (cell_at body column) (blank_of s)) spots

-- ---- columns side by side

-- the cells of each
abbrev pub columns_wanted : List ℕ → LaidColumns → Shapes → List Spot → List (List Cell)
columns_wanted body no_column shapes spots = []
columns_wanted body (column_then column rest) no_shape spots = []
columns_wanted body (column_then column rest) (shape_then s shapes) spots =
    cells_wanted body column s spots ∷ columns_wanted body rest shapes spots

-- they are cells of these shapes
abbrev pub AreFit : List ℕ → LaidColumns → Shapes → List Spot → Type 0
AreFit body no_column shapes spots = Unit {0}
AreFit body (column_then column rest) no_shape spots = ⊥
AreFit body (column_then column rest) (shape_then s shapes) spots =
    AllByRecursion (IsCellOf s) (cells_wanted body column s spots) × AreFit body rest shapes spots

-- ---- layouts without columns inside

-- the cell at place j, by the validity, the offsets and the values
abbrev pub flat_cell : Layout → List ℕ → List ℕ → List ℕ → ℕ → Cell
flat_cell layout validity offsets values j =
    if is_valid layout validity j
    then value_by layout offsets values (λ places. no_cell) (λ i. no_cell) j
    else null_cell

abbrev pub flat_cells : Layout → List ℕ → List ℕ → List ℕ → List Spot → List Cell
flat_cells layout validity offsets values spots =
    map (cell_wanted (flat_cell layout validity offsets values) (blank_cell layout null_cell no_cell)) spots
