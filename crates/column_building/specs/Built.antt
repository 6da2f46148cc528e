-- Columns that are built of cells, and why there are none: Apache Arrow, "Arrow Columnar Format", "Physical memory
-- layout".
use Rattle.std.specs.Prelude.{◌≡◌, ℕ, suc, pos, ◌≤ℤ◌, List, [], ◌∷◌, map, get_or}
use Rattle.std.specs.List.{AllByRecursion}
use Rattle.batch_types.specs.Cells.{Cell}
use Rattle.batch_types.specs.Canonical.{blank_of, field_or, parts_of}
use Rattle.batch_types.specs.Laid.{Node}
use Rattle.batch_types.specs.LaysOut.{values_limit}
use Rattle.batch_types.specs.Layouts.{Layout}
use Rattle.batch_types.specs.Shapes.{Shape, shape, Shapes, no_shape, shape_then}
use Rattle.batch_types.specs.Typed.{IsCellOf}
use Rattle.batch_types.specs.Canonical.{own_buffers, validity_of}
use Rattle.batch_types.specs.Written.{HasRoom, AreRooms}
use Rattle.batch_columns.specs.Buffers.{offsets_among, values_among}
use Rattle.batch_columns.specs.Contents.{Contents}
use Rattle.batch_columns.specs.Held.{shapes_held}
use Rattle.batch_columns.specs.Kept.{HaveInside}
use Rattle.column_building.specs.declared.fault.CellsFault.{CellsFault}
use Rattle.column_building.specs.declared.fault.CellsFault.TheVariants as fault

-- none has more values than a node may have
abbrev pub AreFewNodes : List Node → Type 0
AreFewNodes nodes = AllByRecursion (λ node. node.0 ≤ℤ pos values_limit) nodes

-- no column of these cells has more values, nor one inside it
abbrev pub AreFewValues : Shape → List Cell → Type 0
AreFewValues s cells = AreFewNodes (parts_of s cells).nodes

-- ---- columns

-- the column is of this shape and holds these cells, which have room in it
pub record IsBuilt (s : Shape) (held : List Cell) (column : Contents) : Type 0 where
  pub shape : column.shape ≡ s
  pub cells : column.cells ≡ held
  pub few : AreFewValues s held
  pub room : AreRooms s held

-- the only column holds these cells, which are of the first of the shapes
abbrev pub IsBuiltFirst : Shapes → List Cell → List Contents → Type 0
IsBuiltFirst no_shape cells columns = ⊥
IsBuiltFirst (shape_then s rest) cells [] = ⊥
IsBuiltFirst (shape_then s rest) cells (child ∷ columns) = IsBuilt s cells child × (rest ≡ no_shape) × (columns ≡ [])

-- the columns hold the fields of these cells from this one on
abbrev pub AreBuiltFields : Shapes → ℕ → List Cell → List Contents → Type 0
AreBuiltFields no_shape k cells [] = Unit {0}
AreBuiltFields no_shape k cells (child ∷ columns) = ⊥
AreBuiltFields (shape_then s rest) k cells [] = ⊥
AreBuiltFields (shape_then s rest) k cells (child ∷ columns) =
    IsBuilt s (map (field_or (blank_of s) k) cells) child × AreBuiltFields rest (suc k) cells columns

-- the fields of these cells from this one on are of these shapes
abbrev pub DoFieldsFit : Shapes → ℕ → List Cell → Type 0
DoFieldsFit no_shape k cells = Unit {0}
DoFieldsFit (shape_then s rest) k cells =
    AllByRecursion (IsCellOf s) (map (field_or (blank_of s) k) cells) × DoFieldsFit rest (suc k) cells

-- what a column of these cells keeps beside its validity: its offsets and the columns inside it
pub record CanSurround (layout : Layout) (cells : List Cell) (offsets : List ℕ) (inside : List Contents) : Type 0 where
  pub validity_kept : get_or (own_buffers layout cells) 0 [] ≡ validity_of cells
  pub offsets_kept : offsets ≡ offsets_among layout (own_buffers layout cells)
  pub values_kept : values_among layout (own_buffers layout cells) ≡ []
  pub fit : AllByRecursion (IsCellOf (shape layout (shapes_held inside))) cells
  pub held_inside : HaveInside layout cells inside
  pub room : HasRoom layout cells

-- ---- why there are none

-- the fault is told of too many values in these nodes, or where there is no such room; memory may always be refused
abbrev pub IsCauseOf : List Node → Type 0 → CellsFault → Type 0
IsCauseOf nodes Room fault.WrongChildren = ⊥
IsCauseOf nodes Room fault.NotOfField = ⊥
IsCauseOf nodes Room fault.TooMany = AreFewNodes nodes → ⊥
IsCauseOf nodes Room fault.TooLong = Room → ⊥
IsCauseOf nodes Room fault.OutOfMemory = Unit {0}

abbrev pub IsCause : Shape → List Cell → CellsFault → Type 0
IsCause s cells fault = IsCauseOf (parts_of s cells).nodes (AreRooms s cells) fault

-- of the first of the shapes, where there is one
abbrev pub IsCauseFirst : Shapes → List Cell → CellsFault → Type 0
IsCauseFirst no_shape cells fault = ⊥
IsCauseFirst (shape_then s rest) cells fault = IsCause s cells fault
