-- What a column keeps: its buffers are those that are written of its cells, and the columns inside it hold no more than
-- the cells need, with blank cells under nulls. So two columns of one shape hold the same cells where their bytes are the
-- same, and to write one is to copy it.
use Rattle.std.specs.Prelude.{◌≡◌, ℕ, suc, List, [], ◌∷◌, map, get_or, replicate}
use Rattle.std.specs.List.{AllByRecursion, flat_map}
use Rattle.batch_types.specs.Cells.{Cell}
use Rattle.batch_types.specs.Layouts.{Layout, null_layout, bits_layout, bytes_layout, binary_layout, utf8_layout}
use Rattle.batch_types.specs.Layouts.{list_layout, fixed_size_list_layout, struct_layout}
use Rattle.batch_types.specs.Canonical.{own_buffers, blank_of, elements_or, field_or, nulls_of}
use Rattle.batch_types.specs.Shapes.{shape}
use Rattle.batch_types.specs.Typed.{IsCellOf}
use Rattle.batch_types.specs.Written.{HasRoom}
use Rattle.batch_columns.specs.Buffers.{offsets_among, values_among}
use Rattle.batch_columns.specs.Contents.{Contents}
use Rattle.batch_columns.specs.Held.{shapes_held}

-- the elements of the cells, with so many blank ones under each null
abbrev pub HasElements : ℕ → List Cell → List Contents → Type 0
HasElements blanks cells [] = ⊥
HasElements blanks cells (child ∷ rest) =
    (child.cells ≡ flat_map (elements_or (replicate blanks (blank_of child.shape))) cells) × (rest ≡ [])

-- field k of the cells and those behind it, each with a blank one under a null
abbrev pub HaveFields : ℕ → List Cell → List Contents → Type 0
HaveFields k cells [] = Unit {0}
HaveFields k cells (child ∷ rest) =
    (child.cells ≡ map (field_or (blank_of child.shape) k) cells) × HaveFields (suc k) cells rest

-- the columns inside hold what is inside the cells
abbrev pub HaveInside : Layout → List Cell → List Contents → Type 0
HaveInside null_layout cells inside = inside ≡ []
HaveInside bits_layout cells inside = inside ≡ []
HaveInside (bytes_layout size) cells inside = inside ≡ []
HaveInside (binary_layout offset) cells inside = inside ≡ []
HaveInside (utf8_layout offset) cells inside = inside ≡ []
HaveInside (list_layout offset) cells inside = HasElements 0 cells inside
HaveInside (fixed_size_list_layout size) cells inside = HasElements size cells inside
HaveInside struct_layout cells inside = HaveFields 0 cells inside

-- so many nulls, the buffers and the columns inside are those of these cells
pub record IsKept (layout : Layout) (cells : List Cell) (nulls : ℕ) (validity offsets values : List ℕ)
    (inside : List Contents) : Type 0 where
  pub nulls_counted : nulls ≡ nulls_of cells
  pub validity_kept : validity ≡ get_or (own_buffers layout cells) 0 []
  pub offsets_kept : offsets ≡ offsets_among layout (own_buffers layout cells)
  pub values_kept : values ≡ values_among layout (own_buffers layout cells)
  pub fit : AllByRecursion (IsCellOf (shape layout (shapes_held inside))) cells
  pub held_inside : HaveInside layout cells inside
  pub room : HasRoom layout cells
