-- A column whose buffers are those that are written of some cells holds these cells.
use Rattle.std.proofs.Common.{◌≡◌, refl, sym, ap, ap₂, subst, ◌∙◌, ℕ, zero, suc, ◌+◌, ◌<◌, if◌then◌else◌, List, [], ◌∷◌, map, length, get_or, zero-add, arith}
use Rattle.std.specs.List.{AllByRecursion, range_with_len}
use Rattle.batch_types.specs.Cells.{Cell, null_cell, list_cell, tuple_cell, cell_then, cells_of}
use Rattle.batch_types.specs.Layouts.{Layout, null_layout, bits_layout, bytes_layout, binary_layout, utf8_layout}
use Rattle.batch_types.specs.Layouts.{list_layout, fixed_size_list_layout, struct_layout}
use Rattle.batch_types.specs.Placed.{is_valid, value_at}
use Rattle.batch_types.specs.Canonical.{own_buffers}
use Rattle.batch_types.specs.Shapes.{shape, Shapes}
use Rattle.batch_types.specs.Typed.{IsCellOf}
use Rattle.batch_types.specs.Written.{HasRoom, blanks_under, written_elements, written_fields, written_cell}
use Rattle.batch_columns.specs.Buffers.{offsets_among, values_among, value_by}
use Rattle.batch_columns.specs.Contents.{Contents}
use Rattle.batch_columns.specs.Held.{shapes_held, elements_held, fields_held, cell_held, cells_held}
use Rattle.batch_columns.specs.Kept.{HasElements, HaveFields, HaveInside, IsKept}

-- ---- lists

module _ {X : Type 0} where
  -- as many as are counted
  pub counted_map : (f : ℕ → X) (start n : ℕ) → length (map f (range_with_len start n)) ≡ n
  counted_map f start zero = refl
  counted_map f start (suc n) = ap suc (counted_map f (start + 1) n)

  -- a list is each of its members in order
  listed : (d : X) (f : ℕ → X) (xs : List X) (start : ℕ) → ((j : ℕ) → j < length xs → f (start + j) ≡ get_or xs j d)
      → map f (range_with_len start (length xs)) ≡ xs
  listed d f [] start each = refl
  listed d f (x ∷ xs) start each =
      let here : start ≡ start + 0 = omega arith in
      ap₂ (λ y ys. y ∷ ys) (ap f here ∙ each 0 (omega arith))
      (listed d f xs (start + 1) (λ j within.
      let next : start + 1 + j ≡ start + suc j = omega arith in
      ap f next ∙ each (suc j) (omega arith)))

-- ---- one cell

-- what is read of a column is what is written of its cells, as the law of the definitions has it
abbrev pub ReadsBack : Type 0
ReadsBack = (layout : Layout) (inside : Shapes) (cells : List Cell) (j : ℕ) → AllByRecursion (IsCellOf (shape layout inside)) cells
    → HasRoom layout cells → j < length cells → written_cell layout inside cells j ≡ get_or cells j null_cell

-- the elements in the column inside are those that are written there
elements_same : (blanks : ℕ) (cells : List Cell) (inside : List Contents) (places : List ℕ) → HasElements blanks cells inside
    → elements_held inside places ≡ written_elements (shapes_held inside) cells blanks places
elements_same blanks cells [] places none = absurd none
elements_same blanks cells (child ∷ rest) places has = ap (λ all. cells_of (map (λ p. get_or all p null_cell) places)) has.0

-- and the fields in the columns inside
fields_same : (k : ℕ) (cells : List Cell) (inside : List Contents) (j : ℕ) → HaveFields k cells inside
    → fields_held inside j ≡ written_fields (shapes_held inside) k cells j
fields_same k cells [] j have = refl
fields_same k cells (child ∷ rest) j have =
    ap₂ cell_then (ap (λ all. get_or all j null_cell) have.0) (fields_same (suc k) cells rest j have.1)

-- the value at place j, where the buffers are those that are written
value_same : (layout : Layout) (cells : List Cell) (inside : List Contents) (buffers : List (List ℕ)) (j : ℕ) → HaveInside layout cells inside
    → value_by layout (offsets_among layout buffers) (values_among layout buffers) (elements_held inside) (fields_held inside) j
    ≡ value_at layout (get_or buffers 1 []) (get_or buffers 2 [])
    (written_elements (shapes_held inside) cells (blanks_under layout)) (written_fields (shapes_held inside) 0 cells) j
value_same null_layout cells inside buffers j has = refl
value_same bits_layout cells inside buffers j has = refl
value_same (bytes_layout size) cells inside buffers j has = refl
value_same (binary_layout offset) cells inside buffers j has = refl
value_same (utf8_layout offset) cells inside buffers j has = refl
value_same (list_layout offset) cells inside buffers j has = ap list_cell (elements_same 0 cells inside _ has)
value_same (fixed_size_list_layout size) cells inside buffers j has = ap list_cell (elements_same size cells inside _ has)
value_same struct_layout cells inside buffers j has = ap tuple_cell (fields_same 0 cells inside j has)

-- ---- all cells

module _ (law : ReadsBack) (layout : Layout) (cells : List Cell) (inside : List Contents) (nulls : ℕ) (validity offsets values : List ℕ)
    (kept : IsKept layout cells nulls validity offsets values inside) where
  cell_same : (j : ℕ) → cell_held layout validity offsets values inside j ≡ written_cell layout (shapes_held inside) cells j
  cell_same j =
      ap (λ bytes. if is_valid layout bytes j then value_by layout offsets values (elements_held inside) (fields_held inside) j else null_cell) kept.validity_kept
      ∙ ap (λ value. if is_valid layout (get_or (own_buffers layout cells) 0 []) j then value else null_cell)
      (ap₂ (λ x y. value_by layout x y (elements_held inside) (fields_held inside) j) kept.offsets_kept kept.values_kept
      ∙ value_same layout cells inside (own_buffers layout cells) j kept.held_inside)

  -- what the buffers and the columns inside hold are the cells that they were written of
  pub kept_cells : (count : ℕ) → length cells ≡ count → cells_held layout count validity offsets values inside ≡ cells
  kept_cells count counted =
      ap (λ n. cells_held layout n validity offsets values inside) (sym counted)
      ∙ listed null_cell (cell_held layout validity offsets values inside) cells 0
      (λ j within.
      ap (cell_held layout validity offsets values inside) (zero-add j) ∙ cell_same j ∙ law layout (shapes_held inside) cells j kept.fit kept.room within)

  -- what a column keeps of some cells, it keeps of those that it holds
  pub kept_held : (count : ℕ) → length cells ≡ count → IsKept layout (cells_held layout count validity offsets values inside) nulls validity offsets values inside
  kept_held count counted = subst (λ x. IsKept layout x nulls validity offsets values inside) (sym (kept_cells count counted)) kept
