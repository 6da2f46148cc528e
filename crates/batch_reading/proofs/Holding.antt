-- A column that is built as planned, with what is selected inside, keeps what a column keeps.
use Rattle.std.proofs.Common.{◌≡◌, refl, sym, ap, ap₂, ◌∙◌, ℕ, zero, suc, ◌+◌, ◌*◌, Bool, true, false, if◌then◌else◌, List, [], ◌∷◌, ◌++◌, map, length, get_or, replicate, arith}
use Rattle.std.proofs.lemmas.List.{map-append, length-map}
use Rattle.std.proofs.lemmas.Simd.{map-map}
use Rattle.std.specs.List.{flat_map, range_with_len}
use Rattle.batch_types.specs.Cells.{Cell, null_cell, list_cell, tuple_cell, Cells, no_cell, cell_then, cells_of}
use Rattle.batch_types.specs.Layouts.{list_layout, fixed_size_list_layout}
use Rattle.batch_types.specs.Shapes.{Shapes}
use Rattle.batch_types.specs.Laid.{LaidColumns, no_column, column_then}
use Rattle.batch_types.specs.Placed.{start_of, length_of, cell_at, fields_at}
use Rattle.batch_types.specs.Canonical.{blank_of, blanks_of, cells_in, elements_or, elements_lengths, nth_or, field_or}
use Rattle.batch_columns.specs.Contents.{Contents}
use Rattle.batch_columns.specs.Held.{shapes_held}
use Rattle.batch_columns.specs.Kept.{HaveFields}
use Rattle.batch_columns.specs.Few.{columns_cells}
use Rattle.batch_reading.specs.Spots.{Spot}
use Rattle.batch_reading.specs.Taken.{valid_in, seen}
use Rattle.batch_reading.specs.Planned.{elements_taken, spots_under, spots_inside}
use Rattle.batch_reading.specs.Built.{cell_wanted, columns_wanted}
use Rattle.batch_reading.proofs.Keeping.{mapped_taken, gathered_by}

-- ---- cells in one

pub cells_back : (cells : List Cell) → cells_in (cells_of cells) ≡ cells
cells_back [] = refl
cells_back (cell ∷ cells) = ap (λ rest. cell ∷ rest) (cells_back cells)

mapped_flat : {X Y Z : Type 0} (g : Y → Z) (f : X → List Y) (xs : List X) → map g (flat_map f xs) ≡ flat_map (λ x. map g (f x)) xs
mapped_flat g f [] = refl
mapped_flat g f (x ∷ xs) = map-append g (f x) (flat_map f xs) ∙ ap (λ l. map g (f x) ++ l) (mapped_flat g f xs)

same_mapped : {X Y : Type 0} (f g : X → Y) → ((x : X) → f x ≡ g x) → (xs : List X) → map f xs ≡ map g xs
same_mapped f g same [] = refl
same_mapped f g same (x ∷ xs) = ap₂ (λ y ys. y ∷ ys) (same x) (same_mapped f g same xs)

same_flat : {X Y : Type 0} (f g : X → List Y) → ((x : X) → f x ≡ g x) → (xs : List X) → flat_map f xs ≡ flat_map g xs
same_flat f g same [] = refl
same_flat f g same (x ∷ xs) = ap₂ (λ y ys. y ++ ys) (same x) (same_flat f g same xs)

-- ---- lists

module _ (validity offsets : List ℕ) (there : ℕ → Cell) (blank : Cell) (spots : List Spot) where
  abbrev list_value : ℕ → Cell
  list_value j = list_cell (cells_of (map there (range_with_len (start_of 4 offsets j) (length_of 4 offsets j))))

  abbrev pub list_cells : List Cell
  list_cells = map (cell_wanted (λ j. if valid_in validity j then list_value j else null_cell) (list_cell no_cell)) spots

  one_list : (spot : Spot) → (if spot.1 then elements_or [] (list_value spot.0) else []) ≡ map there (elements_taken offsets spot)
  one_list spot = by_mark spot.0 spot.1
    where
      by_mark : (j : ℕ) (mark : Bool) → (if mark then elements_or [] (list_value j) else []) ≡ map there (elements_taken offsets (j, mark))
      by_mark j true = cells_back (map there (range_with_len (start_of 4 offsets j) (length_of 4 offsets j)))
      by_mark j false = refl

  list_pieces : map (elements_or []) list_cells ≡ map (λ spot. map there (elements_taken offsets spot)) (map (seen validity) spots)
  list_pieces =
      mapped_taken validity list_value (list_cell no_cell) (λ j. refl) refl (elements_or []) [] refl refl spots
      ∙ same_mapped (λ spot. if spot.1 then elements_or [] (list_value spot.0) else []) (λ spot. map there (elements_taken offsets spot)) one_list (map (seen validity) spots)

  pub list_lengths : elements_lengths list_cells ≡ map (λ spot. length (elements_taken offsets spot)) (map (seen validity) spots)
  list_lengths =
      sym (map-map (λ l. length l) (elements_or []) list_cells)
      ∙ ap (map (λ l. length l)) list_pieces
      ∙ map-map (λ l. length l) (λ spot. map there (elements_taken offsets spot)) (map (seen validity) spots)
      ∙ same_mapped (λ spot. length (map there (elements_taken offsets spot))) (λ spot. length (elements_taken offsets spot))
      (λ spot. length-map (elements_taken offsets spot) there) (map (seen validity) spots)

  pub list_elements : map (cell_wanted there blank) (spots_inside (list_layout 4) offsets (map (seen validity) spots)) ≡ flat_map (elements_or []) list_cells
  list_elements =
      mapped_flat (cell_wanted there blank) (spots_under (list_layout 4) offsets) (map (seen validity) spots)
      ∙ same_flat (λ spot. map (cell_wanted there blank) (spots_under (list_layout 4) offsets spot)) (λ spot. map there (elements_taken offsets spot))
      (λ spot. map-map (cell_wanted there blank) (λ place. (place, true)) (elements_taken offsets spot)) (map (seen validity) spots)
      ∙ sym (gathered_by (λ spot. map there (elements_taken offsets spot)) (elements_or []) list_cells (map (seen validity) spots) list_pieces)

-- ---- lists of one size

all_blank : (blank : Cell) (start n : ℕ) → map (λ (p : ℕ). blank) (range_with_len start n) ≡ replicate n blank
all_blank blank start zero = refl
all_blank blank start (suc n) = ap (λ l. blank ∷ l) (all_blank blank (start + 1) n)

module _ (size : ℕ) (validity offsets : List ℕ) (there : ℕ → Cell) (blank : Cell) (spots : List Spot) where
  abbrev sized_value : ℕ → Cell
  sized_value j = list_cell (cells_of (map there (range_with_len (size * j) size)))

  abbrev pub sized_cells : List Cell
  sized_cells =
      map (cell_wanted (λ j. if valid_in validity j then sized_value j else null_cell) (list_cell (cells_of (replicate size blank)))) spots

  one_sized : (spot : Spot) → (if spot.1 then elements_or (replicate size blank) (sized_value spot.0) else replicate size blank)
      ≡ map (cell_wanted there blank) (spots_under (fixed_size_list_layout size) offsets spot)
  one_sized spot = by_mark spot.0 spot.1
    where
      by_mark : (j : ℕ) (mark : Bool) → (if mark then elements_or (replicate size blank) (sized_value j) else replicate size blank)
          ≡ map (cell_wanted there blank) (spots_under (fixed_size_list_layout size) offsets (j, mark))
      by_mark j true =
          cells_back (map there (range_with_len (size * j) size))
          ∙ sym (map-map (cell_wanted there blank) (λ place. (place, true)) (range_with_len (size * j) size))
      by_mark j false =
          sym (all_blank blank (size * j) size)
          ∙ sym (map-map (cell_wanted there blank) (λ place. (place, false)) (range_with_len (size * j) size))

  pub sized_elements : map (cell_wanted there blank) (spots_inside (fixed_size_list_layout size) offsets (map (seen validity) spots))
      ≡ flat_map (elements_or (replicate size blank)) sized_cells
  sized_elements =
      mapped_flat (cell_wanted there blank) (spots_under (fixed_size_list_layout size) offsets) (map (seen validity) spots)
      ∙ sym (gathered_by (λ spot. map (cell_wanted there blank) (spots_under (fixed_size_list_layout size) offsets spot))
      (elements_or (replicate size blank)) sized_cells (map (seen validity) spots)
      (mapped_taken validity sized_value (list_cell (cells_of (replicate size blank))) (λ j. refl) refl (elements_or (replicate size blank)) (replicate size blank)
      refl (cells_back (replicate size blank)) spots
      ∙ same_mapped (λ spot. if spot.1 then elements_or (replicate size blank) (sized_value spot.0) else replicate size blank)
      (λ spot. map (cell_wanted there blank) (spots_under (fixed_size_list_layout size) offsets spot)) one_sized (map (seen validity) spots)))

-- ---- structs

abbrev pub behind : Cells → Cells
behind no_cell = no_cell
behind (cell_then cell rest) = rest

abbrev pub from_field : ℕ → Cells → Cells
from_field zero cells = cells
from_field (suc k) cells = behind (from_field k cells)

nth_behind : (blank : Cell) (k : ℕ) (cells : Cells) → nth_or blank (behind cells) k ≡ nth_or blank cells (suc k)
nth_behind blank k no_cell = nothing k
  where
    nothing : (j : ℕ) → nth_or blank no_cell j ≡ blank
    nothing j = refl
nth_behind blank k (cell_then cell rest) = refl

nth_from : (blank : Cell) (k j : ℕ) (cells : Cells) → nth_or blank (from_field k cells) j ≡ nth_or blank cells (k + j)
nth_from blank zero j cells = let same : j ≡ 0 + j = omega arith in ap (nth_or blank cells) same
nth_from blank (suc k) j cells =
    let same : k + suc j ≡ suc k + j = omega arith in
    nth_behind blank j (from_field k cells) ∙ nth_from blank k (suc j) cells ∙ ap (nth_or blank cells) same

nth_first : (blank : Cell) (k : ℕ) (cells : Cells) (cell : Cell) (rest : Cells) → from_field k cells ≡ cell_then cell rest → nth_or blank cells k ≡ cell
nth_first blank k cells cell rest is =
    let same : k ≡ k + 0 = omega arith in
    ap (nth_or blank cells) same ∙ sym (nth_from blank k 0 cells) ∙ ap (λ c. nth_or blank c 0) is

module _ (validity : List ℕ) (fields : ℕ → Cells) (blanks : Cells) (spots : List Spot) where
  abbrev struct_value : ℕ → Cell
  struct_value j = tuple_cell (fields j)

  abbrev pub struct_cells : List Cell
  struct_cells = map (cell_wanted (λ j. if valid_in validity j then struct_value j else null_cell) (tuple_cell blanks)) spots

  pub struct_field : (k : ℕ) (there : ℕ → Cell) (blank : Cell) (rest : ℕ → Cells) (others : Cells)
      → ((j : ℕ) → from_field k (fields j) ≡ cell_then (there j) (rest j)) → from_field k blanks ≡ cell_then blank others
      → map (cell_wanted there blank) (map (seen validity) spots) ≡ map (field_or blank k) struct_cells
  struct_field k there blank rest others is whole =
      same_mapped (cell_wanted there blank) (λ spot. if spot.1 then field_or blank k (struct_value spot.0) else blank)
      (λ spot. ap (λ cell. if spot.1 then cell else blank) (sym (nth_first blank k (fields spot.0) (there spot.0) (rest spot.0) (is spot.0))))
      (map (seen validity) spots)
      ∙ sym (mapped_taken validity struct_value (tuple_cell blanks) (λ j. refl) refl (field_or blank k) blank refl
      (nth_first blank k blanks blank others whole) spots)

heads : {X : Type 0} (d : X) (xs ys : List X) → xs ≡ ys → get_or xs 0 d ≡ get_or ys 0 d
heads d xs ys same = ap (λ l. get_or l 0 d) same

module _ (body validity : List ℕ) (inner : LaidColumns) (shapes : Shapes) (spots : List Spot) where
  pub struct_fields : (k : ℕ) (columns : LaidColumns) (inside : List Contents)
      → ((j : ℕ) → from_field k (fields_at body inner j) ≡ fields_at body columns j) → from_field k (blanks_of shapes) ≡ blanks_of (shapes_held inside)
      → columns_cells inside ≡ columns_wanted body columns (shapes_held inside) (map (seen validity) spots)
      → HaveFields k (struct_cells validity (fields_at body inner) (blanks_of shapes) spots) inside
  struct_fields k columns [] is whole cells = tt
  struct_fields k no_column (child ∷ rest) is whole cells = absurd (none_some (child.cells) (columns_cells rest) cells)
    where
      none_some : {X : Type 0} (x : X) (xs : List X) → x ∷ xs ≡ [] → ⊥
      none_some x xs same = cc
  struct_fields k (column_then c cs) (child ∷ rest) is whole cells = (
    heads [] (child.cells ∷ columns_cells rest) _ cells
        ∙ struct_field validity (fields_at body inner) (blanks_of shapes) spots k (cell_at body c) (blank_of child.shape) (fields_at body cs) (blanks_of (shapes_held rest)) is whole,
    struct_fields (suc k) cs rest (λ j. ap behind (is j)) (ap behind whole) (tails cells),
  )
    where
      tails : {X : Type 0} {x y : X} {xs ys : List X} → x ∷ xs ≡ y ∷ ys → xs ≡ ys
      tails same = cc
