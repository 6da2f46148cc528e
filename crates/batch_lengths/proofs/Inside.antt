-- How long the columns inside a column are in the body that is written, and how many cells they have.
use Rattle.std.proofs.Common.{◌≡◌, refl, sym, ap, ap₂, ◌∙◌, ℕ, suc, ◌+◌, ◌-◌, ◌*◌, Bool, true, false, List, [], ◌∷◌, ◌++◌, map, length, drop, replicate, arith, length-append}
use Rattle.std.proofs.lemmas.List.{append-nil, length-map}
use Rattle.std.proofs.lemmas.List.FromFn.{length-range_with_len}
use Rattle.std.proofs.lemmas.List.Sums.{sum_by-cons}
use Rattle.std.proofs.lemmas.Grind.{flat_map-append}
use Rattle.std.specs.List.{flat_map, range_with_len}
use native.Mathlib.Nat.{mul-suc}
use Rattle.header_types.specs.Fields.{Forest, no_more, more, width}
use Rattle.batch_types.specs.Cells.{Cell}
use Rattle.batch_types.specs.Layouts.{Layout, null_layout, bits_layout, bytes_layout, binary_layout, utf8_layout}
use Rattle.batch_types.specs.Layouts.{list_layout, fixed_size_list_layout, struct_layout}
use Rattle.batch_types.specs.Laid.{Node, Range, laid, LaidColumns}
use Rattle.batch_types.specs.Placed.{start_of, length_of, cell_at, fields_at, buffer_at}
use Rattle.batch_types.specs.Shapes.{shape, Shapes, shape_of, shapes_of}
use Rattle.batch_types.specs.Canonical.{Parts, no_parts, both_parts, own_parts, parts_inside, parts_of, elements_parts, fields_parts, columns_parts}
use Rattle.batch_types.specs.Canonical.{padded, body_with, own_buffers, blank_of, blanks_of}
use Rattle.batch_columns.specs.Held.{layout_named}
use Rattle.batch_columns.specs.Read.{offsets_at}
use Rattle.batch_columns.specs.Sources.{nodes_of_tree, buffers_of_tree, column_from, columns_from}
use Rattle.batch_columns.specs.declared.layout.Layout.{Layout as Declared}
use Rattle.batch_columns.specs.declared.layout.Layout.TheVariants.{Null, Bits, Bytes, Binary, Utf8, List as Lists, FixedSizeList, Struct}
use Rattle.batch_reading.specs.Spots.{Spot}
use Rattle.batch_reading.specs.Taken.{seen}
use Rattle.batch_reading.specs.Planned.{elements_taken, spots_under, spots_inside}
use Rattle.batch_reading.specs.Built.{cells_wanted, columns_wanted}
use Rattle.batch_reading.proofs.Fitting.{MayHave}
use Rattle.batch_reading.proofs.Planning.{same_in_struct}
use Rattle.batch_reading.proofs.Holding.{from_field, behind, list_elements, sized_elements, struct_cells, struct_field}
use Rattle.batch_lengths.specs.Counted.{span_length, span_total}
use Rattle.batch_lengths.specs.Sizes.{columns_size, count_inside}

-- ---- parts

pub both_none : (p : Parts) → both_parts p no_parts ≡ p
both_none p = ap₂ (λ nodes buffers. let r : Parts = record { nodes = nodes; buffers = buffers } in r) (append-nil p.nodes) (append-nil p.buffers)

pub both_long : (p q : Parts) → length (body_with (both_parts p q).buffers) ≡ length (body_with p.buffers) + length (body_with q.buffers)
both_long p q =
    ap length (flat_map-append (λ buffer. buffer ++ replicate (padded (length buffer) - length buffer) 0) p.buffers q.buffers)
    ∙ length-append (body_with p.buffers) (body_with q.buffers)

-- ---- what stands inside

-- the same fields, and so many of their cells
module _ (body validity : List ℕ) (inner : LaidColumns) (shapes : Shapes) (spots : List Spot) where
  fields_are : (f : Forest) (nodes : List Node) (ranges : List Range) (k : ℕ)
      → ((j : ℕ) → from_field k (fields_at body inner j) ≡ fields_at body (columns_from f nodes ranges) j) → from_field k (blanks_of shapes) ≡ blanks_of (shapes_of f)
      → fields_parts (shapes_of f) k (struct_cells validity (fields_at body inner) (blanks_of shapes) spots)
      ≡ columns_parts (shapes_of f) (columns_wanted body (columns_from f nodes ranges) (shapes_of f) (map (seen validity) spots))
  fields_are no_more nodes ranges k are blanks = refl
  fields_are (more t rest) nodes ranges k are blanks =
      ap₂ both_parts
      (ap (parts_of (shape_of t)) (sym (struct_field validity (fields_at body inner) (blanks_of shapes) spots k (cell_at body (column_from t nodes ranges)) (blank_of (shape_of t))
      (fields_at body (columns_from rest (drop (nodes_of_tree t) nodes) (drop (buffers_of_tree t) ranges))) (blanks_of (shapes_of rest)) are blanks)))
      (fields_are rest (drop (nodes_of_tree t) nodes) (drop (buffers_of_tree t) ranges) (suc k) (λ j. ap behind (are j)) (ap behind blanks))

module _ (body : List ℕ) (node : Node) (ranges : List Range) (nodes : List Node) (others : List Range) (spots : List Spot) where
  abbrev validity : List ℕ
  validity = buffer_at body ranges 0

  -- the offsets of a column of this layout
  abbrev offsets : Layout → List ℕ
  offsets layout = offsets_at body layout ranges

  abbrev cells_there : Layout → Forest → List Cell
  cells_there layout inside = cells_wanted body (laid layout node ranges (columns_from inside nodes others)) (shape layout (shapes_of inside)) spots

  abbrev parts_there : Layout → Forest → Parts
  parts_there layout inside =
      columns_parts (shapes_of inside) (columns_wanted body (columns_from inside nodes others) (shapes_of inside) (spots_inside layout (offsets layout) (map (seen validity) spots)))

  abbrev IsInside : Layout → Forest → Type 0
  IsInside layout inside =
      parts_inside layout (elements_parts (shapes_of inside) (cells_there layout inside)) (fields_parts (shapes_of inside) 0 (cells_there layout inside))
      ≡ parts_there layout inside

  none_there : (layout : Layout) (inside : Forest) → width inside ≡ 0 → no_parts ≡ parts_there layout inside
  none_there layout no_more none = refl
  none_there layout (more t rest) none = absurd (omega (arith, none))

  inside_is : (layout : Declared) (inside : Forest) → MayHave (layout_named layout) (width inside) → IsInside (layout_named layout) inside
  inside_is Null inside may = none_there null_layout inside may
  inside_is Bits inside may = none_there bits_layout inside may
  inside_is (Bytes size) inside may = none_there (bytes_layout size) inside may
  inside_is Binary inside may = none_there (binary_layout 4) inside may
  inside_is Utf8 inside may = none_there (utf8_layout 4) inside may
  inside_is Lists no_more may = absurd (omega (arith, may))
  inside_is Lists (more t no_more) may =
      ap (parts_of (shape_of t)) (sym (list_elements validity (offsets (list_layout 4)) (cell_at body (column_from t nodes others)) (blank_of (shape_of t)) spots))
      ∙ sym (both_none (parts_of (shape_of t) (cells_wanted body (column_from t nodes others) (shape_of t) (spots_inside (list_layout 4) (offsets (list_layout 4)) (map (seen validity) spots)))))
  inside_is Lists (more t (more u rest)) may = absurd (omega (arith, may))
  inside_is (FixedSizeList size) no_more may = absurd (omega (arith, may))
  inside_is (FixedSizeList size) (more t no_more) may =
      ap (parts_of (shape_of t)) (sym (sized_elements size validity (offsets (fixed_size_list_layout size)) (cell_at body (column_from t nodes others)) (blank_of (shape_of t)) spots))
      ∙ sym (both_none (parts_of (shape_of t) (cells_wanted body (column_from t nodes others) (shape_of t) (spots_inside (fixed_size_list_layout size) (offsets (fixed_size_list_layout size)) (map (seen validity) spots)))))
  inside_is (FixedSizeList size) (more t (more u rest)) may = absurd (omega (arith, may))
  inside_is Struct inside may =
      fields_are body validity (columns_from inside nodes others) (shapes_of inside) spots inside nodes others 0 (λ j. refl) refl
      ∙ ap (λ l. columns_parts (shapes_of inside) (columns_wanted body (columns_from inside nodes others) (shapes_of inside) l)) (sym (same_in_struct (offsets struct_layout) (map (seen validity) spots)))

  -- a column is its own buffers and those of the columns inside it
  pub column_long : (layout : Declared) (inside : Forest) → MayHave (layout_named layout) (width inside)
      → length (body_with (parts_of (shape (layout_named layout) (shapes_of inside)) (cells_there (layout_named layout) inside)).buffers)
      ≡ length (body_with (own_buffers (layout_named layout) (cells_there (layout_named layout) inside)))
      + columns_size (shapes_of inside) (columns_wanted body (columns_from inside nodes others) (shapes_of inside) (spots_inside (layout_named layout) (offsets (layout_named layout)) (map (seen validity) spots)))
  column_long layout inside may =
      both_long (own_parts (layout_named layout) (cells_there (layout_named layout) inside))
      (parts_inside (layout_named layout) (elements_parts (shapes_of inside) (cells_there (layout_named layout) inside)) (fields_parts (shapes_of inside) 0 (cells_there (layout_named layout) inside)))
      ∙ ap (λ p. length (body_with (own_buffers (layout_named layout) (cells_there (layout_named layout) inside))) + length (body_with p.buffers)) (inside_is layout inside may)

-- ---- how many cells stand inside

listed_long : (offsets : List ℕ) (place : ℕ) (mark : Bool) → length {A = Spot} (map (λ p. (p, true)) (elements_taken offsets (place, mark))) ≡ span_length (list_layout 4) offsets (place, mark)
listed_long offsets place true =
    length-map {B = Spot} (range_with_len (start_of 4 offsets place) (length_of 4 offsets place)) (λ p. (p, true))
    ∙ length-range_with_len (start_of 4 offsets place) (length_of 4 offsets place)
listed_long offsets place false = refl

lists_long : (offsets : List ℕ) (taken : List Spot) → length (spots_inside (list_layout 4) offsets taken) ≡ span_total (list_layout 4) offsets taken
lists_long offsets [] = refl
lists_long offsets (spot ∷ taken) =
    omega (
      arith,
      length-append (spots_under (list_layout 4) offsets spot) (spots_inside (list_layout 4) offsets taken),
      listed_long offsets spot.0 spot.1,
      lists_long offsets taken,
      sum_by-cons (span_length (list_layout 4) offsets) spot taken,
    )

sized_long : (size : ℕ) (offsets : List ℕ) (taken : List Spot) → length (spots_inside (fixed_size_list_layout size) offsets taken) ≡ size * length taken
sized_long size offsets [] = omega arith
sized_long size offsets (spot ∷ taken) =
    omega (
      arith,
      length-append (spots_under (fixed_size_list_layout size) offsets spot) (spots_inside (fixed_size_list_layout size) offsets taken),
      length-map {B = Spot} (range_with_len (size * spot.0) size) (λ p. (p, spot.1)),
      length-range_with_len (size * spot.0) size,
      sized_long size offsets taken,
      mul-suc size (length taken),
    )

none_long : (f : Spot → List Spot) → ((spot : Spot) → f spot ≡ []) → (taken : List Spot) → length (flat_map f taken) ≡ 0
none_long f none [] = refl
none_long f none (spot ∷ taken) = ap (λ l. length (l ++ flat_map f taken)) (none spot) ∙ none_long f none taken

pub inside_long : (layout : Declared) (offsets validity : List ℕ) (spots : List Spot)
    → length (spots_inside (layout_named layout) offsets (map (seen validity) spots))
    ≡ count_inside (layout_named layout) (length spots) (span_total (layout_named layout) offsets (map (seen validity) spots))
inside_long Null offsets validity spots = none_long (spots_under null_layout offsets) (λ spot. refl) (map (seen validity) spots)
inside_long Bits offsets validity spots = none_long (spots_under bits_layout offsets) (λ spot. refl) (map (seen validity) spots)
inside_long (Bytes size) offsets validity spots = none_long (spots_under (bytes_layout size) offsets) (λ spot. refl) (map (seen validity) spots)
inside_long Binary offsets validity spots = none_long (spots_under (binary_layout 4) offsets) (λ spot. refl) (map (seen validity) spots)
inside_long Utf8 offsets validity spots = none_long (spots_under (utf8_layout 4) offsets) (λ spot. refl) (map (seen validity) spots)
inside_long Lists offsets validity spots = lists_long offsets (map (seen validity) spots)
inside_long (FixedSizeList size) offsets validity spots =
    sized_long size offsets (map (seen validity) spots) ∙ ap (λ n. size * n) (length-map spots (seen validity))
inside_long Struct offsets validity spots = ap length (same_in_struct offsets (map (seen validity) spots)) ∙ length-map spots (seen validity)
