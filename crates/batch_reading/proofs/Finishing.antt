-- What is planned of a column, with what is selected inside, is what the column keeps.
use Rattle.std.proofs.Common.{◌≡◌, refl, sym, ap, subst, ◌∙◌, inl, inr, ℕ, ◌+◌, ◌*◌, ◌^◌, ◌<◌, Bool, true, false, if◌then◌else◌, List, [], ◌∷◌, map, length, replicate, arith}
use Rattle.std.specs.List.{AllByRecursion, sum_by, range_with_len}
use Rattle.std.proofs.lemmas.List.Sums.{sum_by-cons}
use Rattle.batch_types.specs.Cells.{Cell, null_cell, list_cell, tuple_cell, no_cell, cells_of}
use Rattle.batch_types.specs.Layouts.{null_layout, binary_layout, utf8_layout}
use Rattle.batch_types.specs.Shapes.{Shape, shape, Shapes, no_shape, shape_then}
use Rattle.batch_types.specs.Laid.{Node, Range, laid, LaidColumns, no_column, column_then}
use Rattle.batch_types.specs.Placed.{start_of, length_of, cell_at, fields_at, buffer_at}
use Rattle.batch_types.specs.Canonical.{is_null, nulls_of, blank_of, blanks_of, offsets_of}
use Rattle.batch_types.specs.Typed.{IsCellOf}
use Rattle.batch_columns.specs.Contents.{Contents}
use Rattle.batch_columns.specs.Held.{shapes_held, layout_named}
use Rattle.batch_columns.specs.Kept.{IsKept}
use Rattle.batch_columns.specs.Read.{offsets_at, values_at}
use Rattle.batch_columns.specs.Few.{columns_cells}
use Rattle.batch_columns.specs.declared.layout.Layout.{Layout as Declared}
use Rattle.batch_columns.specs.declared.layout.Layout.TheVariants.{Null, Bits, Bytes, Binary, Utf8, List as Lists, FixedSizeList, Struct}
use Rattle.batch_reading.specs.declared.plan.Plan.{Plan}
use Rattle.batch_reading.specs.Spots.{Spot}
use Rattle.batch_reading.specs.Taken.{seen, span_taken}
use Rattle.batch_reading.specs.Planned.{elements_taken, spots_inside, IsPlanned}
use Rattle.batch_reading.specs.Built.{cells_wanted, columns_wanted, flat_cells}
use Rattle.batch_reading.proofs.Planning.{same_in_struct}
use Rattle.batch_reading.proofs.Keeping.{nulls_built, validity_built, bits_kept, blocks_kept, spread_kept}
use Rattle.batch_reading.proofs.Holding.{list_lengths, list_elements, sized_elements, struct_fields}

null_first : (mark : Bool) (cells : List Cell) → nulls_of ((if mark then null_cell else null_cell) ∷ cells) ≡ 1 + nulls_of cells
null_first true cells = sum_by-cons (λ x. if is_null x then 1 else 0) null_cell cells
null_first false cells = sum_by-cons (λ x. if is_null x then 1 else 0) null_cell cells

null_count : (spots : List Spot) → nulls_of (flat_cells null_layout [] [] [] spots) ≡ length spots
null_count [] = refl
null_count (spot ∷ spots) = omega (arith, null_first spot.1 (flat_cells null_layout [] [] [] spots), null_count spots)

-- which columns may be inside
abbrev pub MayHold : Declared → List Contents → Type 0
MayHold Null inside = inside ≡ []
MayHold Bits inside = inside ≡ []
MayHold (Bytes size) inside = inside ≡ []
MayHold Binary inside = inside ≡ []
MayHold Utf8 inside = inside ≡ []
MayHold Lists inside = (s : Shape) × (shapes_held inside ≡ shape_then s no_shape)
MayHold (FixedSizeList size) inside = (s : Shape) × (shapes_held inside ≡ shape_then s no_shape)
MayHold Struct inside = Unit {0}

-- offsets have room for what is taken
abbrev pub HasRoomTaken : Declared → List ℕ → List ℕ → List Spot → Type 0
HasRoomTaken Null offsets values taken = Unit {0}
HasRoomTaken Bits offsets values taken = Unit {0}
HasRoomTaken (Bytes size) offsets values taken = Unit {0}
HasRoomTaken Binary offsets values taken = sum_by (λ n. n) (map (λ spot. length (span_taken offsets values spot)) taken) < 2 ^ 31
HasRoomTaken Utf8 offsets values taken = sum_by (λ n. n) (map (λ spot. length (span_taken offsets values spot)) taken) < 2 ^ 31
HasRoomTaken Lists offsets values taken = sum_by (λ n. n) (map (λ spot. length (elements_taken offsets spot)) taken) < 2 ^ 31
HasRoomTaken (FixedSizeList size) offsets values taken = Unit {0}
HasRoomTaken Struct offsets values taken = Unit {0}

none_some : {X : Type 0} (x : X) (xs : List X) → x ∷ xs ≡ [] → ⊥
none_some x xs same = cc

head_same : {X : Type 0} {x y : X} {xs ys : List X} → x ∷ xs ≡ y ∷ ys → x ≡ y
head_same same = cc

shapes_two : (a b s : Shape) (rest : Shapes) → shape_then a (shape_then b rest) ≡ shape_then s no_shape → ⊥
shapes_two a b s rest same = cc

shapes_none : (s : Shape) → no_shape ≡ shape_then s no_shape → ⊥
shapes_none s same = cc

module _ (body : List ℕ) (node : Node) (ranges : List Range) (spots : List Spot) (plan : Plan) where
  abbrev taken : List Spot
  taken = map (seen (buffer_at body ranges 0)) spots

  abbrev pub Premises : Declared → LaidColumns → List Contents → Type 0
  Premises layout inner inside =
      IsPlanned (layout_named layout) (buffer_at body ranges 0) (offsets_at body (layout_named layout) ranges) (values_at body (layout_named layout) ranges) spots plan
      × AllByRecursion (IsCellOf (shape (layout_named layout) (shapes_held inside)))
      (cells_wanted body (laid (layout_named layout) node ranges inner) (shape (layout_named layout) (shapes_held inside)) spots)
      × MayHold layout inside
      × (columns_cells inside ≡ columns_wanted body inner (shapes_held inside) (spots_inside (layout_named layout) (offsets_at body (layout_named layout) ranges) taken))
      × HasRoomTaken layout (offsets_at body (layout_named layout) ranges) (values_at body (layout_named layout) ranges) taken

  abbrev pub Kept : Declared → LaidColumns → List Contents → Type 0
  Kept layout inner inside =
      IsKept (layout_named layout) (cells_wanted body (laid (layout_named layout) node ranges inner) (shape (layout_named layout) (shapes_held inside)) spots)
      plan.nulls plan.validity.items plan.offsets.items plan.values.items inside

  lists_kept : (inner : LaidColumns) (inside : List Contents) → Premises Lists inner inside → Kept Lists inner inside
  lists_kept inner [] p = absurd (shapes_none p.2.0 p.2.1)
  lists_kept inner (child ∷ other ∷ rest) p = absurd (shapes_two child.shape other.shape p.2.0 (shapes_held rest) p.2.1)
  lists_kept no_column (child ∷ []) p = absurd (none_some child.cells [] p.3)
  lists_kept (column_then c cs) (child ∷ []) p =
      let validity : List ℕ = buffer_at body ranges 0 in
      let offsets : List ℕ = buffer_at body ranges 1 in
      let value : ℕ → Cell = λ j. list_cell (cells_of (map (cell_at body c) (range_with_len (start_of 4 offsets j) (length_of 4 offsets j)))) in
      record {
        nulls_counted = p.0.nulls_are ∙ sym (nulls_built validity value (list_cell no_cell) (λ j. refl) refl spots);
        validity_kept = p.0.validity_is ∙ sym (validity_built validity value (list_cell no_cell) (λ j. refl) refl spots);
        offsets_kept = p.0.offsets_is ∙ ap (offsets_of 4) (sym (list_lengths validity offsets (cell_at body c) null_cell spots));
        values_kept = p.0.values_is;
        fit = p.1;
        held_inside = (head_same p.3 ∙ list_elements validity offsets (cell_at body c) (blank_of child.shape) spots, refl);
        room = subst (λ l. sum_by (λ n. n) l < 2 ^ 31) (sym (list_lengths validity offsets (cell_at body c) null_cell spots)) p.4;
      }

  sized_kept : (size : ℕ) (inner : LaidColumns) (inside : List Contents) → Premises (FixedSizeList size) inner inside → Kept (FixedSizeList size) inner inside
  sized_kept size inner [] p = absurd (shapes_none p.2.0 p.2.1)
  sized_kept size inner (child ∷ other ∷ rest) p = absurd (shapes_two child.shape other.shape p.2.0 (shapes_held rest) p.2.1)
  sized_kept size no_column (child ∷ []) p = absurd (none_some child.cells [] p.3)
  sized_kept size (column_then c cs) (child ∷ []) p =
      let validity : List ℕ = buffer_at body ranges 0 in
      let value : ℕ → Cell = λ j. list_cell (cells_of (map (cell_at body c) (range_with_len (size * j) size))) in
      let blank : Cell = list_cell (cells_of (replicate size (blank_of child.shape))) in
      record {
        nulls_counted = p.0.nulls_are ∙ sym (nulls_built validity value blank (λ j. refl) refl spots);
        validity_kept = p.0.validity_is ∙ sym (validity_built validity value blank (λ j. refl) refl spots);
        offsets_kept = p.0.offsets_is;
        values_kept = p.0.values_is;
        fit = p.1;
        held_inside = (head_same p.3 ∙ sized_elements size validity [] (cell_at body c) (blank_of child.shape) spots, refl);
        room = tt;
      }

  structs_kept : (inner : LaidColumns) (inside : List Contents) → Premises Struct inner inside → Kept Struct inner inside
  structs_kept inner inside p =
      let validity : List ℕ = buffer_at body ranges 0 in
      let value : ℕ → Cell = λ j. tuple_cell (fields_at body inner j) in
      let blank : Cell = tuple_cell (blanks_of (shapes_held inside)) in
      record {
        nulls_counted = p.0.nulls_are ∙ sym (nulls_built validity value blank (λ j. refl) refl spots);
        validity_kept = p.0.validity_is ∙ sym (validity_built validity value blank (λ j. refl) refl spots);
        offsets_kept = p.0.offsets_is;
        values_kept = p.0.values_is;
        fit = p.1;
        held_inside =
            struct_fields body validity inner (shapes_held inside) spots 0 inner inside (λ j. refl) refl
            (p.3 ∙ ap (columns_wanted body inner (shapes_held inside)) (same_in_struct [] taken));
        room = tt;
      }

  pub planned_kept : (layout : Declared) (inner : LaidColumns) (inside : List Contents) → Premises layout inner inside → Kept layout inner inside
  planned_kept Null inner inside p = record {
    nulls_counted = p.0.nulls_are ∙ sym (null_count spots);
    validity_kept = p.0.validity_is;
    offsets_kept = p.0.offsets_is;
    values_kept = p.0.values_is;
    fit = p.1;
    held_inside = p.2;
    room = tt;
  }
  planned_kept Bits inner inside p =
      bits_kept (buffer_at body ranges 0) (buffer_at body ranges 1) spots taken plan.nulls plan.validity.items plan.offsets.items plan.values.items inside
      p.1 refl p.0.nulls_are p.0.validity_is p.0.offsets_is p.0.values_is p.2
  planned_kept (Bytes size) inner inside p =
      blocks_kept size (buffer_at body ranges 0) (buffer_at body ranges 1) spots taken plan.nulls plan.validity.items plan.offsets.items plan.values.items inside
      p.1 refl p.0.nulls_are p.0.validity_is p.0.offsets_is p.0.values_is p.2
  planned_kept Binary inner inside p =
      spread_kept (binary_layout 4) (inl refl) (buffer_at body ranges 0) (buffer_at body ranges 1) (buffer_at body ranges 2) spots taken plan.nulls
      plan.validity.items plan.offsets.items plan.values.items inside p.1 refl p.4 p.0.nulls_are p.0.validity_is p.0.offsets_is p.0.values_is p.2
  planned_kept Utf8 inner inside p =
      spread_kept (utf8_layout 4) (inr refl) (buffer_at body ranges 0) (buffer_at body ranges 1) (buffer_at body ranges 2) spots taken plan.nulls
      plan.validity.items plan.offsets.items plan.values.items inside p.1 refl p.4 p.0.nulls_are p.0.validity_is p.0.offsets_is p.0.values_is p.2
  planned_kept Lists inner inside p = lists_kept inner inside p
  planned_kept (FixedSizeList size) inner inside p = sized_kept size inner inside p
  planned_kept Struct inner inside p = structs_kept inner inside p
