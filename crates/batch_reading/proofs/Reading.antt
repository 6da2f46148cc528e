-- One field after the other: what its column keeps, what is selected inside it, and what is built of it.
use Rattle.std.proofs.Common.{◌≡◌, refl, sym, ap, subst, ℕ, zero, suc, ◌*◌, ◌^◌, ◌<◌, ◌≤◌, Bool, nat_abs, List, [], ◌∷◌, map, length, get_or, arith}
use Rattle.std.specs.List.{AllByRecursion, zip, sum_by}
use Rattle.header_types.specs.Fields.{tree, Forest, no_more, more, width}
use Rattle.header_types.specs.Profile.{IsWellFormedForest}
use Rattle.batch_types.specs.Layouts.{Layout, null_layout, bits_layout, bytes_layout, binary_layout, utf8_layout}
use Rattle.batch_types.specs.Layouts.{list_layout, fixed_size_list_layout}
use Rattle.batch_types.specs.Laid.{Node, Range, laid, LaidColumns}
use Rattle.batch_types.specs.LaysOut.{KeepsRule, AreSound, values_limit}
use Rattle.batch_types.specs.Order.{AreKept, column_order}
use Rattle.batch_types.specs.Placed.{buffer_at, length_of}
use Rattle.batch_types.specs.Rules.{asked_inside, places_inside, first_length}
use Rattle.batch_types.specs.Shapes.{Shape, shape, Shapes, no_shape, shape_then, shape_of, shapes_of}
use Rattle.batch_types.specs.Typed.{IsCellOf}
use Rattle.batch_columns.specs.Contents.{Contents}
use Rattle.batch_columns.specs.Held.{shapes_held, layout_named}
use Rattle.batch_columns.specs.Read.{offsets_at, values_at}
use Rattle.batch_columns.specs.declared.layout.Layout.{Layout as Declared}
use Rattle.batch_columns.specs.declared.layout.Layout.TheVariants.{Null, Bits, Bytes, Binary, Utf8, List as Lists, FixedSizeList, Struct}
use Rattle.batch_columns.specs.Sources.{columns_from}
use Rattle.batch_reading.specs.declared.selection.Selection.{Selection}
use Rattle.batch_reading.specs.Spots.{places_of, marks_of, Spot, spots_of, IsSelection}
use Rattle.batch_reading.specs.Spread.{HasSpans, ReadsWithin}
use Rattle.batch_reading.specs.Taken.{seen, span_taken}
use Rattle.batch_reading.specs.Planned.{elements_taken, spots_inside}
use Rattle.batch_reading.specs.Built.{cells_wanted, AreFit}
use Rattle.batch_reading.proofs.Running.{places_rise}
use Rattle.batch_reading.proofs.Sizing.{run_within}
use Rattle.batch_reading.proofs.Spanning.{lists_room, spans_short, elements_short}
use Rattle.batch_reading.proofs.Bounding.{AreBelow, wanted_are_below, seen_below, flat_below, sized_below, lists_below, bytes_part, spans_of_rules}
use Rattle.batch_reading.proofs.Fitting.{MayHave, lists_fit, sized_fit, structs_fit}
use Rattle.batch_reading.proofs.Planning.{same_in_struct}
use Rattle.batch_reading.proofs.Finishing.{MayHold, HasRoomTaken}

buffer_bytes : (body : List ℕ) → ((k : ℕ) → get_or body k 0 < 256) → (ranges : List Range) (n k : ℕ) → get_or (buffer_at body ranges n) k 0 < 256
buffer_bytes body all [] n k = omega arith
buffer_bytes body all (range ∷ ranges) zero k = bytes_part body (nat_abs range.0) (nat_abs range.1) k all
buffer_bytes body all (range ∷ ranges) (suc n) k = buffer_bytes body all ranges n k

-- ---- one field

-- what is known of the column of a field of this layout, with these fields inside it
pub record FieldFacts (layout : Declared) (body : List ℕ) (node : Node) (ranges : List Range) (inside : Forest) (nodes : List Node) (others : List Range)
    (asked : ℕ) (places : List ℕ) (selection : Selection) : Type 0 where
  pub kept : AreKept (KeepsRule body (layout_named layout) node ranges (columns_from inside nodes others) asked places) column_order
  pub sound : AreSound body (columns_from inside nodes others) (asked_inside (layout_named layout) (nat_abs node.0)) (places_inside body (layout_named layout) ranges places)
  pub may : MayHave (layout_named layout) (width inside)
  pub fit : AllByRecursion (IsCellOf (shape (layout_named layout) (shapes_of inside)))
      (cells_wanted body (laid (layout_named layout) node ranges (columns_from inside nodes others)) (shape (layout_named layout) (shapes_of inside)) (spots_of selection))
  pub formed : IsWellFormedForest inside
  pub wanted_is : IsSelection asked selection
  pub node_few : nat_abs node.0 ≤ values_limit
  pub first_few : first_length (columns_from inside nodes others) ≤ values_limit
  pub bytes : (k : ℕ) → get_or body k 0 < 256

-- the first of the columns inside has as many values as are asked of it
first_asked : (body : List ℕ) (inside : Forest) (nodes : List Node) (others : List Range) (asked : ℕ) (places : List ℕ) → width inside ≡ 1
    → AreSound body (columns_from inside nodes others) asked places → asked ≤ first_length (columns_from inside nodes others)
first_asked body no_more nodes others asked places one sound = absurd (omega (arith, one))
first_asked body (more (tree field entries inner) rest) nodes others asked places one sound = sound.0.0.1.1.1.0

-- how far what is selected inside reaches
abbrev pub inside_limit : Declared → ℕ → ℕ → ℕ
inside_limit Null count total = 0
inside_limit Bits count total = 0
inside_limit (Bytes size) count total = 0
inside_limit Binary count total = 0
inside_limit Utf8 count total = 0
inside_limit Lists count total = total
inside_limit (FixedSizeList size) count total = size * count
inside_limit Struct count total = count

module _ (body : List ℕ) (node : Node) (ranges : List Range) (inside : Forest) (nodes : List Node) (others : List Range)
    (asked : ℕ) (places : List ℕ) (selection : Selection) where
  abbrev inner : LaidColumns
  inner = columns_from inside nodes others

  abbrev Facts : Declared → Type 0
  Facts layout = FieldFacts layout body node ranges inside nodes others asked places selection

  abbrev Reads : Declared → Type 0
  Reads layout = ReadsWithin (layout_named layout) asked (first_length inner) (offsets_at body (layout_named layout) ranges) (values_at body (layout_named layout) ranges)

  pub reads : (layout : Declared) → Facts layout → Reads layout
  reads Null f = tt
  reads Bits f = tt
  reads (Bytes size) f = run_within size asked (nat_abs node.0) (length (buffer_at body ranges 1)) f.kept.1.1.1.0 f.kept.0.long_enough.1
  reads Binary f =
      spans_of_rules (buffer_at body ranges 1) asked (nat_abs node.0) (length (buffer_at body ranges 2)) f.kept.1.1.1.0
      (buffer_bytes body f.bytes ranges 1) f.kept.1.1.0 f.kept.0.long_enough.1
  reads Utf8 f =
      spans_of_rules (buffer_at body ranges 1) asked (nat_abs node.0) (length (buffer_at body ranges 2)) f.kept.1.1.1.0
      (buffer_bytes body f.bytes ranges 1) f.kept.1.1.0 f.kept.0.long_enough.1
  reads Lists f = (
    spans_of_rules (buffer_at body ranges 1) asked (nat_abs node.0) (first_length inner) f.kept.1.1.1.0 (buffer_bytes body f.bytes ranges 1)
        f.kept.1.1.0 f.kept.0.long_enough.1,
    f.first_few,
  )
  reads (FixedSizeList size) f =
      run_within size asked (nat_abs node.0) values_limit f.kept.1.1.1.0
      (omega (arith, f.first_few, first_asked body inside nodes others (size * nat_abs node.0) (places_inside body (fixed_size_list_layout size) ranges places) f.may f.sound))
  reads Struct f = tt

  abbrev taken : List Spot
  taken = map (seen (buffer_at body ranges 0)) (spots_of selection)

  taken_below : (layout : Declared) → Facts layout → AreBelow asked taken
  taken_below layout f = seen_below asked (buffer_at body ranges 0) (spots_of selection) (wanted_are_below asked selection f.wanted_is)

  pub inside_below : (layout : Declared) → Facts layout
      → AreBelow (inside_limit layout (nat_abs node.0) (first_length inner)) (spots_inside (layout_named layout) (offsets_at body (layout_named layout) ranges) taken)
  inside_below Null f = flat_below (λ spot. []) asked 0 (λ spot below. tt) taken (taken_below Null f)
  inside_below Bits f = flat_below (λ spot. []) asked 0 (λ spot below. tt) taken (taken_below Bits f)
  inside_below (Bytes size) f = flat_below (λ spot. []) asked 0 (λ spot below. tt) taken (taken_below (Bytes size) f)
  inside_below Binary f = flat_below (λ spot. []) asked 0 (λ spot below. tt) taken (taken_below Binary f)
  inside_below Utf8 f = flat_below (λ spot. []) asked 0 (λ spot below. tt) taken (taken_below Utf8 f)
  inside_below Lists f = lists_below asked (first_length inner) (buffer_at body ranges 1) taken (reads Lists f).0 (taken_below Lists f)
  inside_below (FixedSizeList size) f =
      sized_below size (nat_abs node.0) [] taken (further asked (nat_abs node.0) f.kept.1.1.1.0 taken (taken_below (FixedSizeList size) f))
    where
      further : (low high : ℕ) → low ≤ high → (spots : List Spot) → AreBelow low spots → AreBelow high spots
      further low high up [] all = tt
      further low high up (spot ∷ spots) all = (omega (arith, up, all.0), further low high up spots all.1)
  inside_below Struct f =
      subst (AreBelow (nat_abs node.0)) (sym (same_in_struct [] taken))
      (further asked (nat_abs node.0) f.kept.1.1.1.0 taken (taken_below Struct f))
    where
      further : (low high : ℕ) → low ≤ high → (spots : List Spot) → AreBelow low spots → AreBelow high spots
      further low high up [] all = tt
      further low high up (spot ∷ spots) all = (omega (arith, up, all.0), further low high up spots all.1)

  pub limit_few : (layout : Declared) → Facts layout → inside_limit layout (nat_abs node.0) (first_length inner) ≤ values_limit
  limit_few Null f = omega arith
  limit_few Bits f = omega arith
  limit_few (Bytes size) f = omega arith
  limit_few Binary f = omega arith
  limit_few Utf8 f = omega arith
  limit_few Lists f = f.first_few
  limit_few (FixedSizeList size) f =
      omega (arith, f.first_few, first_asked body inside nodes others (size * nat_abs node.0) (places_inside body (fixed_size_list_layout size) ranges places) f.may f.sound)
  limit_few Struct f = f.node_few

-- ---- the columns inside keep their rules as far as something is selected of them

resound : (body : List ℕ) (inside : Forest) (nodes : List Node) (others : List Range) (asked : ℕ) (places : List ℕ) → width inside ≡ 1
    → AreSound body (columns_from inside nodes others) asked places → AreSound body (columns_from inside nodes others) (first_length (columns_from inside nodes others)) places
resound body no_more nodes others asked places one sound = tt
resound body (more (tree field entries inner) no_more) nodes others asked places one sound =
    let kept = sound.0.0 in
    (((kept.0, (kept.1.0, (kept.1.1.0, (omega arith, kept.1.1.1.1)))), sound.0.1), tt)
resound body (more (tree field entries inner) (more t rest)) nodes others asked places one sound = absurd (omega (arith, one))

no_fields : (inside : Forest) → width inside ≡ 0 → inside ≡ no_more
no_fields no_more none = refl
no_fields (more t rest) none = absurd (omega (arith, none))

module _ (body : List ℕ) (node : Node) (ranges : List Range) (nodes : List Node) (others : List Range)
    (asked : ℕ) (places : List ℕ) (selection : Selection) where
  abbrev AllFacts : Declared → Forest → Type 0
  AllFacts layout inside = FieldFacts layout body node ranges inside nodes others asked places selection

  pub sound_inside : (layout : Declared) (inside : Forest) → AllFacts layout inside
      → AreSound body (columns_from inside nodes others) (inside_limit layout (nat_abs node.0) (first_length (columns_from inside nodes others)))
      (places_inside body (layout_named layout) ranges places)
  sound_inside Null inside f = f.sound
  sound_inside Bits inside f = f.sound
  sound_inside (Bytes size) inside f = f.sound
  sound_inside Binary inside f = f.sound
  sound_inside Utf8 inside f = f.sound
  sound_inside Lists inside f = resound body inside nodes others 0 (places_inside body (list_layout 4) ranges places) f.may f.sound
  sound_inside (FixedSizeList size) inside f = f.sound
  sound_inside Struct inside f = f.sound

  none_fit : (layout : Layout) (offsets : List ℕ) (inside : Forest) → width inside ≡ 0
      → AreFit body (columns_from inside nodes others) (shapes_of inside) (spots_inside layout offsets (map (seen (buffer_at body ranges 0)) (spots_of selection)))
  none_fit layout offsets no_more none = tt
  none_fit layout offsets (more t rest) none = absurd (omega (arith, none))

  pub fit_inside : (layout : Declared) (inside : Forest) → AllFacts layout inside
      → AreFit body (columns_from inside nodes others) (shapes_of inside)
      (spots_inside (layout_named layout) (offsets_at body (layout_named layout) ranges) (map (seen (buffer_at body ranges 0)) (spots_of selection)))
  fit_inside Null inside f = none_fit null_layout [] inside f.may
  fit_inside Bits inside f = none_fit bits_layout [] inside f.may
  fit_inside (Bytes size) inside f = none_fit (bytes_layout size) [] inside f.may
  fit_inside Binary inside f = none_fit (binary_layout 4) (buffer_at body ranges 1) inside f.may
  fit_inside Utf8 inside f = none_fit (utf8_layout 4) (buffer_at body ranges 1) inside f.may
  fit_inside Lists no_more f = absurd (omega (arith, f.may))
  fit_inside Lists (more t no_more) f = (lists_fit body node ranges t nodes others (spots_of selection) f.fit, tt)
  fit_inside Lists (more t (more u rest)) f = absurd (omega (arith, f.may))
  fit_inside (FixedSizeList size) no_more f = absurd (omega (arith, f.may))
  fit_inside (FixedSizeList size) (more t no_more) f = (sized_fit body node ranges t nodes others size f.formed.0 (spots_of selection) f.fit, tt)
  fit_inside (FixedSizeList size) (more t (more u rest)) f = absurd (omega (arith, f.may))
  fit_inside Struct inside f = structs_fit body node ranges inside nodes others f.formed (spots_of selection) f.fit

  -- which columns stand inside
  no_columns : (columns : List Contents) → shapes_held columns ≡ no_shape → columns ≡ []
  no_columns [] same = refl
  no_columns (column ∷ columns) same = absurd (some_shape column.shape (shapes_held columns) same)
    where
      some_shape : (s : Shape) (rest : Shapes) → shape_then s rest ≡ no_shape → ⊥
      some_shape s rest same = cc

  none_held : (inside : Forest) (columns : List Contents) → width inside ≡ 0 → shapes_held columns ≡ shapes_of inside → columns ≡ []
  none_held no_more columns none same = no_columns columns same
  none_held (more t rest) columns none same = absurd (omega (arith, none))

  one_held : (inside : Forest) (columns : List Contents) → width inside ≡ 1 → shapes_held columns ≡ shapes_of inside
      → (s : Shape) × (shapes_held columns ≡ shape_then s no_shape)
  one_held no_more columns one same = absurd (omega (arith, one))
  one_held (more t no_more) columns one same = (shape_of t, same)
  one_held (more t (more u rest)) columns one same = absurd (omega (arith, one))

  pub may_hold : (layout : Declared) (inside : Forest) (columns : List Contents) → MayHave (layout_named layout) (width inside) → shapes_held columns ≡ shapes_of inside
      → MayHold layout columns
  may_hold Null inside columns may same = none_held inside columns may same
  may_hold Bits inside columns may same = none_held inside columns may same
  may_hold (Bytes size) inside columns may same = none_held inside columns may same
  may_hold Binary inside columns may same = none_held inside columns may same
  may_hold Utf8 inside columns may same = none_held inside columns may same
  may_hold Lists inside columns may same = one_held inside columns may same
  may_hold (FixedSizeList size) inside columns may same = one_held inside columns may same
  may_hold Struct inside columns may same = tt

  seen_zip : (validity : List ℕ) (ps : List ℕ) (ms : List Bool) → map (seen validity) (zip ps ms) ≡ zip ps (map (λ spot. spot.1) (map (seen validity) (zip ps ms)))
  seen_zip validity [] ms = refl
  seen_zip validity (p ∷ ps) [] = refl
  seen_zip validity (p ∷ ps) (m ∷ ms) = ap (λ l. seen validity (p, m) ∷ l) (seen_zip validity ps ms)

  room_of : {X : Type 0} (f : Spot → List X) → ((p : ℕ) (mark : Bool) → length (f (p, mark)) ≤ length_of 4 (buffer_at body ranges 1) p) → (total : ℕ)
      → IsSelection asked selection → HasSpans (buffer_at body ranges 1) asked total
      → sum_by (λ n. n) (map (λ spot. length (f spot)) (map (seen (buffer_at body ranges 0)) (spots_of selection))) < 2 ^ 31
  room_of f short total is has =
      let ps : List ℕ = places_of selection.runs.now in
      let ms : List Bool = marks_of selection.count selection.there.now in
      subst (λ spots. sum_by (λ n. n) (map (λ spot. length (f spot)) spots) < 2 ^ 31) (sym (seen_zip (buffer_at body ranges 0) (places_of selection.runs.now) (marks_of selection.count selection.there.now)))
      (lists_room (buffer_at body ranges 1) asked total f short ps (map (λ spot. spot.1) (map (seen (buffer_at body ranges 0)) (spots_of selection)))
      (places_rise 0 asked selection.runs.now is.rising) has)

  pub room_taken : (layout : Declared) (inside : Forest) → AllFacts layout inside
      → HasRoomTaken layout (offsets_at body (layout_named layout) ranges) (values_at body (layout_named layout) ranges) (map (seen (buffer_at body ranges 0)) (spots_of selection))
  room_taken Null inside f = tt
  room_taken Bits inside f = tt
  room_taken (Bytes size) inside f = tt
  room_taken Binary inside f =
      room_of (span_taken (buffer_at body ranges 1) (buffer_at body ranges 2)) (spans_short (buffer_at body ranges 1) (buffer_at body ranges 2))
      (length (buffer_at body ranges 2)) f.wanted_is (reads body node ranges inside nodes others asked places selection Binary f)
  room_taken Utf8 inside f =
      room_of (span_taken (buffer_at body ranges 1) (buffer_at body ranges 2)) (spans_short (buffer_at body ranges 1) (buffer_at body ranges 2))
      (length (buffer_at body ranges 2)) f.wanted_is (reads body node ranges inside nodes others asked places selection Utf8 f)
  room_taken Lists inside f =
      room_of (elements_taken (buffer_at body ranges 1)) (elements_short (buffer_at body ranges 1)) (first_length (columns_from inside nodes others)) f.wanted_is
      (reads body node ranges inside nodes others asked places selection Lists f).0
  room_taken (FixedSizeList size) inside f = tt
  room_taken Struct inside f = tt
