-- Columns that are built keep what a column keeps, and why there are none.
use Rattle.std.proofs.Common.{◌≡◌, ℕ, suc, ◌+◌, ◌<◌, ◌≤◌, ◌==◌, Bool, true, false, not, if◌then◌else◌, pos, ◌≤ℤ◌, Some, None, List, [], ◌∷◌, ◌++◌, map, length, drop, slice_index_or, replicate, refl, sym, ap, ap₂, ◌∙◌, subst, arith, append_assoc}
use Rattle.std.proofs.Common.{Option, ◌&&◌, eq-eqb, inl, inr}
use Rattle.std.proofs.lemmas.Bool.{and_parts, eqb-true, false≢true, cases_lt}
use Rattle.std.proofs.lemmas.Int.{ints}
use Rattle.std.proofs.lemmas.List.{append-nil, drop_all}
use Rattle.std.proofs.lemmas.List.Sums.{sum_by-cons}
use Rattle.std.specs.List.{AllByRecursion, flat_map, list_all}
use Rattle.std.specs.Borrow.{Bor}
use Rattle.bitmaps.specs.Bits.{zeros}
use Rattle.bitmaps.specs.Packing.{packed_bytes}
use Rattle.header_types.specs.declared.schema.Field.{Field}
use Rattle.batch_types.specs.Cells.{Cell, null_cell, bit_cell, bytes_cell, list_cell, tuple_cell, no_cell}
use Rattle.batch_types.specs.Layouts.{Layout, null_layout}
use Rattle.batch_types.specs.Layouts.{list_layout, fixed_size_list_layout, struct_layout}
use Rattle.batch_types.specs.Laid.{Node}
use Rattle.batch_types.specs.LaysOut.{values_limit}
use Rattle.batch_types.specs.Shapes.{Shape, shape, Shapes, no_shape, shape_then}
use Rattle.batch_types.specs.Canonical.{is_null, nulls_of, blank_of, first_blank, blanks_of, elements_or, elements_lengths, offsets_of}
use Rattle.batch_types.specs.Canonical.{field_or, parts_of, elements_parts, fields_parts}
use Rattle.batch_types.specs.Typed.{IsCellOf, IsNull, AreBytes}
use Rattle.batch_types.specs.Written.{HasRoom, AreRooms, AreElementRooms, AreFieldRooms}
use Rattle.batch_columns.specs.Contents.{Contents, layout_of_shape}
use Rattle.batch_columns.specs.FieldShapes.{field_shapes}
use Rattle.batch_columns.specs.Held.{shapes_held}
use Rattle.batch_columns.specs.Kept.{HasElements, HaveFields, IsKept}
use Rattle.batch_columns.specs.Made.{validity_bytes, bytes_or_null, has_size}
use Rattle.batch_cells.specs.CellViews.{cell_of}
use Rattle.column_building.specs.declared.fault.CellsFault.{CellsFault}
use Rattle.column_building.specs.declared.fault.CellsFault.TheVariants.{WrongChildren, NotOfField, TooMany, TooLong, OutOfMemory}
use Rattle.column_building.specs.Slots.{Slot, slot_cell, slot_cells, slot_there, elements_counted}
use Rattle.column_building.specs.Whole.{field_shape, count_shapes, allows, is_whole, are_whole}
use Rattle.column_building.specs.Built.{AreFewNodes, AreFewValues, IsBuilt, IsBuiltFirst, AreBuiltFields, DoFieldsFit, CanSurround}
use Rattle.column_building.specs.Built.{IsCauseOf, IsCause, IsCauseFirst}
use Rattle.column_building.proofs.Shaped.{fields_next}
use Rattle.column_building.proofs.Gathered.{blank_list, slots_long, elements_long, lists_sum}

-- ---- validity

not_not : (b : Bool) → not (not b) ≡ b
not_not true = refl
not_not false = refl

module _ (blank : Cell) (valued : is_null blank ≡ false) where
  null_one : (slot : Slot) → is_null (slot_cell blank slot) ≡ not (slot_there slot)
  null_one None = valued
  null_one (Some cell) = sym (not_not (is_null (cell_of cell.now)))

  nulls_marked : (slots : List Slot) → nulls_of (slot_cells blank slots) ≡ zeros (map slot_there slots)
  nulls_marked [] = refl
  nulls_marked (slot ∷ slots) =
      sum_by-cons (λ x. if is_null x then 1 else 0) (slot_cell blank slot) (slot_cells blank slots)
      ∙ ap₂ (λ test n. (if test then 1 else 0) + n) (null_one slot) (nulls_marked slots)
      ∙ sym (sum_by-cons (λ bit. if not bit then 1 else 0) (slot_there slot) (map slot_there slots))

  marked : (slots : List Slot) → map (λ cell. not (is_null cell)) (slot_cells blank slots) ≡ map slot_there slots
  marked [] = refl
  marked (slot ∷ slots) = ap₂ (λ b bs. b ∷ bs) (ap not (null_one slot) ∙ not_not (slot_there slot)) (marked slots)

  pub slots_kept : (layout : Layout) (slots : List Slot) (nulls : ℕ) (validity offsets values : List ℕ) (inside : List Contents)
      → CanSurround layout (slot_cells blank slots) offsets inside
      → nulls ≡ zeros (map slot_there slots) → validity ≡ validity_bytes (map slot_there slots) → values ≡ []
      → IsKept layout (slot_cells blank slots) nulls validity offsets values inside
  slots_kept layout slots nulls validity offsets values inside can n v t = record {
    nulls_counted = n ∙ sym (nulls_marked slots);
    validity_kept =
        v ∙ sym (ap₂ (λ k bits. if k == 0 then [] else packed_bytes bits) (nulls_marked slots) (marked slots)) ∙ sym can.validity_kept;
    offsets_kept = can.offsets_kept;
    values_kept = t ∙ sym can.values_kept;
    fit = can.fit;
    held_inside = can.held_inside;
    room = can.room;
  }

-- ---- nodes

all_append : (xs ys : List Node) → AreFewNodes xs → AreFewNodes ys → AreFewNodes (xs ++ ys)
all_append [] ys first last = last
all_append (x ∷ xs) ys first last = (first.0, all_append xs ys first.1 last)

all_first : (xs ys : List Node) → AreFewNodes (xs ++ ys) → AreFewNodes xs
all_first [] ys all = tt
all_first (x ∷ xs) ys all = (all.0, all_first xs ys all.1)

all_then : (xs ys : List Node) → AreFewNodes (xs ++ ys) → AreFewNodes ys
all_then [] ys all = all
all_then (x ∷ xs) ys all = all_then xs ys all.1

pub few_slots : (blank : Cell) (slots : List Slot) → length slots ≤ values_limit → pos (length (slot_cells blank slots)) ≤ℤ pos values_limit
few_slots blank slots few = omega (arith, ints, few, slots_long blank slots)

-- the column's own node is one of them
own_few : (s : Shape) (cells : List Cell) → AreFewValues s cells → pos (length cells) ≤ℤ pos values_limit
own_few (shape layout inside) cells few = few.0

pub many_values : (s : Shape) (cells : List Cell) → values_limit < length cells → AreFewValues s cells → ⊥
many_values s cells many few =
    let own : pos (length cells) ≤ℤ pos values_limit = own_few s cells few in omega (arith, ints, own, many)

-- ---- causes

pub memory_cause : (nodes : List Node) (Room : Type 0) (fault : CellsFault) → fault ≡ OutOfMemory → IsCauseOf nodes Room fault
memory_cause nodes Room fault is = subst (IsCauseOf nodes Room) (sym is) tt

cause_up : (nodes part : List Node) (Room Part : Type 0) (fault : CellsFault) → (AreFewNodes nodes → AreFewNodes part) → (Room → Part)
    → IsCauseOf part Part fault → IsCauseOf nodes Room fault
cause_up nodes part Room Part WrongChildren few room cause = cause
cause_up nodes part Room Part NotOfField few room cause = cause
cause_up nodes part Room Part TooMany few room cause = λ all. cause (few all)
cause_up nodes part Room Part TooLong few room cause = λ all. cause (room all)
cause_up nodes part Room Part OutOfMemory few room cause = tt

-- ---- the only column inside a list

module _ (size : ℕ) (cells : List Cell) where
  first_held : (inside : Shapes) (elements : List Cell) (columns : List Contents) → IsBuiltFirst inside elements columns
      → elements ≡ flat_map (elements_or (replicate size (first_blank inside))) cells
      → (shapes_held columns ≡ inside) × HasElements size cells columns
  first_held no_shape elements columns built is = absurd built
  first_held (shape_then s rest) elements [] built is = absurd built
  first_held (shape_then s rest) elements (child ∷ columns) built is = (
    ap₂ shape_then built.0.shape (ap shapes_held built.2 ∙ sym built.1),
    (built.0.cells ∙ is ∙ ap (λ b. flat_map (elements_or (replicate size (blank_of b))) cells) (sym built.0.shape), built.2),
  )

  first_few : (inside : Shapes) (elements : List Cell) (columns : List Contents) → IsBuiltFirst inside elements columns
      → elements ≡ flat_map (elements_or (replicate size (first_blank inside))) cells
      → AreFewNodes (elements_parts inside cells size).nodes × AreElementRooms inside cells size
  first_few no_shape elements columns built is = absurd built
  first_few (shape_then s rest) elements [] built is = absurd built
  first_few (shape_then s rest) elements (child ∷ columns) built is =
      (subst (AreFewValues s) is built.0.few, subst (AreRooms s) is built.0.room)

  first_cause : (inside : Shapes) (elements : List Cell) (fault : CellsFault) → IsCauseFirst inside elements fault
      → elements ≡ flat_map (elements_or (replicate size (first_blank inside))) cells
      → IsCauseOf (elements_parts inside cells size).nodes (AreElementRooms inside cells size) fault
  first_cause no_shape elements fault cause is = absurd cause
  first_cause (shape_then s rest) elements fault cause is = subst (λ l. IsCause s l fault) is cause

  first_many : (inside : Shapes) → count_shapes inside ≡ 1
      → values_limit < length (flat_map (elements_or (replicate size (first_blank inside))) cells)
      → AreFewNodes (elements_parts inside cells size).nodes → ⊥
  first_many no_shape one many few = absurd (omega arith)
  first_many (shape_then s rest) one many few =
      many_values s (flat_map (elements_or (replicate size (blank_of s))) cells) many few

-- ---- lists

module _ (inside : Shapes) (slots : List Slot) where
  abbrev lists : List Cell
  lists = slot_cells (list_cell no_cell) slots

  abbrev few_elements : ℕ → Type 0
  few_elements size = elements_counted size slots ≤ values_limit

  list_room : elements_counted 0 slots ≤ values_limit → HasRoom (list_layout 4) lists
  list_room few = omega (arith, few, lists_sum slots)

  module _ (few_rows : length slots ≤ values_limit) (few : elements_counted 0 slots ≤ values_limit) (elements : List Cell)
      (gathered : elements ≡ flat_map (elements_or []) lists) where
    pub list_surrounds : (columns : List Contents) (offsets : List ℕ) → IsBuiltFirst inside elements columns
        → AllByRecursion (IsCellOf (shape (list_layout 4) inside)) lists → offsets ≡ offsets_of 4 (elements_lengths lists)
        → CanSurround (list_layout 4) lists offsets columns
    list_surrounds columns offsets built fit o =
        let held = first_held 0 lists inside elements columns built gathered in
        record {
          validity_kept = refl;
          offsets_kept = o;
          values_kept = refl;
          fit = subst (λ l. AllByRecursion (IsCellOf (shape (list_layout 4) l)) lists) (sym held.0) fit;
          held_inside = held.1;
          room = list_room few;
        }

    pub list_built : (columns : List Contents) (column : Contents) → IsBuiltFirst inside elements columns
        → column.shape ≡ shape (list_layout 4) (shapes_held columns) → column.cells ≡ lists → IsBuilt (shape (list_layout 4) inside) lists column
    list_built columns column built shaped cells =
        let held = first_held 0 lists inside elements columns built gathered in
        let inner = first_few 0 lists inside elements columns built gathered in
        record {
          shape = shaped ∙ ap (shape (list_layout 4)) held.0;
          cells = cells;
          few = (few_slots (list_cell no_cell) slots few_rows, inner.0);
          room = (list_room few, inner.1);
        }

    pub list_cause : (fault : CellsFault) → IsCauseFirst inside elements fault → IsCause (shape (list_layout 4) inside) lists fault
    list_cause fault cause =
        cause_up (parts_of (shape (list_layout 4) inside) lists).nodes (elements_parts inside lists 0).nodes
        (AreRooms (shape (list_layout 4) inside) lists) (AreElementRooms inside lists 0) fault (λ all. all.1) (λ all. all.1)
        (first_cause 0 lists inside elements fault cause gathered)

  pub list_many : count_shapes inside ≡ 1 → values_limit < elements_counted 0 slots → AreFewValues (shape (list_layout 4) inside) lists → ⊥
  list_many one many all =
      first_many 0 lists inside one (omega (arith, many, elements_long 0 (first_blank inside) slots)) all.1

-- ---- lists of one size

module _ (size : ℕ) (inside : Shapes) (slots : List Slot) where
  abbrev blocks : List Cell
  blocks = slot_cells (blank_list size (first_blank inside)) slots

  module _ (few_rows : length slots ≤ values_limit) (elements : List Cell)
      (gathered : elements ≡ flat_map (elements_or (replicate size (first_blank inside))) blocks) where
    pub blocks_surround : (columns : List Contents) (offsets : List ℕ) → IsBuiltFirst inside elements columns
        → AllByRecursion (IsCellOf (shape (fixed_size_list_layout size) inside)) blocks → offsets ≡ []
        → CanSurround (fixed_size_list_layout size) blocks offsets columns
    blocks_surround columns offsets built fit none =
        let held = first_held size blocks inside elements columns built gathered in
        record {
          validity_kept = refl;
          offsets_kept = none;
          values_kept = refl;
          fit = subst (λ l. AllByRecursion (IsCellOf (shape (fixed_size_list_layout size) l)) blocks) (sym held.0) fit;
          held_inside = held.1;
          room = tt;
        }

    pub blocks_built : (columns : List Contents) (column : Contents) → IsBuiltFirst inside elements columns
        → column.shape ≡ shape (fixed_size_list_layout size) (shapes_held columns) → column.cells ≡ blocks
        → IsBuilt (shape (fixed_size_list_layout size) inside) blocks column
    blocks_built columns column built shaped cells =
        let held = first_held size blocks inside elements columns built gathered in
        let inner = first_few size blocks inside elements columns built gathered in
        record {
          shape = shaped ∙ ap (shape (fixed_size_list_layout size)) held.0;
          cells = cells;
          few = (few_slots (blank_list size (first_blank inside)) slots few_rows, inner.0);
          room = (tt, inner.1);
        }

    pub blocks_cause : (fault : CellsFault) → IsCauseFirst inside elements fault → IsCause (shape (fixed_size_list_layout size) inside) blocks fault
    blocks_cause fault cause =
        cause_up (parts_of (shape (fixed_size_list_layout size) inside) blocks).nodes (elements_parts inside blocks size).nodes
        (AreRooms (shape (fixed_size_list_layout size) inside) blocks) (AreElementRooms inside blocks size) fault (λ all. all.1) (λ all. all.1)
        (first_cause size blocks inside elements fault cause gathered)

  pub blocks_many : count_shapes inside ≡ 1 → values_limit < elements_counted size slots → AreFewValues (shape (fixed_size_list_layout size) inside) blocks → ⊥
  blocks_many one many all =
      first_many size blocks inside one (omega (arith, many, elements_long size (first_blank inside) slots)) all.1

-- ---- structs

fields_held : (inside : Shapes) (k : ℕ) (cells : List Cell) (columns : List Contents) → AreBuiltFields inside k cells columns
    → (shapes_held columns ≡ inside) × HaveFields k cells columns
fields_held no_shape k cells [] built = (refl, tt)
fields_held no_shape k cells (child ∷ columns) built = absurd built
fields_held (shape_then s rest) k cells [] built = absurd built
fields_held (shape_then s rest) k cells (child ∷ columns) built =
    let others = fields_held rest (suc k) cells columns built.1 in (
      ap₂ shape_then built.0.shape others.0,
      (built.0.cells ∙ ap (λ b. map (field_or (blank_of b) k) cells) (sym built.0.shape), others.1),
    )

fields_few : (inside : Shapes) (k : ℕ) (cells : List Cell) (columns : List Contents) → AreBuiltFields inside k cells columns
    → AreFewNodes (fields_parts inside k cells).nodes × AreFieldRooms inside k cells
fields_few no_shape k cells columns built = (tt, tt)
fields_few (shape_then s rest) k cells [] built = absurd built
fields_few (shape_then s rest) k cells (child ∷ columns) built =
    let others = fields_few rest (suc k) cells columns built.1 in (
      all_append (parts_of s (map (field_or (blank_of s) k) cells)).nodes (fields_parts rest (suc k) cells).nodes built.0.few others.0,
      (built.0.room, others.1),
    )

module _ (inside : Shapes) (slots : List Slot) where
  abbrev structs : List Cell
  structs = slot_cells (tuple_cell (blanks_of inside)) slots

  pub struct_surrounds : (columns : List Contents) (offsets : List ℕ) → AreBuiltFields inside 0 structs columns
      → AllByRecursion (IsCellOf (shape struct_layout inside)) structs → offsets ≡ [] → CanSurround struct_layout structs offsets columns
  struct_surrounds columns offsets built fit none =
      let held = fields_held inside 0 structs columns built in
      record {
        validity_kept = refl;
        offsets_kept = none;
        values_kept = refl;
        fit = subst (λ l. AllByRecursion (IsCellOf (shape struct_layout l)) structs) (sym held.0) fit;
        held_inside = held.1;
        room = tt;
      }

  pub struct_built : (columns : List Contents) (column : Contents) → length slots ≤ values_limit → AreBuiltFields inside 0 structs columns
      → column.shape ≡ shape struct_layout (shapes_held columns) → column.cells ≡ structs → IsBuilt (shape struct_layout inside) structs column
  struct_built columns column few_rows built shaped cells =
      let held = fields_held inside 0 structs columns built in
      let inner = fields_few inside 0 structs columns built in
      record {
        shape = shaped ∙ ap (shape struct_layout) held.0;
        cells = cells;
        few = (few_slots (tuple_cell (blanks_of inside)) slots few_rows, inner.0);
        room = (tt, inner.1);
      }

-- ---- one field after the other

module _ (fields : List Field) (i : ℕ) (x : Field) (there : i < length fields) (is : x ≡ slice_index_or fields i x) (cells : List Cell) where
  abbrev those : Shapes
  those = field_shapes (drop i fields)

  abbrev others : Shapes
  others = field_shapes (drop (i + 1) fields)

  abbrev here : List Cell
  here = map (field_or (blank_of (field_shape x)) i) cells

  next_number : suc i ≡ i + 1
  next_number = omega arith

  pub fit_open : DoFieldsFit those i cells → AllByRecursion (IsCellOf (field_shape x)) here × DoFieldsFit others (i + 1) cells
  fit_open fit =
      let both : DoFieldsFit (shape_then (field_shape x) others) i cells = subst (λ s. DoFieldsFit s i cells) (fields_next fields i x there is) fit in
      (both.0, subst (λ k. DoFieldsFit others k cells) next_number both.1)

  few_open : AreFewNodes (fields_parts those i cells).nodes → AreFewNodes (parts_of (field_shape x) here).nodes × AreFewNodes (fields_parts others (i + 1) cells).nodes
  few_open few =
      let both : AreFewNodes ((parts_of (field_shape x) here).nodes ++ (fields_parts others (suc i) cells).nodes) =
      subst (λ s. AreFewNodes (fields_parts s i cells).nodes) (fields_next fields i x there is) few in (
        all_first (parts_of (field_shape x) here).nodes (fields_parts others (suc i) cells).nodes both,
        subst (λ k. AreFewNodes (fields_parts others k cells).nodes) next_number
            (all_then (parts_of (field_shape x) here).nodes (fields_parts others (suc i) cells).nodes both),
      )

  room_open : AreFieldRooms those i cells → AreRooms (field_shape x) here × AreFieldRooms others (i + 1) cells
  room_open room =
      let both : AreFieldRooms (shape_then (field_shape x) others) i cells = subst (λ s. AreFieldRooms s i cells) (fields_next fields i x there is) room in
      (both.0, subst (λ k. AreFieldRooms others k cells) next_number both.1)

  pub few_next : (All : Type 0) → (All → AreFewNodes (fields_parts those i cells).nodes) → All → AreFewNodes (fields_parts others (i + 1) cells).nodes
  few_next All few all = (few_open (few all)).1

  pub room_next : (All : Type 0) → (All → AreFieldRooms those i cells) → All → AreFieldRooms others (i + 1) cells
  room_next All room all = (room_open (room all)).1

  pub built_next : (inside : Shapes) (columns more : List Contents) (column : Contents)
      → ((rest : List Contents) → AreBuiltFields those i cells rest → AreBuiltFields inside 0 cells (columns ++ rest))
      → IsBuilt (field_shape x) here column → more ≡ columns ++ column ∷ []
      → (rest : List Contents) → AreBuiltFields others (i + 1) cells rest → AreBuiltFields inside 0 cells (more ++ rest)
  built_next inside columns more column done built is_more rest behind =
      subst (AreBuiltFields inside 0 cells)
      (sym (append_assoc columns (column ∷ []) rest) ∙ ap (λ l. l ++ rest) (sym is_more))
      (done (column ∷ rest)
      (subst (λ s. AreBuiltFields s i cells (column ∷ rest)) (sym (fields_next fields i x there is))
      (built, subst (λ k. AreBuiltFields others k cells rest) (sym next_number) behind)))

  pub field_cause : (nodes : List Node) (Room : Type 0) (fault : CellsFault) → (AreFewNodes nodes → AreFewNodes (fields_parts those i cells).nodes)
      → (Room → AreFieldRooms those i cells) → IsCause (field_shape x) here fault → IsCauseOf nodes Room fault
  field_cause nodes Room fault few room cause =
      cause_up nodes (parts_of (field_shape x) here).nodes Room (AreRooms (field_shape x) here) fault (λ all. (few_open (few all)).0)
      (λ all. (room_open (room all)).0) cause

-- behind the last field all are built
pub fields_done : (fields : List Field) (i : ℕ) (inside : Shapes) (cells : List Cell) (columns : List Contents) → length fields ≤ i
    → ((rest : List Contents) → AreBuiltFields (field_shapes (drop i fields)) i cells rest → AreBuiltFields inside 0 cells (columns ++ rest))
    → AreBuiltFields inside 0 cells columns
fields_done fields i inside cells columns end done =
    subst (AreBuiltFields inside 0 cells) (append-nil columns)
    (done [] (subst (λ l. AreBuiltFields (field_shapes l) i cells []) (sym (drop_all i fields end)) tt))

-- ---- columns without columns inside

pub plain_few : (blank : Cell) (slots : List Slot) → length slots ≤ values_limit
    → (pos (length (slot_cells blank slots)) ≤ℤ pos values_limit) × Unit {0}
plain_few blank slots few = (few_slots blank slots few, tt)

-- so many bytes in each
pub sizes_fit : (size : ℕ) (cells : List (Option (Bor (List ℕ)))) → AllByRecursion (AreBytes (λ bytes. length bytes ≡ size)) (map bytes_or_null cells)
    → list_all (has_size size) cells ≡ true
sizes_fit size [] all = refl
sizes_fit size (None ∷ cells) all = sizes_fit size cells all.1
sizes_fit size (Some bytes ∷ cells) all = ap₂ ◌&&◌ (eq-eqb (length bytes.now) size all.0) (sizes_fit size cells all.1)

null_is : (cell : Cell) → IsNull cell → null_cell ≡ cell
null_is null_cell null = refl
null_is (bit_cell bit) null = absurd null
null_is (bytes_cell bytes) null = absurd null
null_is (list_cell cells) null = absurd null
null_is (tuple_cell cells) null = absurd null

all_null : (slots : List Slot) → AllByRecursion IsNull (slot_cells null_cell slots) → replicate (length slots) null_cell ≡ slot_cells null_cell slots
all_null [] all = refl
all_null (slot ∷ slots) all = ap₂ (λ c cs. c ∷ cs) (null_is (slot_cell null_cell slot) all.0) (all_null slots all.1)

pub nulls_built : (slots : List Slot) (column : Contents) → length slots ≤ values_limit → AllByRecursion IsNull (slot_cells null_cell slots)
    → column.shape ≡ shape null_layout no_shape → column.cells ≡ replicate (length slots) null_cell
    → IsBuilt (shape null_layout no_shape) (slot_cells null_cell slots) column
nulls_built slots column few fit shaped cells =
    record { shape = shaped; cells = cells ∙ all_null slots fit; few = plain_few null_cell slots few; room = (tt, tt) }

-- ---- shapes

none_inside : (inside : Shapes) → count_shapes inside ≡ 0 → no_shape ≡ inside
none_inside no_shape none = refl
none_inside (shape_then s rest) none = absurd (omega arith)

no_rest : (s : Shape) (rest : Shapes) → count_shapes (shape_then s rest) ≡ 1 → rest ≡ no_shape
no_rest s no_shape one = refl
no_rest s (shape_then other rest) one = absurd (omega arith)

-- nothing stands inside a field of a layout that allows nothing inside
pub flat_shape : (s : Shape) (layout : Layout) → layout ≡ layout_of_shape s → ((n : ℕ) → allows layout n ≡ true → n ≡ 0) → is_whole s ≡ true
    → shape layout no_shape ≡ s
flat_shape (shape other inside) layout named none whole =
    let allowed : allows layout (count_shapes inside) ≡ true =
    ap (λ l. allows l (count_shapes inside)) named ∙ (and_parts (allows other (count_shapes inside)) (are_whole inside) whole).0 in
    ap₂ shape named (none_inside inside (none (count_shapes inside) allowed))

pub one_whole : (inside : Shapes) → (count_shapes inside == 1) && are_whole inside ≡ true → (count_shapes inside ≡ 1) × (are_whole inside ≡ true)
one_whole inside whole =
    let parts = and_parts (count_shapes inside == 1) (are_whole inside) whole in (eqb-true (count_shapes inside) 1 parts.0, parts.1)

-- the first of the fields
pub first_open : (fields : List Field) (x : Field) → 0 < length fields → x ≡ slice_index_or fields 0 x
    → field_shapes fields ≡ shape_then (field_shape x) (field_shapes (drop 1 fields))
first_open [] x there is = absurd (omega arith)
first_open (field ∷ fields) x there is = ap (λ f. shape_then (field_shape f) (field_shapes fields)) (sym is)

pub first_built : (inside : Shapes) (s : Shape) (rest : Shapes) (slots : List Slot) (column : Contents) (columns : List Contents) → inside ≡ shape_then s rest
    → count_shapes inside ≡ 1 → IsBuilt s (slot_cells (blank_of s) slots) column → columns ≡ column ∷ []
    → IsBuiltFirst inside (slot_cells (first_blank inside) slots) columns
first_built inside s rest slots column columns is one built only =
    subst (λ l. IsBuiltFirst inside (slot_cells (first_blank inside) slots) l) (sym only)
    (subst (λ x. IsBuiltFirst x (slot_cells (first_blank x) slots) (column ∷ [])) (sym is)
    (built, no_rest s rest (ap count_shapes (sym is) ∙ one), refl))

-- ---- tests

pub not_more : (test : Bool) (m n : ℕ) → (m < n → test ≡ true) → test ≡ false → n ≤ m
not_more test m n more is = elim (cases_lt m n) [ inl less ↦ absurd (false≢true (sym is ∙ more less)) | inr le ↦ le ]
