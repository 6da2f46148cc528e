-- What is laid out is of the types of its fields.
use native.Mathlib.Nat.{mul-suc}
use Rattle.std.proofs.lemmas.Int.{ints}
use Rattle.header_types.specs.TypeIds.{AllowsChildren}
use Rattle.header_types.specs.Fields.{DataType, null_type, int_type, floating_point_type, binary_type, utf8_type}
use Rattle.header_types.specs.Fields.{bool_type, decimal_type, date_type, time_type, timestamp_type, list_type}
use Rattle.header_types.specs.Fields.{struct_type, fixed_size_binary_type, fixed_size_list_type, duration_type}
use Rattle.std.proofs.Common.{◌≡◌, inl, inr, refl, sym, ap, ◌∙◌, subst, ℕ, zero, suc, ◌+◌, ◌-◌, ◌*◌, ◌<◌, ◌≤◌, Bool, true, false, cond, if◌then◌else◌, pos, nat_abs, List, [], ◌∷◌, ◌++◌, map, length, get_or, drop, arith, length-take, length-drop, true≢false, ◌≤ℤ◌, mul-le-mul_left, lt_of_lt_of_le}
use Rattle.std.specs.List.{AllByRecursion, filter, flat_map, range_with_len}
use Rattle.std.specs.Str.{IsUtf8}
use Rattle.header_types.specs.Fields.{Tree, tree, Forest, no_more, more, width, SchemaTree}
use Rattle.batch_types.specs.Cells.{Cell, null_cell, Cells}
use Rattle.batch_types.specs.Cells.{cells_of, Rows}
use Rattle.batch_types.specs.Layouts.{Layout, null_layout, bits_layout, bytes_layout, binary_layout, utf8_layout}
use Rattle.batch_types.specs.Layouts.{list_layout, fixed_size_list_layout, struct_layout, layout_of, buffers_in_layout}
use Rattle.batch_types.specs.Shapes.{shape_of, shapes_of}
use Rattle.batch_types.specs.Laid.{Node, Range, LaidColumn, laid, LaidColumns, no_column, column_then, IsColumnOf, AreColumnsOf}
use Rattle.batch_types.specs.Placed.{buffer_at, bytes_from, is_valid, value_at, cell_at, cells_inside, fields_at, value_bytes, start_of, length_of, offset_at}
use Rattle.batch_types.specs.Rules.{HasBuffers, AreOffsetsLong, DoRise, OffsetsRise, AreUtf8, first_length, places_of, places_inside}
use Rattle.batch_types.specs.LaysOut.{KeepsRule, IsSound, AreSound, LaysOut, columns_at, body_of}
use Rattle.batch_types.specs.Order.{AreKept, column_order}
use Rattle.header_types.specs.Profile.{IsWellFormedTree, IsWellFormedForest, InProfile}
use Rattle.header_types.specs.Header.{Head}
use Rattle.batch_types.specs.Typed.{AreColumnsOfRows, AreRowsOf, IsCellOf, IsElementOf, AreFieldsOf, FitsLayout, AllCells, count_of}

-- ---- lists

module _ {X : Type 0} (P : X → Type 0) where
  all_front : (xs ys : List X) → AllByRecursion P (xs ++ ys) → AllByRecursion P xs
  all_front [] ys all = tt
  all_front (x ∷ xs) ys all = (all.0, all_front xs ys all.1)

  all_behind : (xs ys : List X) → AllByRecursion P (xs ++ ys) → AllByRecursion P ys
  all_behind [] ys all = all
  all_behind (x ∷ xs) ys all = all_behind xs ys all.1

  filtered_one : (p : X → Bool) (x : X) (xs : List X) (Q : Type 0) → (AllByRecursion P (filter p xs) → Q) → (test : Bool) → p x ≡ test
      → AllByRecursion P (cond test (x ∷ filter p xs) (filter p xs)) → (p x ≡ true → P x) × Q
  filtered_one p x xs Q rest true is all = (λ passes. all.0, rest all.1)
  filtered_one p x xs Q rest false is all = (λ passes. absurd (true≢false (sym passes ∙ is)), rest all)

  all_of_filtered : (p : X → Bool) (xs : List X) → AllByRecursion P (filter p xs) → AllByRecursion (λ x. p x ≡ true → P x) xs
  all_of_filtered p [] all = tt
  all_of_filtered p (x ∷ xs) all = filtered_one p x xs (AllByRecursion (λ y. p y ≡ true → P y) xs) (all_of_filtered p xs) (p x) refl all

all_of_flat : {X Y : Type 0} (P : Y → Type 0) (f : X → List Y) (xs : List X) → AllByRecursion P (flat_map f xs) → AllByRecursion (λ x. AllByRecursion P (f x)) xs
all_of_flat P f [] all = tt
all_of_flat P f (x ∷ xs) all = (all_front P (f x) (flat_map f xs) all, all_of_flat P f xs (all_behind P (f x) (flat_map f xs) all))

all_from_places : (P : ℕ → Type 0) (xs : List ℕ) → ((k : ℕ) → k < length xs → P (get_or xs k 0)) → AllByRecursion P xs
all_from_places P [] all = tt
all_from_places P (x ∷ xs) all = (all 0 (omega arith), all_from_places P xs (λ k within. all (suc k) (omega arith)))

-- ---- one value

-- what the value of a layout at place j has to have, where it is valid
abbrev Premise : (Cell → Type 0) → (Cells → Type 0) → Layout → List ℕ → List ℕ → (List ℕ → Cells) → (ℕ → Cells) → ℕ → Type 0
Premise Element Fields null_layout second third elements fields j = Unit {0}
Premise Element Fields bits_layout second third elements fields j = Unit {0}
Premise Element Fields (bytes_layout size) second third elements fields j = length (bytes_from second (size * j) size) ≡ size
Premise Element Fields (binary_layout offset) second third elements fields j = Unit {0}
Premise Element Fields (utf8_layout offset) second third elements fields j = IsUtf8 (value_bytes offset second third j)
Premise Element Fields (list_layout offset) second third elements fields j = AllCells Element (elements (places_of (list_layout offset) second j))
Premise Element Fields (fixed_size_list_layout size) second third elements fields j =
    (count_of (elements (places_of (fixed_size_list_layout size) second j)) ≡ size)
    × AllCells Element (elements (places_of (fixed_size_list_layout size) second j))
Premise Element Fields struct_layout second third elements fields j = Fields (fields j)

value_fits : (Element : Cell → Type 0) (Fields : Cells → Type 0) (l : Layout) (second third : List ℕ) (elements : List ℕ → Cells) (fields : ℕ → Cells)
    (j : ℕ) → Premise Element Fields l second third elements fields j → FitsLayout l Element Fields (value_at l second third elements fields j)
value_fits Element Fields null_layout second third elements fields j p = tt
value_fits Element Fields bits_layout second third elements fields j p = tt
value_fits Element Fields (bytes_layout size) second third elements fields j p = p
value_fits Element Fields (binary_layout offset) second third elements fields j p = tt
value_fits Element Fields (utf8_layout offset) second third elements fields j p = p
value_fits Element Fields (list_layout offset) second third elements fields j p = p
value_fits Element Fields (fixed_size_list_layout size) second third elements fields j p = p
value_fits Element Fields struct_layout second third elements fields j p = p

null_fits : (Element : Cell → Type 0) (Fields : Cells → Type 0) (l : Layout) → FitsLayout l Element Fields null_cell
null_fits Element Fields null_layout = tt
null_fits Element Fields bits_layout = tt
null_fits Element Fields (bytes_layout size) = tt
null_fits Element Fields (binary_layout offset) = tt
null_fits Element Fields (utf8_layout offset) = tt
null_fits Element Fields (list_layout offset) = tt
null_fits Element Fields (fixed_size_list_layout size) = tt
null_fits Element Fields struct_layout = tt

-- a null, or a valid value
cell_fits : (Element : Cell → Type 0) (Fields : Cells → Type 0) (l : Layout) (value : Cell) (valid test : Bool) → valid ≡ test
    → (valid ≡ true → FitsLayout l Element Fields value) → FitsLayout l Element Fields (if test then value else null_cell)
cell_fits Element Fields l value valid true is fits = fits is
cell_fits Element Fields l value valid false is fits = null_fits Element Fields l

pub mapped : {X Y : Type 0} (P : X → Type 0) (Q : Y → Type 0) (f : X → Y) → ((x : X) → P x → Q (f x)) → (xs : List X) → AllByRecursion P xs → AllByRecursion (λ x. Q (f x)) xs
mapped P Q f each [] all = tt
mapped P Q f each (x ∷ xs) all = (each x all.0, mapped P Q f each xs all.1)

-- ---- the places inside a value

elements_fit : (body : List ℕ) (Element : Cell → Type 0) (c : LaidColumn) (places : List ℕ) → AllByRecursion (λ p. Element (cell_at body c p)) places
    → AllCells Element (cells_of (map (cell_at body c) places))
elements_fit body Element c [] all = tt
elements_fit body Element c (p ∷ places) all = (all.0, elements_fit body Element c places all.1)

elements_counted : (body : List ℕ) (c : LaidColumn) (places : List ℕ) → count_of (cells_of (map (cell_at body c) places)) ≡ length places
elements_counted body c [] = refl
elements_counted body c (p ∷ places) = ap suc (elements_counted body c places)

-- ---- layouts of types

abbrev has_elements : Layout → Bool
has_elements null_layout = false
has_elements bits_layout = false
has_elements (bytes_layout size) = false
has_elements (binary_layout offset) = false
has_elements (utf8_layout offset) = false
has_elements (list_layout offset) = true
has_elements (fixed_size_list_layout size) = true
has_elements struct_layout = false

-- the bytes of an offset, 1 where there are none
abbrev offset_in : Layout → ℕ
offset_in null_layout = 1
offset_in bits_layout = 1
offset_in (bytes_layout size) = 1
offset_in (binary_layout offset) = offset
offset_in (utf8_layout offset) = offset
offset_in (list_layout offset) = offset
offset_in (fixed_size_list_layout size) = 1
offset_in struct_layout = 1

no_elements : {A : Type 0} → false ≡ true → A
no_elements is = absurd (true≢false (sym is))

one_inside : (d : DataType) (n : ℕ) → AllowsChildren d n → has_elements (layout_of d) ≡ true → n ≡ 1
one_inside null_type n allows is = no_elements is
one_inside (int_type width signed) n allows is = no_elements is
one_inside (floating_point_type precision) n allows is = no_elements is
one_inside binary_type n allows is = no_elements is
one_inside utf8_type n allows is = no_elements is
one_inside bool_type n allows is = no_elements is
one_inside (decimal_type precision scale width) n allows is = no_elements is
one_inside (date_type unit) n allows is = no_elements is
one_inside (time_type unit) n allows is = no_elements is
one_inside (timestamp_type unit timezone) n allows is = no_elements is
one_inside list_type n allows is = allows
one_inside struct_type n allows is = no_elements is
one_inside (fixed_size_binary_type byte_width) n allows is = no_elements is
one_inside (fixed_size_list_type list_size) n allows is = allows
one_inside (duration_type unit) n allows is = no_elements is

some_offset : (d : DataType) → 0 < offset_in (layout_of d)
some_offset null_type = omega arith
some_offset (int_type width signed) = omega arith
some_offset (floating_point_type precision) = omega arith
some_offset binary_type = omega arith
some_offset utf8_type = omega arith
some_offset bool_type = omega arith
some_offset (decimal_type precision scale width) = omega arith
some_offset (date_type unit) = omega arith
some_offset (time_type unit) = omega arith
some_offset (timestamp_type unit timezone) = omega arith
some_offset list_type = omega arith
some_offset struct_type = omega arith
some_offset (fixed_size_binary_type byte_width) = omega arith
some_offset (fixed_size_list_type list_size) = omega arith
some_offset (duration_type unit) = omega arith

-- ---- bounds

-- of values of one size side by side
pub within_size : (size j count : ℕ) → j < count → size * j + size ≤ size * count
within_size size j count below = omega (arith, mul-le-mul_left size below, mul-suc size j)

pub all_true : {X : Type 0} (P : X → Type 0) → ((x : X) → P x) → (xs : List X) → AllByRecursion P xs
all_true P each [] = tt
all_true P each (x ∷ xs) = (each x, all_true P each xs)

both : {X : Type 0} (P Q : X → Type 0) (xs : List X) → AllByRecursion P xs → AllByRecursion Q xs → AllByRecursion (λ x. P x × Q x) xs
both P Q [] ps qs = tt
both P Q (x ∷ xs) ps qs = ((ps.0, qs.0), both P Q xs ps.1 qs.1)

pub run_below : (start count limit : ℕ) → start + count ≤ limit → AllByRecursion (λ p. p < limit) (range_with_len start count)
run_below start zero limit fits = tt
run_below start (suc count) limit fits = (omega arith, run_below (start + 1) count limit (omega arith))

pub flat_below : (f : ℕ → List ℕ) (limit : ℕ) (xs : List ℕ) → AllByRecursion (λ x. AllByRecursion (λ p. p < limit) (f x)) xs → AllByRecursion (λ p. p < limit) (flat_map f xs)
flat_below f limit [] all = tt
flat_below f limit (x ∷ xs) all = joined (f x) (flat_map f xs) all.0 (flat_below f limit xs all.1)
  where
    joined : (ys zs : List ℕ) → AllByRecursion (λ p. p < limit) ys → AllByRecursion (λ p. p < limit) zs → AllByRecursion (λ p. p < limit) (ys ++ zs)
    joined [] zs ps qs = qs
    joined (y ∷ ys) zs ps qs = (ps.0, joined ys zs ps.1 qs)

pub filtered_all : {X : Type 0} (P : X → Type 0) (p : X → Bool) (xs : List X) → AllByRecursion P xs → AllByRecursion P (filter p xs)
filtered_all P p [] all = tt
filtered_all P p (x ∷ xs) all = kept (p x) (filtered_all P p xs all.1)
  where
    kept : (test : Bool) → AllByRecursion P (filter p xs) → AllByRecursion P (cond test (x ∷ filter p xs) (filter p xs))
    kept true rest = (all.0, rest)
    kept false rest = rest

-- of offsets that rise
rises_to : (size : ℕ) (offsets : List ℕ) (count limit : ℕ) → DoRise size offsets count limit → (d j : ℕ) → j + d ≡ count → offset_at size offsets j ≤ℤ pos limit
rises_to size offsets count limit rise zero j is = subst (λ k. offset_at size offsets k ≤ℤ pos limit) (omega arith) rise.ends
rises_to size offsets count limit rise (suc d) j is =
    omega (arith, ints, rise.rises j (omega arith), rises_to size offsets count limit rise d (j + 1) (omega arith))

rises_from : (size : ℕ) (offsets : List ℕ) (count limit : ℕ) → DoRise size offsets count limit → (j : ℕ) → j ≤ count → pos 0 ≤ℤ offset_at size offsets j
rises_from size offsets count limit rise zero within = rise.begins
rises_from size offsets count limit rise (suc j) within =
    let next : suc j ≡ j + 1 = omega arith in
    subst (λ k. pos 0 ≤ℤ offset_at size offsets k) (sym next)
    (omega (arith, ints, rise.rises j (omega arith), rises_from size offsets count limit rise j (omega arith)))

pub span_within : (size : ℕ) (offsets : List ℕ) (count limit j : ℕ) → DoRise size offsets count limit → j < count
    → start_of size offsets j + length_of size offsets j ≤ limit
span_within size offsets count limit j rise below =
    omega (
      arith,
      ints,
      rise.rises j below,
      rises_from size offsets count limit rise j (omega arith),
      rises_from size offsets count limit rise (j + 1) (omega arith),
      rises_to size offsets count limit rise (count - (j + 1)) (j + 1) (omega arith),
    )

-- ---- what is inside a column

-- the cell at this place of the first of the columns
abbrev ElementAt : List ℕ → (Cell → Type 0) → LaidColumns → ℕ → Type 0
ElementAt body Element no_column p = ⊥
ElementAt body Element (column_then c rest) p = Element (cell_at body c p)

elements_are : (body : List ℕ) (Element : Cell → Type 0) (i : LaidColumns) (places : List ℕ) → AllByRecursion (ElementAt body Element i) places
    → (count_of (cells_inside body i places) ≡ length places) × AllCells Element (cells_inside body i places)
elements_are body Element no_column [] all = (refl, tt)
elements_are body Element no_column (p ∷ places) all = absurd all.0
elements_are body Element (column_then c rest) places all = (elements_counted body c places, elements_fit body Element c places all)

pub length_run : (start count : ℕ) → length (range_with_len start count) ≡ count
length_run start zero = refl
length_run start (suc count) = ap suc (length_run (start + 1) count)

-- what the values at these places have to have, where they are valid
module _ (body : List ℕ) (n : Node) (r : List Range) (i : LaidColumns) (Element : Cell → Type 0) (Fields : Cells → Type 0) (places : List ℕ)
    (bound : AllByRecursion (λ j. j < nat_abs n.0) places) where
  -- of a layout
  abbrev Premises : Layout → Type 0
  Premises l = AllByRecursion (λ j. is_valid l (buffer_at body r 0) j ≡ true
      → Premise Element Fields l (buffer_at body r 1) (buffer_at body r 2) (cells_inside body i) (fields_at body i) j) places

  of_bytes : (size : ℕ) → HasBuffers body (bytes_layout size) n r → Premises (bytes_layout size)
  of_bytes size buffers = mapped _ _ (λ j. j) one places bound
    where
      one : (j : ℕ) → j < nat_abs n.0 → is_valid (bytes_layout size) (buffer_at body r 0) j ≡ true
          → length (bytes_from (buffer_at body r 1) (size * j) size) ≡ size
      one j below valid =
          omega (
            arith,
            length-take size (drop (size * j) (buffer_at body r 1)),
            length-drop (size * j) (buffer_at body r 1),
            buffers.long_enough.1,
            within_size size j (nat_abs n.0) below,
          )

  of_texts : (offset : ℕ) → AreUtf8 body (utf8_layout offset) r places → Premises (utf8_layout offset)
  of_texts offset texts =
      all_of_filtered (λ j. IsUtf8 (value_bytes offset (buffer_at body r 1) (buffer_at body r 2) j)) (is_valid (utf8_layout offset) (buffer_at body r 0)) places
      (all_from_places (λ j. IsUtf8 (value_bytes offset (buffer_at body r 1) (buffer_at body r 2) j))
      (filter (is_valid (utf8_layout offset) (buffer_at body r 0)) places) texts)

  -- the places inside the valid values, for any layout
  inside_of : (l : Layout) (P : ℕ → Type 0) → AllByRecursion P (places_inside body l r places)
      → AllByRecursion (λ j. is_valid l (buffer_at body r 0) j ≡ true → AllByRecursion P (places_of l (buffer_at body r 1) j)) places
  inside_of l P all =
      all_of_filtered (λ j. AllByRecursion P (places_of l (buffer_at body r 1) j)) (is_valid l (buffer_at body r 0)) places
      (all_of_flat P (places_of l (buffer_at body r 1)) (filter (is_valid l (buffer_at body r 0)) places) all)

  bounded : (l : Layout) (limit : ℕ) → ((j : ℕ) → j < nat_abs n.0 → AllByRecursion (λ p. p < limit) (places_of l (buffer_at body r 1) j))
      → AllByRecursion (λ p. p < limit) (places_inside body l r places)
  bounded l limit each =
      flat_below (places_of l (buffer_at body r 1)) limit (filter (is_valid l (buffer_at body r 0)) places)
      (filtered_all _ (is_valid l (buffer_at body r 0)) places (mapped _ _ (λ j. j) each places bound))

  list_bound : (offset : ℕ) → 0 < offset → HasBuffers body (list_layout offset) n r → OffsetsRise offset (buffer_at body r 1) (nat_abs n.0) (first_length i)
      → AllByRecursion (λ p. p < first_length i) (places_inside body (list_layout offset) r places)
  list_bound offset some buffers rise = bounded (list_layout offset) (first_length i) (one rise buffers.long_enough.1)
    where
      one : OffsetsRise offset (buffer_at body r 1) (nat_abs n.0) (first_length i) → AreOffsetsLong offset (nat_abs n.0) (length (buffer_at body r 1))
          → (j : ℕ) → j < nat_abs n.0
          → AllByRecursion (λ p. p < first_length i) (places_of (list_layout offset) (buffer_at body r 1) j)
      one (inr rises) long j below =
          run_below (start_of offset (buffer_at body r 1) j) (length_of offset (buffer_at body r 1) j) (first_length i)
          (span_within offset (buffer_at body r 1) (nat_abs n.0) (first_length i) j rises below)
      one (inl none) (inl long) j below = absurd (omega (arith, long.0))
      one (inl none) (inr long) j below =
          absurd (omega (arith, ap length none, long, mul-suc offset (nat_abs n.0), ap (λ k. offset * k) (plus_one (nat_abs n.0))))
        where
          plus_one : (k : ℕ) → k + 1 ≡ suc k
          plus_one k = omega arith

  of_list : (offset : ℕ) → AllByRecursion (ElementAt body Element i) (places_inside body (list_layout offset) r places) → Premises (list_layout offset)
  of_list offset elements =
      mapped _ _ (λ j. j) (λ j all valid. (elements_are body Element i (places_of (list_layout offset) (buffer_at body r 1) j) (all valid)).1)
      places (inside_of (list_layout offset) (ElementAt body Element i) elements)

  of_fixed_list : (size : ℕ) → AllByRecursion (ElementAt body Element i) (places_inside body (fixed_size_list_layout size) r places) → Premises (fixed_size_list_layout size)
  of_fixed_list size elements = mapped _ _ (λ j. j) one places (inside_of (fixed_size_list_layout size) (ElementAt body Element i) elements)
    where
      one : (j : ℕ) → (is_valid (fixed_size_list_layout size) (buffer_at body r 0) j ≡ true
          → AllByRecursion (ElementAt body Element i) (places_of (fixed_size_list_layout size) (buffer_at body r 1) j))
          → is_valid (fixed_size_list_layout size) (buffer_at body r 0) j ≡ true
          → Premise Element Fields (fixed_size_list_layout size) (buffer_at body r 1) (buffer_at body r 2) (cells_inside body i) (fields_at body i) j
      one j all valid =
          let are = elements_are body Element i (places_of (fixed_size_list_layout size) (buffer_at body r 1) j) (all valid) in
          (are.0 ∙ length_run (size * j) size, are.1)

  fixed_list_bound : (size limit : ℕ) → size * nat_abs n.0 ≤ limit → AllByRecursion (λ p. p < limit) (places_inside body (fixed_size_list_layout size) r places)
  fixed_list_bound size limit long =
      bounded (fixed_size_list_layout size) limit
      (λ j below. run_below (size * j) size limit (omega (arith, long, within_size size j (nat_abs n.0) below)))

  of_struct : AllByRecursion (λ p. Fields (fields_at body i p)) (places_inside body struct_layout r places) → Premises struct_layout
  of_struct fields = mapped _ _ (λ j. j) (λ j all valid. (all valid).0) places (inside_of struct_layout (λ p. Fields (fields_at body i p)) fields)

  struct_bound : AllByRecursion (λ p. p < nat_abs n.0) (places_inside body struct_layout r places)
  struct_bound = bounded struct_layout (nat_abs n.0) (λ j below. (below, tt))

  -- the cells are of the layout
  fitting : (l : Layout) → Premises l → AllByRecursion (λ j. FitsLayout l Element Fields (cell_at body (laid l n r i) j)) places
  fitting l premises =
      mapped _ _ (λ j. j)
      (λ j premise. cell_fits Element Fields l (value_at l (buffer_at body r 1) (buffer_at body r 2) (cells_inside body i) (fields_at body i) j)
      (is_valid l (buffer_at body r 0) j) (is_valid l (buffer_at body r 0) j) refl
      (λ valid. value_fits Element Fields l (buffer_at body r 1) (buffer_at body r 2) (cells_inside body i) (fields_at body i) j (premise valid)))
      places premises

-- ---- columns with those inside them

abbrev length_in : LaidColumn → ℕ
length_in (laid l n r i) = nat_abs n.0

-- a column has as many values as are asked of the columns of which it is the first
long_first : (body : List ℕ) (f : Forest) (cs : LaidColumns) (asked : ℕ) (places : List ℕ) → width f ≡ 1 → AreColumnsOf f cs → AreSound body cs asked places → asked ≤ first_length cs
long_first body no_more cs asked places one of sound = absurd (omega (arith, one))
long_first body (more t ts) no_column asked places one of sound = absurd of
long_first body (more t ts) (column_then (laid l n r i) cs) asked places one of sound = sound.0.0.1.1.1.0

-- what the columns inside have to be, for each layout of the column around them
abbrev Inside : List ℕ → Node → List Range → LaidColumns → (Cell → Type 0) → (Cells → Type 0) → List ℕ → Layout → Type 0
Inside body n r i Element Fields places null_layout = Unit {0}
Inside body n r i Element Fields places bits_layout = Unit {0}
Inside body n r i Element Fields places (bytes_layout size) = Unit {0}
Inside body n r i Element Fields places (binary_layout offset) = Unit {0}
Inside body n r i Element Fields places (utf8_layout offset) = Unit {0}
Inside body n r i Element Fields places (list_layout offset) = AllByRecursion (ElementAt body Element i) (places_inside body (list_layout offset) r places)
Inside body n r i Element Fields places (fixed_size_list_layout size) =
    AllByRecursion (ElementAt body Element i) (places_inside body (fixed_size_list_layout size) r places)
Inside body n r i Element Fields places struct_layout = AllByRecursion (λ p. Fields (fields_at body i p)) (places_inside body struct_layout r places)

module _ (body : List ℕ) (n : Node) (r : List Range) (i : LaidColumns) (Element : Cell → Type 0) (Fields : Cells → Type 0) (asked : ℕ) (places : List ℕ)
    (bound : AllByRecursion (λ j. j < nat_abs n.0) places) where
  premises_of : (l : Layout) → AreKept (KeepsRule body l n r i asked places) column_order → Inside body n r i Element Fields places l
      → Premises body n r i Element Fields places bound l
  premises_of null_layout kept inside = all_true _ (λ j valid. tt) places
  premises_of bits_layout kept inside = all_true _ (λ j valid. tt) places
  premises_of (bytes_layout size) kept inside = of_bytes body n r i Element Fields places bound size kept.0
  premises_of (binary_layout offset) kept inside = all_true _ (λ j valid. tt) places
  premises_of (utf8_layout offset) kept inside = of_texts body n r i Element Fields places bound offset kept.1.1.1.1.0
  premises_of (list_layout offset) kept inside = of_list body n r i Element Fields places bound offset inside
  premises_of (fixed_size_list_layout size) kept inside = of_fixed_list body n r i Element Fields places bound size inside
  premises_of struct_layout kept inside = of_struct body n r i Element Fields places bound inside

typed_inside : (body : List ℕ) (d : DataType) (inside : Forest) (l : Layout) (n : Node) (r : List Range) (i : LaidColumns) (asked : ℕ) (places : List ℕ)
    → AllowsChildren d (width inside) → (l ≡ layout_of d) × (length r ≡ buffers_in_layout l) × AreColumnsOf inside i
    → IsSound body (laid l n r i) asked places → AllByRecursion (λ j. j < nat_abs n.0) places
    → ((few : ℕ) (inner : List ℕ) → width inside ≡ 1 → AreSound body i few inner → AllByRecursion (λ p. p < first_length i) inner
    → AllByRecursion (ElementAt body (IsElementOf (shapes_of inside)) i) inner)
    → ((few : ℕ) (inner : List ℕ) → AreSound body i few inner → AllByRecursion (λ p. p < few) inner
    → AllByRecursion (λ p. AreFieldsOf (shapes_of inside) (fields_at body i p)) inner)
    → Inside body n r i (IsElementOf (shapes_of inside)) (AreFieldsOf (shapes_of inside)) places l
typed_inside body d inside null_layout n r i asked places allows of sound bound elements fields = tt
typed_inside body d inside bits_layout n r i asked places allows of sound bound elements fields = tt
typed_inside body d inside (bytes_layout size) n r i asked places allows of sound bound elements fields = tt
typed_inside body d inside (binary_layout offset) n r i asked places allows of sound bound elements fields = tt
typed_inside body d inside (utf8_layout offset) n r i asked places allows of sound bound elements fields = tt
typed_inside body d inside (list_layout offset) n r i asked places allows of sound bound elements fields =
    let one : width inside ≡ 1 = one_inside d (width inside) allows (ap has_elements (sym of.0)) in
    let some : 0 < offset = subst (λ k. 0 < offset_in k) (sym of.0) (some_offset d) in
    elements 0 (places_inside body (list_layout offset) r places) one sound.1
    (list_bound body n r i (IsElementOf (shapes_of inside)) (AreFieldsOf (shapes_of inside)) places bound offset some sound.0.0 sound.0.1.1.0)
typed_inside body d inside (fixed_size_list_layout size) n r i asked places allows of sound bound elements fields =
    let one : width inside ≡ 1 = one_inside d (width inside) allows (ap has_elements (sym of.0)) in
    elements (size * nat_abs n.0) (places_inside body (fixed_size_list_layout size) r places) one sound.1
    (fixed_list_bound body n r i (IsElementOf (shapes_of inside)) (AreFieldsOf (shapes_of inside)) places bound size (first_length i)
    (long_first body inside i (size * nat_abs n.0) (places_inside body (fixed_size_list_layout size) r places) one of.2 sound.1))
typed_inside body d inside struct_layout n r i asked places allows of sound bound elements fields =
    fields (nat_abs n.0) (places_inside body struct_layout r places) sound.1
    (struct_bound body n r i (IsElementOf (shapes_of inside)) (AreFieldsOf (shapes_of inside)) places bound)

mutual
  pub typed_column : (body : List ℕ) (t : Tree) (c : LaidColumn) (asked : ℕ) (places : List ℕ) → IsWellFormedTree t → IsColumnOf t c → IsSound body c asked places
      → AllByRecursion (λ j. j < length_in c) places → AllByRecursion (λ j. IsCellOf (shape_of t) (cell_at body c j)) places
  typed_column body (tree field entries inside) (laid l n r i) asked places formed of sound bound =
      subst (λ k. AllByRecursion (λ j. FitsLayout k (IsElementOf (shapes_of inside)) (AreFieldsOf (shapes_of inside)) (cell_at body (laid l n r i) j)) places) of.0
      (fitting body n r i (IsElementOf (shapes_of inside)) (AreFieldsOf (shapes_of inside)) places bound l
      (premises_of body n r i (IsElementOf (shapes_of inside)) (AreFieldsOf (shapes_of inside)) asked places bound l sound.0
      (typed_inside body field.data_type inside l n r i asked places formed.0 of sound bound
      (λ few inner one. typed_elements body inside i few inner one formed.2 of.2)
      (λ few inner. typed_fields body inside i few inner formed.2 of.2))))

  typed_elements : (body : List ℕ) (f : Forest) (cs : LaidColumns) (asked : ℕ) (places : List ℕ) → width f ≡ 1 → IsWellFormedForest f → AreColumnsOf f cs
      → AreSound body cs asked places → AllByRecursion (λ p. p < first_length cs) places → AllByRecursion (ElementAt body (IsElementOf (shapes_of f)) cs) places
  typed_elements body no_more cs asked places one formed of sound bound = absurd (omega (arith, one))
  typed_elements body (more t ts) no_column asked places one formed of sound bound = absurd of
  typed_elements body (more t ts) (column_then (laid l n r i) cs) asked places one formed of sound bound =
      typed_column body t (laid l n r i) asked places formed.0 of.0 sound.0 bound

  typed_fields : (body : List ℕ) (f : Forest) (cs : LaidColumns) (asked : ℕ) (places : List ℕ) → IsWellFormedForest f → AreColumnsOf f cs
      → AreSound body cs asked places → AllByRecursion (λ p. p < asked) places → AllByRecursion (λ p. AreFieldsOf (shapes_of f) (fields_at body cs p)) places
  typed_fields body no_more no_column asked places formed of sound bound = all_true _ (λ p. tt) places
  typed_fields body no_more (column_then c cs) asked places formed of sound bound = absurd of
  typed_fields body (more t ts) no_column asked places formed of sound bound = absurd of
  typed_fields body (more t ts) (column_then (laid l n r i) cs) asked places formed of sound bound =
      both (λ p. IsCellOf (shape_of t) (cell_at body (laid l n r i) p)) (λ p. AreFieldsOf (shapes_of ts) (fields_at body cs p)) places
      (typed_column body t (laid l n r i) asked places formed.0 of.0 sound.0
      (mapped _ _ (λ p. p) (λ p below. lt_of_lt_of_le below sound.0.0.1.1.1.0) places bound))
      (typed_fields body ts cs asked places formed.1 of.1 sound.1 bound)

-- ---- rows

all_mapped : {X Y : Type 0} (Q : Y → Type 0) (f : X → Y) (xs : List X) → AllByRecursion (λ x. Q (f x)) xs → AllByRecursion Q (map f xs)
all_mapped Q f [] all = tt
all_mapped Q f (x ∷ xs) all = (all.0, all_mapped Q f xs all.1)

length_mapped : {X Y : Type 0} (f : X → Y) (xs : List X) → length (map f xs) ≡ length xs
length_mapped f [] = refl
length_mapped f (x ∷ xs) = ap suc (length_mapped f xs)

typed_columns : (body : List ℕ) (f : Forest) (cs : LaidColumns) (count : ℕ) → IsWellFormedForest f → AreColumnsOf f cs
    → AreSound body cs count (range_with_len 0 count) → AreColumnsOfRows count (shapes_of f) (columns_at body cs count)
typed_columns body no_more no_column count formed of sound = tt
typed_columns body no_more (column_then c cs) count formed of sound = absurd of
typed_columns body (more t ts) no_column count formed of sound = absurd of
typed_columns body (more t ts) (column_then (laid l n r i) cs) count formed of sound = (
  length_mapped (cell_at body (laid l n r i)) (range_with_len 0 count) ∙ length_run 0 count,
  all_mapped (IsCellOf (shape_of t)) (cell_at body (laid l n r i)) (range_with_len 0 count)
      (typed_column body t (laid l n r i) count (range_with_len 0 count) formed.0 of.0 sound.0
      (run_below 0 count (nat_abs n.0) (omega (arith, sound.0.0.1.1.1.0)))),
  typed_columns body ts cs count formed.1 of.1 sound.1,
)

pub typed_rows : (schema : SchemaTree) (head : Head) (body : List ℕ) (rows : Rows) → InProfile schema → LaysOut schema head body rows → AreRowsOf schema rows
typed_rows schema head body rows profile laid_out =
    subst (AreColumnsOfRows rows.count (shapes_of schema.fields)) (sym laid_out.cells)
    (typed_columns (body_of head body) schema.fields laid_out.columns rows.count profile.well_formed laid_out.columns_are.of_schema laid_out.sound)
