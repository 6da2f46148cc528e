-- What is written inside a column are cells of the columns inside it, as many as it asks for, with room for them.
use native.Mathlib.Nat.{mul-suc}
use Rattle.std.proofs.Common.{◌≡◌, refl, sym, ap, ◌∙◌, subst, ℕ, zero, suc, ◌+◌, ◌*◌, ◌≤◌, List, [], ◌∷◌, ◌++◌, length, map, replicate, arith, length-append}
use Rattle.std.specs.List.{AllByRecursion, flat_map, sum_by}
use Rattle.std.specs.Str.{IsUtf8}
use Rattle.std.proofs.lemmas.List.{length-map}
use Rattle.std.proofs.lemmas.List.Sums.{sum_by-cons}
use Rattle.header_types.specs.Fields.{Tree, tree, Forest, no_more, more, width}
use Rattle.header_types.specs.Profile.{IsWellFormedTree, IsWellFormedForest}
use Rattle.batch_types.specs.Cells.{Cell, null_cell, bit_cell, bytes_cell, list_cell, tuple_cell, Cells, no_cell, cell_then, cells_of}
use Rattle.batch_types.specs.Layouts.{Layout, null_layout, bits_layout, bytes_layout, binary_layout, utf8_layout}
use Rattle.batch_types.specs.Layouts.{list_layout, fixed_size_list_layout, struct_layout, layout_of}
use Rattle.batch_types.specs.Shapes.{Shape, shape, Shapes, no_shape, shape_then, shape_of, shapes_of}
use Rattle.batch_types.specs.Typed.{IsList, IsTuple, AllCells, count_of, IsCellOf, IsElementOf, AreFieldsOf}
use Rattle.batch_types.specs.Canonical.{blank_of, first_blank, blanks_of, cells_in, elements_or, nth_or, field_or, own_buffers, parts_of, columns_parts}
use Rattle.batch_types.specs.Canonical.{elements_lengths}
use Rattle.batch_types.specs.Written.{HasInside, AreRooms, AreElementRooms, AreFieldRooms, HaveRooms}
use Rattle.batch_types.proofs.ReadBack.{length_zeros}
use Rattle.batch_types.proofs.WrittenCells.{even_elements}
use Rattle.batch_types.proofs.Standing.{end_of, Stand, stand_both}
use Rattle.batch_types.proofs.WrittenColumns.{element_columns, field_columns, columns_in, inside_as_columns, Arity, arity}

-- ---- shapes of fields in profile

abbrev pub HasFirst : Shapes → Type 0
HasFirst no_shape = ⊥
HasFirst (shape_then s rest) = Unit {0}

-- a list has elements of some shape
abbrev pub IsFilled : Layout → Shapes → Type 0
IsFilled null_layout inside = Unit {0}
IsFilled bits_layout inside = Unit {0}
IsFilled (bytes_layout size) inside = Unit {0}
IsFilled (binary_layout offset) inside = Unit {0}
IsFilled (utf8_layout offset) inside = Unit {0}
IsFilled (list_layout offset) inside = HasFirst inside
IsFilled (fixed_size_list_layout size) inside = HasFirst inside
IsFilled struct_layout inside = Unit {0}

abbrev mutual
  pub IsFormed : Shape → Type 0
  IsFormed (shape l inside) = IsFilled l inside × AreFormed inside

  pub AreFormed : Shapes → Type 0
  AreFormed no_shape = Unit {0}
  AreFormed (shape_then s rest) = IsFormed s × AreFormed rest

has_first : (f : Forest) → width f ≡ 1 → HasFirst (shapes_of f)
has_first no_more one = absurd (omega (arith, one))
has_first (more t ts) one = tt

filled_by : (l : Layout) (f : Forest) → Arity l (width f) → IsFilled l (shapes_of f)
filled_by null_layout f fits = tt
filled_by bits_layout f fits = tt
filled_by (bytes_layout size) f fits = tt
filled_by (binary_layout offset) f fits = tt
filled_by (utf8_layout offset) f fits = tt
filled_by (list_layout offset) f fits = has_first f fits
filled_by (fixed_size_list_layout size) f fits = has_first f fits
filled_by struct_layout f fits = tt

mutual
  formed_tree : (t : Tree) → IsWellFormedTree t → IsFormed (shape_of t)
  formed_tree (tree field entries inside) formed =
      (filled_by (layout_of field.data_type) inside (arity field.data_type (width inside) formed.0), formed_forest inside formed.2)

  pub formed_forest : (f : Forest) → IsWellFormedForest f → AreFormed (shapes_of f)
  formed_forest no_more formed = tt
  formed_forest (more t ts) formed = (formed_tree t formed.0, formed_forest ts formed.1)

-- ---- blank cells

pub no_text : IsUtf8 []
unfolding lib.Utf8.encode
no_text = ([], (refl, refl))

count_blanks : (n : ℕ) (blank : Cell) → count_of (cells_of (replicate n blank)) ≡ n
count_blanks zero blank = refl
count_blanks (suc n) blank = ap suc (count_blanks n blank)

all_blanks : (Element : Cell → Type 0) (n : ℕ) (blank : Cell) → Element blank → AllCells Element (cells_of (replicate n blank))
all_blanks Element zero blank fit = tt
all_blanks Element (suc n) blank fit = (fit, all_blanks Element n blank fit)

mutual
  pub blank_fits : (s : Shape) → IsFormed s → IsCellOf s (blank_of s)
  blank_fits (shape null_layout inside) formed = tt
  blank_fits (shape bits_layout inside) formed = tt
  blank_fits (shape (bytes_layout size) inside) formed = length_zeros size
  blank_fits (shape (binary_layout offset) inside) formed = tt
  blank_fits (shape (utf8_layout offset) inside) formed = no_text
  blank_fits (shape (list_layout offset) inside) formed = tt
  blank_fits (shape (fixed_size_list_layout size) inside) formed =
      (count_blanks size (first_blank inside), all_blanks (IsElementOf inside) size (first_blank inside) (first_fits inside formed.0 formed.1))
  blank_fits (shape struct_layout inside) formed = blanks_fit inside formed.1

  first_fits : (inside : Shapes) → HasFirst inside → AreFormed inside → IsElementOf inside (first_blank inside)
  first_fits no_shape first formed = absurd first
  first_fits (shape_then s rest) first formed = blank_fits s formed.0

  blanks_fit : (inside : Shapes) → AreFormed inside → AreFieldsOf inside (blanks_of inside)
  blanks_fit no_shape formed = tt
  blanks_fit (shape_then s rest) formed = (blank_fits s formed.0, blanks_fit rest formed.1)

-- ---- elements

module _ {X : Type 0} (P : X → Type 0) where
  pub all_joined : (xs ys : List X) → AllByRecursion P xs → AllByRecursion P ys → AllByRecursion P (xs ++ ys)
  all_joined [] ys ps qs = qs
  all_joined (x ∷ xs) ys ps qs = (ps.0, all_joined xs ys ps.1 qs)

  all_replicated : (n : ℕ) (x : X) → P x → AllByRecursion P (replicate n x)
  all_replicated zero x p = tt
  all_replicated (suc n) x p = (p, all_replicated n x p)

all_inside : (Element : Cell → Type 0) (cells : Cells) → AllCells Element cells → AllByRecursion Element (cells_in cells)
all_inside Element no_cell fit = tt
all_inside Element (cell_then cell rest) fit = (fit.0, all_inside Element rest fit.1)

elements_fit : (Element : Cell → Type 0) (Fit : Cells → Type 0) → ((cs : Cells) → Fit cs → AllCells Element cs)
    → (blanks : List Cell) → AllByRecursion Element blanks → (cells : List Cell) → AllByRecursion (IsList Fit) cells
    → AllByRecursion Element (flat_map (elements_or blanks) cells)
elements_fit Element Fit each blanks blank [] fit = tt
elements_fit Element Fit each blanks blank (null_cell ∷ cells) fit =
    all_joined Element blanks (flat_map (elements_or blanks) cells) blank (elements_fit Element Fit each blanks blank cells fit.1)
elements_fit Element Fit each blanks blank (list_cell inside ∷ cells) fit =
    all_joined Element (cells_in inside) (flat_map (elements_or blanks) cells) (all_inside Element inside (each inside fit.0))
    (elements_fit Element Fit each blanks blank cells fit.1)
elements_fit Element Fit each blanks blank (bit_cell bit ∷ cells) fit = absurd fit.0
elements_fit Element Fit each blanks blank (bytes_cell bytes ∷ cells) fit = absurd fit.0
elements_fit Element Fit each blanks blank (tuple_cell inside ∷ cells) fit = absurd fit.0

-- ---- pieces one behind the other

-- as long as their lengths say in all
pub long_in_all : {X A : Type 0} (f : X → List A) (xs : List X) → length (flat_map f xs) ≡ sum_by (λ n. n) (map (λ x. length (f x)) xs)
long_in_all f [] = refl
long_in_all f (x ∷ xs) =
    length-append (f x) (flat_map f xs)
    ∙ ap (λ n. length (f x) + n) (long_in_all f xs)
    ∙ sym (sum_by-cons (λ n. n) (length (f x)) (map (λ x. length (f x)) xs))

-- or each of one length
pub even_long : {X A : Type 0} (f : X → List A) (size : ℕ) (xs : List X) → AllByRecursion (λ x. length (f x) ≡ size) xs
    → length (flat_map f xs) ≡ size * length xs
even_long f size [] even = omega arith
even_long f size (x ∷ xs) even =
    omega (arith, length-append (f x) (flat_map f xs), even.0, even_long f size xs even.1, mul-suc size (length xs))

-- ---- fields

-- the cells from this one on
abbrev skip : ℕ → Cells → Cells
skip zero cells = cells
skip (suc k) no_cell = no_cell
skip (suc k) (cell_then cell rest) = skip k rest

peel : (s : Shape) (rest : Shapes) (k : ℕ) (cells : Cells) (blank : Cell) → AreFieldsOf (shape_then s rest) (skip k cells)
    → IsCellOf s (nth_or blank cells k) × AreFieldsOf rest (skip (suc k) cells)
peel s rest zero no_cell blank fit = absurd fit
peel s rest zero (cell_then cell behind) blank fit = fit
peel s rest (suc k) no_cell blank fit = absurd fit
peel s rest (suc k) (cell_then cell behind) blank fit = peel s rest k behind blank fit

-- the fields of the cells from this one on are of these shapes
abbrev FieldsFit : Shapes → ℕ → List Cell → Type 0
FieldsFit inside k cells = AllByRecursion (IsTuple (λ cs. AreFieldsOf inside (skip k cs))) cells

first_fields : (s : Shape) (rest : Shapes) (k : ℕ) → IsFormed s → (cells : List Cell) → FieldsFit (shape_then s rest) k cells
    → AllByRecursion (IsCellOf s) (map (field_or (blank_of s) k) cells) × FieldsFit rest (suc k) cells
first_fields s rest k formed [] fit = (tt, tt)
first_fields s rest k formed (null_cell ∷ cells) fit =
    let behind = first_fields s rest k formed cells fit.1 in ((blank_fits s formed, behind.0), (tt, behind.1))
first_fields s rest k formed (tuple_cell inside ∷ cells) fit =
    let behind = first_fields s rest k formed cells fit.1 in
    let here = peel s rest k inside (blank_of s) fit.0 in
    ((here.0, behind.0), (here.1, behind.1))
first_fields s rest k formed (bit_cell bit ∷ cells) fit = absurd fit.0
first_fields s rest k formed (bytes_cell bytes ∷ cells) fit = absurd fit.0
first_fields s rest k formed (list_cell inside ∷ cells) fit = absurd fit.0

-- ---- the columns inside

-- columns of cells of these shapes, each of so many or more
abbrev pub ColumnsFit : ℕ → Shapes → List (List Cell) → Type 0
ColumnsFit limit no_shape columns = Unit {0}
ColumnsFit limit (shape_then s rest) [] = Unit {0}
ColumnsFit limit (shape_then s rest) (cells ∷ columns) =
    (limit ≤ length cells) × AllByRecursion (IsCellOf s) cells × ColumnsFit limit rest columns

no_columns_fit : (limit : ℕ) (inside : Shapes) → ColumnsFit limit inside []
no_columns_fit limit no_shape = tt
no_columns_fit limit (shape_then s rest) = tt

-- how many values there are in each column inside
abbrev pub count_inside : Layout → List Cell → ℕ
count_inside null_layout cells = 0
count_inside bits_layout cells = 0
count_inside (bytes_layout size) cells = 0
count_inside (binary_layout offset) cells = 0
count_inside (utf8_layout offset) cells = 0
count_inside (list_layout offset) cells = sum_by (λ n. n) (elements_lengths cells)
count_inside (fixed_size_list_layout size) cells = size * length cells
count_inside struct_layout cells = length cells

list_elements : (inside : Shapes) (cells : List Cell) → AllByRecursion (IsList (AllCells (IsElementOf inside))) cells
    → ColumnsFit (sum_by (λ n. n) (elements_lengths cells)) inside (element_columns inside cells 0)
list_elements no_shape cells fit = tt
list_elements (shape_then s rest) cells fit = (
  omega (arith, long_in_all (elements_or []) cells),
  elements_fit (IsCellOf s) (AllCells (IsCellOf s)) (λ cs all. all) [] tt cells fit,
  no_columns_fit _ rest,
)

fixed_elements : (size : ℕ) (inside : Shapes) (cells : List Cell) → AreFormed inside
    → AllByRecursion (IsList (λ cs. (count_of cs ≡ size) × AllCells (IsElementOf inside) cs)) cells
    → ColumnsFit (size * length cells) inside (element_columns inside cells size)
fixed_elements size no_shape cells formed fit = tt
fixed_elements size (shape_then s rest) cells formed fit = (
  omega (arith, even_long (elements_or (replicate size (blank_of s))) size cells (even_elements (IsCellOf s) size (blank_of s) cells fit)),
  elements_fit (IsCellOf s) (λ cs. (count_of cs ≡ size) × AllCells (IsCellOf s) cs) (λ cs all. all.1)
      (replicate size (blank_of s)) (all_replicated (IsCellOf s) size (blank_of s) (blank_fits s formed.0)) cells fit,
  no_columns_fit _ rest,
)

fields_fit : (inside : Shapes) (k : ℕ) (cells : List Cell) → AreFormed inside → FieldsFit inside k cells
    → ColumnsFit (length cells) inside (field_columns inside k cells)
fields_fit no_shape k cells formed fit = tt
fields_fit (shape_then s rest) k cells formed fit =
    let first = first_fields s rest k formed.0 cells fit in
    (omega (arith, length-map cells (field_or (blank_of s) k)), first.0, fields_fit rest (suc k) cells formed.1 first.1)

columns_fit : (l : Layout) (inside : Shapes) (cells : List Cell) → IsFormed (shape l inside) → AllByRecursion (IsCellOf (shape l inside)) cells
    → ColumnsFit (count_inside l cells) inside (columns_in l inside cells)
columns_fit null_layout inside cells formed fit = no_columns_fit _ inside
columns_fit bits_layout inside cells formed fit = no_columns_fit _ inside
columns_fit (bytes_layout size) inside cells formed fit = no_columns_fit _ inside
columns_fit (binary_layout offset) inside cells formed fit = no_columns_fit _ inside
columns_fit (utf8_layout offset) inside cells formed fit = no_columns_fit _ inside
columns_fit (list_layout offset) inside cells formed fit = list_elements inside cells fit
columns_fit (fixed_size_list_layout size) inside cells formed fit = fixed_elements size inside cells formed.1 fit
columns_fit struct_layout inside cells formed fit = fields_fit inside 0 cells formed.1 fit

-- ---- room

no_rooms : (inside : Shapes) → HaveRooms inside []
no_rooms no_shape = tt
no_rooms (shape_then s rest) = tt

element_rooms : (inside : Shapes) (cells : List Cell) (blanks : ℕ) → AreElementRooms inside cells blanks
    → HaveRooms inside (element_columns inside cells blanks)
element_rooms no_shape cells blanks room = tt
element_rooms (shape_then s rest) cells blanks room = (room, no_rooms rest)

field_rooms : (inside : Shapes) (k : ℕ) (cells : List Cell) → AreFieldRooms inside k cells → HaveRooms inside (field_columns inside k cells)
field_rooms no_shape k cells room = tt
field_rooms (shape_then s rest) k cells room = (room.0, field_rooms rest (suc k) cells room.1)

rooms_inside : (l : Layout) (inside : Shapes) (cells : List Cell) → HasInside l (AreElementRooms inside cells) (AreFieldRooms inside 0 cells)
    → HaveRooms inside (columns_in l inside cells)
rooms_inside null_layout inside cells room = no_rooms inside
rooms_inside bits_layout inside cells room = no_rooms inside
rooms_inside (bytes_layout size) inside cells room = no_rooms inside
rooms_inside (binary_layout offset) inside cells room = no_rooms inside
rooms_inside (utf8_layout offset) inside cells room = no_rooms inside
rooms_inside (list_layout offset) inside cells room = element_rooms inside cells 0 room
rooms_inside (fixed_size_list_layout size) inside cells room = element_rooms inside cells size room
rooms_inside struct_layout inside cells room = field_rooms inside 0 cells room

-- ---- together

-- cells of a shape, with room for them, whose buffers stand in the body from this place on
pub record IsWritten (body : List ℕ) (place : ℕ) (s : Shape) (cells : List Cell) : Type 0 where
  pub stand : Stand body place (parts_of s cells).buffers
  pub formed : IsFormed s
  pub fit : AllByRecursion (IsCellOf s) cells
  pub room : AreRooms s cells

-- and of shapes, so many or more each
abbrev pub AreWritten : List ℕ → ℕ → ℕ → Shapes → List (List Cell) → Type 0
AreWritten body limit place no_shape columns = Unit {0}
AreWritten body limit place (shape_then s rest) [] = Unit {0}
AreWritten body limit place (shape_then s rest) (cells ∷ columns) =
    (limit ≤ length cells) × IsWritten body place s cells × AreWritten body limit (end_of place (parts_of s cells).buffers) rest columns

pub all_written : (body : List ℕ) (limit place : ℕ) (inside : Shapes) (columns : List (List Cell))
    → Stand body place (columns_parts inside columns).buffers → AreFormed inside → ColumnsFit limit inside columns → HaveRooms inside columns
    → AreWritten body limit place inside columns
all_written body limit place no_shape columns stand formed fit room = tt
all_written body limit place (shape_then s rest) [] stand formed fit room = tt
all_written body limit place (shape_then s rest) (cells ∷ columns) stand formed fit room =
    let both = stand_both body place (parts_of s cells).buffers (columns_parts rest columns).buffers stand in (
      fit.0,
      record { stand = both.0; formed = formed.0; fit = fit.1; room = room.0 },
      all_written body limit (end_of place (parts_of s cells).buffers) rest columns both.1 formed.1 fit.2 room.1,
    )

module _ (body : List ℕ) (place : ℕ) (l : Layout) (inside : Shapes) (cells : List Cell) (written : IsWritten body place (shape l inside) cells) where
  stand_apart : Stand body place (own_buffers l cells)
      × Stand body (end_of place (own_buffers l cells)) (columns_parts inside (columns_in l inside cells)).buffers
  stand_apart =
      stand_both body place (own_buffers l cells) (columns_parts inside (columns_in l inside cells)).buffers
      (subst (λ p. Stand body place (own_buffers l cells ++ p.buffers)) (inside_as_columns l inside cells) written.stand)

  pub own_stand : Stand body place (own_buffers l cells)
  own_stand = stand_apart.0

  pub inside_written : AreWritten body (count_inside l cells) (end_of place (own_buffers l cells)) inside (columns_in l inside cells)
  inside_written =
      all_written body (count_inside l cells) (end_of place (own_buffers l cells)) inside (columns_in l inside cells)
      stand_apart.1 written.formed.1 (columns_fit l inside cells written.formed written.fit) (rooms_inside l inside cells written.room.1)
