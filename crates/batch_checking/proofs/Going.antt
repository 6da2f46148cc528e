-- From a column on to those inside it, and to the next.
use Rattle.std.proofs.Common.{◌≡◌, inl, inr, ap, subst, ℕ, suc, ◌*◌, ◌<◌, ◌≤◌, Bool, true, false, true≢false, nat_abs, List, [], ◌∷◌, arith, mul-le-mul_left}
use native.Mathlib.Nat.{mul-suc}
use Rattle.std.specs.List.{AllByRecursion, filter, flat_map}
use Rattle.header_types.specs.Fields.{DataType, null_type, int_type, floating_point_type, binary_type, utf8_type}
use Rattle.header_types.specs.Fields.{bool_type, decimal_type, date_type, time_type, timestamp_type, list_type}
use Rattle.header_types.specs.Fields.{struct_type, fixed_size_binary_type, fixed_size_list_type, duration_type}
use Rattle.header_types.specs.Fields.{Tree, tree, Forest, no_more, more, width}
use Rattle.header_types.specs.TypeIds.{AllowsChildren}
use Rattle.batch_types.specs.Layouts.{Layout, layout_of, null_layout, bits_layout, bytes_layout, binary_layout, utf8_layout}
use Rattle.batch_types.specs.Layouts.{list_layout, fixed_size_list_layout, struct_layout}
use Rattle.batch_types.specs.Laid.{Node, Range, laid, LaidColumns, no_column, column_then}
use Rattle.batch_types.specs.Placed.{is_valid, start_of, length_of}
use Rattle.batch_types.specs.Rules.{first_length, places_of, asked_inside}
use Rattle.batch_columns.specs.Held.{layout_named}
use Rattle.batch_columns.specs.declared.layout.Layout.{Layout as Declared}
use Rattle.batch_columns.specs.declared.layout.Layout.TheVariants.{Null, Bits, Bytes, Binary, Utf8, List as Lists, FixedSizeList, Struct}
use Rattle.batch_columns.specs.Sources.{column_from, columns_from}
use Rattle.batch_checking.specs.Around.{Holds}
use Rattle.batch_checking.specs.Columns.{Reaches, AllReach, LeadsInto}
use Rattle.batch_checking.proofs.Held.{held_below, below_held, flat_held, filter_held, range_held}
use Rattle.batch_checking.proofs.Spread.{value_ends}

-- ---- the places inside a column are among those of the columns inside it

abbrev Below : ℕ → List ℕ → Type 0
Below limit places = AllByRecursion (λ row. row < limit) places

fewer : (m n : ℕ) (xs : List ℕ) → m ≤ n → Below m xs → Below n xs
fewer m n [] up all = tt
fewer m n (x ∷ xs) up all = (omega (arith, all.0), fewer m n xs up all.1)

pub all_reach : (asked : ℕ) (cs : LaidColumns) (xs : List ℕ) → Below asked xs → AllReach asked cs xs
all_reach asked no_column xs all = tt
all_reach asked (column_then (laid l n r i) rest) xs all = (λ enough. fewer asked (nat_abs n.0) xs enough all, all_reach asked rest xs all)

nothing_reaches : (asked : ℕ) (cs : LaidColumns) (xs : List ℕ) → ((x : ℕ) → Holds xs x → ⊥) → AllReach asked cs xs
nothing_reaches asked no_column xs none = tt
nothing_reaches asked (column_then (laid l n r i) rest) xs none =
    (λ enough. held_below (nat_abs n.0) xs (λ x there. absurd (none x there)), nothing_reaches asked rest xs none)

one_reaches : (t : Tree) (nodes : List Node) (ranges : List Range) (rest : LaidColumns) (xs : List ℕ)
    → Below (first_length (column_then (column_from t nodes ranges) rest)) xs → Reaches 0 (column_from t nodes ranges) xs
one_reaches (tree field entries inside) nodes ranges rest xs all = λ enough. all

single : (f : Forest) (nodes : List Node) (ranges : List Range) (xs : List ℕ) → width f ≡ 1 → Below (first_length (columns_from f nodes ranges)) xs
    → AllReach 0 (columns_from f nodes ranges) xs
single no_more nodes ranges xs one all = absurd (omega (arith, one))
single (more t no_more) nodes ranges xs one all = (one_reaches t nodes ranges no_column xs all, tt)
single (more t (more u rest)) nodes ranges xs one all = absurd (omega (arith, one))

abbrev has_offsets : Layout → Bool
has_offsets null_layout = false
has_offsets bits_layout = false
has_offsets (bytes_layout size) = false
has_offsets (binary_layout offset) = false
has_offsets (utf8_layout offset) = false
has_offsets (list_layout offset) = true
has_offsets (fixed_size_list_layout size) = false
has_offsets struct_layout = false

one_inside : (d : DataType) (count : ℕ) → AllowsChildren d count → true ≡ has_offsets (layout_of d) → count ≡ 1
one_inside null_type count allows is = absurd (true≢false is)
one_inside (int_type width signed) count allows is = absurd (true≢false is)
one_inside (floating_point_type precision) count allows is = absurd (true≢false is)
one_inside binary_type count allows is = absurd (true≢false is)
one_inside utf8_type count allows is = absurd (true≢false is)
one_inside bool_type count allows is = absurd (true≢false is)
one_inside (decimal_type precision scale width) count allows is = absurd (true≢false is)
one_inside (date_type unit) count allows is = absurd (true≢false is)
one_inside (time_type unit) count allows is = absurd (true≢false is)
one_inside (timestamp_type unit timezone) count allows is = absurd (true≢false is)
one_inside list_type count allows is = allows
one_inside struct_type count allows is = absurd (true≢false is)
one_inside (fixed_size_binary_type byte_width) count allows is = absurd (true≢false is)
one_inside (fixed_size_list_type list_size) count allows is = absurd (true≢false is)
one_inside (duration_type unit) count allows is = absurd (true≢false is)

module _ (validity offsets : List ℕ) (count : ℕ) (places : List ℕ) (below : Below count places) where
  abbrev inside_at : Declared → List ℕ
  inside_at l = flat_map (places_of (layout_named l) offsets) (filter (is_valid (layout_named l) validity) places)

  -- each place inside stands in a value that is there
  stands_in : (l : Declared) (x : ℕ) → Holds (inside_at l) x → (row : ℕ) × (row < count) × Holds (places_of (layout_named l) offsets row) x
  stands_in l x held =
      let (row, there, stands) = flat_held (places_of (layout_named l) offsets) (filter (is_valid (layout_named l) validity) places) x held in
      let found = filter_held (is_valid (layout_named l) validity) places row there in
      (row, below_held count places row below found.0, stands)

  pub reach_inside : (l : Declared) (d : DataType) (f : Forest) (nodes : List Node) (ranges : List Range) → layout_named l ≡ layout_of d
      → AllowsChildren d (width f) → LeadsInto (layout_named l) count offsets (first_length (columns_from f nodes ranges))
      → AllReach (asked_inside (layout_named l) count) (columns_from f nodes ranges) (inside_at l)
  reach_inside Null d f nodes ranges is allows leads = nothing_reaches 0 (columns_from f nodes ranges) (inside_at Null) (λ x held. (stands_in Null x held).2)
  reach_inside Bits d f nodes ranges is allows leads = nothing_reaches 0 (columns_from f nodes ranges) (inside_at Bits) (λ x held. (stands_in Bits x held).2)
  reach_inside (Bytes size) d f nodes ranges is allows leads =
      nothing_reaches 0 (columns_from f nodes ranges) (inside_at (Bytes size)) (λ x held. (stands_in (Bytes size) x held).2)
  reach_inside Binary d f nodes ranges is allows leads = nothing_reaches 0 (columns_from f nodes ranges) (inside_at Binary) (λ x held. (stands_in Binary x held).2)
  reach_inside Utf8 d f nodes ranges is allows leads = nothing_reaches 0 (columns_from f nodes ranges) (inside_at Utf8) (λ x held. (stands_in Utf8 x held).2)
  reach_inside Lists d f nodes ranges is allows leads =
      single f nodes ranges (inside_at Lists) (one_inside d (width f) allows (lists is))
      (held_below (first_length (columns_from f nodes ranges)) (inside_at Lists) (λ x held. leads_within x (stands_in Lists x held)))
    where
      lists : layout_named Lists ≡ layout_of d → true ≡ has_offsets (layout_of d)
      lists same = ap has_offsets same

      leads_within : (x : ℕ) → (row : ℕ) × (row < count) × Holds (places_of (layout_named Lists) offsets row) x
          → x < first_length (columns_from f nodes ranges)
      leads_within x (row, there, stands) =
          let ends = value_ends offsets count (first_length (columns_from f nodes ranges)) row leads there in
          let within = range_held (start_of 4 offsets row) (length_of 4 offsets row) x stands in
          omega (arith, ends.0, ends.1, within.0, within.1)
  reach_inside (FixedSizeList size) d f nodes ranges is allows leads =
      all_reach (size * count) (columns_from f nodes ranges) (inside_at (FixedSizeList size))
      (held_below (size * count) (inside_at (FixedSizeList size)) (λ x held. within_block x (stands_in (FixedSizeList size) x held)))
    where
      within_block : (x : ℕ) → (row : ℕ) × (row < count) × Holds (places_of (layout_named (FixedSizeList size)) offsets row) x → x < size * count
      within_block x (row, there, stands) =
          let within = range_held (size * row) size x stands in
          let up : size * suc row ≤ size * count = mul-le-mul_left size (omega arith) in
          omega (arith, within.1, up, mul-suc size row)
  reach_inside Struct d f nodes ranges is allows leads =
      all_reach count (columns_from f nodes ranges) (inside_at Struct)
      (held_below count (inside_at Struct) (λ x held. same_row x (stands_in Struct x held)))
    where
      same_row : (x : ℕ) → (row : ℕ) × (row < count) × Holds (places_of (layout_named Struct) offsets row) x → x < count
      same_row x (row, there, inl is) = subst (λ k. k < count) is there
      same_row x (row, there, inr none) = absurd none
