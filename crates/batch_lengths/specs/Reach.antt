-- How far columns are read: Apache Arrow, "Arrow Columnar Format", "Physical memory layout".
use Rattle.std.specs.Prelude.{ℕ, ◌+◌, ◌*◌, ◌^◌, ◌<◌, ◌≤◌, List, [], ◌∷◌, length}
use Rattle.batch_types.specs.Layouts.{Layout, null_layout, bits_layout, bytes_layout, binary_layout, utf8_layout}
use Rattle.batch_types.specs.Layouts.{list_layout, fixed_size_list_layout, struct_layout}
use Rattle.batch_types.specs.Placed.{start_of}
use Rattle.batch_types.specs.LaysOut.{values_limit}
use Rattle.batch_columns.specs.Held.{layout_named}
use Rattle.batch_columns.specs.declared.encoded_column.EncodedColumn.{EncodedColumn}
use Rattle.batch_reading.specs.Spots.{Spot}

-- where inside a column the places end that belong to its values before this place
abbrev pub end_inside : Layout → List ℕ → ℕ → ℕ
end_inside null_layout offsets end = 0
end_inside bits_layout offsets end = 0
end_inside (bytes_layout size) offsets end = 0
end_inside (binary_layout offset) offsets end = 0
end_inside (utf8_layout offset) offsets end = 0
end_inside (list_layout offset) offsets end = start_of 4 offsets end
end_inside (fixed_size_list_layout size) offsets end = size * end
end_inside struct_layout offsets end = end

-- the offsets of the values before this place are there and do not fall
pub record DoReach (offsets : List ℕ) (end : ℕ) : Type 0 where
  pub long : 0 < end → 4 * end + 4 ≤ length offsets
  pub rises : (j : ℕ) → j < end → start_of 4 offsets j ≤ start_of 4 offsets (j + 1)
  pub ends : start_of 4 offsets end < 2 ^ 64

abbrev pub Reaches : Layout → List ℕ → ℕ → Type 0
Reaches null_layout offsets end = Unit {0}
Reaches bits_layout offsets end = Unit {0}
Reaches (bytes_layout size) offsets end = Unit {0}
Reaches (binary_layout offset) offsets end = DoReach offsets end
Reaches (utf8_layout offset) offsets end = DoReach offsets end
Reaches (list_layout offset) offsets end = DoReach offsets end
Reaches (fixed_size_list_layout size) offsets end = size * end < 2 ^ 64
Reaches struct_layout offsets end = Unit {0}

-- the values before this place can be read
pub record ReadsTo (source : EncodedColumn) (end : ℕ) : Type 0 where
  pub few : end ≤ values_limit
  pub reaches : Reaches (layout_named source.layout) source.offsets.now end

-- each place stands behind the one before, the first not before this one and the last before the other
abbrev pub Between : ℕ → ℕ → List Spot → Type 0
Between from end [] = from ≤ end
Between from end (spot ∷ rest) = (from ≤ spot.0) × Between (spot.0 + 1) end rest
