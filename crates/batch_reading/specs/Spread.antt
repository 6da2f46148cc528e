-- Offsets of four bytes that say where values stand: Apache Arrow, "Arrow Columnar Format", "Variable-size binary
-- layout" and "Variable-size list layout".
use Rattle.std.specs.Prelude.{◌≡◌, ◌⊎◌, ℕ, ◌+◌, ◌*◌, ◌^◌, ◌<◌, ◌≤◌, List, length}
use Rattle.batch_types.specs.Layouts.{Layout, null_layout, bits_layout, bytes_layout, binary_layout, utf8_layout}
use Rattle.batch_types.specs.Layouts.{list_layout, fixed_size_list_layout, struct_layout}
use Rattle.batch_types.specs.LaysOut.{values_limit}
use Rattle.byteorder.specs.Endian.{little_bytes}
use Rattle.batch_types.specs.Placed.{bytes_from, start_of}

-- the values below this place stand one behind the other within so many bytes or elements, and no offset is below zero
pub record HasSpans (offsets : List ℕ) (limit total : ℕ) : Type 0 where
  pub long : (j : ℕ) → j < limit → 4 * (j + 1) + 4 ≤ length offsets
  pub rises : (j : ℕ) → j < limit → start_of 4 offsets j ≤ start_of 4 offsets (j + 1)
  pub ends : (j : ℕ) → j < limit → start_of 4 offsets (j + 1) ≤ total
  pub few : (j : ℕ) → j < limit → start_of 4 offsets (j + 1) < 2 ^ 31
  pub written : (j : ℕ) → 0 < limit → j ≤ limit → little_bytes 4 (start_of 4 offsets j) ≡ bytes_from offsets (4 * j) 4

-- the layouts of bytes of any number
abbrev pub IsSpread : Layout → Type 0
IsSpread layout = (layout ≡ binary_layout 4) ⊎ (layout ≡ utf8_layout 4)

-- The values below this place stand where these offsets and values have them, and what is inside them among so many
-- values, which are not too many.
abbrev pub ReadsWithin : Layout → ℕ → ℕ → List ℕ → List ℕ → Type 0
ReadsWithin null_layout limit total offsets values = Unit {0}
ReadsWithin bits_layout limit total offsets values = Unit {0}
ReadsWithin (bytes_layout size) limit total offsets values = size * limit ≤ length values
ReadsWithin (binary_layout offset) limit total offsets values = HasSpans offsets limit (length values)
ReadsWithin (utf8_layout offset) limit total offsets values = HasSpans offsets limit (length values)
ReadsWithin (list_layout offset) limit total offsets values = HasSpans offsets limit total × (total ≤ values_limit)
ReadsWithin (fixed_size_list_layout size) limit total offsets values = size * limit ≤ values_limit
ReadsWithin struct_layout limit total offsets values = Unit {0}
