-- What is taken of a column's buffers at the selected places: Apache Arrow, "Arrow Columnar Format", "Physical memory
-- layout".
use Rattle.std.specs.Prelude.{ℕ, ◌*◌, ◌==◌, ◌||◌, ◌&&◌, Bool, not, if◌then◌else◌, List, [], length, replicate}
use Rattle.bitmaps.specs.Bits.{bit_of}
use Rattle.batch_types.specs.Placed.{bytes_from, value_bytes}
use Rattle.batch_reading.specs.Spots.{Spot}

-- "Validity bitmaps": all are valid where there is no bitmap
abbrev pub valid_in : List ℕ → ℕ → Bool
valid_in validity j = (length validity == 0) || bit_of validity j

-- the cell that is built is not null; a blank one is not
abbrev pub is_shown : List ℕ → Spot → Bool
is_shown validity spot = not spot.1 || valid_in validity spot.0

-- the place, and whether its value is taken
abbrev pub seen : List ℕ → Spot → Spot
seen validity spot = (spot.0, spot.1 && valid_in validity spot.0)

-- the bit there, or this one where it is not taken
abbrev pub bit_taken : List ℕ → Bool → Spot → Bool
bit_taken bytes other spot = if spot.1 then bit_of bytes spot.0 else other

-- the bytes there, of so many for each value, or zero bytes
abbrev pub block_taken : ℕ → List ℕ → Spot → List ℕ
block_taken size bytes spot = if spot.1 then bytes_from bytes (size * spot.0) size else replicate size 0

-- the bytes there by their offsets, or none
abbrev pub span_taken : List ℕ → List ℕ → Spot → List ℕ
span_taken offsets bytes spot = if spot.1 then value_bytes 4 offsets bytes spot.0 else []
