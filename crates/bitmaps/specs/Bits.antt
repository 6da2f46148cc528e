-- Bits in bytes: Apache Arrow, "Arrow Columnar Format", "Validity bitmaps" (least-significant bit numbering).
use Rattle.std.specs.Prelude.{ℕ, ◌/◌, ◌%◌, ◌==◌, Bool, not, List, map, get_or}
use Rattle.std.specs.Int.{bit_at}
use Rattle.std.specs.List.{count_by, range_with_len}

-- Bit j is bit j mod 8 of byte j / 8, the lowest first. Behind the last byte no bit is set.
abbrev pub bit_of : List ℕ → ℕ → Bool
bit_of bytes j = bit_at (get_or bytes (j / 8) 0) (j % 8) == 1

-- so many bits, from this one on
abbrev pub bits_of : List ℕ → ℕ → ℕ → List Bool
bits_of bytes start count = map (bit_of bytes) (range_with_len start count)

-- how many bits are not set
abbrev pub zeros : List Bool → ℕ
zeros bits = count_by not bits
