-- Bits packed into bytes: Apache Arrow, "Arrow Columnar Format", "Validity bitmaps".
use Rattle.std.specs.Prelude.{◌≡◌, ℕ, ◌+◌, ◌/◌, ◌≤◌, Bool, false, List, length, get_or}
use Rattle.bitmaps.specs.Bits.{bit_of}

-- these bytes hold these bits, as few bytes as will do, and zero bits behind the last one
pub record IsPacked (bits : List Bool) (bytes : List ℕ) : Type 0 where
  pub enough : length bytes ≡ (length bits + 7) / 8
  pub held : (j : ℕ) → bit_of bytes j ≡ get_or bits j false

-- what a bitmap keeps: so many bits, and none behind them
pub record IsKept (bytes : List ℕ) (count : ℕ) : Type 0 where
  pub enough : length bytes ≡ (count + 7) / 8
  pub clear : (j : ℕ) → count ≤ j → bit_of bytes j ≡ false
