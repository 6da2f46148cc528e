-- Numbers and references: FlatBuffers, "FlatBuffer Internals", "Format components" (scalars are little-endian) and
-- "Offsets".
use Rattle.std.specs.Prelude.{◌≡◌, ℕ, ℤ, ◌+◌, ◌^◌, ◌<◌, ◌⊎◌, List}
use Rattle.byteorder.specs.Endian.{little_bytes, twos_complement}
use Rattle.flat_places.specs.Held.{Holds}

-- the sizes of FlatBuffers' numbers, in bytes
abbrev pub IsNumberSize : ℕ → Type 0
IsNumberSize size = (size ≡ 1) ⊎ (size ≡ 2) ⊎ (size ≡ 4) ⊎ (size ≡ 8)

-- "Format components": at the place stands the number x, in so many bytes, the lowest first
pub record ShowsUint (text : List ℕ) (place size x : ℕ) : Type 0 where
  pub held : Holds text place (little_bytes size x)
  pub fits : x < 256 ^ size

-- "Format components": a signed number, in two's complement
pub record ShowsInt (text : List ℕ) (place size : ℕ) (z : ℤ) : Type 0 where
  pub bits : ℕ
  pub shown : ShowsUint text place size bits
  pub signed : z ≡ twos_complement size bits

-- "Offsets": at the place stands a reference to the target, a number of four bytes that is added to its own place
pub record ShowsReference (text : List ℕ) (place target : ℕ) : Type 0 where
  pub offset : ℕ
  pub shown : ShowsUint text place 4 offset
  pub added : target ≡ place + offset
