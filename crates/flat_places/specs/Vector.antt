-- Vectors and strings: FlatBuffers, "FlatBuffer Internals", "Strings and Vectors".
use Rattle.std.specs.Prelude.{◌≡◌, ℕ, ◌+◌, ◌*◌, List, length, IsUtf8}
use Rattle.flat_places.specs.Held.{Holds}
use Rattle.flat_places.specs.Number.{ShowsUint}

-- at the place stands a number of four bytes, the count, and then that many elements of so many bytes each
pub record ShowsVector (text : List ℕ) (place size first count : ℕ) : Type 0 where
  pub shown : ShowsUint text place 4 count
  pub follows : first ≡ place + 4
  pub elements : List ℕ
  pub held : Holds text first elements
  pub whole : length elements ≡ count * size

-- a string is a vector of bytes, in UTF-8. The zero byte behind it is no part of what is shown
pub record ShowsText (text : List ℕ) (place : ℕ) (bytes : List ℕ) : Type 0 where
  pub shown : ShowsUint text place 4 (length bytes)
  pub held : Holds text (place + 4) bytes
  pub utf8 : IsUtf8 bytes
