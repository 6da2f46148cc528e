-- Bytes at a place of a text. A place is how many bytes stand before it, and offsets are added to it: FlatBuffers,
-- "FlatBuffer Internals", "Offsets". Behind the end of a text nothing is held.
use Rattle.std.specs.Prelude.{◌≡◌, ℕ, List, ◌++◌, length}

-- at the place the text holds these bytes
pub record Holds (text : List ℕ) (place : ℕ) (bytes : List ℕ) : Type 0 where
  pub before : List ℕ
  pub after : List ℕ
  pub parts : text ≡ before ++ bytes ++ after
  pub stands : length before ≡ place
