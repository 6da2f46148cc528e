-- The packed form of a list of bits: Apache Arrow, "Arrow Columnar Format", "Validity bitmaps".
use Rattle.std.specs.Prelude.{ℕ, ◌+◌, ◌*◌, ◌/◌, Bool, true, false, List, [], ◌∷◌, map, length, take, drop}
use Rattle.std.specs.List.{range_with_len}

-- the number whose binary digits these are, the lowest first
abbrev pub number_of : List Bool → ℕ
number_of [] = 0
number_of (true ∷ bits) = 1 + 2 * number_of bits
number_of (false ∷ bits) = 2 * number_of bits

-- a byte for each eight bits, with zero bits behind the last one
abbrev pub packed_bytes : List Bool → List ℕ
packed_bytes bits = map (λ k. number_of (take 8 (drop (8 * k) bits))) (range_with_len 0 ((length bits + 7) / 8))
