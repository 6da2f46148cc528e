-- Values of one size of which some are not taken: Apache Arrow, "Arrow Columnar Format", "Fixed-size primitive layout".
use Rattle.std.specs.Prelude.{ℕ, ◌+◌, ◌*◌, Bool, if◌then◌else◌, List, [], ◌∷◌, ◌++◌, take, drop, replicate}

-- with zero bytes in place of the value of this number
abbrev pub without_block : ℕ → ℕ → List ℕ → List ℕ
without_block size number blocks = take (size * number) blocks ++ (replicate size 0 ++ drop (size * number + size) blocks)

-- with zero bytes in place of the values that are not marked
abbrev pub cleared : ℕ → List Bool → List ℕ → List ℕ
cleared size [] blocks = blocks
cleared size (mark ∷ marks) blocks =
    (if mark then take size blocks else replicate size 0) ++ cleared size marks (drop size blocks)
