-- Two lists of bits, bit by bit.
use Rattle.std.specs.Prelude.{◌&&◌, Bool, not, if◌then◌else◌, List, map}
use Rattle.std.specs.List.{zip}

-- the bits that are set in both
abbrev pub set_in_both : List Bool → List Bool → List Bool
set_in_both xs ys = map (λ bits. bits.0 && bits.1) (zip xs ys)

-- the bits that are set in one of them alone
abbrev pub set_in_one : List Bool → List Bool → List Bool
set_in_one xs ys = map (λ bits. if bits.0 then not bits.1 else bits.1) (zip xs ys)
