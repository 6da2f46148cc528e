-- What a file begins with, read in two parts.
use Rattle.std.proofs.Common.{◌≡◌, ℕ, ◌+◌, ◌≤◌, List, take, drop, sym, ap, ◌∙◌, arith}
use Rattle.std.proofs.lemmas.List.{take-take, drop-take}

-- the first bytes of the beginning are the file's
pub first_read : (file : List ℕ) (size count : ℕ) → count ≤ size → take count file ≡ take count (take size file)
first_read file size count le = sym (take-take count size file le)

-- and so are the last ones
pub last_read : (file : List ℕ) (size count from : ℕ) → from + count ≡ size
    → take count (drop from file) ≡ take count (drop from (take size file))
last_read file size count from is =
    let le : count ≤ count = omega arith in
    sym (take-take count count (drop from file) le)
    ∙ ap (take count) (sym (drop-take from count file))
    ∙ ap (λ (n : ℕ). take count (drop from (take n file))) is
