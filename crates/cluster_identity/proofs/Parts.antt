-- The two parts of what a file begins with.
use Rattle.std.proofs.Common.{◌≡◌, ℕ, ◌-◌, ◌≤◌, List, ◌++◌, length, take, drop, sym, ap, ◌∙◌, arith}
use Rattle.std.specs.Prelude.{min}
use Rattle.std.proofs.lemmas.List.{take-append-drop, take_all, take_min, length-take-le, length-drop}
use Rattle.cluster_identity.specs.Marks.{part_size, first_part, last_part}

-- as many of the first bytes are taken as there are at most
pub first_taken : (bytes : List ℕ) (size : ℕ) → length bytes ≡ size → take (min size 4096) bytes ≡ first_part bytes
first_taken bytes size is =
    let same : min size 4096 ≡ min 4096 (length bytes) = omega arith in
    ap (λ (n : ℕ). take n bytes) same ∙ take_min 4096 bytes

-- and from where the last part begins, no more stand
pub last_taken : (bytes : List ℕ) (size count from : ℕ) → length bytes ≡ size → count ≡ min size 4096 → from ≡ size - 4096
    → take count (drop from bytes) ≡ last_part bytes
last_taken bytes size count from is counted place =
    let same : from ≡ length bytes - 4096 = omega arith in
    let few : length (drop (length bytes - 4096) bytes) ≤ count = omega (arith, length-drop (length bytes - 4096) bytes) in
    ap (λ (n : ℕ). take count (drop n bytes)) same ∙ take_all count (last_part bytes) few

pub begins : (bytes : List ℕ) → (rest : List ℕ) × (bytes ≡ first_part bytes ++ rest)
begins bytes = (drop part_size bytes, sym (take-append-drop part_size bytes))

pub ends : (bytes : List ℕ) → (before : List ℕ) × (bytes ≡ before ++ last_part bytes)
ends bytes = (take (length bytes - part_size) bytes, sym (take-append-drop (length bytes - part_size) bytes))

pub few : (bytes : List ℕ) → length bytes ≤ 4096 → (first_part bytes ≡ bytes) × (last_part bytes ≡ bytes)
few bytes h =
    let none : length bytes - 4096 ≡ 0 = omega arith in
    (take_all 4096 bytes h, ap (λ (n : ℕ). drop n bytes) none)

pub many : (bytes : List ℕ) → 4096 ≤ length bytes → (length (first_part bytes) ≡ 4096) × (length (last_part bytes) ≡ 4096)
many bytes h = (length-take-le 4096 bytes h, omega (arith, length-drop (length bytes - 4096) bytes))
