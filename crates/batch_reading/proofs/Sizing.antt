-- Blocks of bytes, so many bytes each.
use Rattle.std.proofs.Common.{◌≡◌, ap, ◌∙◌, ℕ, zero, suc, ◌+◌, ◌*◌, ◌<◌, ◌≤◌, List, ◌++◌, take, drop, arith, mul-le-mul_left}
use Rattle.std.proofs.lemmas.List.{drop-drop}
use Rattle.std.specs.List.{range_with_len, flat_map}
use native.Mathlib.Nat.{mul-suc}
use Rattle.std.proofs.Math.Seq.{take-add}
use Rattle.batch_types.specs.Placed.{bytes_from}

-- the blocks of following places stand one behind the other
pub run_blocks_are : (bytes : List ℕ) (size start count : ℕ)
    → bytes_from bytes (size * start) (size * count) ≡ flat_map (λ place. bytes_from bytes (size * place) size) (range_with_len start count)
run_blocks_are bytes size start zero =
    let none : size * 0 ≡ 0 = omega arith in ap (λ n. take n (drop (size * start) bytes)) none
run_blocks_are bytes size start (suc count) =
    let whole : size * suc count ≡ size + size * count = omega (arith, mul-suc size count) in
    let one : start + 1 ≡ suc start = omega arith in
    let next : size * start + size ≡ size * (start + 1) = omega (arith, mul-suc size start, ap (λ k. size * k) one) in
    ap (λ n. take n (drop (size * start) bytes)) whole ∙ take-add size (size * count) (drop (size * start) bytes)
    ∙ ap (λ rest. bytes_from bytes (size * start) size ++ take (size * count) rest)
    (drop-drop size (size * start) bytes ∙ ap (λ k. drop k bytes) next)
    ∙ ap (λ rest. bytes_from bytes (size * start) size ++ rest) (run_blocks_are bytes size (start + 1) count)

-- a block lies within those of all places
pub block_within : (size place limit bytes : ℕ) → place < limit → size * limit ≤ bytes → size * place + size ≤ bytes
block_within size place limit bytes below fits =
    let up : size * suc place ≤ size * limit = mul-le-mul_left size (omega (arith, below)) in
    omega (arith, up, mul-suc size place, fits)

-- and so those of a run
pub run_within : (size end limit bytes : ℕ) → end ≤ limit → size * limit ≤ bytes → size * end ≤ bytes
run_within size end limit bytes below fits =
    let up : size * end ≤ size * limit = mul-le-mul_left size below in
    omega (arith, up, fits)
