-- Buffers placed one behind the other in a body.
use Rattle.std.proofs.Common.{◌≡◌, refl, sym, ap, ◌∙◌, subst, ℕ, zero, suc, ◌+◌, ◌-◌, ◌%◌, ◌<◌, nat_abs, List, [], ◌∷◌, ◌++◌, length, get_or, take, replicate, arith, append_assoc, length-append}
use Rattle.std.proofs.lemmas.Int.{ints}
use Rattle.std.proofs.Math.Seq.{take-append_seam, drop-append_seam}
use Rattle.batch_types.specs.Laid.{Range}
use Rattle.batch_types.specs.Placed.{bytes_at}
use Rattle.batch_types.specs.Rules.{IsInside}
use Rattle.batch_types.specs.Canonical.{padded, body_with, ranges_from}

length_zeros : (n : ℕ) → length {A = ℕ} (replicate n 0) ≡ n
length_zeros zero = refl
length_zeros (suc n) = ap suc (length_zeros n)

-- a buffer with the zero bytes behind it
abbrev pub filled : List ℕ → List ℕ
filled buffer = buffer ++ replicate (padded (length buffer) - length buffer) 0

pub length_filled : (buffer : List ℕ) → length (filled buffer) ≡ padded (length buffer)
length_filled buffer =
    let n : ℕ = length buffer in
    omega (arith, length-append buffer (replicate (padded (length buffer) - length buffer) 0), length_zeros (padded (length buffer) - length buffer))

-- behind a front, each buffer stands where its range says
pub placed : (front : List ℕ) (buffers : List (List ℕ)) (k : ℕ) (d : Range) → k < length buffers
    → bytes_at (front ++ body_with buffers) (get_or (ranges_from (length front) buffers) k d) ≡ get_or buffers k []
placed front [] k d within = absurd (omega arith)
placed front (b ∷ bs) zero d within =
    let rest : List ℕ = replicate (padded (length b) - length b) 0 ++ body_with bs in
    ap (take (length b)) (drop-append_seam front (filled b ++ body_with bs) ∙ append_assoc b (replicate (padded (length b) - length b) 0) (body_with bs))
    ∙ take-append_seam b (replicate (padded (length b) - length b) 0 ++ body_with bs)
placed front (b ∷ bs) (suc k) d within =
    let length_is : length (front ++ filled b) ≡ length front + padded (length b) = length-append front (filled b) ∙ ap (λ n. length front + n) (length_filled b) in
    ap (λ body. bytes_at body (get_or (ranges_from (length front + padded (length b)) bs) k d)) (sym (append_assoc front (filled b) (body_with bs)))
    ∙ ap (λ n. bytes_at ((front ++ filled b) ++ body_with bs) (get_or (ranges_from n bs) k d)) (sym length_is)
    ∙ placed (front ++ filled b) bs k d (omega arith)

-- from a multiple of eight on, each begins at one
pub aligned : (place : ℕ) (buffers : List (List ℕ)) (k : ℕ) (d : Range) → place % 8 ≡ 0 → k < length buffers
    → nat_abs (get_or (ranges_from place buffers) k d).0 % 8 ≡ 0
aligned place [] k d whole within = absurd (omega arith)
aligned place (b ∷ bs) zero d whole within = whole
aligned place (b ∷ bs) (suc k) d whole within = aligned (place + padded (length b)) bs k d (omega arith) (omega arith)

pub whole_body : (buffers : List (List ℕ)) → length (body_with buffers) % 8 ≡ 0
whole_body [] = refl
whole_body (b ∷ bs) = omega (arith, length-append (filled b) (body_with bs), length_filled b, whole_body bs)

-- and lies in the body
pub inside : (place : ℕ) (buffers : List (List ℕ)) (k : ℕ) (d : Range) → k < length buffers
    → IsInside (place + length (body_with buffers)) (get_or (ranges_from place buffers) k d)
inside place [] k d within = absurd (omega arith)
inside place (b ∷ bs) zero d within = record {
  begins = omega (arith, ints);
  counted = omega (arith, ints);
  ends = omega (arith, ints, length-append (filled b) (body_with bs), length_filled b);
}
inside place (b ∷ bs) (suc k) d within =
    let all : place + padded (length b) + length (body_with bs) ≡ place + length (body_with (b ∷ bs)) = omega (arith, length-append (filled b) (body_with bs), length_filled b) in
    subst (λ n. IsInside n (get_or (ranges_from (place + padded (length b)) bs) k d)) all (inside (place + padded (length b)) bs k d (omega arith))
