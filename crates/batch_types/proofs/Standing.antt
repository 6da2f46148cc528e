-- Buffers that stand in a body from one place on, each at the next multiple of eight.
use Rattle.std.proofs.Common.{◌≡◌, refl, ap, ap₂, ◌∙◌, subst, ℕ, zero, suc, ◌+◌, ◌<◌, ◌≤◌, pos, List, [], ◌∷◌, ◌++◌, length, get_or, map, arith, append_assoc, length-append}
use Rattle.batch_types.specs.Placed.{bytes_from, bytes_at}
use Rattle.batch_types.specs.Rules.{IsInside}
use Rattle.batch_types.specs.Canonical.{padded, body_with, ranges_from}
use Rattle.batch_types.proofs.Placing.{filled, length_filled, placed}
use Rattle.batch_types.proofs.WorkedBatches.{range_within}

-- the place behind them
abbrev pub end_of : ℕ → List (List ℕ) → ℕ
end_of place [] = place
end_of place (b ∷ bs) = end_of (place + padded (length b)) bs

-- each is there, and within the body
abbrev pub Stand : List ℕ → ℕ → List (List ℕ) → Type 0
Stand body place [] = Unit {0}
Stand body place (b ∷ bs) =
    (bytes_from body place (length b) ≡ b) × (place + length b ≤ length body) × Stand body (place + padded (length b)) bs

pub ranges_both : (place : ℕ) (xs ys : List (List ℕ)) → ranges_from place (xs ++ ys) ≡ ranges_from place xs ++ ranges_from (end_of place xs) ys
ranges_both place [] ys = refl
ranges_both place (x ∷ xs) ys = ap (λ l. (pos place, pos (length x)) ∷ l) (ranges_both (place + padded (length x)) xs ys)

pub stand_both : (body : List ℕ) (place : ℕ) (xs ys : List (List ℕ)) → Stand body place (xs ++ ys)
    → Stand body place xs × Stand body (end_of place xs) ys
stand_both body place [] ys stand = (tt, stand)
stand_both body place (x ∷ xs) ys stand =
    let rest = stand_both body (place + padded (length x)) xs ys stand.2 in
    ((stand.0, stand.1, rest.0), rest.1)

-- they are read where their ranges say
pub stand_read : (body : List ℕ) (place : ℕ) (bs : List (List ℕ)) → Stand body place bs → map (bytes_at body) (ranges_from place bs) ≡ bs
stand_read body place [] stand = refl
stand_read body place (b ∷ bs) stand = ap₂ (λ x xs. x ∷ xs) stand.0 (stand_read body (place + padded (length b)) bs stand.2)

pub stand_inside : (body : List ℕ) (place : ℕ) (bs : List (List ℕ)) → Stand body place bs → (n : ℕ) → n < length (ranges_from place bs)
    → IsInside (length body) (get_or (ranges_from place bs) n (pos 0, pos 0))
stand_inside body place [] stand n within = absurd (omega arith)
stand_inside body place (b ∷ bs) stand zero within = range_within (length body) place (length b) stand.1
stand_inside body place (b ∷ bs) stand (suc n) within = stand_inside body (place + padded (length b)) bs stand.2 n (omega arith)

-- those of a whole body
pub stand_whole : (front : List ℕ) (buffers : List (List ℕ)) → Stand (front ++ body_with buffers) (length front) buffers
stand_whole front [] = tt
stand_whole front (b ∷ bs) =
    let length_is : length (front ++ filled b) ≡ length front + padded (length b) = length-append front (filled b) ∙ ap (λ n. length front + n) (length_filled b) in
    let rest : Stand ((front ++ filled b) ++ body_with bs) (length front + padded (length b)) bs =
    subst (λ n. Stand ((front ++ filled b) ++ body_with bs) n bs) length_is (stand_whole (front ++ filled b) bs) in (
      placed front (b ∷ bs) zero (pos 0, pos 0) (omega arith),
      omega (arith, length-append front (filled b ++ body_with bs), length-append (filled b) (body_with bs), length_filled b),
      subst (λ body. Stand body (length front + padded (length b)) bs) (append_assoc front (filled b) (body_with bs)) rest,
    )
