-- Lists of bits are equal exactly where what is kept of them is.
use Rattle.std.proofs.Common.{◌≡◌, refl, sym, ap, ◌∙◌, subst, ℕ, ◌<◌, ◌==◌, ◌&&◌, Bool, true, false, List, get_or, length}
use Rattle.std.specs.Bool.{one_answer}
use Rattle.std.specs.Cmp.{booleans_Decides, unsigned_Decides}
use Rattle.std.specs.Cmp.Lexicographic.{pointwise}
use Rattle.std.proofs.Math.Bool.{beq}
use Rattle.std.proofs.lemmas.Bool.Decides.{Decides-and, Decides-like}
use Rattle.std.proofs.lemmas.Slice.Eq.{slice_eq-Decides}
use Rattle.bitmaps.specs.Bits.{bits_of}
use Rattle.bitmaps.specs.Packed.{IsPacked, IsKept}
use Rattle.bitmaps.proofs.Lists.{length_bits, packed}
use Rattle.bitmaps.proofs.PackedForms.{one_form}

pub same_kept : (x y : List ℕ) (m n : ℕ) → ((k : ℕ) → get_or x k 0 < 256) → ((k : ℕ) → get_or y k 0 < 256)
    → IsKept x m → IsKept y n → (pointwise (◌==◌) x y && m == n) ≡ pointwise beq (bits_of x 0 m) (bits_of y 0 n)
same_kept x y m n small little kx ky =
    one_answer (pointwise (◌==◌) x y && m == n) (pointwise beq (bits_of x 0 m) (bits_of y 0 n))
    (Decides-like (pointwise (◌==◌) x y && m == n) there back
    (Decides-and (pointwise (◌==◌) x y) (m == n)
    (slice_eq-Decides unsigned_Decides x y (pointwise (◌==◌) x y) refl) (unsigned_Decides m n)))
    (slice_eq-Decides booleans_Decides (bits_of x 0 m) (bits_of y 0 n) (pointwise beq (bits_of x 0 m) (bits_of y 0 n)) refl)
  where
    there : (x ≡ y) × (m ≡ n) → bits_of x 0 m ≡ bits_of y 0 n
    there same = ap (λ bytes. bits_of bytes 0 m) same.0 ∙ ap (bits_of y 0) same.1

    back : bits_of x 0 m ≡ bits_of y 0 n → (x ≡ y) × (m ≡ n)
    back same =
        let lengths : m ≡ n = sym (length_bits x 0 m) ∙ ap length same ∙ length_bits y 0 n in (
          one_form (bits_of x 0 m) x y small little (packed x m kx)
              (subst (λ bits. IsPacked bits y) (sym same) (packed y n ky)),
          lengths,
        )

-- the same where the bytes were found equal, or not
module _ (x y : List ℕ) (m n : ℕ) (small : (k : ℕ) → get_or x k 0 < 256) (little : (k : ℕ) → get_or y k 0 < 256)
    (kx : IsKept x m) (ky : IsKept y n) (same : Bool) (are : same ≡ pointwise (◌==◌) x y) where
  pub same_then : same ≡ true → (m == n) ≡ pointwise beq (bits_of x 0 m) (bits_of y 0 n)
  same_then is = ap (λ test. test && m == n) (sym is ∙ are) ∙ same_kept x y m n small little kx ky

  pub same_else : same ≡ false → same ≡ pointwise beq (bits_of x 0 m) (bits_of y 0 n)
  same_else is = is ∙ ap (λ test. test && m == n) (sym is ∙ are) ∙ same_kept x y m n small little kx ky
