-- Texts as uploads: of lists end to end, one list, all of them taken, and no more than texts.
use Rattle.std.proofs.Common.{◌≡◌, refl, sym, ap, ap₂, subst, ◌∙◌, ℕ, ◌⊎◌, inl, inr, ◌≤◌, List, [], ◌∷◌, ◌++◌, length, arith}
use Rattle.std.specs.List.{AllByRecursion}
use Rattle.table_types.specs.Uploads.{Upload, upload_text}
use Rattle.table_types.specs.Valid.{IsUpload}
use Rattle.table_types.specs.Texts.{IsTextOf, IsUploadText, AreUploadsOf}
use Rattle.table_types.proofs.Bounds.{present_long}
use Rattle.table_types.proofs.OneEncoding.{whole}

pub no_bytes : IsUploadText [] → ⊥
no_bytes (u, is) = omega (arith, whole u is.0.short, present_long 1 u.table, is.0.table_named.some, ap length is.1)

pub uploads_both : (xs ys : List (List ℕ)) (us vs : List Upload) → AreUploadsOf xs us → AreUploadsOf ys vs → AreUploadsOf (xs ++ ys) (us ++ vs)
uploads_both [] ys us vs first second = subst (λ l. AreUploadsOf ys (l ++ vs)) (sym first) second
uploads_both (x ∷ xs) ys us vs (inl (u, rest, is, parts, are)) second =
    inl (u, rest ++ vs, is, ap (λ l. l ++ vs) parts, uploads_both xs ys rest vs are second)
uploads_both (x ∷ xs) ys us vs (inr (none, are)) second = inr (none, uploads_both xs ys us vs are second)

pub are_valid : (xs : List (List ℕ)) (us : List Upload) → AreUploadsOf xs us → AllByRecursion IsUpload us
are_valid [] us are = subst (AllByRecursion IsUpload) (sym are) tt
are_valid (x ∷ xs) us (inl (u, rest, is, parts, are)) =
    subst (AllByRecursion IsUpload) (sym parts) (is.0, are_valid xs rest are)
are_valid (x ∷ xs) us (inr (none, are)) = are_valid xs us are

pub are_few : (xs : List (List ℕ)) (us : List Upload) → AreUploadsOf xs us → length us ≤ length xs
are_few [] us are = omega (arith, ap length are)
are_few (x ∷ xs) us (inl (u, rest, is, parts, are)) = omega (arith, ap length parts, are_few xs rest are)
are_few (x ∷ xs) us (inr (none, are)) = omega (arith, are_few xs us are)

module _ (one : (x y : Upload) → IsUpload x → IsUpload y → upload_text x ≡ upload_text y → x ≡ y) where
  one_text : (text : List ℕ) (x y : Upload) → IsTextOf text x → IsTextOf text y → x ≡ y
  one_text text x y is other = one x y is.0 other.0 (is.1 ∙ sym other.1)

  pub are_one : (texts : List (List ℕ)) (xs ys : List Upload) → AreUploadsOf texts xs → AreUploadsOf texts ys → xs ≡ ys
  are_one [] xs ys are other = are ∙ sym other
  are_one (text ∷ texts) xs ys (inl (x, rest, is, parts, are)) (inl (y, more, also, others, too)) =
      parts ∙ ap₂ (λ u l. u ∷ l) (one_text text x y is also) (are_one texts rest more are too) ∙ sym others
  are_one (text ∷ texts) xs ys (inl (x, rest, is, parts, are)) (inr (none, too)) = absurd (none (x, is))
  are_one (text ∷ texts) xs ys (inr (none, are)) (inl (y, more, also, others, too)) = absurd (none (y, also))
  are_one (text ∷ texts) xs ys (inr (none, are)) (inr (nor, too)) = are_one texts xs ys are too
