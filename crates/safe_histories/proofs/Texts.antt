-- Uploads by their encodings: a list of texts is that of one list of uploads.
use Rattle.std.proofs.Common.{◌≡◌, ℕ, ◌⊎◌, inl, inr, List, [], ◌∷◌, ◌++◌, sym, ap, ap₂, subst, ◌∙◌}
use Rattle.table_types.specs.Uploads.{Upload, upload_text}
use Rattle.table_types.specs.Valid.{IsUpload}
use Rattle.histories.specs.Texts.{IsTextOf, AreUploadsOf}
use Rattle.safe_histories.proofs.Lists.{In, Begins}

abbrev pub OneEncoding : Type 0
OneEncoding = (x y : Upload) → IsUpload x → IsUpload y → upload_text x ≡ upload_text y → x ≡ y

one_of_texts : (text : List ℕ) (texts : List (List ℕ)) (first upload : Upload) (rest : List Upload) → IsTextOf text first
    → (In rest upload → IsUpload upload × In texts (upload_text upload)) → (first ≡ upload) ⊎ In rest upload
    → IsUpload upload × In (text ∷ texts) (upload_text upload)
one_of_texts text texts first upload rest is more (inl same) = (subst IsUpload same is.0, inl (sym is.1 ∙ ap upload_text same))
one_of_texts text texts first upload rest is more (inr later) =
    let there = more later in
    (there.0, inr there.1)

-- each upload is one that is taken, and its encoding is among the texts
pub are_of_texts : (texts : List (List ℕ)) (uploads : List Upload) (upload : Upload) → AreUploadsOf texts uploads → In uploads upload
    → IsUpload upload × In texts (upload_text upload)
are_of_texts [] uploads upload are there = absurd (rw are at there)
are_of_texts (text ∷ texts) uploads upload (inl (first, rest, is, parts, are)) there =
    one_of_texts text texts first upload rest is (are_of_texts texts rest upload are) (rw parts at there)
are_of_texts (text ∷ texts) uploads upload (inr (none, are)) there =
    let more = are_of_texts texts uploads upload are there in
    (more.0, inr more.1)

module _ (one : OneEncoding) where
  pub one_text : (text : List ℕ) (x y : Upload) → IsTextOf text x → IsTextOf text y → x ≡ y
  one_text text x y is other = one x y is.0 other.0 (is.1 ∙ sym other.1)

  pub one_list : (texts : List (List ℕ)) (xs ys : List Upload) → AreUploadsOf texts xs → AreUploadsOf texts ys → xs ≡ ys
  one_list [] xs ys are other = are ∙ sym other
  one_list (text ∷ texts) xs ys (inl (x, rest, is, parts, are)) (inl (y, more, also, others, too)) =
      parts ∙ ap₂ (λ u l. u ∷ l) (one_text text x y is also) (one_list texts rest more are too) ∙ sym others
  one_list (text ∷ texts) xs ys (inl (x, rest, is, parts, are)) (inr (none, too)) = absurd (none (x, is))
  one_list (text ∷ texts) xs ys (inr (none, are)) (inl (y, more, also, others, too)) = absurd (none (y, also))
  one_list (text ∷ texts) xs ys (inr (none, are)) (inr (nor, too)) = one_list texts xs ys are too

  begins_more : (x y : Upload) (xs ys rest more : List Upload) → x ≡ y → xs ≡ x ∷ rest → ys ≡ y ∷ more → Begins rest more → Begins xs ys
  begins_more x y xs ys rest more same parts others begins =
      (begins.0, others ∙ ap₂ (λ u l. u ∷ l) (sym same) begins.1 ∙ ap (λ l. l ++ begins.0) (sym parts))

  pub uploads_begin : (texts later : List (List ℕ)) (xs ys : List Upload) → AreUploadsOf texts xs → AreUploadsOf (texts ++ later) ys → Begins xs ys
  uploads_begin [] later xs ys are other = (ys, ap (λ l. l ++ ys) (sym are))
  uploads_begin (text ∷ texts) later xs ys (inl (x, rest, is, parts, are)) (inl (y, more, also, others, too)) =
      begins_more x y xs ys rest more (one_text text x y is also) parts others (uploads_begin texts later rest more are too)
  uploads_begin (text ∷ texts) later xs ys (inl (x, rest, is, parts, are)) (inr (none, too)) = absurd (none (x, is))
  uploads_begin (text ∷ texts) later xs ys (inr (none, are)) (inl (y, more, also, others, too)) = absurd (none (y, also))
  uploads_begin (text ∷ texts) later xs ys (inr (none, are)) (inr (nor, too)) = uploads_begin texts later xs ys are too
