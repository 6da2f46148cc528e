-- Which uploads wait still: one list of them, which grows by those of which nothing is known.
use Rattle.std.proofs.Common.{◌≡◌, ◌⊎◌, inl, inr, ℕ, List, [], ◌∷◌, ◌++◌, refl, sym, ap, subst, ◌∙◌}
use Rattle.std.specs.List.{AllByRecursion}
use Rattle.table_types.specs.Uploads.{Upload, upload_text}
use Rattle.table_types.specs.Valid.{IsUpload}
use Rattle.table_types.specs.Texts.{IsTextOf, IsUploadText}
use Rattle.table_types.specs.Tables.{Outcome, applied, mismatched, conflicting, unknown, outcome_of}
use Rattle.histories.specs.Due.{AreStillWaiting}

-- an encoding is that of one upload
abbrev pub OneEncoding : Type 0
OneEncoding = (x y : Upload) → IsUpload x → IsUpload y → upload_text x ≡ upload_text y → x ≡ y

-- it can't be known and unknown
both_ways : OneEncoding → (uploads : List Upload) (text : List ℕ) (x y : Upload) → IsTextOf text x → IsTextOf text y
    → outcome_of uploads x ≡ unknown → (outcome_of uploads y ≡ unknown → ⊥) → ⊥
both_ways one uploads text x y is-x is-y told known =
    known (subst (λ (u : Upload). outcome_of uploads u ≡ unknown) (one x y is-x.0 is-y.0 (is-x.1 ∙ sym is-y.1)) told)

pub still_one : OneEncoding → (uploads : List Upload) (texts a b : List (List ℕ)) → AreStillWaiting uploads texts a
    → AreStillWaiting uploads texts b → a ≡ b
still_one one uploads [] a b is-a is-b = is-a ∙ sym is-b
still_one one uploads (text ∷ texts) a b (inl (x, rest, is-x, told, at, more)) (inl (y, rest', is-y, told', at', more')) =
    at ∙ ap (λ (l : List (List ℕ)). text ∷ l) (still_one one uploads texts rest rest' more more') ∙ sym at'
still_one one uploads (text ∷ texts) a b (inl (x, rest, is-x, told, at, more)) (inr (y, is-y, known, more')) =
    absurd (both_ways one uploads text x y is-x is-y told known)
still_one one uploads (text ∷ texts) a b (inr (x, is-x, known, more)) (inl (y, rest, is-y, told, at, more')) =
    absurd (both_ways one uploads text y x is-y is-x told known)
still_one one uploads (text ∷ texts) a b (inr (x, is-x, known, more)) (inr (y, is-y, known', more')) =
    still_one one uploads texts a b more more'

pub still_still : (uploads : List Upload) (texts left : List (List ℕ)) → AreStillWaiting uploads texts left
    → AreStillWaiting uploads left left
still_still uploads [] left is = subst (λ (l : List (List ℕ)). AreStillWaiting uploads l l) (sym is) refl
still_still uploads (text ∷ texts) left (inl (x, rest, is-x, told, at, more)) =
    subst (λ (l : List (List ℕ)). AreStillWaiting uploads l l) (sym at)
    (inl (x, rest, is-x, told, refl, still_still uploads texts rest more))
still_still uploads (text ∷ texts) left (inr (x, is-x, known, more)) = still_still uploads texts left more

pub still_behind : (uploads : List Upload) (texts left : List (List ℕ)) (text : List ℕ) (upload : Upload) → IsTextOf text upload
    → outcome_of uploads upload ≡ unknown → AreStillWaiting uploads texts left
    → AreStillWaiting uploads (texts ++ text ∷ []) (left ++ text ∷ [])
still_behind uploads [] left text upload is told none =
    subst (λ (l : List (List ℕ)). AreStillWaiting uploads (text ∷ []) (l ++ text ∷ [])) (sym none)
    (inl (upload, [], is, told, refl, refl))
still_behind uploads (t ∷ texts) left text upload is told (inl (x, rest, is-x, told', at, more)) =
    inl (x, rest ++ text ∷ [], is-x, told', ap (λ (l : List (List ℕ)). l ++ text ∷ []) at, still_behind uploads texts rest text upload is told more)
still_behind uploads (t ∷ texts) left text upload is told (inr (x, is-x, known, more)) =
    inr (x, is-x, known, still_behind uploads texts left text upload is told more)

told_or_not : (o : Outcome) → (o ≡ unknown) ⊎ (o ≡ unknown → ⊥)
told_or_not (applied n) = inr (λ e. cc)
told_or_not mismatched = inr (λ e. cc)
told_or_not conflicting = inr (λ e. cc)
told_or_not unknown = inl refl

pub some_still : (uploads : List Upload) (texts : List (List ℕ)) → AllByRecursion IsUploadText texts
    → (left : List (List ℕ)) × AreStillWaiting uploads texts left
some_still uploads [] are = ([], refl)
some_still uploads (text ∷ texts) are =
    let rest = some_still uploads texts are.1 in
    elim (told_or_not (outcome_of uploads are.0.0)) as (λ _. (left : List (List ℕ)) × AreStillWaiting uploads (text ∷ texts) left) [
      | inl told ↦ (text ∷ rest.0, inl (are.0.0, rest.0, are.0.1, told, refl, rest.1))
      | inr known ↦ (rest.0, inr (are.0.0, are.0.1, known, rest.1))
    ]

pub uploads_wait : (uploads : List Upload) (texts left : List (List ℕ)) → AreStillWaiting uploads texts left
    → AllByRecursion IsUploadText texts
uploads_wait uploads [] left is = tt
uploads_wait uploads (text ∷ texts) left (inl (x, rest, is-x, told, at, more)) = ((x, is-x), uploads_wait uploads texts rest more)
uploads_wait uploads (text ∷ texts) left (inr (x, is-x, known, more)) = ((x, is-x), uploads_wait uploads texts left more)
