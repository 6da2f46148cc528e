-- Bytes as uploads: nodes agree on bytes, and those that encode no upload that is taken count for nothing.
use Rattle.std.specs.Prelude.{◌≡◌, ◌⊎◌, ℕ, List, [], ◌∷◌}
use Rattle.table_types.specs.Uploads.{Upload, upload_text}
use Rattle.table_types.specs.Valid.{IsUpload}

-- the text is the encoding of this upload, which is one that is taken
abbrev pub IsTextOf : List ℕ → Upload → Type 0
IsTextOf text upload = IsUpload upload × (upload_text upload ≡ text)

-- some upload has this encoding
abbrev pub IsUploadText : List ℕ → Type 0
IsUploadText text = (upload : Upload) × IsTextOf text upload

-- the uploads that these texts encode, in their order; a text that encodes none is dropped
abbrev pub AreUploadsOf : List (List ℕ) → List Upload → Type 0
AreUploadsOf [] uploads = uploads ≡ []
AreUploadsOf (text ∷ texts) uploads =
    ((upload : Upload) × (rest : List Upload) × IsTextOf text upload × (uploads ≡ upload ∷ rest) × AreUploadsOf texts rest)
    ⊎ ((IsUploadText text → ⊥) × AreUploadsOf texts uploads)
