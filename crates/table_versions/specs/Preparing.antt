-- What is ready of values.
use Rattle.std.specs.Prelude.{◌≡◌, ◌≢◌, ℕ, Option, None, Some, List, [], ◌∷◌, ◌++◌}
use Rattle.std.specs.List.{AllZip}
use Rattle.ballots.specs.declared.value.Value.{Value}
use Rattle.ballots.specs.declared.value.Value.TheVariants as values
use Rattle.table_types.specs.Uploads.{Upload, upload_text}
use Rattle.table_types.specs.Valid.{IsUpload}
use Rattle.table_types.specs.Texts.{IsUploadText}
use Rattle.table_versions.specs.declared.prepared.Prepared.{Prepared}
use Rattle.table_versions.specs.Ledger.{IsPrepared}
use Rattle.table_versions.specs.Values.{AreUploadsIn}

-- the bytes are the upload's encoding, or they are that of none
abbrev pub IsUploadIn : List ℕ → Option (List ℕ) → Type 0
IsUploadIn bytes None = ¬ IsUploadText bytes
IsUploadIn bytes (Some text) = (text ≡ bytes) × IsUploadText text

-- the upload that the bytes are is ready, or they are none
abbrev pub PreparesBytes : List ℕ → Option Prepared → Type 0
PreparesBytes bytes None = (upload : Upload) → IsUpload upload → upload_text upload ≢ bytes
PreparesBytes bytes (Some prepared) =
    (upload : Upload) × IsUpload upload × (upload_text upload ≡ bytes) × IsPrepared prepared upload

-- what a value adds was put behind the others
pub record PushesValue (old new : List Prepared) (value : Value) : Type 0 where
  pub added : List Upload
  pub more : List Prepared
  pub adds : AreUploadsIn (value ∷ []) added
  pub ready : AllZip IsPrepared more added
  pub items : new ≡ old ++ more

abbrev pub PushesBytes : List Prepared → List Prepared → List ℕ → Type 0
PushesBytes old new bytes = PushesValue old new (values.Upload bytes)

-- the uploads of these values are ready
pub record AreReady (values : List Value) (items : List Prepared) : Type 0 where
  pub uploads : List Upload
  pub are : AreUploadsIn values uploads
  pub prepared : AllZip IsPrepared items uploads
