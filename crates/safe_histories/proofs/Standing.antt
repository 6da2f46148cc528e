-- Where an upload stands in an answer, whatever upload of it has its name stands there; and the version is by the rules of tables.
use Rattle.std.proofs.Common.{◌≡◌, ℕ, ◌-◌, ◌<◌, inl, inr, Bool, true, false, if◌then◌else◌, List, [], ◌∷◌, length, take, Some, None, slice_get, get_or, refl, sym, ap, ◌∙◌, arith}
use Rattle.std.specs.Prelude.{nat_le}
use Rattle.std.proofs.lemmas.Bool.{cases_lt, cases_eq}
use Rattle.std.proofs.lemmas.Option.{slice_get_within, get_or_from_slice_get}
use Rattle.table_types.specs.Uploads.{Upload}
use Rattle.table_types.specs.Valid.{IsUpload}
use Rattle.table_types.specs.Tables.{Version, first_of_all, version_of, effective, shape_text}
use Rattle.safe_histories.specs.Safe.{StandsIn}
use Rattle.safe_histories.proofs.Lists.{some_same, none_is_some, in_from_at, each_of_all, at_taken}
use Rattle.safe_histories.proofs.Versions.{version_is, in_version, at_version}

-- ---- an upload stands in an answer

module _ (table bytes : List ℕ) (count number : ℕ) (upload : Upload) (stands : StandsIn table bytes count number upload) where
  -- an upload of the version that has its name stands at its place
  pub named_is_placed : (place : ℕ) (one : Upload) → slice_get stands.version.uploads place ≡ Some one → one.id ≡ upload.id → place ≡ number - 1
  named_is_placed place one at named = elim (cases_eq place (number - 1)) as (λ _. place ≡ number - 1) [
    | inl same ↦ same
    | inr apart ↦ elim (cases_lt place (number - 1)) as (λ _. place ≡ number - 1) [
      | inl before ↦ absurd (stands.apart place (number - 1) one upload before at stands.placed named)
      | inr behind ↦ absurd (stands.apart (number - 1) place upload one (omega (arith, behind, apart)) stands.placed at (sym named))
    ]
  ]

  -- laws of tables
  module _ (of_table : (table : List ℕ) (uploads : List Upload) (i : ℕ) (none : Upload) → i < length (effective table uploads)
      → (get_or (effective table uploads) i none).table ≡ table)
      (of_shape : (table : List ℕ) (uploads : List Upload) (i : ℕ) (none : Upload) → i < length (effective table uploads)
      → shape_text (get_or (effective table uploads) i none) ≡ shape_text (get_or (effective table uploads) 0 none)) where
    abbrev counted : List Upload
    counted = effective table stands.uploads

    at_counted : (place : ℕ) (one : Upload) → slice_get stands.version.uploads place ≡ Some one → slice_get counted place ≡ Some one
    at_counted place one at = at_version count counted stands.version place one (version_is table count stands.uploads stands.version stands.by_rules) at

    to_table : (place : ℕ) (one : Upload) → slice_get stands.version.uploads place ≡ Some one → one.table ≡ table
    to_table place one at =
        let there = at_counted place one at in
        ap (λ (u : Upload). u.table) (sym (get_or_from_slice_get counted place one upload there))
        ∙ of_table table stands.uploads place upload (slice_get_within counted place one there)

    like_the_first : (place : ℕ) (one : Upload) → slice_get stands.version.uploads place ≡ Some one → shape_text one ≡ shape_text (get_or counted 0 upload)
    like_the_first place one at =
        let there = at_counted place one at in
        ap shape_text (sym (get_or_from_slice_get counted place one upload there))
        ∙ of_shape table stands.uploads place upload (slice_get_within counted place one there)

    pub are_alike : (place : ℕ) (one : Upload) → slice_get stands.version.uploads place ≡ Some one
        → IsUpload one × (one.table ≡ table) × (shape_text one ≡ shape_text upload)
    are_alike place one at = (
      each_of_all IsUpload stands.uploads one stands.valid
          (in_version table count stands.uploads stands.version one stands.by_rules (in_from_at stands.version.uploads place one at)),
      to_table place one at,
      like_the_first place one at ∙ sym (like_the_first (number - 1) upload stands.placed),
    )

-- ---- the schema of a version

schema_of : (number : ℕ) (x first : Upload) (rest : List Upload) (found : Version) (b : Bool) → nat_le number (length (x ∷ rest)) ≡ b
    → (if b then Some (record { schema = x.schema; uploads = take number (x ∷ rest) }) else None) ≡ Some found
    → slice_get found.uploads 0 ≡ Some first → found.schema ≡ first.schema
schema_of number x first rest found true is same at =
    let version : Version = record { schema = x.schema; uploads = take number (x ∷ rest) } in
    let equal : version ≡ found = some_same version found same in
    let there : slice_get (take number (x ∷ rest)) 0 ≡ Some first = ap (λ (v : Version). slice_get v.uploads 0) equal ∙ at in
    sym (ap (λ (v : Version). v.schema) equal) ∙ ap (λ (u : Upload). u.schema) (some_same x first (at_taken number 0 (x ∷ rest) first there))
schema_of number x first rest found false is same at = absurd (none_is_some found same)

schema_is : (number : ℕ) (counted : List Upload) (found : Version) (first : Upload) → first_of_all number counted ≡ Some found
    → slice_get found.uploads 0 ≡ Some first → found.schema ≡ first.schema
schema_is number [] found first is at = absurd (none_is_some found is)
schema_is number (x ∷ rest) found first is at = schema_of number x first rest found (nat_le number (length (x ∷ rest))) refl is at

pub schema_is_the_first : (table : List ℕ) (number : ℕ) (uploads : List Upload) (found : Version) (first : Upload) → version_of table number uploads ≡ Some found
    → slice_get found.uploads 0 ≡ Some first → found.schema ≡ first.schema
schema_is_the_first table number uploads found first is at = schema_is number (effective table uploads) found first is at
