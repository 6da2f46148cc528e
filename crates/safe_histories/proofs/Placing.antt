-- An upload that was applied stands at its place, in each version that has so many uploads.
use Rattle.std.proofs.Common.{◌≡◌, ℕ, ◌-◌, ◌<◌, ◌≤◌, true, List, length, get_or, Some, slice_get, ap, ◌∙◌, arith}
use Rattle.std.proofs.lemmas.List.{length-take-le}
use Rattle.std.proofs.lemmas.Option.{slice_get-get_or}
use Rattle.std.proofs.lemmas.Slice.Eq.{bytes_eq-Decides}
use Rattle.table_types.specs.Uploads.{Upload, upload_text}
use Rattle.table_types.specs.Valid.{IsUpload}
use Rattle.table_types.specs.Tables.{is_same, effective, Version, version_of, applied, outcome_of}
use Rattle.table_types.specs.Answers.{answer_of}
use Rattle.safe_histories.specs.Safe.{StandsIn}
use Rattle.safe_histories.proofs.Lists.{In, all_of_each, in_from_at, taken_at}
use Rattle.safe_histories.proofs.Texts.{OneEncoding}
use Rattle.safe_histories.proofs.Versions.{in_effective, version_is, Apart, stand_apart}

abbrev pub Placed : Type 0
Placed = (uploads : List Upload) (upload none : Upload) (number : ℕ) → outcome_of uploads upload ≡ applied number
    → (number ≤ length (effective upload.table uploads)) × (1 ≤ number)
    × (is_same (get_or (effective upload.table uploads) (number - 1) none) upload ≡ true)

module _ (apart : Apart) (placed : Placed) (same : OneEncoding) where
  stands_there : (uploads : List Upload) (upload : Upload) (number : ℕ) → ((other : Upload) → In uploads other → IsUpload other) → IsUpload upload
      → outcome_of uploads upload ≡ applied number → (1 ≤ number) × (number ≤ length (effective upload.table uploads))
      × (slice_get (effective upload.table uploads) (number - 1) ≡ Some upload)
  stands_there uploads upload number all is told =
      let counted = effective upload.table uploads in
      let place = placed uploads upload upload number told in
      let within : number - 1 < length counted = omega (arith, place.0, place.1) in
      let there = get_or counted (number - 1) upload in
      let at : slice_get counted (number - 1) ≡ Some there = slice_get-get_or counted (number - 1) upload within in
      let texts : upload_text there ≡ upload_text upload = (bytes_eq-Decides (upload_text there) (upload_text upload)).0 place.2 in
      (place.1, place.0, at ∙ ap Some (same there upload (all there (in_effective upload.table uploads there (in_from_at counted (number - 1) there at))) is texts))

  -- in every version that has so many uploads
  pub stands_in : (uploads : List Upload) (upload : Upload) (number version : ℕ) (found : Version) (bytes : List ℕ)
      → ((other : Upload) → In uploads other → IsUpload other) → IsUpload upload → outcome_of uploads upload ≡ applied number → number ≤ version
      → version_of upload.table version uploads ≡ Some found → bytes ≡ answer_of found → (1 ≤ number) × StandsIn upload.table bytes version number upload
  stands_in uploads upload number version found bytes all is told le found_is bytes_are =
      let counted = effective upload.table uploads in
      let first = version_is upload.table version uploads found found_is in
      let there = stands_there uploads upload number all is told in (
        there.0,
        record {
          uploads = uploads;
          valid = all_of_each IsUpload uploads all;
          version = found;
          by_rules = found_is;
          bytes_are = bytes_are;
          whole = ap length first.are ∙ length-take-le version counted first.enough;
          apart = stand_apart apart upload.table version uploads found found_is;
          placed = ap (λ l. slice_get l (number - 1)) first.are ∙ taken_at version (number - 1) counted upload (omega (arith, there.0, le)) there.2;
        },
      )
