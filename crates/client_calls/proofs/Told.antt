-- The version that the result of an upload tells.
use Rattle.std.proofs.Common.{◌≡◌, ◌≤◌, ◌+◌, sym, ap, subst, ◌∙◌, ℕ, List, [], ◌∷◌, length, Some, None, Result, Ok, Err, arith}
use Rattle.std.specs.Borrow.{Bor}
use Rattle.std.specs.Option.{IsSomeAnd}
use Rattle.std.specs.Result.{result_ok}
use Rattle.proto_fields.specs.declared.fault.WireFault.{WireFault}
use Rattle.proto_fields.specs.Field.{Field, IsFields, fields_text}
use Rattle.proto_fields.specs.Scalar.{TypeUint64}
use Rattle.proto_fields.specs.Lookup.{Tells}
use Rattle.proto_fields.specs.Meaning.{number_meant, bytes_meant}
use Rattle.proto_messages.specs.Descriptor.{Descriptor, NoMore, One, Values, IsMessage}
use Rattle.proto_messages.specs.Canonical.{RisesFrom, Fits, canonical, canonical_fields}
use Rattle.proto_wire.specs.Flight.{put_result_descriptor}
use Rattle.uploads.proofs.CallerLemmas.{part, part_long, more_long, present_then}
use Rattle.table_types.specs.Valid.{FitsFrame}
use Rattle.call_protocol.specs.Results.{applied_descriptor, applied_text, put_result}
use Rattle.client_calls.specs.Parts.{IsResultOf, IsMetadataOf}

-- what is written is read as what was written
abbrev pub AreMessages : Type 0
AreMessages = (descriptor : Descriptor) (v : Values descriptor) → RisesFrom 0 descriptor → Fits descriptor v → IsMessage descriptor (canonical descriptor v) v

-- ---- lengths

metadata_short : (metadata : List ℕ) → length metadata ≤ length (canonical put_result_descriptor (metadata, tt))
metadata_short [] = omega arith
metadata_short (byte ∷ metadata) =
    let some : 1 ≤ length (byte ∷ metadata) = omega arith in
    let sum : length (canonical put_result_descriptor (byte ∷ metadata, tt)) ≡ length (part 1 (byte ∷ metadata)) + 0 =
    ap (λ (l : List ℕ). length l) (present_then 1 (byte ∷ metadata) [] some) ∙ more_long 1 (byte ∷ metadata) [] in
    let long = part_long 1 (byte ∷ metadata) in
    omega (arith, sum, long)

version_fields : ℕ → List Field
version_fields version = canonical_fields (One 2 TypeUint64 NoMore) (version, tt)

id_short : (id : List ℕ) (version : ℕ) → length id ≤ length (applied_text id version)
unfolding version_fields
id_short [] version = omega arith
id_short (byte ∷ id) version =
    let some : 1 ≤ length (byte ∷ id) = omega arith in
    let sum : length (applied_text (byte ∷ id) version) ≡ length (part 1 (byte ∷ id)) + length (fields_text (version_fields version)) =
    ap (λ (l : List ℕ). length l) (present_then 1 (byte ∷ id) (version_fields version) some) ∙ more_long 1 (byte ∷ id) (fields_text (version_fields version)) in
    let long = part_long 1 (byte ∷ id) in
    omega (arith, sum, long)

-- ---- messages

result_rises : RisesFrom 0 put_result_descriptor
result_rises = (omega arith, (omega arith, omega arith), tt)

applied_rises : RisesFrom 0 applied_descriptor
applied_rises = (omega arith, (omega arith, omega arith), (omega arith, (omega arith, omega arith), tt))

some_is : {X : Type 0} (x y : X) → Some x ≡ Some y → x ≡ y
some_is x y same = cc

none_is_some : {X : Type 0} (x : X) → None ≡ Some x → ⊥
none_is_some x same = cc

-- ---- the metadata

module _ (written : AreMessages) (id : List ℕ) (version : ℕ) (message : List ℕ) (h : IsResultOf id version message) where
  metadata_fits : FitsFrame (applied_text id version)
  metadata_fits =
      let short = metadata_short (applied_text id version) in
      let long : length message ≡ length (put_result id version) = ap (λ (l : List ℕ). length l) h.is in
      let fits = h.fits in
      omega (arith, short, long, fits)

  result_means : IsMessage put_result_descriptor message (applied_text id version, tt)
  result_means =
      let fits = metadata_fits in
      subst (λ (t : List ℕ). IsMessage put_result_descriptor t (applied_text id version, tt)) (sym h.is)
      (written put_result_descriptor (applied_text id version, tt) result_rises (omega (arith, fits), tt))

  is_metadata : (metadata : List ℕ) → metadata ≡ applied_text id version → IsMetadataOf id version metadata
  is_metadata metadata is =
      record { is = is; fits = subst (λ (t : List ℕ). FitsFrame t) (sym is) metadata_fits; version_fits = h.version_fits }

  pub metadata_told : (told : Result (Bor (List ℕ)) WireFault) → ((fields : List Field) → IsFields message fields → Tells (λ last. last.now) told (bytes_meant 1 fields))
      → IsSomeAnd (result_ok told) (λ metadata. IsMetadataOf id version metadata.now)
  unfolding bytes_meant
  metadata_told (Ok metadata) only =
      let m = result_means in
      is_metadata metadata.now (some_is metadata.now (applied_text id version) (sym (only m.fields m.encodes) ∙ m.means.0))
  metadata_told (Err fault) only =
      let m = result_means in
      absurd (none_is_some (applied_text id version) (sym (only m.fields m.encodes).0 ∙ m.means.0))

-- ---- the version

module _ (written : AreMessages) (id : List ℕ) (version : ℕ) (metadata : List ℕ) (h : IsMetadataOf id version metadata) where
  applied_means : IsMessage applied_descriptor metadata (id, (version, tt))
  applied_means =
      let short = id_short id version in
      let long : length metadata ≡ length (applied_text id version) = ap (λ (l : List ℕ). length l) h.is in
      let fits = h.fits in
      subst (λ (t : List ℕ). IsMessage applied_descriptor t (id, (version, tt))) (sym h.is)
      (written applied_descriptor (id, (version, tt)) applied_rises (omega (arith, short, long, fits), (h.version_fits, tt)))

  pub version_is_told : (told : Result ℕ WireFault) → ((fields : List Field) → IsFields metadata fields → Tells (λ n. n) told (number_meant 2 fields))
      → IsSomeAnd (result_ok told) (λ found. found ≡ version)
  unfolding number_meant
  version_is_told (Ok found) only =
      let m = applied_means in
      some_is found version (sym (only m.fields m.encodes) ∙ m.means.1.0)
  version_is_told (Err fault) only =
      let m = applied_means in
      absurd (none_is_some version (sym (only m.fields m.encodes).0 ∙ m.means.1.0))
