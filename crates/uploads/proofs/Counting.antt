-- The batches of an upload that are counted, and its own name.
use Rattle.std.proofs.Common.{◌≡◌, refl, sym, ap, ◌∙◌, ℕ, suc, ◌+◌, ◌<◌, ◌≤◌, List, [], ◌∷◌, map, length, take, arith}
use Rattle.std.proofs.Common.{Bor, Bool, true, false, Option, Some, None, is_some}
use Rattle.std.proofs.Math.Seq.{take-length}
use Rattle.std.proofs.lemmas.List.{length-map}
use Rattle.table_types.specs.Uploads.{Upload, upload_text}
use Rattle.table_types.specs.Valid.{IsUpload}
use Rattle.uploads.specs.Parts.{batch_parts, batches_parts, batch_text, batches_text, HasLeft, Gives}
use Rattle.uploads.proofs.CallerLemmas.{more_long, part_long, some_bytes}

-- ---- how many there are

pub counts_one : (old new : List ℕ) (result : Option (Bor (List ℕ) × Bor (List ℕ))) (left : List (List ℕ × List ℕ)) → HasLeft old left → Gives result new left
    → is_some result ≡ true
    → (rest : List (List ℕ × List ℕ)) × HasLeft new rest × (length left ≡ suc (length rest)) × (length new < length old)
counts_one old new result [] is gives some = absurd (none_is result gives.0 some)
  where
    none_is : (r : Option (Bor (List ℕ) × Bor (List ℕ))) → r ≡ None → is_some r ≡ true → ⊥
    none_is None e some = cc
    none_is (Some x) e some = cc
counts_one old new None (parts ∷ rest) is gives some = absurd gives
counts_one old new (Some given) (parts ∷ rest) is gives some =
    (rest, gives.2, refl, omega (arith, ap length is.is, ap length gives.2.is, more_long 4 (batch_text parts) (batches_text rest), part_long 4 (batch_text parts), some_bytes 4 (batch_text parts)))

pub counts_none : (old new : List ℕ) (result : Option (Bor (List ℕ) × Bor (List ℕ))) (left : List (List ℕ × List ℕ)) → Gives result new left
    → is_some result ≡ false → length left ≡ 0
counts_none old new result [] gives none = refl
counts_none old new None (parts ∷ rest) gives none = absurd gives
counts_none old new (Some given) (parts ∷ rest) gives none = cc

-- ---- the upload's id

pub whole_id : (id : List ℕ) (u : Upload) → IsUpload u → id ≡ u.id → take 16 id ≡ u.id
whole_id id u is same =
    ap (take 16) same ∙ ap (λ n. take n u.id) (sym is.named.whole) ∙ take-length u.id

-- ---- batches that are counted

pub record StillLeft (text batches : List ℕ) (count : ℕ) : Type 0 where
  pub upload : Upload
  pub valid : IsUpload upload
  pub encoded : upload_text upload ≡ text
  pub left : List (List ℕ × List ℕ)
  pub has : HasLeft batches left
  pub counted : count + length left ≡ length upload.batches

pub begin_count : (text batches : List ℕ) (u : Upload) → IsUpload u → upload_text u ≡ text → HasLeft batches (batches_parts u) → StillLeft text batches 0
begin_count text batches u is same has = record {
  upload = u;
  valid = is;
  encoded = same;
  left = batches_parts u;
  has = has;
  counted = omega (arith, length-map u.batches (batch_parts u.schema));
}

pub next_count : (text old new : List ℕ) (result : Option (Bor (List ℕ) × Bor (List ℕ))) (count : ℕ) → (still : StillLeft text old count) → Gives result new still.left
    → is_some result ≡ true → StillLeft text new (count + 1) × (length new < length old)
next_count text old new result count still gives some =
    let one = counts_one old new result still.left still.has gives some in (
      record {
        upload = still.upload;
        valid = still.valid;
        encoded = still.encoded;
        left = one.0;
        has = one.1;
        counted = omega (arith, still.counted, one.2);
      },
      one.3,
    )

pub few_left : (text batches : List ℕ) (count : ℕ) → StillLeft text batches count → count ≤ 1024
few_left text batches count still = omega (arith, still.counted, still.valid.batches_few)

pub all_counted : (text old new : List ℕ) (result : Option (Bor (List ℕ) × Bor (List ℕ))) (count : ℕ) → (still : StillLeft text old count) → Gives result new still.left
    → is_some result ≡ false → ((x y : Upload) → IsUpload x → IsUpload y → upload_text x ≡ upload_text y → x ≡ y)
    → (u : Upload) → IsUpload u → upload_text u ≡ text → count ≡ length u.batches
all_counted text old new result count still gives none one u is same =
    omega (
      arith,
      still.counted,
      counts_none old new result still.left gives none,
      ap (λ x. length x.batches) (one still.upload u still.valid is (still.encoded ∙ sym same)),
    )
