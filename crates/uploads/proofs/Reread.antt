-- What is read again of an upload.
use Rattle.std.proofs.Common.{◌≡◌, sym, ap, subst, ℕ, ◌+◌, ◌≤◌, List, ◌++◌, map, length, arith, Result, Ok, Err, IfOk}
use Rattle.std.specs.List.{AllByRecursion}
use Rattle.header_types.specs.Fields.{SchemaTree}
use Rattle.header_types.specs.Profile.{InProfile}
use Rattle.batch_types.specs.Cells.{Rows}
use Rattle.batch_types.specs.Written.{CanBeWritten}
use Rattle.table_types.specs.Uploads.{Upload, upload_text, schema_text}
use Rattle.table_types.specs.Valid.{IsUpload}
use Rattle.uploads.specs.Parts.{batch_parts, batches_parts, batches_text, HasLeft}
use Rattle.uploads.proofs.CallerLemmas.{part, more_long, parts_text}

pub if_ok : {A E : Type 0} (r : Result A E) (P Q : A → Type 0) → ((x : A) → P x → Q x) → IfOk r P → IfOk r Q
if_ok (Ok x) P Q to p = to x p
if_ok (Err e) P Q to p = p

pub batches_short : (u : Upload) → IsUpload u → (batches : List ℕ) → HasLeft batches (batches_parts u) → length batches ≤ 16777216
batches_short u is batches left =
    let behind : List ℕ = batches_text (batches_parts u) in
    omega (
      arith,
      is.short,
      ap length left.is,
      ap length (parts_text u is.table_named.some (omega (arith, is.named.whole))),
      more_long 1 u.table (part 2 u.id ++ (part 3 (schema_text u.schema) ++ behind)),
      more_long 2 u.id (part 3 (schema_text u.schema) ++ behind),
      more_long 3 (schema_text u.schema) behind,
    )

-- the same of a schema that is equal
pub same_can : (s : SchemaTree) (u : Upload) → s ≡ u.schema → IsUpload u → AllByRecursion (CanBeWritten s) u.batches
same_can s u same is = subst (λ x. AllByRecursion (CanBeWritten x) u.batches) (sym same) is.batches_written

pub same_left : (s : SchemaTree) (u : Upload) (batches : List ℕ) → s ≡ u.schema → HasLeft batches (batches_parts u)
    → HasLeft batches (map (batch_parts s) u.batches)
same_left s u batches same left = subst (λ x. HasLeft batches (map (batch_parts x) u.batches)) (sym same) left
