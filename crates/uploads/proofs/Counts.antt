-- How long the parts of an upload are that is made.
use Rattle.std.proofs.Common.{◌≡◌, sym, ap, subst, ◌∙◌, ℕ, suc, ◌+◌, ◌*◌, ◌<◌, ◌≤◌, ◌^◌, List, [], ◌∷◌, ◌++◌, map, length, drop, slice_index_or, arith}
use Rattle.std.specs.List.{AllByRecursion}
use Rattle.std.proofs.lemmas.List.{at_drop_more, length-map}
use Rattle.std.proofs.Math.ListN.{drop_of_length-le}
use Rattle.proto_fields.specs.Field.{fields_text, present}
use Rattle.proto_messages.specs.Canonical.{bytes_field}
use Rattle.header_types.specs.Fields.{SchemaTree}
use Rattle.header_types.specs.Header.{Head}
use Rattle.batch_types.specs.Cells.{Rows}
use Rattle.batch_types.specs.Laid.{node_count, buffer_count}
use Rattle.batch_types.specs.LaysOut.{LaysOut}
use Rattle.batch_types.specs.Canonical.{canonical_body}
use Rattle.batch_types.specs.Written.{CanBeWritten}
use Rattle.batch_columns.specs.Batches.{rows_of, IsBatchOf}
use Rattle.batch_columns.specs.declared.batch.Batch.{Batch}
use Rattle.table_types.specs.Uploads.{Upload, upload_text, schema_text}
use Rattle.table_types.specs.Served.{data_text}
use Rattle.header_types.specs.Profile.{InProfile}
use Rattle.header_writing.specs.Written.{FitsSchema}
use Rattle.table_types.specs.Valid.{FitsFrame, IsTableName, IsId, IsUpload}
use Rattle.uploads.specs.Parts.{batch_parts, batch_text, batches_text, served_of}
use Rattle.uploads.proofs.CallerLemmas.{part, both_fields, message_long, more_long, parts_text, messages_fit, parts_fit}
use Rattle.uploads.specs.Making.{IsSmall, upload_of}
use Rattle.uploads.specs.Sized.{parts_held, AreServed}
use Rattle.uploads.specs.Written.{AreShort}

-- ---- one batch

-- a head has as many nodes and buffers as its schema's fields have
pub head_counted : (schema : SchemaTree) (head : Head) (body : List ℕ) (rows : Rows) → LaysOut schema head body rows
    → (length head.nodes ≡ node_count schema.fields) × (length head.buffers ≡ buffer_count schema.fields)
head_counted schema head body rows laid = (laid.head_kept.1.1.0, laid.head_kept.1.1.1.0)

pub batch_text_size : (parts : List ℕ × List ℕ) → length (batch_text parts)
    ≡ length (fields_text (present (bytes_field 1 parts.0 ∷ []))) + length (fields_text (present (bytes_field 2 parts.1 ∷ [])))
batch_text_size parts =
    omega (
      arith,
      both_fields (present (bytes_field 1 parts.0 ∷ [])) (present (bytes_field 2 parts.1 ∷ []) ++ []),
      both_fields (present (bytes_field 2 parts.1 ∷ [])) [],
    )

-- what is served holds the header and the body
pub served_small : (id : List ℕ) (parts : List ℕ × List ℕ) → FitsFrame (served_of id parts) → (length parts.0 ≤ 4194304) × (length parts.1 ≤ 4194304)
served_small id parts fits =
    let long = message_long parts.0 id parts.1 in (omega (arith, fits, long.0), omega (arith, fits, long.2))

pub body_too_long : (id : List ℕ) (schema : SchemaTree) (batch : Batch) → 2 ^ 63 ≤ length (canonical_body schema (rows_of batch))
    → ¬ FitsFrame (served_of id (batch_parts schema (rows_of batch)))
body_too_long id schema batch long fits =
    absurd (omega (arith, long, (served_small id (batch_parts schema (rows_of batch)) fits).1))

-- ---- one batch after the other

pub next_left : (batches : List Batch) (i : ℕ) (x : Batch) → i < length batches → x ≡ slice_index_or batches i x
    → drop i batches ≡ x ∷ drop (i + 1) batches
next_left batches i x there is = at_drop_more (λ l. l) batches i x there ∙ ap (λ y. y ∷ drop (i + 1) batches) (sym is)

pub none_left : (batches : List Batch) (i : ℕ) → length batches ≤ i → drop i batches ≡ []
none_left batches i over = drop_of_length-le batches over

-- so many bytes are counted of the batches before these
pub record StillSized (schema : SchemaTree) (id : List ℕ) (batches : List Batch) (i total : ℕ) (left : List Batch) : Type 0 where
  pub sized : total + length (batches_text (parts_held schema left)) ≡ length (batches_text (parts_held schema batches))
  pub few : total ≤ 8388668 * i
  pub each : AllByRecursion (IsBatchOf schema) left
  pub can : AllByRecursion (CanBeWritten schema) (map rows_of left) → AllByRecursion (CanBeWritten schema) (map rows_of batches)
  pub good : AreServed id schema left → AreServed id schema batches
  pub bad : AreServed id schema batches → AreServed id schema left

pub none_sized : (schema : SchemaTree) (id : List ℕ) (batches : List Batch) → AllByRecursion (IsBatchOf schema) batches → StillSized schema id batches 0 0 batches
none_sized schema id batches each = record {
  sized = omega arith;
  few = omega arith;
  each = each;
  can = λ can. can;
  good = λ served. served;
  bad = λ served. served;
}

one_sized : (schema : SchemaTree) (id : List ℕ) (batches : List Batch) (i total size : ℕ) (x : Batch) (rest : List Batch)
    → size ≡ length (part 4 (batch_text (batch_parts schema (rows_of x)))) → size ≤ 8388668 → CanBeWritten schema (rows_of x)
    → FitsFrame (served_of id (batch_parts schema (rows_of x))) → StillSized schema id batches i total (x ∷ rest)
    → StillSized schema id batches (i + 1) (total + size) rest
one_sized schema id batches i total size x rest is small can served still = record {
  sized = omega (arith, still.sized, is, more_long 4 (batch_text (batch_parts schema (rows_of x))) (batches_text (parts_held schema rest)));
  few = omega (arith, still.few, small);
  each = still.each.1;
  can = λ others. still.can (can, others);
  good = λ others. still.good (served, others);
  bad = λ all. (still.bad all).1;
}

module _ (schema : SchemaTree) (id : List ℕ) (batches : List Batch) (i total : ℕ) where
  at_next : (x : Batch) → i < length batches → x ≡ slice_index_or batches i x → StillSized schema id batches i total (drop i batches)
      → StillSized schema id batches i total (x ∷ drop (i + 1) batches)
  at_next x there is still = subst (StillSized schema id batches i total) (next_left batches i x there is) still

  pub next_of_schema : (x : Batch) → i < length batches → x ≡ slice_index_or batches i x → StillSized schema id batches i total (drop i batches) → IsBatchOf schema x
  next_of_schema x there is still = (at_next x there is still).each.0

  pub next_sized : (x : Batch) → i < length batches → x ≡ slice_index_or batches i x → StillSized schema id batches i total (drop i batches)
      → (size : ℕ) → size ≡ length (part 4 (batch_text (batch_parts schema (rows_of x)))) → size ≤ 8388668 → CanBeWritten schema (rows_of x)
      → FitsFrame (served_of id (batch_parts schema (rows_of x))) → StillSized schema id batches (i + 1) (total + size) (drop (i + 1) batches)
  next_sized x there is still size long small can served =
      one_sized schema id batches i total size x (drop (i + 1) batches) long small can served (at_next x there is still)

  pub not_served : (x : Batch) → i < length batches → x ≡ slice_index_or batches i x → StillSized schema id batches i total (drop i batches)
      → ¬ FitsFrame (served_of id (batch_parts schema (rows_of x))) → ¬ AreServed id schema batches
  not_served x there is still none all = none ((at_next x there is still).bad all).0

  pub all_sized : length batches ≤ i → StillSized schema id batches i total (drop i batches)
      → (total ≡ length (batches_text (parts_held schema batches))) × AreServed id schema batches × AllByRecursion (CanBeWritten schema) (map rows_of batches)
  all_sized over still =
      let end = subst (StillSized schema id batches i total) (none_left batches i over) still in
      (omega (arith, end.sized), end.good tt, end.can tt)

-- ---- the whole

pub schema_small : (schema : SchemaTree) → FitsFrame (data_text (schema_text schema) [] []) → length (schema_text schema) ≤ 4194304
schema_small schema fits = let long = message_long (schema_text schema) [] [] in omega (arith, fits, long.0)

module _ (table id : List ℕ) (schema : SchemaTree) (batches : List Batch) (table_there : 1 ≤ length table) (id_is : length id ≡ 16) where
  upload : Upload
  upload = upload_of table id schema batches

  pub upload_long : length (upload_text (upload_of table id schema batches))
      ≡ length (part 1 table) + length (part 2 id) + length (part 3 (schema_text schema)) + length (batches_text (parts_held schema batches))
  upload_long =
      ap length (parts_text (upload_of table id schema batches) table_there (omega (arith, id_is)))
      ∙ omega (
        arith,
        more_long 1 table (part 2 id ++ (part 3 (schema_text schema) ++ batches_text (parts_held schema batches))),
        more_long 2 id (part 3 (schema_text schema) ++ batches_text (parts_held schema batches)),
        more_long 3 (schema_text schema) (batches_text (parts_held schema batches)),
      )

  pub sizes_are : (a b c d : ℕ) → a ≡ length (part 1 table) → b ≡ length (part 2 id) → c ≡ length (part 3 (schema_text schema))
      → d ≡ length (batches_text (parts_held schema batches)) → a + b + c + d ≡ length (upload_text (upload_of table id schema batches))
  sizes_are a b c d first second third fourth = omega (arith, upload_long, first, second, third, fourth)

  pub is_small : length (upload_text (upload_of table id schema batches)) ≤ 16777216 → FitsFrame (data_text (schema_text schema) [] [])
      → AreServed id schema batches → IsSmall (upload_of table id schema batches)
  is_small short schema_fits served = record {
    short = short;
    schema_served = schema_fits;
    batches_served = messages_fit (upload_of table id schema batches) id_is served;
  }

  pub small_served : IsSmall (upload_of table id schema batches) → AreServed id schema batches
  small_served small = parts_fit (upload_of table id schema batches) small.batches_served

short_parts : (id : List ℕ) (list : List (List ℕ × List ℕ)) → AllByRecursion (λ parts. FitsFrame (served_of id parts)) list
    → AllByRecursion (λ parts. (length parts.0 ≤ 16777216) × (length parts.1 ≤ 16777216)) list
short_parts id [] served = tt
short_parts id (parts ∷ list) served =
    let small = served_small id parts served.0 in
    ((omega (arith, small.0), omega (arith, small.1)), short_parts id list served.1)

pub small_short : (table id : List ℕ) (schema : SchemaTree) (batches : List Batch) → 1 ≤ length table → length id ≡ 16
    → IsSmall (upload_of table id schema batches) → AreShort schema batches
small_short table id schema batches there long small = short_parts id (parts_held schema batches) (small_served table id schema batches there long small)

-- ---- an upload that is taken

bytes_in : (id : List ℕ) → ((i : ℕ) → slice_index_or id i 0 < 256) → AllByRecursion (λ byte. byte < 256) id
bytes_in [] fit = tt
bytes_in (b ∷ id) fit = (fit 0, bytes_in id (λ i. fit (suc i)))

pub is_id : (id : List ℕ) → length id ≡ 16 → ((i : ℕ) → slice_index_or id i 0 < 256) → IsId id
is_id id long fit = record { whole = long; bytes = bytes_in id fit }

few_rows : (batches : List Batch) → length batches ≤ 1024 → length (map rows_of batches) ≤ 1024
few_rows batches few = omega (arith, few, length-map batches rows_of)

pub is_upload : (table id : List ℕ) (schema : SchemaTree) (batches : List Batch) → IsTableName table → IsId id → length batches ≤ 1024 → InProfile schema
    → FitsSchema schema → AllByRecursion (CanBeWritten schema) (map rows_of batches) → IsSmall (upload_of table id schema batches)
    → IsUpload (upload_of table id schema batches)
is_upload table id schema batches named is few profile fits can small = record {
  table_named = named;
  named = is;
  batches_few = few_rows batches few;
  profile = profile;
  schema_fits = fits;
  batches_written = can;
  short = small.short;
  schema_served = small.schema_served;
  batches_served = small.batches_served;
}
