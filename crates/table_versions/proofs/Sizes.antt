-- How large the numbers of a table can be.
use Rattle.std.proofs.Common.{◌≡◌, refl, ap, ℕ, suc, ◌+◌, ◌*◌, ◌≤◌, List, [], ◌∷◌, map, length, length-append, arith}
use Rattle.std.specs.List.{AllByRecursion, flat_map, sum_by}
use Rattle.std.proofs.lemmas.Grind.{flat_map-append}
use Rattle.std.proofs.lemmas.List.Sums.{sum_by-cons}
use Rattle.byteorder.specs.Endian.{big_bytes}
use Rattle.batch_types.specs.Cells.{Rows}
use Rattle.batch_types.specs.Written.{CanBeWritten}
use Rattle.header_types.specs.Fields.{SchemaTree}
use Rattle.table_types.specs.Uploads.{Upload}
use Rattle.table_types.specs.Valid.{IsUpload, FitsFrame, batches_limit}
use Rattle.table_types.specs.Served.{in_frame, batch_message, messages_of, upload_messages, schema_message}
use Rattle.table_types.specs.Answers.{answer_of}
use Rattle.table_types.specs.Tables.{rows_of_upload, rows_of_uploads}
use Rattle.table_versions.specs.Ledger.{frames_text}

-- ---- frames

big_four : (n : ℕ) → length (big_bytes 4 n) ≡ 4
big_four n = refl

frame_long : (message : List ℕ) → length (in_frame message) ≡ 5 + length message
frame_long message = omega (arith, length-append (big_bytes 4 (length message)) message, big_four (length message))

pub framed : (message : List ℕ) → FitsFrame message → length (in_frame message) ≤ 4194309
framed message fits = omega (arith, frame_long message, fits)

all_framed : (messages : List (List ℕ)) → AllByRecursion FitsFrame messages → length (flat_map in_frame messages) ≤ 4194309 * length messages
all_framed [] fit = omega arith
all_framed (message ∷ messages) fit =
    omega (
      arith,
      length-append (in_frame message) (flat_map in_frame messages),
      framed message fit.0,
      all_framed messages fit.1,
    )

length-map : (f : Rows → List ℕ) (xs : List Rows) → length (map f xs) ≡ length xs
length-map f [] = refl
length-map f (x ∷ xs) = ap suc (length-map f xs)

few_messages : (u : Upload) (batches : List Rows) → length batches ≤ batches_limit → length (messages_of u batches) ≤ batches_limit
few_messages u [] few = omega arith
few_messages u (rows ∷ rest) few = omega (arith, length-map (batch_message u) rest)

pub frames_long : (u : Upload) → IsUpload u → length (frames_text u) ≤ 4294972416
frames_long u valid =
    omega (
      arith,
      all_framed (upload_messages u) valid.batches_served,
      few_messages u u.batches valid.batches_few,
    )

-- ---- rows

batch_rows : (schema : SchemaTree) (batches : List Rows) → AllByRecursion (CanBeWritten schema) batches → sum_by (λ rows. rows.count) batches ≤ 1048576 * length batches
batch_rows schema [] written = omega arith
batch_rows schema (rows ∷ rest) written =
    omega (arith, sum_by-cons (λ (r : Rows). r.count) rows rest, written.0.few, batch_rows schema rest written.1)

pub rows_few : (u : Upload) → IsUpload u → rows_of_upload u ≤ 1073741824
rows_few u valid = omega (arith, batch_rows u.schema u.batches valid.batches_written, valid.batches_few)

pub records_few : (xs : List Upload) → AllByRecursion IsUpload xs → rows_of_uploads xs ≤ 1073741824 * length xs
records_few [] valid = omega arith
records_few (x ∷ xs) valid = omega (arith, sum_by-cons rows_of_upload x xs, rows_few x valid.0, records_few xs valid.1)

-- ---- answers

served_long : (xs : List Upload) → AllByRecursion IsUpload xs → length (flat_map in_frame (flat_map upload_messages xs)) ≤ 4294972416 * length xs
served_long [] valid = omega arith
served_long (x ∷ xs) valid =
    omega (
      arith,
      ap length (flat_map-append in_frame (upload_messages x) (flat_map upload_messages xs)),
      length-append (frames_text x) (flat_map in_frame (flat_map upload_messages xs)),
      frames_long x valid.0,
      served_long xs valid.1,
    )

pub answer_few : (first : Upload) (xs : List Upload) → IsUpload first → AllByRecursion IsUpload xs
    → length (answer_of (record { schema = first.schema; uploads = xs })) ≤ 4194309 + 4294972416 * length xs
answer_few first xs one valid =
    omega (
      arith,
      length-append (in_frame (schema_message first.schema)) (flat_map in_frame (flat_map upload_messages xs)),
      framed (schema_message first.schema) one.schema_served,
      served_long xs valid,
    )
