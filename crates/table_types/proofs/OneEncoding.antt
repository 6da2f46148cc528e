-- An encoding is that of one upload.
use Rattle.std.proofs.Common.{◌≡◌, refl, sym, ap, ap₂, subst, ◌∙◌, ℕ, ◌+◌, ◌*◌, ◌<◌, ◌≤◌, ◌^◌, pos, List, [], ◌∷◌, ◌++◌, map, length, arith}
use Rattle.std.specs.List.{AllByRecursion}
use Rattle.proto_fields.specs.Field.{Field, fields_text, present}
use Rattle.proto_messages.specs.Descriptor.{Descriptor, Values}
use Rattle.proto_messages.specs.Canonical.{bytes_field, canonical, canonical_fields, RisesFrom, Fits, FitsEmbedded}
use Rattle.header_types.specs.Fields.{SchemaTree, no_more}
use Rattle.header_types.specs.Header.{Head, Header, schema_header, batch_header}
use Rattle.header_types.specs.Profile.{InProfile}
use Rattle.header_writing.specs.Canonical.{header_text}
use Rattle.header_writing.specs.Written.{FitsSchema}
use Rattle.flatbuf_meta.specs.Writable.{IsWritable}
use Rattle.batch_types.specs.Cells.{Rows}
use Rattle.batch_types.specs.Laid.{node_count, buffer_count}
use Rattle.batch_types.specs.Shapes.{shapes_of}
use Rattle.batch_types.specs.Canonical.{canonical_head, canonical_body, canonical_parts}
use Rattle.batch_types.specs.LaysOut.{LaysOut}
use Rattle.batch_types.specs.Written.{CanBeWritten}
use Rattle.table_types.specs.Uploads.{Upload, batch_descriptor, upload_descriptor, schema_text, head_text, batch_values, upload_values, upload_text}
use Rattle.table_types.specs.Valid.{IsUpload, upload_limit}
use Rattle.table_types.proofs.Bounds.{present_long, both_long, all_long, fits, batch_nodes_fit, ranges_fit, few_for_fields}

-- ---- the parts of an encoding are no longer than it

abbrev batch_fields : SchemaTree → Rows → List Field
batch_fields schema rows = canonical_fields batch_descriptor (batch_values schema rows)

-- the header and the body of a batch
batch_long : (schema : SchemaTree) (rows : Rows) → (length (head_text schema rows) ≤ length (fields_text (batch_fields schema rows)))
    × (length (canonical_body schema rows) ≤ length (fields_text (batch_fields schema rows)))
batch_long schema rows =
    let first : List Field = present (bytes_field 1 (head_text schema rows) ∷ []) in
    let second : List Field = present (bytes_field 2 (canonical_body schema rows) ∷ []) in
    let whole = both_long (present (bytes_field 1 (head_text schema rows) ∷ [])) (present (bytes_field 2 (canonical_body schema rows) ∷ []) ++ []) in
    let rest = both_long (present (bytes_field 2 (canonical_body schema rows) ∷ [])) [] in (
      omega (arith, whole, present_long 1 (head_text schema rows)),
      omega (arith, whole, rest, present_long 2 (canonical_body schema rows)),
    )

abbrev batch_texts : SchemaTree → List Rows → List (List ℕ)
batch_texts schema batches = map (λ rows. fields_text (batch_fields schema rows)) batches

abbrev fields_of_batches : SchemaTree → List Rows → List Field
fields_of_batches schema batches =
    map (λ value. bytes_field 4 (fields_text (canonical_fields batch_descriptor value))) (map (batch_values schema) batches)

mapped : (schema : SchemaTree) (batches : List Rows) → fields_of_batches schema batches ≡ map (bytes_field 4) (batch_texts schema batches)
mapped schema [] = refl
mapped schema (rows ∷ batches) = ap (λ fields. bytes_field 4 (fields_text (batch_fields schema rows)) ∷ fields) (mapped schema batches)

module _ (u : Upload) (short : length (upload_text u) ≤ upload_limit) where
  pub whole : length (upload_text u) ≡ length (fields_text (present (bytes_field 1 u.table ∷ [])))
      + (length (fields_text (present (bytes_field 2 u.id ∷ [])))
      + (length (fields_text (present (bytes_field 3 (schema_text u.schema) ∷ []))) + length (fields_text (fields_of_batches u.schema u.batches))))
  whole =
      let first = both_long (present (bytes_field 1 u.table ∷ []))
      (present (bytes_field 2 u.id ∷ []) ++ (present (bytes_field 3 (schema_text u.schema) ∷ []) ++ (fields_of_batches u.schema u.batches ++ []))) in
      let second = both_long (present (bytes_field 2 u.id ∷ [])) (present (bytes_field 3 (schema_text u.schema) ∷ []) ++ (fields_of_batches u.schema u.batches ++ [])) in
      let third = both_long (present (bytes_field 3 (schema_text u.schema) ∷ [])) (fields_of_batches u.schema u.batches ++ []) in
      let fourth = both_long (fields_of_batches u.schema u.batches) [] in
      omega (arith, first, second, third, fourth)

  batches_short : AllByRecursion (λ text. length text ≤ upload_limit) (batch_texts u.schema u.batches)
  batches_short =
      all_long 4 upload_limit (batch_texts u.schema u.batches)
      (omega (arith, short, whole, ap (λ l. length (fields_text l)) (mapped u.schema u.batches)))

batch_fits : (schema : SchemaTree) (batches : List Rows) → AllByRecursion (λ text. length text ≤ upload_limit) (batch_texts schema batches)
    → AllByRecursion (FitsEmbedded (Fits batch_descriptor) (canonical_fields batch_descriptor)) (map (batch_values schema) batches)
batch_fits schema [] all = tt
batch_fits schema (rows ∷ batches) all =
    let long = batch_long schema rows in (
      ((omega (arith, long.0, all.0), (omega (arith, long.1, all.0), tt)), omega (arith, all.0)),
      batch_fits schema batches all.1,
    )

upload_fits : (u : Upload) → length (upload_text u) ≤ upload_limit → Fits upload_descriptor (upload_values u)
upload_fits u short = (
  omega (arith, short, whole u short, present_long 1 u.table),
  (
    omega (arith, short, whole u short, present_long 2 u.id),
    (
      omega (arith, short, whole u short, present_long 3 (schema_text u.schema)),
      (batch_fits u.schema u.batches (batches_short u short), tt),
    ),
  ),
)

rises : RisesFrom 0 upload_descriptor
rises = (
  omega arith,
  (omega arith, omega arith),
  (
    omega arith,
    (omega arith, omega arith),
    (
      omega arith,
      (omega arith, omega arith),
      (
        omega arith,
        (omega arith, omega arith),
        (omega arith, (omega arith, omega arith), (omega arith, (omega arith, omega arith), tt)),
        tt,
      ),
    ),
  ),
)

-- ---- one batch

abbrev schema_in : SchemaTree → Header → SchemaTree
schema_in schema (schema_header s) = s
schema_in schema (batch_header head) = schema

abbrev head_in : Head → Header → Head
head_in head (schema_header s) = head
head_in head (batch_header h) = h

module _ (laid : (schema : SchemaTree) (rows : Rows) → InProfile schema → CanBeWritten schema rows
    → LaysOut schema (canonical_head schema rows) (canonical_body schema rows) rows) where
  pub batch_writable : (schema : SchemaTree) (rows : Rows) → InProfile schema → CanBeWritten schema rows → length (canonical_body schema rows) ≤ upload_limit
      → IsWritable (batch_header (canonical_head schema rows))
  batch_writable schema rows profile can short =
      let out = laid schema rows profile can in
      let nodes : length (canonical_parts schema rows).nodes ≡ node_count schema.fields = out.head_kept.1.1.0 in
      let buffers = out.head_kept.1.1.1.0 in (
        refl,
        omega (arith, nodes, profile.within.fields_within),
        omega (arith, buffers, few_for_fields schema.fields, profile.within.fields_within),
        record {
          length = fits rows.count (omega (arith, can.few));
          nodes = batch_nodes_fit (shapes_of schema.fields) rows.columns can.few_values;
          buffers = ranges_fit 0 (canonical_parts schema rows).buffers (omega (arith, short));
          body_length = fits (length (canonical_body schema rows)) (omega (arith, short));
        },
      )

  module _ (differ : (x y : Header) → IsWritable x → IsWritable y → header_text x ≡ header_text y → x ≡ y)
      (one : (schema : SchemaTree) (head : Head) (body : List ℕ) (x y : Rows) → LaysOut schema head body x → LaysOut schema head body y → x ≡ y) where
    same_rows : (schema : SchemaTree) (x y : Rows) → InProfile schema → CanBeWritten schema x → CanBeWritten schema y
        → length (canonical_body schema x) ≤ upload_limit → length (canonical_body schema y) ≤ upload_limit
        → head_text schema x ≡ head_text schema y → canonical_body schema x ≡ canonical_body schema y → x ≡ y
    same_rows schema x y profile can other short few heads bodies =
        let head : canonical_head schema x ≡ canonical_head schema y =
        ap (head_in (canonical_head schema x))
        (differ (batch_header (canonical_head schema x)) (batch_header (canonical_head schema y)) (batch_writable schema x profile can short) (batch_writable schema y profile other few) heads) in
        one schema (canonical_head schema y) (canonical_body schema y) x y
        (subst (λ h. LaysOut schema h (canonical_body schema y) x) head
        (subst (λ b. LaysOut schema (canonical_head schema x) b x) bodies (laid schema x profile can)))
        (laid schema y profile other)

    abbrev head_value : Values batch_descriptor → List (Values batch_descriptor) → Values batch_descriptor
    head_value value [] = value
    head_value value (v ∷ values) = v

    abbrev tail_values : List (Values batch_descriptor) → List (Values batch_descriptor)
    tail_values [] = []
    tail_values (v ∷ values) = values

    same_batches : (schema : SchemaTree) (xs ys : List Rows) → InProfile schema → AllByRecursion (CanBeWritten schema) xs → AllByRecursion (CanBeWritten schema) ys
        → AllByRecursion (λ text. length text ≤ upload_limit) (batch_texts schema xs) → AllByRecursion (λ text. length text ≤ upload_limit) (batch_texts schema ys)
        → map (batch_values schema) xs ≡ map (batch_values schema) ys → xs ≡ ys
    same_batches schema [] [] profile can other short few same = refl
    same_batches schema [] (y ∷ ys) profile can other short few same = cc
    same_batches schema (x ∷ xs) [] profile can other short few same = cc
    same_batches schema (x ∷ xs) (y ∷ ys) profile can other short few same =
        let value : batch_values schema x ≡ batch_values schema y = ap (head_value (batch_values schema x)) same in
        ap₂ (λ r rs. r ∷ rs)
        (same_rows schema x y profile can.0 other.0 (omega (arith, (batch_long schema x).1, short.0)) (omega (arith, (batch_long schema y).1, few.0))
        (ap (λ v. v.0) value) (ap (λ v. v.1.0) value))
        (same_batches schema xs ys profile can.1 other.1 short.1 few.1 (ap tail_values same))

    -- ---- the whole

    module _ (canonical_one : (descriptor : Descriptor) (v w : Values descriptor) → RisesFrom 0 descriptor → Fits descriptor v → Fits descriptor w
        → canonical descriptor v ≡ canonical descriptor w → v ≡ w) where
      pub one_upload : (x y : Upload) → IsUpload x → IsUpload y → upload_text x ≡ upload_text y → x ≡ y
      one_upload x y is other same =
          let values : upload_values x ≡ upload_values y =
          canonical_one upload_descriptor (upload_values x) (upload_values y) rises (upload_fits x is.short) (upload_fits y other.short) same in
          let schema : x.schema ≡ y.schema =
          ap (schema_in x.schema)
          (differ (schema_header x.schema) (schema_header y.schema) (is.profile, is.schema_fits) (other.profile, other.schema_fits) (ap (λ v. v.1.1.0) values)) in
          let batches : x.batches ≡ y.batches =
          same_batches y.schema x.batches y.batches other.profile
          (subst (λ s. AllByRecursion (CanBeWritten s) x.batches) schema is.batches_written) other.batches_written
          (subst (λ s. AllByRecursion (λ text. length text ≤ upload_limit) (batch_texts s x.batches)) schema (batches_short x is.short)) (batches_short y other.short)
          (ap (λ s. map (batch_values s) x.batches) (sym schema) ∙ ap (λ v. v.1.1.1.0) values) in
          ap₂ (λ names rest. let u : Upload = record { table = names.0; id = names.1; schema = rest.0; batches = rest.1 } in u)
          (ap₂ (λ t i. let p : List ℕ × List ℕ = (t, i) in p) (ap (λ v. v.0) values) (ap (λ v. v.1.0) values))
          (ap₂ (λ s b. let p : SchemaTree × List Rows = (s, b) in p) schema batches)
