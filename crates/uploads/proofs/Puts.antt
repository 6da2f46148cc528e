-- The parts of an upload's encoding, put one behind the other.
use Rattle.std.proofs.Common.{◌≡◌, refl, sym, ap, subst, ◌∙◌, ℕ, ◌+◌, ◌<◌, ◌≤◌, List, [], ◌∷◌, ◌++◌, length, drop, slice_index_or, append_assoc, arith, Result, Ok, Err, OnOk}
use Rattle.std.specs.List.{AllByRecursion}
use Rattle.std.proofs.lemmas.List.{append-nil}
use Rattle.std.proofs.lemmas.Grind.{flat_map-append}
use Rattle.proto_fields.specs.Varint.{varint_text}
use Rattle.proto_fields.specs.Field.{field_text, fields_text, present}
use Rattle.proto_messages.specs.Canonical.{bytes_field}
use Rattle.header_types.specs.Fields.{SchemaTree}
use Rattle.batch_columns.specs.Batches.{rows_of, IsBatchOf}
use Rattle.batch_columns.specs.declared.batch.Batch.{Batch}
use Rattle.table_types.specs.Uploads.{upload_text, schema_text}
use Rattle.uploads.specs.Parts.{batch_parts, batch_text, batches_text}
use Rattle.uploads.proofs.CallerLemmas.{part, kept, parts_text}
use Rattle.uploads.specs.Making.{upload_of}
use Rattle.uploads.specs.Sized.{parts_held}
use Rattle.uploads.specs.Written.{AreShort}
use Rattle.uploads.proofs.Counts.{next_left, none_left}

pub on_ok : {E P Q : Type 0} (r : Result (Unit {0}) E) → OnOk r P → (P → Q) → OnOk r Q
on_ok (Ok done) p to = to p
on_ok (Err e) p to = tt

-- ---- one batch

-- a key, a length, the field of the header and that of the body
pub batch_put : (old text : List ℕ) (length_put : ℕ) (header body a b c : List ℕ) → length_put ≡ length (batch_text (header, body))
    → a ≡ old ++ varint_text 34 → b ≡ a ++ varint_text length_put → c ≡ b ++ fields_text (present (bytes_field 1 header ∷ []))
    → text ≡ c ++ fields_text (present (bytes_field 2 body ∷ [])) → text ≡ old ++ part 4 (batch_text (header, body))
batch_put old text n header body a b c long key counted first second =
    second
    ∙ ap (λ l. l ++ body_field) (first ∙ ap (λ l. l ++ header_field) (counted ∙ ap (λ l. l ++ varint_text n) key))
    ∙ append_assoc ((old ++ varint_text 34) ++ varint_text n) header_field body_field
    ∙ append_assoc (old ++ varint_text 34) (varint_text n) (header_field ++ body_field)
    ∙ append_assoc old (varint_text 34) (varint_text n ++ (header_field ++ body_field))
    ∙ ap (λ l. old ++ (varint_text 34 ++ l)) (ap (λ m. varint_text m ++ (header_field ++ body_field)) long ∙ ap (λ l. varint_text (length (batch_text (header, body))) ++ l) (sym both))
  where
    header_field : List ℕ
    header_field = fields_text (present (bytes_field 1 header ∷ []))

    body_field : List ℕ
    body_field = fields_text (present (bytes_field 2 body ∷ []))

    both : batch_text (header, body) ≡ header_field ++ body_field
    both =
        flat_map-append field_text (present (bytes_field 1 header ∷ [])) (present (bytes_field 2 body ∷ []) ++ [])
        ∙ ap (λ fs. header_field ++ fields_text fs) (append-nil (present (bytes_field 2 body ∷ [])))

-- no field is written of no byte
pub no_body : (old body : List ℕ) → length body ≡ 0 → old ≡ old ++ fields_text (present (bytes_field 2 body ∷ []))
no_body old [] none = sym (append-nil old)
no_body old (x ∷ body) none = absurd (omega (arith, none))

-- a key, a length and the bytes
pub body_put : (old body a b text : List ℕ) (count : ℕ) → ¬ (count ≡ 0) → length body ≡ count → a ≡ old ++ varint_text 18 → b ≡ a ++ varint_text count
    → text ≡ b ++ body → text ≡ old ++ fields_text (present (bytes_field 2 body ∷ []))
body_put old body a b text count some long key counted put =
    put
    ∙ ap (λ l. l ++ body) (counted ∙ ap (λ l. l ++ varint_text count) key)
    ∙ append_assoc (old ++ varint_text 18) (varint_text count) body
    ∙ append_assoc old (varint_text 18) (varint_text count ++ body)
    ∙ ap (λ n. old ++ (varint_text 18 ++ (varint_text n ++ body))) (sym long)
    ∙ ap (λ l. old ++ l) (sym (append-nil (part 2 body)) ∙ ap fields_text (sym (kept 2 body (omega (arith, some, long)))))

pub same_parts : (old new h header body : List ℕ) → h ≡ header → new ≡ old ++ part 4 (batch_text (h, body)) → new ≡ old ++ part 4 (batch_text (header, body))
same_parts old new h header body same put = subst (λ l. new ≡ old ++ part 4 (batch_text (l, body))) same put

-- ---- one batch after the other

-- with what these are written as behind it, the text is what it is to be
pub record StillPut (schema : SchemaTree) (batches : List Batch) (old text : List ℕ) (left : List Batch) : Type 0 where
  pub rest : text ++ batches_text (parts_held schema left) ≡ old ++ batches_text (parts_held schema batches)
  pub each : AllByRecursion (IsBatchOf schema) left
  pub short : AreShort schema left

pub none_put : (schema : SchemaTree) (batches : List Batch) (old : List ℕ) → AllByRecursion (IsBatchOf schema) batches → AreShort schema batches
    → StillPut schema batches old old batches
none_put schema batches old each short = record { rest = refl; each = each; short = short }

module _ (schema : SchemaTree) (batches : List Batch) (old text : List ℕ) (i : ℕ) where
  module _ (x : Batch) (there : i < length batches) (is : x ≡ slice_index_or batches i x) (still : StillPut schema batches old text (drop i batches)) where
    at_next : StillPut schema batches old text (x ∷ drop (i + 1) batches)
    at_next = subst (StillPut schema batches old text) (next_left batches i x there is) still

    pub next_of_schema : IsBatchOf schema x
    next_of_schema = at_next.each.0

    pub next_short : (length (batch_parts schema (rows_of x)).0 ≤ 16777216) × (length (batch_parts schema (rows_of x)).1 ≤ 16777216)
    next_short = at_next.short.0

    pub next_put : (new : List ℕ) → new ≡ text ++ part 4 (batch_text (batch_parts schema (rows_of x))) → StillPut schema batches old new (drop (i + 1) batches)
    next_put new put = record {
      rest =
          ap (λ l. l ++ batches_text (parts_held schema (drop (i + 1) batches))) put
          ∙ append_assoc text (part 4 (batch_text (batch_parts schema (rows_of x)))) (batches_text (parts_held schema (drop (i + 1) batches)))
          ∙ at_next.rest;
      each = at_next.each.1;
      short = at_next.short.1;
    }

  pub all_put : length batches ≤ i → StillPut schema batches old text (drop i batches) → text ≡ old ++ batches_text (parts_held schema batches)
  all_put over still =
      let end = subst (StillPut schema batches old text) (none_left batches i over) still in sym (append-nil text) ∙ end.rest

-- ---- the whole

pub upload_put : (table id : List ℕ) (schema : SchemaTree) (batches : List Batch) (a b c d e : List ℕ) → 1 ≤ length table → length id ≡ 16
    → a ≡ [] → b ≡ a ++ part 1 table → c ≡ b ++ part 2 id → d ≡ c ++ part 3 (schema_text schema) → e ≡ d ++ batches_text (parts_held schema batches)
    → e ≡ upload_text (upload_of table id schema batches)
upload_put table id schema batches a b c d e there long none first second third fourth =
    fourth
    ∙ ap (λ l. l ++ rest) (third ∙ ap (λ l. l ++ part 3 (schema_text schema)) (second ∙ ap (λ l. l ++ part 2 id) (first ∙ ap (λ l. l ++ part 1 table) none)))
    ∙ append_assoc (part 1 table ++ part 2 id) (part 3 (schema_text schema)) rest
    ∙ append_assoc (part 1 table) (part 2 id) (part 3 (schema_text schema) ++ rest)
    ∙ sym (parts_text (upload_of table id schema batches) there (omega (arith, long)))
  where
    rest : List ℕ
    rest = batches_text (parts_held schema batches)
