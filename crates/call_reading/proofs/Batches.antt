-- An upload on its way, before and behind a message.
use Rattle.std.proofs.Common.{◌≡◌, ◌≤◌, ◌<◌, ◌+◌, ◌⊎◌, ℕ, List, [], ◌∷◌, ◌++◌, length, map, Some, refl, sym, ap, subst, ◌∙◌, append-nil, arith, string_bytes, inl, inr, Bool, true, Result, Ok, Err, OnOk, IfOk, IfErr}
use Rattle.std.specs.List.{AllByRecursion}
use Rattle.std.proofs.lemmas.Bool.{cases_lt}
use Rattle.std.proofs.lemmas.List.{map_push, length_push}
use Rattle.grpc_frames.specs.Frame.{payload_limit}
use Rattle.proto_messages.specs.Descriptor.{IsMessage}
use Rattle.proto_wire.specs.Flight.{data_descriptor}
use Rattle.header_types.specs.Fields.{SchemaTree}
use Rattle.header_types.specs.Header.{schema_header, ShowsHeader}
use Rattle.header_types.specs.Views.{schema_of}
use Rattle.header_types.specs.Profile.{InProfile}
use Rattle.batch_columns.specs.Batches.{rows_of, IsBatchOf}
use Rattle.batch_columns.specs.declared.batch.Batch.{Batch}
use Rattle.batch_types.specs.Canonical.{canonical_body}
use Rattle.batch_types.specs.Cells.{Rows}
use Rattle.table_types.specs.Uploads.{Upload, schema_text, head_text}
use Rattle.table_types.specs.Valid.{IsTableName, IsId, FitsFrame, batches_limit, upload_limit}
use Rattle.uploads.specs.Parts.{batch_parts, batches_parts, batch_text, batches_text, served_of}
use Rattle.uploads.proofs.CallerLemmas.{part, parts_text, parts_fit, more_long, message_long}
use Rattle.uploads.specs.Making.{upload_of, AreOfSchema, IsSmall}
use Rattle.uploads.specs.Sized.{parts_held}
use Rattle.call_protocol.specs.declared.refusal.CallRefusal.{CallRefusal}
use Rattle.call_protocol.specs.Names.{Descriptor, NamesUpload}
use Rattle.call_reading.specs.declared.upload_builder.UploadBuilder.{UploadBuilder}
use Rattle.call_reading.specs.Requests.{Data, header_in, body_in, Opens, IsBlank, HasBatch, Adds}
use Rattle.call_reading.specs.declared.upload_builder.Addition.{Addition}
use Rattle.call_reading.specs.declared.upload_builder.Addition.TheVariants as additions
use Rattle.call_reading.specs.Additions.{HasAddition, AddsAs, HasRoom}
use Rattle.call_reading.specs.Faults.{MeansAtFault, OpeningFault, SchemaFault, HeadFault, BatchFaultIn, FurtherFault}
use Rattle.call_reading.specs.Builder.{IsTooMuch, OpensSome, IsOnItsWay, Holds, HoldsMore, SizeWith, IsCounted, with_more, Grows}

-- ---- lists

all_front : {A : Type 0} (P : A → Type 0) (xs ys : List A) → AllByRecursion P (xs ++ ys) → AllByRecursion P xs
all_front P [] ys all = tt
all_front P (x ∷ xs) ys all = (all.0, all_front P xs ys all.1)

all_last : {A : Type 0} (P : A → Type 0) (xs : List A) (x : A) → AllByRecursion P (xs ++ x ∷ []) → P x
all_last P [] x all = all.0
all_last P (y ∷ xs) x all = all_last P xs x all.1

all_push : {A : Type 0} (P : A → Type 0) (xs : List A) (x : A) → AllByRecursion P xs → P x → AllByRecursion P (xs ++ x ∷ [])
all_push P [] x all h = (h, tt)
all_push P (y ∷ xs) x all h = (all.0, all_push P xs x all.1 h)

parts_more : (schema : SchemaTree) (xs ys : List Rows) → map (batch_parts schema) (xs ++ ys) ≡ map (batch_parts schema) xs ++ map (batch_parts schema) ys
parts_more schema [] ys = refl
parts_more schema (x ∷ xs) ys = ap (λ l. batch_parts schema x ∷ l) (parts_more schema xs ys)

text_more : (xs ys : List (List ℕ × List ℕ)) → length (batches_text (xs ++ ys)) ≡ length (batches_text xs) + length (batches_text ys)
text_more [] ys = omega arith
text_more (x ∷ xs) ys =
    omega (arith, more_long 4 (batch_text x) (batches_text (xs ++ ys)), more_long 4 (batch_text x) (batches_text xs), text_more xs ys)

-- how long what is written is with one batch more
text_push : (schema : SchemaTree) (xs : List Rows) (x : Rows)
    → length (batches_text (map (batch_parts schema) (xs ++ x ∷ []))) ≡ length (batches_text (map (batch_parts schema) xs)) + length (part 4 (batch_text (batch_parts schema x)))
text_push schema xs x =
    omega (
      arith,
      ap (λ l. length (batches_text l)) (parts_more schema xs (x ∷ [])),
      text_more (map (batch_parts schema) xs) (batch_parts schema x ∷ []),
      more_long 4 (batch_text (batch_parts schema x)) [],
    )

-- ---- what is too much

too_much_more : (upload : Upload) (more : List Rows) → IsTooMuch upload → IsTooMuch (with_more upload more)
too_much_more upload more much =
    let split = parts_more upload.schema upload.batches more in
    let each : List ℕ × List ℕ → Type 0 = λ parts. FitsFrame (served_of upload.id parts) in
    elim much [
      | inl long ↦
          inl (omega (
            arith,
            long,
            ap (λ l. length (batches_text l)) split,
            text_more (batches_parts upload) (map (batch_parts upload.schema) more),
          ))
      | inr unserved ↦
          inr (λ all.
          unserved (all_front each (batches_parts upload) (map (batch_parts upload.schema) more) (subst (λ l. AllByRecursion each l) split all)))
    ]

pub not_small : (upload : Upload) → 1 ≤ length upload.table → 1 ≤ length upload.id → IsTooMuch upload → ¬ IsSmall upload
not_small upload table id much small =
    elim much [
      | inl long ↦
          absurd (omega (
            arith,
            long,
            small.short,
            ap length (parts_text upload table id),
            more_long 1 upload.table (part 2 upload.id ++ (part 3 (schema_text upload.schema) ++ batches_text (batches_parts upload))),
            more_long 2 upload.id (part 3 (schema_text upload.schema) ++ batches_text (batches_parts upload)),
            more_long 3 (schema_text upload.schema) (batches_text (batches_parts upload)),
          ))
      | inr unserved ↦ unserved (parts_fit upload small.batches_served)
    ]

-- ---- one batch more

pub of_schema_push : (schema : SchemaTree) (old new : List Batch) (batch : Batch) → AreOfSchema schema old → IsBatchOf schema batch → new ≡ old ++ batch ∷ [] → AreOfSchema schema new
of_schema_push schema old new batch h is e = record {
  profile = h.profile;
  each = subst (λ l. AllByRecursion (IsBatchOf schema) l) (sym e) (all_push (IsBatchOf schema) old batch h.each is);
}

module _ (old : UploadBuilder) (rows : Rows) (size : ℕ) (way : IsOnItsWay old) (counted : SizeWith old rows size) where
  held_size : (upload : Upload) → Holds old upload → old.size ≤ upload_limit → upload.batches ≡ map rows_of old.batches.items
      → old.size ≡ length (batches_text (batches_parts upload))
  held_size upload holds within are =
      way.sized within
      ∙ ap (λ l. length (batches_text (map (batch_parts (schema_of old.schema)) l))) (sym are)
      ∙ ap (λ s. length (batches_text (map (batch_parts s) upload.batches))) (sym holds.schema_is)

  long_with : (upload : Upload) → Holds old upload → old.size ≤ upload_limit → upload.batches ≡ map rows_of old.batches.items → upload_limit < size
      → size ≡ old.size + length (part 4 (batch_text (batch_parts (schema_of old.schema) rows))) → IsTooMuch (with_more upload (rows ∷ []))
  long_with upload holds within are over is =
      inl (omega (
        arith,
        over,
        is,
        held_size upload holds within are,
        ap (λ s. length (part 4 (batch_text (batch_parts s rows)))) holds.schema_is,
        text_push upload.schema upload.batches rows,
      ))

  unserved_with : (upload : Upload) → Holds old upload → (¬ FitsFrame (served_of old.id (batch_parts (schema_of old.schema) rows))) → IsTooMuch (with_more upload (rows ∷ []))
  unserved_with upload holds unserved =
      let each : List ℕ × List ℕ → Type 0 = λ parts. FitsFrame (served_of upload.id parts) in
      let split = parts_more upload.schema upload.batches (rows ∷ []) in
      inr (λ all.
      unserved (subst (λ i. FitsFrame (served_of i (batch_parts (schema_of old.schema) rows))) holds.id_is
      (subst (λ s. FitsFrame (served_of upload.id (batch_parts s rows))) holds.schema_is
      (all_last each (batches_parts upload) (batch_parts upload.schema rows) (subst (λ l. AllByRecursion each l) split all)))))

  over_with : (upload : Upload) → Holds old upload → upload_limit < size → IsTooMuch (with_more upload (rows ∷ []))
  over_with upload holds over =
      elim holds.batches_are [
        | inr much ↦ too_much_more upload (rows ∷ []) much.1
        | inl held ↦
            elim counted [
              | inl served ↦ long_with upload holds held.0 held.1 over served.2
              | inr much ↦
                  elim much.0 [
                    | inl already ↦ absurd (omega (arith, already, held.0))
                    | inr unserved ↦ unserved_with upload holds unserved
                  ]
            ]
      ]

  -- none is kept any more
  pub holds_over : (new : UploadBuilder) → IsCounted old new [] (old.count + 1) size → upload_limit < size → HoldsMore (rows ∷ []) old new
  holds_over new h over = λ upload holds. record {
    table_is = holds.table_is ∙ ap string_bytes (sym h.table_is);
    id_is = holds.id_is ∙ sym h.id_is;
    schema_is = holds.schema_is ∙ ap schema_of (sym h.schema_is);
    count_is = h.count_is ∙ ap (λ n. n + 1) holds.count_is ∙ sym (length_push upload.batches rows);
    batches_are = inr (omega (arith, over, h.size_is), over_with upload holds over);
  }

  pub way_over : (new : UploadBuilder) → IsCounted old new [] (old.count + 1) size → upload_limit < size → old.count < batches_limit → IsOnItsWay new
  way_over new h over room = record {
    named = subst (λ t. IsTableName (string_bytes t)) (sym h.table_is) way.named;
    id_named = subst (λ i. IsId i) (sym h.id_is) way.id_named;
    of_schema =
        record {
          profile = subst (λ s. InProfile (schema_of s)) (sym h.schema_is) way.of_schema.profile;
          each = subst (λ l. AllByRecursion (IsBatchOf (schema_of new.schema)) l) (sym h.batches_are) tt;
        };
    few = omega (arith, h.count_is, room);
    kept = omega (arith, ap length h.batches_are);
    sized = λ within. absurd (omega (arith, within, over, h.size_is));
  }

  -- the batch is kept
  pub holds_kept : (new : UploadBuilder) (batch : Batch) → IsCounted old new (old.batches.items ++ batch ∷ []) (old.count + 1) size → size ≤ upload_limit → rows_of batch ≡ rows
      → HoldsMore (rows ∷ []) old new
  holds_kept new batch h within same = λ upload holds. record {
    table_is = holds.table_is ∙ ap string_bytes (sym h.table_is);
    id_is = holds.id_is ∙ sym h.id_is;
    schema_is = holds.schema_is ∙ ap schema_of (sym h.schema_is);
    count_is = h.count_is ∙ ap (λ n. n + 1) holds.count_is ∙ sym (length_push upload.batches rows);
    batches_are = inl (omega (arith, within, h.size_is), all_of upload holds);
  }
    where
      not_over : old.size ≤ upload_limit
      not_over = elim counted [ inl served ↦ served.0 | inr much ↦ absurd (omega (arith, much.1, within)) ]

      all_of : (upload : Upload) → Holds old upload → upload.batches ++ rows ∷ [] ≡ map rows_of new.batches.items
      all_of upload holds =
          elim holds.batches_are [
            | inr much ↦ absurd (omega (arith, much.0, not_over))
            | inl held ↦
                ap (λ l. l ++ rows ∷ []) held.1
                ∙ ap (λ r. map rows_of old.batches.items ++ r ∷ []) (sym same)
                ∙ sym (map_push rows_of old.batches.items batch)
                ∙ ap (λ l. map rows_of l) (sym h.batches_are)
          ]

  pub way_kept : (new : UploadBuilder) (batch : Batch) → IsCounted old new (old.batches.items ++ batch ∷ []) (old.count + 1) size → size ≤ upload_limit → rows_of batch ≡ rows
      → IsBatchOf (schema_of old.schema) batch → old.count < batches_limit → IsOnItsWay new
  way_kept new batch h within same of_schema room = record {
    named = subst (λ t. IsTableName (string_bytes t)) (sym h.table_is) way.named;
    id_named = subst (λ i. IsId i) (sym h.id_is) way.id_named;
    of_schema =
        subst (λ s. AreOfSchema (schema_of s) new.batches.items) (sym h.schema_is)
        (of_schema_push (schema_of old.schema) old.batches.items new.batches.items batch way.of_schema of_schema h.batches_are);
    few = omega (arith, h.count_is, room);
    kept = omega (arith, ap length h.batches_are, length_push old.batches.items batch, way.kept, h.count_is);
    sized = λ bound. h.size_is ∙ grown ∙ sym written;
  }
    where
      S : SchemaTree
      S = schema_of old.schema

      size_of : ℕ
      size_of = length (part 4 (batch_text (batch_parts S rows)))

      grown : size ≡ length (batches_text (parts_held S old.batches.items)) + size_of
      grown =
          elim counted [
            | inl served ↦ served.2 ∙ ap (λ n. n + size_of) (way.sized served.0)
            | inr much ↦ absurd (omega (arith, much.1, within))
          ]

      written : length (batches_text (parts_held (schema_of new.schema) new.batches.items)) ≡ length (batches_text (parts_held S old.batches.items)) + size_of
      written =
          ap (λ s. length (batches_text (parts_held (schema_of s) new.batches.items))) h.schema_is
          ∙ ap (λ l. length (batches_text (parts_held S l))) h.batches_are
          ∙ ap (λ l. length (batches_text (map (batch_parts S) l))) (map_push rows_of old.batches.items batch)
          ∙ ap (λ r. length (batches_text (map (batch_parts S) (map rows_of old.batches.items ++ r ∷ [])))) same
          ∙ text_push S (map rows_of old.batches.items) rows

-- ---- a batch that is left out

-- no frame has room for what is served of a batch whose body is longer by itself
too_long : (schema : SchemaTree) (id : List ℕ) (rows : Rows) → payload_limit < length (canonical_body schema rows)
    → ¬ FitsFrame (served_of id (batch_parts schema rows))
too_long schema id rows long = λ fits. omega (arith, long, fits, (message_long (head_text schema rows) id (canonical_body schema rows)).2)

-- it is too much with those before it
pub left_out_size : (i : UploadBuilder) (rows : Rows) (size : ℕ) → (i.size ≤ upload_limit → payload_limit < length (canonical_body (schema_of i.schema) rows))
    → upload_limit < size → SizeWith i rows size
left_out_size i rows size long over =
    elim (cases_lt upload_limit i.size) [
      | inl already ↦ inr (inl already, over)
      | inr within ↦ inr (inr (too_long (schema_of i.schema) i.id rows (long within)), over)
    ]

-- what is left out is counted, and is too much
abbrev LeavesOut : UploadBuilder → List ℕ → Bool → Type 0
LeavesOut i message wanted =
    (rows : Rows) × Adds (schema_of i.schema) message (rows ∷ [])
    × (wanted ≡ true → payload_limit < length (canonical_body (schema_of i.schema) rows))

module _ (old new : UploadBuilder) (message : List ℕ) (wanted : Bool) (added : Addition) (way : IsOnItsWay old) (is : added ≡ additions.LeftOut)
    (adds : AddsAs (schema_of old.schema) wanted message added) (room : HasRoom old.count added) (within : old.size ≤ upload_limit → wanted ≡ true) where
  left_out : LeavesOut old message wanted
  left_out = subst (AddsAs (schema_of old.schema) wanted message) is adds

  pub grows_left_out : (size : ℕ) → upload_limit < size → IsCounted old new [] (old.count + 1) size → Grows message old new
  grows_left_out size over counted = record {
    more = left_out.0 ∷ [];
    adds = left_out.1;
    holds =
        holds_over old left_out.0 size way (left_out_size old left_out.0 size (λ small. left_out.2 (within small)) over) new counted
        over;
  }

  pub way_left_out : (size : ℕ) → upload_limit < size → IsCounted old new [] (old.count + 1) size → IsOnItsWay new
  way_left_out size over counted =
      way_over old left_out.0 size way (left_out_size old left_out.0 size (λ small. left_out.2 (within small)) over) new counted over
      (subst (HasRoom old.count) is room)

-- an upload that was opened
pub way_opened : (i : UploadBuilder) (descriptor : Descriptor) (table : List ℕ) → NamesUpload descriptor table i.id → string_bytes i.table ≡ table → InProfile (schema_of i.schema)
    → i.batches.items ≡ [] → i.count ≡ 0 → i.size ≡ 0 → IsOnItsWay i
way_opened i descriptor table names is profile none count size = record {
  named = subst IsTableName (sym is) names.named;
  id_named = names.id_named;
  of_schema =
      record {
        profile = profile;
        each = subst (λ l. AllByRecursion (IsBatchOf (schema_of i.schema)) l) (sym none) tt;
      };
  few = omega (arith, count);
  kept = omega (arith, ap length none);
  sized = λ within. size ∙ ap (λ l. length (batches_text (parts_held (schema_of i.schema) l))) (sym none);
}

of_parts : List ℕ → List ℕ → SchemaTree → List Rows → Upload
of_parts table id schema batches = record { table = table; id = id; schema = schema; batches = batches }

-- the upload of what is kept, while it is not too much
pub held_is : (i : UploadBuilder) (upload : Upload) → Holds i upload → i.size ≤ upload_limit
    → upload_of (string_bytes i.table) i.id (schema_of i.schema) i.batches.items ≡ upload
unfolding of_parts
held_is i upload h within =
    ap (λ t. of_parts t i.id (schema_of i.schema) (map rows_of i.batches.items)) (sym h.table_is)
    ∙ ap (λ d. of_parts upload.table d (schema_of i.schema) (map rows_of i.batches.items)) (sym h.id_is)
    ∙ ap (λ s. of_parts upload.table upload.id s (map rows_of i.batches.items)) (sym h.schema_is)
    ∙ ap (λ b. of_parts upload.table upload.id upload.schema b) (sym batches)
  where
    batches : upload.batches ≡ map rows_of i.batches.items
    batches =
        elim h.batches_are [
          | inl held ↦ held.1
          | inr much ↦ absurd (omega (arith, much.0, within))
        ]

pub made_is : (i : UploadBuilder) (upload : Upload) → Holds i upload → i.size ≤ upload_limit → (table : List ℕ) (batches : List Batch) → table ≡ string_bytes i.table → batches ≡ i.batches.items
    → upload_of table i.id (schema_of i.schema) batches ≡ upload
made_is i upload h within table batches named kept =
    ap (λ t. upload_of t i.id (schema_of i.schema) batches) named
    ∙ ap (λ b. upload_of (string_bytes i.table) i.id (schema_of i.schema) b) kept ∙ held_is i upload h within

-- none is made of what is too much
pub none_made : (i : UploadBuilder) (upload : Upload) → Holds i upload → IsOnItsWay i → upload_limit < i.size → ¬ IsSmall upload
none_made i upload h way over =
    elim h.batches_are [
      | inl held ↦ absurd (omega (arith, held.0, over))
      | inr much ↦
          not_small upload (omega (arith, way.named.some, ap length h.table_is)) (omega (arith, way.id_named.whole, ap length h.id_is)) much.1
    ]

-- what was refused memory is as before
pub way_same : (old new : UploadBuilder) → IsCounted old new old.batches.items old.count old.size → IsOnItsWay old → IsOnItsWay new
way_same old new h way = record {
  named = subst (λ t. IsTableName (string_bytes t)) (sym h.table_is) way.named;
  id_named = subst (λ i. IsId i) (sym h.id_is) way.id_named;
  of_schema =
      subst (λ s. AreOfSchema (schema_of s) new.batches.items) (sym h.schema_is)
      (subst (λ l. AreOfSchema (schema_of old.schema) l) (sym h.batches_are) way.of_schema);
  few = omega (arith, h.count_is, way.few);
  kept = omega (arith, h.count_is, ap length h.batches_are, way.kept);
  sized = λ within.
      h.size_is ∙ way.sized (omega (arith, within, h.size_is))
      ∙ ap (λ l. length (batches_text (parts_held (schema_of old.schema) l))) (sym h.batches_are)
      ∙ ap (λ s. length (batches_text (parts_held (schema_of s) new.batches.items))) (sym h.schema_is);
}

-- ---- messages

-- a message that adds nothing leaves the upload as it is
pub grows_nothing : (message : List ℕ) (i : UploadBuilder) → Adds (schema_of i.schema) message [] → Grows message i i
grows_nothing message i adds = record {
  more = [];
  adds = adds;
  holds = λ upload holds. record {
    table_is = holds.table_is;
    id_is = holds.id_is;
    schema_is = holds.schema_is;
    count_is = holds.count_is ∙ ap length (sym (append-nil upload.batches));
    batches_are =
        elim holds.batches_are [
          | inl held ↦ inl (held.0, append-nil upload.batches ∙ held.1)
          | inr much ↦ inr (much.0, too_much_more upload [] much.1)
        ];
  };
}

-- a further message that is not passed over, and is at fault
pub further_fault : (schema : SchemaTree) (count : ℕ) (message header body : List ℕ) (values : Data) (refusal : CallRefusal) → IsMessage data_descriptor message values → header ≡ header_in values
    → body ≡ body_in values → (¬ IsBlank header body) → HeadFault header refusal ⊎ BatchFaultIn schema count header body refusal
    → MeansAtFault data_descriptor (FurtherFault schema count) message refusal
further_fault schema count message header body values refusal means head tail there fault =
    inr (
      values,
      means,
      subst (λ h. (¬ IsBlank h (body_in values)) × (HeadFault h refusal ⊎ BatchFaultIn schema count h (body_in values) refusal)) head
          (subst (λ b. (¬ IsBlank header b) × (HeadFault header refusal ⊎ BatchFaultIn schema count header b refusal)) tail (there, fault)),
    )

pub further_faults : (schema : SchemaTree) (count : ℕ) (message header body : List ℕ) (values : Data) → IsMessage data_descriptor message values
    → header ≡ header_in values → body ≡ body_in values → (¬ IsBlank header body) → (r : Result Addition CallRefusal)
    → IfErr r (λ refusal. HeadFault header refusal ⊎ BatchFaultIn schema count header body refusal)
    → IfErr r (MeansAtFault data_descriptor (FurtherFault schema count) message)
further_faults schema count message header body values means head tail there (Ok added) fault = tt
further_faults schema count message header body values means head tail there (Err refusal) fault =
    further_fault schema count message header body values refusal means head tail there fault

-- and one that has a batch
adds_batch : (schema : SchemaTree) (message header body : List ℕ) (values : Data) (rows : Rows) → IsMessage data_descriptor message values
    → header ≡ header_in values → body ≡ body_in values → HasBatch schema header body rows → Adds schema message (rows ∷ [])
adds_batch schema message header body values rows means head tail has = record {
  values = values;
  means = means;
  adds =
      inr (
        rows,
        subst (λ h. HasBatch schema h (body_in values) rows) head (subst (λ b. HasBatch schema header b rows) tail has),
        refl,
      );
}

pub adds_as : (schema : SchemaTree) (wanted : Bool) (message header body : List ℕ) (values : Data) → IsMessage data_descriptor message values
    → header ≡ header_in values → body ≡ body_in values → (r : Result Addition CallRefusal)
    → IfOk r (HasAddition schema wanted header body) → IfOk r (AddsAs schema wanted message)
adds_as schema wanted message header body values means head tail (Err refusal) has = tt
adds_as schema wanted message header body values means head tail (Ok additions.Nothing) has = absurd has
adds_as schema wanted message header body values means head tail (Ok (additions.Built batch)) has =
    (adds_batch schema message header body values (rows_of batch) means head tail has.0, has.1, has.2)
adds_as schema wanted message header body values means head tail (Ok additions.LeftOut) has =
    (has.0, adds_batch schema message header body values has.0 means head tail has.1, has.2)

pub room_as : (count : ℕ) (r : Result Addition CallRefusal) → OnOk r (count < batches_limit) → IfOk r (λ added. HasRoom count added)
room_as count (Err refusal) room = tt
room_as count (Ok additions.Nothing) room = tt
room_as count (Ok (additions.Built batch)) room = room
room_as count (Ok additions.LeftOut) room = room

-- a schema at fault in a first message
pub opens_some : (message header : List ℕ) (values : Data) (descriptor : Descriptor) (table id : List ℕ) (schema : SchemaTree) → IsMessage data_descriptor message values
    → values.0 ≡ Some descriptor → NamesUpload descriptor table id → header ≡ header_in values → ShowsHeader header (schema_header schema) → OpensSome message
opens_some message header values descriptor table id schema means is names same shown = (
  table,
  id,
  schema,
  record {
    values = values;
    means = means;
    descriptor = descriptor;
    descriptor_is = is;
    names = names;
    shows_schema = subst (λ h. ShowsHeader h (schema_header schema)) same shown;
  },
)

pub opening_schema : (message header : List ℕ) (values : Data) (refusal : CallRefusal) → IsMessage data_descriptor message values → header ≡ header_in values → SchemaFault header refusal
    → MeansAtFault data_descriptor OpeningFault message refusal
opening_schema message header values refusal means is fault =
    inr (values, means, inr (inr (subst (λ (h : List ℕ). SchemaFault h refusal) is fault)))
