-- An upload is served batch by batch.
use Rattle.std.proofs.Common.{◌≡◌, ◌≢◌, refl, sym, ap, ap₂, subst, ◌∙◌, ℕ, ◌+◌, ◌<◌, ◌≤◌, ℤ, pos, Fits, w64, Bool, true, false, true≢false, Some, None, List, [], ◌∷◌, ◌++◌, map, length, length-append, append_assoc, arith}
use Rattle.std.specs.Borrow.{Bor}
use Rattle.std.specs.List.{AllByRecursion, sum_by}
use Rattle.std.proofs.lemmas.List.{append-nil, map_push}
use Rattle.std.proofs.lemmas.List.Sums.{sum_by-cons, sum_by-append}
use Rattle.proto_fields.specs.Field.{present}
use Rattle.proto_messages.specs.Canonical.{bytes_field}
use Rattle.header_types.specs.Fields.{SchemaTree}
use Rattle.header_types.specs.Header.{Head, Header, schema_header, batch_header, ShowsHeader}
use Rattle.header_types.specs.Profile.{InProfile}
use Rattle.header_writing.specs.Canonical.{header_text}
use Rattle.flatbuf_meta.specs.Writable.{IsWritable}
use Rattle.batch_types.specs.Cells.{Rows}
use Rattle.batch_types.specs.Canonical.{canonical_head, canonical_body}
use Rattle.batch_types.specs.Written.{CanBeWritten}
use Rattle.table_types.specs.Uploads.{Upload, head_text}
use Rattle.table_types.specs.Valid.{IsUpload, FitsFrame, upload_limit}
use Rattle.table_types.specs.Served.{data_text, in_frame, batch_message, messages_of}
use Rattle.uploads.specs.Parts.{batch_parts, batch_text, HasLeft, Gives}
use Rattle.table_types.specs.Tables.{rows_of_upload}
use Rattle.table_versions.specs.Ledger.{frames_of}
use Rattle.table_versions.specs.Serving.{IsWrittenHead}
use Rattle.table_versions.proofs.Messages.{text_long, held_long, present_long, both_long, body_long}
use Rattle.table_versions.proofs.Sizes.{rows_few}

-- ---- what stands behind some of a list

behind : (P : List ℕ → Type 0) (f : Rows → List ℕ) (done : List Rows) (rows : Rows) (rest : List Rows) → AllByRecursion P (map f (done ++ rows ∷ rest)) → P (f rows)
behind P f [] rows rest all = all.0
behind P f (x ∷ done) rows rest all = behind P f done rows rest all.1

behind_rows : (P : Rows → Type 0) (done : List Rows) (rows : Rows) (rest : List Rows) → AllByRecursion P (done ++ rows ∷ rest) → P rows
behind_rows P [] rows rest all = all.0
behind_rows P (x ∷ done) rows rest all = behind_rows P done rows rest all.1

served_all : (u : Upload) (batches : List Rows) (done : List Rows) (rows : Rows) (rest : List Rows) → batches ≡ done ++ rows ∷ rest
    → AllByRecursion FitsFrame (messages_of u batches) → AllByRecursion FitsFrame (map (batch_message u) (done ++ rows ∷ rest))
served_all u [] [] rows rest split fit = absurd cc
served_all u [] (x ∷ done) rows rest split fit = absurd cc
served_all u (x ∷ more) done rows rest split fit = subst (λ l. AllByRecursion FitsFrame (map (batch_message u) l)) split fit

-- ---- some batches were served, and the others are left

pub record IsServing (u : Upload) (frames : List (List ℕ)) (records : ℕ) (left : List ℕ) : Type 0 where
  pub done : List Rows
  pub rest : List Rows
  pub split : u.batches ≡ done ++ rest
  pub left_is : HasLeft left (map (batch_parts u.schema) rest)
  pub frames_are : frames ≡ map in_frame (map (batch_message u) done)
  pub records_are : records ≡ sum_by (λ rows. rows.count) done

-- the next batch
pub record IsNextServed (u : Upload) (frames : List (List ℕ)) (records : ℕ) (left header body : List ℕ) : Type 0 where
  pub rows : Rows
  pub fits : FitsFrame (data_text header u.id body)
  pub written : IsWrittenHead header u.schema rows
  pub small : records + rows.count ≤ 1073741824
  pub step : (more : List (List ℕ)) → more ≡ frames ++ in_frame (data_text header u.id body) ∷ [] → IsServing u more (records + rows.count) left

pub serving_start : (u : Upload) (left : List ℕ) → HasLeft left (map (batch_parts u.schema) u.batches) → IsServing u [] 0 left
serving_start u left is = record {
  done = [];
  rest = u.batches;
  split = refl;
  left_is = is;
  frames_are = refl;
  records_are = refl;
}

module _ (u : Upload) (valid : IsUpload u) (frames : List (List ℕ)) (records : ℕ) (done : List Rows)
    (frames_are : frames ≡ map in_frame (map (batch_message u) done)) (records_are : records ≡ sum_by (λ rows. rows.count) done) where
  next_of : (rest : List Rows) (given : Bor (List ℕ) × Bor (List ℕ)) (left : List ℕ) → u.batches ≡ done ++ rest
      → Gives (Some given) left (map (batch_parts u.schema) rest) → IsNextServed u frames records left given.0.now given.1.now
  next_of [] given left split gives = absurd (none_given given gives.0)
    where
      none_given : (given : Bor (List ℕ) × Bor (List ℕ)) → Some given ≡ None → ⊥
      none_given given same = cc
  next_of (rows ∷ rest) given left split gives =
      let all : AllByRecursion FitsFrame (map (batch_message u) (done ++ rows ∷ rest)) = served_all u u.batches done rows rest split valid.batches_served in
      let message : data_text given.0.now u.id given.1.now ≡ batch_message u rows = ap₂ (λ h b. data_text h u.id b) gives.0 gives.1 in
      let fits_it : FitsFrame (batch_message u rows) = behind FitsFrame (batch_message u) done rows rest all in
      let small_body = body_long (head_text u.schema rows) u.id (canonical_body u.schema rows) in
      let sums = ap (sum_by (λ (r : Rows). r.count)) split in
      record {
        rows = rows;
        fits = subst FitsFrame (sym message) fits_it;
        written = record {
          profile = valid.profile;
          can = behind_rows (CanBeWritten u.schema) done rows rest (subst (AllByRecursion (CanBeWritten u.schema)) split valid.batches_written);
          short = omega (arith, small_body, fits_it);
          is = gives.0;
        };
        small =
            omega (
              arith,
              records_are,
              sums,
              sum_by-append (λ (r : Rows). r.count) done (rows ∷ rest),
              sum_by-cons (λ (r : Rows). r.count) rows rest,
              rows_few u valid,
            );
        step = λ more grown. record {
          done = done ++ rows ∷ [];
          rest = rest;
          split = split ∙ sym (append_assoc done (rows ∷ []) rest);
          left_is = gives.2;
          frames_are =
              grown
              ∙ ap₂ (λ a b. a ++ in_frame b ∷ []) frames_are message
              ∙ sym (map_push in_frame (map (batch_message u) done) (batch_message u rows))
              ∙ ap (map in_frame) (sym (map_push (batch_message u) done rows));
          records_are =
              omega (
                arith,
                records_are,
                sum_by-append (λ (r : Rows). r.count) done (rows ∷ []),
                sum_by-cons (λ (r : Rows). r.count) rows [],
              );
        };
      }

pub serving_next : (u : Upload) → IsUpload u → (frames : List (List ℕ)) (records : ℕ) (old left : List ℕ) (given : Bor (List ℕ) × Bor (List ℕ)) (serving : IsServing u frames records old)
    → Gives (Some given) left (map (batch_parts u.schema) serving.rest) → IsNextServed u frames records left given.0.now given.1.now
serving_next u valid frames records old left given serving gives =
    next_of u valid frames records serving.done serving.frames_are serving.records_are serving.rest given left serving.split gives

end_of : (u : Upload) (rest : List Rows) (left : List ℕ) → Gives None left (map (batch_parts u.schema) rest) → rest ≡ []
end_of u [] left gives = refl
end_of u (rows ∷ rest) left gives = absurd gives

messages_are : (u : Upload) (batches : List Rows) → length batches ≢ 0 → messages_of u batches ≡ map (batch_message u) batches
messages_are u [] some = absurd (some refl)
messages_are u (rows ∷ rest) some = refl

-- all were served
pub serving_end : (u : Upload) (frames : List (List ℕ)) (records : ℕ) (old left : List ℕ) (serving : IsServing u frames records old) → length u.batches ≢ 0
    → Gives None left (map (batch_parts u.schema) serving.rest) → (frames ≡ frames_of u) × (records ≡ rows_of_upload u)
serving_end u frames records old left serving some gives =
    let whole : u.batches ≡ serving.done =
    serving.split ∙ ap (λ l. serving.done ++ l) (end_of u serving.rest left gives) ∙ append-nil serving.done
    in (
      serving.frames_are
          ∙ ap (λ l. map in_frame (map (batch_message u) l)) (sym whole)
          ∙ ap (map in_frame) (sym (messages_are u u.batches some)),
      serving.records_are ∙ ap (sum_by (λ rows. rows.count)) (sym whole),
    )

-- an upload without batches is served as one message with its name
name_alone : (u : Upload) (batches : List Rows) → length batches ≡ 0 → (messages_of u batches ≡ data_text [] u.id [] ∷ []) × (sum_by (λ (rows : Rows). rows.count) batches ≡ 0)
name_alone u [] none = (refl, refl)
name_alone u (rows ∷ rest) none = absurd (omega (arith, none))

pub alone_fits : (u : Upload) → IsUpload u → length u.batches ≡ 0 → FitsFrame (data_text [] u.id [])
alone_fits u valid none = (subst (AllByRecursion FitsFrame) (name_alone u u.batches none).0 valid.batches_served).0

pub alone_served : (u : Upload) → length u.batches ≡ 0 → (in_frame (data_text [] u.id []) ∷ [] ≡ frames_of u) × (0 ≡ rows_of_upload u)
alone_served u none =
    let alone = name_alone u u.batches none in (
      ap (map in_frame) (sym alone.0),
      sym alone.1,
    )

-- ---- fewer bytes are left with each batch

batch_long : (parts : List ℕ × List ℕ) → length parts.0 ≤ length (batch_text parts)
batch_long parts =
    omega (
      arith,
      both_long (present (bytes_field 1 parts.0 ∷ [])) (present (bytes_field 2 parts.1 ∷ []) ++ []),
      present_long 1 parts.0,
    )

pub fewer_left : (old left : List ℕ) (parts : List ℕ × List ℕ) (rest : List (List ℕ × List ℕ)) → HasLeft old (parts ∷ rest) → HasLeft left rest → length left < length old
fewer_left old left parts rest before after =
    omega (
      arith,
      ap length before.is,
      ap length after.is,
      text_long (bytes_field 4 (batch_text parts)) (map (λ p. bytes_field 4 (batch_text p)) rest),
      held_long 4 (batch_text parts),
      batch_long parts,
      before.each.0.headed,
    )

shorter_one : (u : Upload) (rest : List Rows) (old left : List ℕ) (given : Bor (List ℕ) × Bor (List ℕ)) → HasLeft old (map (batch_parts u.schema) rest)
    → Gives (Some given) left (map (batch_parts u.schema) rest) → length left < length old
shorter_one u [] old left given before gives = absurd (none_given given gives.0)
  where
    none_given : (given : Bor (List ℕ) × Bor (List ℕ)) → Some given ≡ None → ⊥
    none_given given same = cc
shorter_one u (rows ∷ rest) old left given before gives =
    fewer_left old left (batch_parts u.schema rows) (map (batch_parts u.schema) rest) before gives.2

pub serving_shorter : (u : Upload) (frames : List (List ℕ)) (records : ℕ) (old left : List ℕ) (given : Bor (List ℕ) × Bor (List ℕ)) (serving : IsServing u frames records old)
    → Gives (Some given) left (map (batch_parts u.schema) serving.rest) → length left < length old
serving_shorter u frames records old left given serving gives =
    shorter_one u serving.rest old left given serving.left_is gives

-- ---- what headers say

-- what is written is shown, and the header of a batch can be written
abbrev pub WrittenIsShown : Type 0
WrittenIsShown = (x : Header) → IsWritable x → ShowsHeader (header_text x) x

abbrev pub BatchesHaveHeaders : Type 0
BatchesHaveHeaders = (schema : SchemaTree) (rows : Rows) → InProfile schema → CanBeWritten schema rows
    → length (canonical_body schema rows) ≤ upload_limit → IsWritable (batch_header (canonical_head schema rows))

pub head_shown : WrittenIsShown → BatchesHaveHeaders → (bytes : List ℕ) (schema : SchemaTree) (rows : Rows) → IsWrittenHead bytes schema rows
    → ShowsHeader bytes (batch_header (canonical_head schema rows))
head_shown shown headers bytes schema rows is =
    subst (λ b. ShowsHeader b (batch_header (canonical_head schema rows))) (sym is.is)
    (shown (batch_header (canonical_head schema rows)) (headers schema rows is.profile is.can is.short))

abbrev length_in : Header → ℤ
length_in (schema_header schema) = pos 0
length_in (batch_header head) = head.length

abbrev is_batch : Header → Bool
is_batch (schema_header schema) = false
is_batch (batch_header head) = true

pub length_is : (one other : Head) → batch_header one ≡ batch_header other → one.length ≡ other.length
length_is one other same = ap length_in same

pub kinds_differ : (schema : SchemaTree) (head : Head) → schema_header schema ≡ batch_header head → ⊥
kinds_differ schema head same = true≢false (sym (ap is_batch same))

pub fits_64 : (n : ℕ) → n ≤ 1073741824 → Fits w64 n
fits_64 n small = grind arith
