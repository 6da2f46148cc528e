-- A version that uploads make is one that is served, and what is answered of it is an answer that a client reads.
use Rattle.std.proofs.Common.{◌≡◌, ◌≢◌, refl, subst, ℕ, zero, suc, ◌*◌, ◌<◌, ◌≤◌, List, [], ◌∷◌, ◌++◌, map, length, take, get_or, Some, length-append, arith}
use Rattle.std.specs.Prelude.{nat_le}
use Rattle.std.specs.List.{AllByRecursion, flat_map}
use Rattle.std.proofs.lemmas.List.{length-map}
use Rattle.std.proofs.lemmas.List.Elements.{recursion_from_All, All-from_get_or}
use Rattle.std.proofs.lemmas.Option.{none-some, cond_some}
use Rattle.header_types.specs.Fields.{SchemaTree}
use Rattle.batch_types.specs.Cells.{Rows}
use Rattle.table_types.specs.Uploads.{Upload}
use Rattle.table_types.specs.Served.{batch_message, messages_of, upload_messages, schema_message}
use Rattle.table_types.specs.Valid.{FitsFrame, IsUpload, batches_limit}
use Rattle.table_types.specs.Tables.{shape_text, effective, Version, first_of_all}
use Rattle.table_types.specs.Answers.{answer_messages, answer_of}
use Rattle.table_types.proofs.Growing.{all_there}
use Rattle.table_versions.specs.State.{agreed_values_limit}
use Rattle.table_versions.proofs.BareSchemas.{ShapesApart, bare_writable}
use Rattle.call_protocol.specs.Statuses.{ok_trailer}
use Rattle.downloads.specs.Downloads.{ServedUpload, IdsDiffer, IsOfVersion, IsServedVersion, served_of}
use Rattle.client_calls.specs.Answers.{IsAnswer}
use Rattle.request_laws.specs.Versions.{IsMadeOf}
use Rattle.table_types.proofs.Filtered.{all_effective, few_effective}
use Rattle.request_laws.proofs.Counted.{all_of_first, few_of_first}

-- ---- names

-- no two of them have one name
abbrev NamesApart : List Upload → Type 0
NamesApart counted = (i j : ℕ) (none : Upload) → i < j → j < length counted → (get_or counted i none).id ≢ (get_or counted j none).id

others_differ : (n : ℕ) (one : Upload) (others : List Upload) → ((j : ℕ) → j < length others → one.id ≢ (get_or others j one).id)
    → AllByRecursion (λ (other : ServedUpload). one.id ≢ other.id) (map served_of (take n others))
others_differ zero one others apart = tt
others_differ (suc n) one [] apart = tt
others_differ (suc n) one (x ∷ xs) apart =
    (apart 0 (omega arith), others_differ n one xs (λ j within. apart (suc j) (omega (arith, within))))

ids_differ : (n : ℕ) (counted : List Upload) → NamesApart counted → IdsDiffer (map served_of (take n counted))
ids_differ zero counted apart = tt
ids_differ (suc n) [] apart = tt
ids_differ (suc n) (x ∷ xs) apart = (
  others_differ n x xs (λ j within. apart 0 (suc j) x (omega arith) (omega (arith, within))),
  ids_differ n xs (λ i j none below within. apart (suc i) (suc j) none (omega (arith, below)) (omega (arith, within))),
)

-- ---- shapes

-- each has the shape of the first
abbrev HaveOneShape : List Upload → Type 0
HaveOneShape counted = (i : ℕ) (none : Upload) → i < length counted → shape_text (get_or counted i none) ≡ shape_text (get_or counted 0 none)

module _ (shapes : ShapesApart) where
  is_of_version : (first upload : Upload) → IsUpload first → IsUpload upload → shape_text upload ≡ shape_text first → IsOfVersion first.schema upload
  is_of_version first upload first_taken taken same =
      (taken, shapes upload first (bare_writable upload taken) (bare_writable first first_taken) same)

  all_of_version : (first : Upload) (rest : List Upload) → AllByRecursion IsUpload (first ∷ rest) → HaveOneShape (first ∷ rest)
      → AllByRecursion (IsOfVersion first.schema) (first ∷ rest)
  all_of_version first rest taken shape =
      recursion_from_All (IsOfVersion first.schema) (first ∷ rest)
      (All-from_get_or (IsOfVersion first.schema) (first ∷ rest) first
      (λ i within. is_of_version first (get_or (first ∷ rest) i first) taken.0 (all_there IsUpload (first ∷ rest) i first taken within) (shape i first within)))

-- ---- a version

-- the version is one that is served, of no more uploads than this, and a frame has room for its schema
pub record CanBeServed (version : Version) (most : ℕ) : Type 0 where
  pub served : IsServedVersion version
  pub schema_fits : FitsFrame (schema_message version.schema)
  pub few : length version.uploads ≤ most

abbrev first_of : ℕ → Upload → List Upload → Version
first_of number first rest = record { schema = first.schema; uploads = take number (first ∷ rest) }

module _ (shapes : ShapesApart) where
  first_can : (number : ℕ) (first : Upload) (rest : List Upload) → AllByRecursion IsUpload (first ∷ rest) → NamesApart (first ∷ rest)
      → HaveOneShape (first ∷ rest) → CanBeServed (first_of number first rest) (length (first ∷ rest))
  first_can number first rest taken apart shape = record {
    served = record {
      profile = taken.0.profile;
      schema_fits = taken.0.schema_fits;
      each = all_of_first (IsOfVersion first.schema) number (first ∷ rest) (all_of_version shapes first rest taken shape);
      ids_differ = ids_differ number (first ∷ rest) apart;
    };
    schema_fits = taken.0.schema_served;
    few = few_of_first number (first ∷ rest);
  }

  counted_can : (number : ℕ) (counted : List Upload) (version : Version) → AllByRecursion IsUpload counted → NamesApart counted → HaveOneShape counted
      → first_of_all number counted ≡ Some version → CanBeServed version (length counted)
  counted_can number [] version taken apart shape is = absurd (none-some version is)
  counted_can number (first ∷ rest) version taken apart shape is =
      subst (λ (v : Version). CanBeServed v (length (first ∷ rest)))
      (cond_some (nat_le number (length (first ∷ rest))) (first_of number first rest) version is).1 (first_can number first rest taken apart shape)

  module _ (names : (table : List ℕ) (uploads : List Upload) → NamesApart (effective table uploads))
      (one_shape : (table : List ℕ) (uploads : List Upload) → HaveOneShape (effective table uploads)) where
    pub made_can : (version : Version) (uploads : List Upload) → IsMadeOf version uploads → CanBeServed version (length uploads)
    made_can version uploads made =
        let can : CanBeServed version (length (effective made.table uploads)) =
        counted_can made.number (effective made.table uploads) version (all_effective IsUpload made.table uploads made.taken)
        (names made.table uploads) (one_shape made.table uploads) made.is in
        record {
          served = can.served;
          schema_fits = can.schema_fits;
          few = omega (arith, can.few, few_effective made.table uploads);
        }

-- ---- its answer

both_fit : (xs ys : List (List ℕ)) → AllByRecursion FitsFrame xs → AllByRecursion FitsFrame ys → AllByRecursion FitsFrame (xs ++ ys)
both_fit [] ys front back = back
both_fit (x ∷ xs) ys front back = (front.0, both_fit xs ys front.1 back)

all_fit : (schema : SchemaTree) (uploads : List Upload) → AllByRecursion (IsOfVersion schema) uploads → AllByRecursion FitsFrame (flat_map upload_messages uploads)
all_fit schema [] each = tt
all_fit schema (upload ∷ uploads) each =
    both_fit (upload_messages upload) (flat_map upload_messages uploads) each.0.0.batches_served (all_fit schema uploads each.1)

messages_few : (upload : Upload) (batches : List Rows) → length batches ≤ batches_limit → length (messages_of upload batches) ≤ batches_limit
messages_few upload [] few = omega arith
messages_few upload (rows ∷ rest) few = omega (arith, length-map rest (batch_message upload), few)

all_few : (schema : SchemaTree) (uploads : List Upload) → AllByRecursion (IsOfVersion schema) uploads
    → length (flat_map upload_messages uploads) ≤ batches_limit * length uploads
all_few schema [] each = omega arith
all_few schema (upload ∷ uploads) each =
    omega (
      arith,
      length-append (upload_messages upload) (flat_map upload_messages uploads),
      messages_few upload upload.batches each.0.0.batches_few,
      all_few schema uploads each.1,
    )

-- it has one message of the schema, and of each upload as many as it has batches, or one
pub is_answer : (version : Version) (most : ℕ) (rest : List ℕ) → CanBeServed version most → most ≤ agreed_values_limit
    → IsAnswer (answer_of version ++ ok_trailer ++ rest) (answer_messages version) rest
is_answer version most rest can few = record {
  parts = refl;
  fit = (can.schema_fits, all_fit version.schema version.uploads can.served.each);
  few = omega (arith, all_few version.schema version.uploads can.served.each, can.few, few);
}
