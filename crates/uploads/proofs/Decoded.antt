-- Which texts are uploads.
use Rattle.std.proofs.Common.{Result, Ok, Err, OnOk, IfErr}
use Rattle.batch_types.specs.Canonical.{canonical_body}
use Rattle.std.proofs.Common.{◌≡◌, refl, sym, ap, ap₂, subst, ◌∙◌, ℕ, suc, ◌+◌, ◌*◌, ◌<◌, ◌≤◌, ◌^◌, List, [], ◌∷◌, ◌++◌, map, length, length-append, arith}
use Rattle.std.proofs.lemmas.List.{append-nil, length-map}
use Rattle.std.specs.List.{AllByRecursion}
use Rattle.proto_fields.specs.Varint.{varint_text}
use Rattle.proto_fields.specs.Field.{fields_text, present}
use Rattle.proto_messages.specs.Canonical.{bytes_field}
use Rattle.header_types.specs.Fields.{SchemaTree}
use Rattle.batch_types.specs.Cells.{Rows}
use Rattle.batch_types.specs.Written.{CanBeWritten}
use Rattle.table_types.specs.Uploads.{Upload, schema_text, head_text, upload_text}
use Rattle.table_types.specs.Served.{data_text, upload_messages, messages_of, batch_message}
use Rattle.table_types.specs.Valid.{IsUpload, FitsFrame}
use Rattle.table_types.specs.Texts.{IsUploadText}
use Rattle.uploads.specs.Parts.{batch_parts, batches_parts, batches_text, HasLeft, served_of}
use Rattle.uploads.specs.Found.{HasUploadParts, AreServed, HasUploadFields}
use Rattle.uploads.specs.Read.{IsSchemaText, AreRowsText, AreBatchesText}
use Rattle.uploads.proofs.CallerLemmas.{messages_fit, parts_fit, part, present_then, behind_schema, batches_behind, whole, batches_left, schema_there}

-- ---- batches that are read

pair_is : (a b c d : List ℕ) → a ≡ c → b ≡ d → (let p : List ℕ × List ℕ = (a, b) in p) ≡ (c, d)
pair_is a b c d first second = ap₂ (λ x y. let p : List ℕ × List ℕ = (x, y) in p) first second

parts_are : (schema : SchemaTree) (list : List (List ℕ × List ℕ)) (rows : List Rows) → AreBatchesText schema list rows → list ≡ map (batch_parts schema) rows
parts_are schema [] [] are = refl
parts_are schema [] (r ∷ rows) are = absurd are
parts_are schema (parts ∷ list) [] are = absurd are
parts_are schema (parts ∷ list) (r ∷ rows) are =
    let first : parts ≡ batch_parts schema r = pair_is parts.0 parts.1 (head_text schema r) (canonical_body schema r) are.0.header_is are.0.body_is in
    ap₂ (λ p l. p ∷ l) first (parts_are schema list rows are.1)

can_be : (schema : SchemaTree) (list : List (List ℕ × List ℕ)) (rows : List Rows) → AreBatchesText schema list rows → AllByRecursion (CanBeWritten schema) rows
can_be schema [] [] are = tt
can_be schema [] (r ∷ rows) are = absurd are
can_be schema (parts ∷ list) [] are = absurd are
can_be schema (parts ∷ list) (r ∷ rows) are = (are.0.can, can_be schema list rows are.1)

as_many : (schema : SchemaTree) (list : List (List ℕ × List ℕ)) (rows : List Rows) → AreBatchesText schema list rows → length rows ≡ length list
as_many schema [] [] are = refl
as_many schema [] (r ∷ rows) are = absurd are
as_many schema (parts ∷ list) [] are = absurd are
as_many schema (parts ∷ list) (r ∷ rows) are = ap suc (as_many schema list rows are.1)

pub written_are : (schema : SchemaTree) (rows : List Rows) → AllByRecursion (CanBeWritten schema) rows → AreBatchesText schema (map (batch_parts schema) rows) rows
written_are schema [] can = tt
written_are schema (r ∷ rows) can = (record { can = can.0; header_is = refl; body_is = refl }, written_are schema rows can.1)

-- ---- an upload's text has the fields of one

pub upload_found : (u : Upload) (text : List ℕ) → IsUpload u → upload_text u ≡ text → HasUploadParts text u.table u.id (schema_text u.schema) (behind_schema u)
upload_found u text is same = record {
  parts = sym same ∙ whole u is;
  short = subst (λ l. length l ≤ 16777216) same is.short;
  table_named = is.table_named;
  named = is.named;
  schema_there = schema_there u.schema;
  schema_served = is.schema_served;
  list = batches_parts u;
  left = batches_left u is;
  batches_served = record {
    few = few_parts u.schema u.batches is.batches_few;
    served = parts_fit u is.batches_served;
  };
}
  where
    few_parts : (schema : SchemaTree) (batches : List Rows) → length batches ≤ 1024 → length (map (batch_parts schema) batches) ≤ 1024
    few_parts schema batches few = omega (arith, few, length-map batches (batch_parts schema))

pub no_upload : (text : List ℕ) → ¬ HasUploadFields text → ¬ IsUploadText text
no_upload text none (u, (is, same)) = none (u.table, u.id, schema_text u.schema, behind_schema u, upload_found u text is same)

-- ---- a text with the fields of an upload, its schema and its batches is one

module _ (text t i s b : List ℕ) (found : HasUploadParts text t i s b) (schema : SchemaTree) (is_schema : IsSchemaText s schema)
    (rows : List Rows) (are : AreBatchesText schema found.list rows) where
  made : Upload
  made = record { table = t; id = i; schema = schema; batches = rows }

  same_text : upload_text (record { table = t; id = i; schema = schema; batches = rows }) ≡ text
  same_text =
      present_then 1 t _ found.table_named.some
      ∙ ap (λ l. part 1 t ++ l) (
      present_then 2 i _ (omega (arith, found.named.whole))
      ∙ ap (λ l. part 2 i ++ l) (
      present_then 3 (schema_text schema) _ (schema_there schema)
      ∙ ap (λ l. part 3 (schema_text schema) ++ l) (batches_behind schema rows)
      )
      )
      ∙ sym (
      found.parts
      ∙ ap (λ l. part 1 t ++ (part 2 i ++ (part 3 l ++ b))) is_schema.is
      ∙ ap (λ l. part 1 t ++ (part 2 i ++ (part 3 (schema_text schema) ++ l))) (found.left.is ∙ ap batches_text (parts_are schema found.list rows are))
      )

  pub is_upload_text : IsUploadText text
  is_upload_text = (
    record { table = t; id = i; schema = schema; batches = rows },
    (
      record {
        table_named = found.table_named;
        named = found.named;
        batches_few = omega (arith, as_many schema found.list rows are, found.batches_served.few);
        profile = is_schema.profile;
        schema_fits = is_schema.fits;
        batches_written = can_be schema found.list rows are;
        short = subst (λ l. length l ≤ 16777216) (sym same_text) found.short;
        schema_served = subst (λ l. FitsFrame (data_text l [] [])) is_schema.is found.schema_served;
        batches_served =
            messages_fit (record { table = t; id = i; schema = schema; batches = rows }) found.named.whole
            (subst (AllByRecursion (λ parts. FitsFrame (served_of i parts))) (parts_are schema found.list rows are) found.batches_served.served);
      },
      same_text,
    ),
  )

-- ---- which text is none

pub no_schema_text : (text t i s b : List ℕ)
    → ((table id schema batches : List ℕ) → HasUploadParts text table id schema batches → (t ≡ table) × (i ≡ id) × (s ≡ schema) × (b ≡ batches))
    → ((schema : SchemaTree) → ¬ IsSchemaText s schema) → ¬ IsUploadText text
no_schema_text text t i s b only none (u, (is, same)) =
    let parts = only u.table u.id (schema_text u.schema) (behind_schema u) (upload_found u text is same) in
    none u.schema (record { profile = is.profile; fits = is.schema_fits; is = parts.2 })

pub no_batches_text : (text t i s b : List ℕ) (schema : SchemaTree)
    → ((table id schema batches : List ℕ) → HasUploadParts text table id schema batches → (t ≡ table) × (i ≡ id) × (s ≡ schema) × (b ≡ batches))
    → ((other : SchemaTree) → IsSchemaText s other → schema ≡ other)
    → ((list : List (List ℕ × List ℕ)) (rows : List Rows) → HasLeft b list → ¬ AreBatchesText schema list rows) → ¬ IsUploadText text
no_batches_text text t i s b schema only one none (u, (is, same)) =
    let parts = only u.table u.id (schema_text u.schema) (behind_schema u) (upload_found u text is same) in
    let alike = one u.schema (record { profile = is.profile; fits = is.schema_fits; is = parts.2 }) in
    none (batches_parts u) u.batches (subst (λ l. HasLeft l (batches_parts u)) (sym parts.3) (batches_left u is))
    (subst (λ x. AreBatchesText x (batches_parts u) u.batches) (sym alike) (written_are u.schema u.batches is.batches_written))

-- ---- results

pub on_ok : {E P Q : Type 0} (r : Result (Unit {0}) E) → OnOk r P → (P → Q) → OnOk r Q
on_ok (Ok done) p to = to p
on_ok (Err e) p to = tt

pub if_err : {E : Type 0} (r : Result (Unit {0}) E) (P Q : E → Type 0) → IfErr r P → ((e : E) → P e → Q e) → IfErr r Q
if_err (Ok done) P Q p to = tt
if_err (Err e) P Q p to = to e p
