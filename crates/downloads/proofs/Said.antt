-- What a message says by its parts.
use Rattle.std.proofs.Common.{◌≡◌, refl, sym, ap, ap₂, subst, ◌∙◌, ℕ, suc, ◌+◌, ◌<◌, ◌==◌, true, Fits, w8, slice_index_or, List, [], ◌∷◌, length, take, Option, Some, None, Result, Ok, Err, arith}
use Rattle.std.proofs.Math.Seq.{take-length}
use Rattle.std.proofs.lemmas.Bool.{eqb-true}
use Rattle.std.specs.List.{AllByRecursion}
use Rattle.std.specs.Option.{option_map}
use Rattle.std.specs.declared.alloc.AllocError.{AllocError}
use Rattle.header_types.specs.Fields.{SchemaTree}
use Rattle.header_types.specs.Views.{schema_of}
use Rattle.header_types.specs.declared.schema.Schema.{Schema}
use Rattle.batch_types.specs.Cells.{Rows}
use Rattle.batch_types.specs.Canonical.{canonical_body}
use Rattle.batch_columns.specs.Batches.{rows_of}
use Rattle.table_types.specs.Uploads.{schema_text, head_text}
use Rattle.table_types.specs.Served.{data_text}
use Rattle.table_types.specs.Valid.{FitsFrame, IsId}
use Rattle.uploads.proofs.CallerLemmas.{message_long}
use Rattle.downloads.specs.declared.parts.Parts.{Parts}
use Rattle.downloads.specs.declared.upload_message.UploadMessage.{UploadMessage}
use Rattle.downloads.specs.Messages.{IsSchemaMessage, message_text, CanBeServed, IsUploadMessage}
use Rattle.downloads.specs.Told.{TellsSchema, TellsUpload}
use Rattle.downloads.specs.MessageParts.{AreParts, TellsParts, TellsSchemaOf, AreOf, TellsOfParts}

same_text : (h m b header metadata body : List ℕ) → h ≡ header → m ≡ metadata → b ≡ body → data_text h m b ≡ data_text header metadata body
same_text h m b header metadata body first second third =
    ap (λ (l : List ℕ). data_text l m b) first ∙ ap₂ (λ (k l : List ℕ). data_text header k l) second third

-- ---- the parts of what is said

pub schema_parts : (message : List ℕ) (schema : SchemaTree) → FitsFrame message → IsSchemaMessage message schema → AreParts message (schema_text schema) [] []
schema_parts message schema fits is = record { is = is.is; fits = fits }

abbrev pub said_header : SchemaTree → Option Rows → List ℕ
said_header schema None = []
said_header schema (Some rows) = head_text schema rows

abbrev pub said_body : SchemaTree → Option Rows → List ℕ
said_body schema None = []
said_body schema (Some rows) = canonical_body schema rows

said_text : (schema : SchemaTree) (id : List ℕ) (rows : Option Rows) → message_text schema id rows ≡ data_text (said_header schema rows) id (said_body schema rows)
said_text schema id None = refl
said_text schema id (Some rows) = refl

pub upload_parts : (schema : SchemaTree) (message id : List ℕ) (rows : Option Rows) → FitsFrame message → IsUploadMessage schema message id rows
    → AreParts message (said_header schema rows) id (said_body schema rows)
upload_parts schema message id rows fits is = record { is = is.is ∙ said_text schema id rows; fits = fits }

-- ---- what is told of no parts

no_parts : (message : List ℕ) (o : Option Parts) → o ≡ None → TellsParts message (Ok o) → (header metadata body : List ℕ) → ¬ AreParts message header metadata body
no_parts message o none told = subst (λ (x : Option Parts). TellsParts message (Ok x)) none told

pub no_schema : (message : List ℕ) (o : Option Parts) → o ≡ None → TellsParts message (Ok o) → FitsFrame message → (schema : SchemaTree) → ¬ IsSchemaMessage message schema
no_schema message o none told fits schema is =
    no_parts message o none told (schema_text schema) [] [] (schema_parts message schema fits is)

pub no_upload : (schema : SchemaTree) (message : List ℕ) (o : Option Parts) → o ≡ None → TellsParts message (Ok o) → FitsFrame message
    → (id : List ℕ) (rows : Option Rows) → ¬ IsUploadMessage schema message id rows
no_upload schema message o none told fits id rows is =
    no_parts message o none told (said_header schema rows) id (said_body schema rows) (upload_parts schema message id rows fits is)

-- ---- what is told of parts

module _ (message : List ℕ) (o : Option Parts) (parts : Parts) (some : o ≡ Some parts) (told : TellsParts message (Ok o)) where
  given : TellsParts message (Ok (Some parts))
  given = subst (λ (x : Option Parts). TellsParts message (Ok x)) some told

  pub schema_said : (r : Result (Option Schema) AllocError) → TellsSchemaOf parts.header.now parts.metadata.now parts.body.now r → TellsSchema message r
  schema_said (Ok (Some schema)) t = record {
    is = given.0 ∙ same_text parts.header.now parts.metadata.now parts.body.now (schema_text (schema_of schema)) [] [] t.0.is t.1 t.2;
    profile = t.0.profile;
    fits = t.0.fits;
  }
  schema_said (Ok None) t = λ fits schema is.
      let same = given.1 (schema_text schema) [] [] (schema_parts message schema fits is) in
      t schema (record { profile = is.profile; fits = is.fits; is = same.0 }) same.1 same.2
  schema_said (Err refused) t = tt

  pub unnamed : ¬ IsId parts.metadata.now → (schema : SchemaTree) → FitsFrame message → (id : List ℕ) (rows : Option Rows) → ¬ IsUploadMessage schema message id rows
  unnamed none schema fits id rows is =
      let same = given.1 (said_header schema rows) id (said_body schema rows) (upload_parts schema message id rows fits is) in
      none (subst (λ (l : List ℕ). IsId l) (sym same.1) is.named)

  module _ (schema : SchemaTree) (id : List ℕ) (is_id : (id ≡ parts.metadata.now) × IsId id) where
    text_of : (rows : Option Rows) → AreOf schema parts.header.now parts.body.now rows
        → data_text parts.header.now parts.metadata.now parts.body.now ≡ message_text schema id rows
    text_of None are = same_text parts.header.now parts.metadata.now parts.body.now [] id [] are.0 (sym is_id.0) are.1
    text_of (Some rows) are =
        same_text parts.header.now parts.metadata.now parts.body.now (head_text schema rows) id (canonical_body schema rows) are.header_is (sym is_id.0) are.body_is

    can_be : (rows : Option Rows) → AreOf schema parts.header.now parts.body.now rows → CanBeServed schema rows
    can_be None are = tt
    can_be (Some rows) are = are.can

    are_of : (rows : Option Rows) → parts.header.now ≡ said_header schema rows → parts.body.now ≡ said_body schema rows → CanBeServed schema rows
        → AreOf schema parts.header.now parts.body.now rows
    are_of None first second can = (first, second)
    are_of (Some rows) first second can = record { can = can; header_is = first; body_is = second }

    body_fits : FitsFrame message → FitsFrame parts.body.now
    body_fits fits =
        omega (arith, fits, ap (λ (l : List ℕ). length l) given.0, (message_long parts.header.now parts.metadata.now parts.body.now).2)

    said_of : (name : List ℕ) (rows : Option Rows) → name ≡ id → AreOf schema parts.header.now parts.body.now rows → IsUploadMessage schema message name rows
    said_of name rows same are =
        subst (λ (l : List ℕ). IsUploadMessage schema message l rows) (sym same)
        (record { is = given.0 ∙ text_of rows are; named = is_id.1; served = can_be rows are })

    pub upload_said : (r : Result (Option UploadMessage) AllocError) → TellsOfParts schema id parts.header.now parts.body.now r → TellsUpload schema message r
    upload_said (Ok (Some said)) t = (said_of said.id (option_map rows_of said.batch) t.0 t.1, t.2)
    upload_said (Ok None) t = λ fits name rows is.
        let same = given.1 (said_header schema rows) name (said_body schema rows) (upload_parts schema message name rows fits is) in
        t (body_fits fits) rows (are_of rows same.0 same.2 is.served)
    upload_said (Err refused) t = tt

-- ---- names

bytes_in_text : (text : List ℕ) → ((i : ℕ) → Fits w8 (slice_index_or text i 0)) → AllByRecursion (λ byte. byte < 256) text
bytes_in_text [] fit = tt
bytes_in_text (b ∷ text) fit = ((fit 0).fits, bytes_in_text text (λ i. fit (suc i)))

pub is_name : (bytes id rest : List ℕ) → id ≡ take 16 bytes → length rest + 16 ≡ length bytes → (length rest == 0) ≡ true
    → ((i : ℕ) → Fits w8 (slice_index_or bytes i 0)) → (id ≡ bytes) × IsId id
is_name bytes id rest is long none fit =
    let whole : length bytes ≡ 16 = omega (arith, long, eqb-true (length rest) 0 none) in
    let same : id ≡ bytes = is ∙ ap (λ n. take n bytes) (sym whole) ∙ take-length bytes in
    (same, subst (λ (l : List ℕ). IsId l) (sym same) (record { whole = whole; bytes = bytes_in_text bytes fit }))
