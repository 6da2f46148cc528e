-- A message says one thing at most.
use Rattle.std.proofs.Common.{◌≡◌, refl, sym, ap, subst, ◌∙◌, ℕ, ◌≤◌, List, [], length, Option, Some, None, arith}
use Rattle.proto_messages.specs.Descriptor.{Descriptor, Values}
use Rattle.proto_messages.specs.Canonical.{canonical, RisesFrom, Fits}
use Rattle.proto_wire.specs.Flight.{data_descriptor}
use Rattle.header_types.specs.Fields.{SchemaTree}
use Rattle.header_types.specs.Header.{Head, Header, schema_header, batch_header}
use Rattle.header_types.specs.Profile.{InProfile}
use Rattle.header_writing.specs.Canonical.{header_text}
use Rattle.flatbuf_meta.specs.Writable.{IsWritable}
use Rattle.batch_types.specs.Cells.{Rows}
use Rattle.batch_types.specs.Canonical.{canonical_head, canonical_body}
use Rattle.batch_types.specs.LaysOut.{LaysOut}
use Rattle.batch_types.specs.Written.{CanBeWritten}
use Rattle.table_types.specs.Uploads.{schema_text, head_text}
use Rattle.table_types.specs.Valid.{FitsFrame, upload_limit}
use Rattle.uploads.proofs.CallerLemmas.{message_long}
use Rattle.downloads.specs.Messages.{IsSchemaMessage, CanBeServed, IsUploadMessage}
use Rattle.downloads.specs.MessageParts.{AreParts}
use Rattle.downloads.proofs.Found.{data_values, data_rises, data_fits}
use Rattle.downloads.proofs.Said.{schema_parts, said_header, said_body, upload_parts}

abbrev schema_of_header : SchemaTree → Header → SchemaTree
schema_of_header schema (schema_header s) = s
schema_of_header schema (batch_header head) = schema

abbrev head_of_header : Head → Header → Head
head_of_header head (schema_header s) = head
head_of_header head (batch_header h) = h

headed : (header : Header) → 1 ≤ length (header_text header)
headed (schema_header schema) = omega arith
headed (batch_header head) = omega arith

pub not_empty : (schema : SchemaTree) (rows : Rows) → ¬ ([] ≡ head_text schema rows)
not_empty schema rows none =
    omega (arith, headed (batch_header (canonical_head schema rows)), ap (λ (l : List ℕ). length l) none)

module _ (canonical_one : (descriptor : Descriptor) (v w : Values descriptor) → RisesFrom 0 descriptor → Fits descriptor v → Fits descriptor w
    → canonical descriptor v ≡ canonical descriptor w → v ≡ w) where
  same_parts : (message h m b header metadata body : List ℕ) → AreParts message h m b → AreParts message header metadata body
      → (h ≡ header) × (m ≡ metadata) × (b ≡ body)
  same_parts message h m b header metadata body is other =
      let values : data_values h m b ≡ data_values header metadata body =
      canonical_one data_descriptor (data_values h m b) (data_values header metadata body) data_rises
      (data_fits h m b (subst (λ (l : List ℕ). FitsFrame l) is.is is.fits))
      (data_fits header metadata body (subst (λ (l : List ℕ). FitsFrame l) other.is other.fits))
      (sym is.is ∙ other.is) in
      (ap (λ v. v.1.0) values, ap (λ v. v.1.1.0) values, ap (λ v. v.1.1.1.0) values)

  pub apart : (schema other : SchemaTree) (message id : List ℕ) (rows : Option Rows) → FitsFrame message → IsSchemaMessage message other
      → ¬ IsUploadMessage schema message id rows
  apart schema other message id rows fits is said =
      let same = same_parts message (schema_text other) [] [] (said_header schema rows) id (said_body schema rows)
      (schema_parts message other fits is) (upload_parts schema message id rows fits said) in
      omega (arith, said.named.whole, ap (λ (l : List ℕ). length l) same.1)

  module _ (differ : (x y : Header) → IsWritable x → IsWritable y → header_text x ≡ header_text y → x ≡ y) where
    pub one_schema : (message : List ℕ) (one other : SchemaTree) → FitsFrame message → IsSchemaMessage message one → IsSchemaMessage message other → one ≡ other
    one_schema message one other fits is said =
        let same = same_parts message (schema_text one) [] [] (schema_text other) [] [] (schema_parts message one fits is) (schema_parts message other fits said) in
        ap (schema_of_header one)
        (differ (schema_header one) (schema_header other) (is.profile, is.fits) (said.profile, said.fits) same.0)

    module _ (writable : (schema : SchemaTree) (rows : Rows) → InProfile schema → CanBeWritten schema rows
        → length (canonical_body schema rows) ≤ upload_limit → IsWritable (batch_header (canonical_head schema rows)))
        (laid : (schema : SchemaTree) (rows : Rows) → InProfile schema → CanBeWritten schema rows
        → LaysOut schema (canonical_head schema rows) (canonical_body schema rows) rows)
        (one : (schema : SchemaTree) (head : Head) (body : List ℕ) (x y : Rows) → LaysOut schema head body x → LaysOut schema head body y → x ≡ y) where
      same_rows : (schema : SchemaTree) (x y : Rows) → InProfile schema → CanBeWritten schema x → CanBeWritten schema y
          → length (canonical_body schema x) ≤ upload_limit → head_text schema x ≡ head_text schema y → canonical_body schema x ≡ canonical_body schema y → x ≡ y
      same_rows schema x y profile can other short heads bodies =
          let few : length (canonical_body schema y) ≤ upload_limit = subst (λ (l : List ℕ). length l ≤ upload_limit) bodies short in
          let head : canonical_head schema x ≡ canonical_head schema y =
          ap (head_of_header (canonical_head schema x))
          (differ (batch_header (canonical_head schema x)) (batch_header (canonical_head schema y)) (writable schema x profile can short) (writable schema y profile other few) heads) in
          one schema (canonical_head schema y) (canonical_body schema y) x y
          (subst (λ h. LaysOut schema h (canonical_body schema y) x) head
          (subst (λ b. LaysOut schema (canonical_head schema x) b x) bodies (laid schema x profile can)))
          (laid schema y profile other)

      by_rows : (schema : SchemaTree) (rows others : Option Rows) → InProfile schema → CanBeServed schema rows → CanBeServed schema others
          → length (said_body schema rows) ≤ upload_limit → said_header schema rows ≡ said_header schema others → said_body schema rows ≡ said_body schema others
          → rows ≡ others
      by_rows schema None None profile can other short heads bodies = refl
      by_rows schema None (Some y) profile can other short heads bodies = absurd (not_empty schema y heads)
      by_rows schema (Some x) None profile can other short heads bodies = absurd (not_empty schema x (sym heads))
      by_rows schema (Some x) (Some y) profile can other short heads bodies =
          ap (λ (r : Rows). Some r) (same_rows schema x y profile can other short heads bodies)

      pub one_upload : (schema : SchemaTree) (message id name : List ℕ) (rows others : Option Rows) → InProfile schema → FitsFrame message
          → IsUploadMessage schema message id rows → IsUploadMessage schema message name others → (id ≡ name) × (rows ≡ others)
      one_upload schema message id name rows others profile fits is said =
          let first = upload_parts schema message id rows fits is in
          let second = upload_parts schema message name others fits said in
          let same = same_parts message (said_header schema rows) id (said_body schema rows) (said_header schema others) name (said_body schema others) first second in
          let long = message_long (said_header schema rows) id (said_body schema rows) in
          let short : length (said_body schema rows) ≤ upload_limit =
          omega (arith, long.2, fits, ap (λ (l : List ℕ). length l) first.is) in
          (same.1, by_rows schema rows others profile is.served said.served short same.0 same.2)
