-- Headers that are shown, and what is written of them.
use Rattle.std.proofs.Common.{◌≡◌, ◌≢◌, ◌⊎◌, inl, inr, refl, sym, ap, ap₂, subst, ◌∙◌, ℕ, suc, ◌+◌, ◌^◌, ◌<◌, ◌≤◌, List, [], ◌∷◌, ◌++◌, map, length, pos, false, arith}
use Rattle.std.proofs.Common.{Bool, true, not, ◌==◌, ◌↔◌, IsTrue, Option, None, Result, Ok, Err, IfOk}
use Rattle.std.specs.Option.{IfNone}
use Rattle.std.specs.Cmp.{unsigned_Decides}
use Rattle.std.specs.Cmp.Lexicographic.{pointwise}
use Rattle.std.proofs.lemmas.Slice.Eq.{slice_eq-Decides}
use Rattle.std.specs.List.{AllByRecursion}
use Rattle.header_types.specs.Fields.{SchemaTree, no_more}
use Rattle.header_types.specs.Header.{Head, Header, schema_header, batch_header, ShowsHeader}
use Rattle.header_types.specs.Profile.{InProfile}
use Rattle.header_writing.specs.Canonical.{header_text}
use Rattle.header_writing.specs.Written.{FitsSchema}
use Rattle.flatbuf_meta.specs.Writable.{IsWritable}
use Rattle.batch_types.specs.Cells.{Rows}
use Rattle.batch_types.specs.Canonical.{canonical_head, canonical_body}
use Rattle.batch_types.specs.declared.fault.BatchFault.{BatchFault}
use Rattle.batch_types.specs.declared.fault.BatchFault.TheVariants.{OutOfMemory}
use Rattle.batch_types.specs.LaysOut.{LaysOut, IsFaultOf}
use Rattle.record_batches.specs.Reading.{IsToldOf}
use Rattle.batch_types.specs.Written.{CanBeWritten}
use Rattle.batch_columns.specs.declared.batch.Batch.{Batch}
use Rattle.table_types.specs.Uploads.{schema_text, head_text}
use Rattle.table_types.specs.Valid.{upload_limit}
use Rattle.uploads.specs.Read.{IsSchemaText, AreRowsText, AreBatchesText}

-- a header is one of a schema or of a batch
pub schemas_alike : (x y : SchemaTree) → schema_header x ≡ schema_header y → x ≡ y
schemas_alike x y e = ap (schema_in x) e
  where
    schema_in : SchemaTree → Header → SchemaTree
    schema_in s (schema_header t) = t
    schema_in s (batch_header h) = s

pub heads_alike : (x y : Head) → batch_header x ≡ batch_header y → x ≡ y
heads_alike x y e = ap (head_in x) e
  where
    head_in : Head → Header → Head
    head_in h (schema_header t) = h
    head_in h (batch_header g) = g

pub no_schema : (x : Head) (y : SchemaTree) → batch_header x ≡ schema_header y → ⊥
no_schema x y e = cc

pub no_head : (x : SchemaTree) (y : Head) → schema_header x ≡ batch_header y → ⊥
no_head x y e = cc

-- what is written shows its header
module _ (shown : (x : Header) → IsWritable x → ShowsHeader (header_text x) x) where
  pub schema_shows : (bytes : List ℕ) (schema : SchemaTree) → IsSchemaText bytes schema → ShowsHeader bytes (schema_header schema)
  schema_shows bytes schema is =
      subst (λ l. ShowsHeader l (schema_header schema)) (sym is.is) (shown (schema_header schema) (is.profile, is.fits))

  module _ (writable : (schema : SchemaTree) (rows : Rows) → InProfile schema → CanBeWritten schema rows
      → length (canonical_body schema rows) ≤ upload_limit → IsWritable (batch_header (canonical_head schema rows))) where
    pub head_shows : (schema : SchemaTree) (header body : List ℕ) (rows : Rows) → InProfile schema → length body ≤ upload_limit
        → AreRowsText schema (header, body) rows → ShowsHeader header (batch_header (canonical_head schema rows))
    head_shows schema header body rows profile short are =
        subst (λ l. ShowsHeader l (batch_header (canonical_head schema rows))) (sym are.header_is)
        (shown (batch_header (canonical_head schema rows)) (writable schema rows profile are.can (subst (λ l. length l ≤ upload_limit) are.body_is short)))

-- what is written of rows lays them out
pub rows_laid : ((schema : SchemaTree) (rows : Rows) → InProfile schema → CanBeWritten schema rows
    → LaysOut schema (canonical_head schema rows) (canonical_body schema rows) rows)
    → (schema : SchemaTree) (header body : List ℕ) (rows : Rows) (head : Head) → InProfile schema → AreRowsText schema (header, body) rows
    → head ≡ canonical_head schema rows → LaysOut schema head body rows
rows_laid law schema header body rows head profile are is =
    subst (λ h. LaysOut schema h body rows) (sym is)
    (subst (λ b. LaysOut schema (canonical_head schema rows) b rows) (sym are.body_is) (law schema rows profile are.can))

pub rows_moved : (schema : SchemaTree) (parts : List ℕ × List ℕ) (x y : Rows) → x ≡ y → AreRowsText schema parts y → AreRowsText schema parts x
rows_moved schema parts x y e are = subst (AreRowsText schema parts) (sym e) are

-- ---- batches

-- a batch that is laid out, and of which more is written than the body has
abbrev LongerThan : SchemaTree → Head → List ℕ → Type 0
LongerThan schema head body =
    (rows : Rows) × LaysOut schema head body rows
    × ((length body < length (canonical_body schema rows)) ⊎ (2 ^ 63 ≤ length (canonical_body schema rows)))

-- it is the one that is laid out
pub longer_than : (schema : SchemaTree) (head : Head) (body : List ℕ)
    → ((schema : SchemaTree) (head : Head) (body : List ℕ) (x y : Rows) → LaysOut schema head body x → LaysOut schema head body y → x ≡ y)
    → length body ≤ upload_limit → (read : Option Batch) → read ≡ None → IfNone read (LongerThan schema head body)
    → (rows : Rows) → LaysOut schema head body rows → length body < length (canonical_body schema rows)
longer_than schema head body one short read none told rows laid = of_it (subst (λ r. IfNone r (LongerThan schema head body)) none told)
  where
    of_it : LongerThan schema head body → length body < length (canonical_body schema rows)
    of_it (other, other_laid, long) =
        subst (λ r. length body < length (canonical_body schema r)) (one schema head body other rows other_laid laid)
        (elim long [ inl more ↦ more | inr much ↦ omega (arith, much, short) ])

-- what is told, but for want of memory, is told of what lays out no batch
pub fault_stands : (schema : SchemaTree) (head : Head) (body : List ℕ)
    → ((schema : SchemaTree) (head : Head) (body : List ℕ) (rows : Rows) (fault : BatchFault) → LaysOut schema head body rows → IsFaultOf schema head body fault → ⊥)
    → (fault : BatchFault) → fault ≢ OutOfMemory → IsToldOf schema head body fault → (rows : Rows) → ¬ LaysOut schema head body rows
fault_stands schema head body apart fault other told rows laid =
    elim told [ inl stands ↦ apart schema head body rows fault laid stands | inr memory ↦ other memory.0 ]

pub rows_then : (schema : SchemaTree) (parts : List ℕ × List ℕ) (list : List (List ℕ × List ℕ)) (rows : Rows) → AreRowsText schema parts rows
    → (batches : List Rows) × AreBatchesText schema list batches → (batches : List Rows) × AreBatchesText schema (parts ∷ list) batches
rows_then schema parts list rows are rest = (rows ∷ rest.0, (are, rest.1))

-- ---- what was written

pub all_new : (old new text : List ℕ) → old ≡ [] → new ≡ old ++ text → new ≡ text
all_new old new text none is = is ∙ ap (λ l. l ++ text) none

pub equal_bytes : (xs ys : List ℕ) (r : Bool) → r ≡ not (pointwise ◌==◌ xs ys) → r ≡ false → xs ≡ ys
equal_bytes xs ys r is none =
    (slice_eq-Decides unsigned_Decides xs ys (pointwise ◌==◌ xs ys) refl).0 (turned (pointwise ◌==◌ xs ys) (sym is ∙ none))
  where
    turned : (b : Bool) → not b ≡ false → b ≡ true
    turned true e = refl
    turned false e = cc

pub if_ok : {E : Type 0} (r : Result Bool E) (P Q : Bool → Type 0) → ((b : Bool) → P b → Q b) → IfOk r P → IfOk r Q
if_ok (Ok b) P Q to p = to b p
if_ok (Err e) P Q to p = p

pub rows_written : (schema : SchemaTree) (header body : List ℕ) (rows : Rows) (b : Bool) (head : Head) → CanBeWritten schema rows
    → head ≡ canonical_head schema rows → body ≡ canonical_body schema rows
    → (IsTrue b ↔ (header ≡ header_text (batch_header head))) → (IsTrue b ↔ AreRowsText schema (header, body) rows)
rows_written schema header body rows b head can is same both = (
  λ t. record { can = can; header_is = both.0 t ∙ ap (λ h. header_text (batch_header h)) is; body_is = same },
  λ are. both.1 (are.header_is ∙ ap (λ h. header_text (batch_header h)) (sym is)),
)
