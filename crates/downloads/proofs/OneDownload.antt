-- Messages group into one list of uploads, where each of them says one thing.
use Rattle.std.proofs.Common.{◌≡◌, ap, ap₂, subst, sym, ◌∙◌, ℕ, List, [], ◌∷◌, ◌++◌, map, Option, refl, arith}
use Rattle.std.specs.Prelude.{get_or}
use Rattle.std.specs.List.{AllByRecursion, flat_map}
use Rattle.header_types.specs.Fields.{SchemaTree}
use Rattle.header_types.specs.Profile.{InProfile}
use Rattle.header_writing.specs.Written.{FitsSchema}
use Rattle.batch_types.specs.Cells.{Rows}
use Rattle.batch_types.specs.Written.{CanBeWritten}
use Rattle.table_types.specs.Served.{schema_message}
use Rattle.table_types.specs.Valid.{IsId, FitsFrame}
use Rattle.downloads.specs.Messages.{CanBeServed, IsSchemaMessage, IsUploadMessage}
use Rattle.downloads.specs.Downloads.{ServedUpload, Downloaded, IsServed, IsDownload, IsGrouped, served_messages}
use Rattle.downloads.specs.Parts.{Part, batch_part, parts_from, parts_of, part_text}
use Rattle.downloads.proofs.Differing.{is_grouped}
use Rattle.downloads.proofs.Grouping.{grouped_once, all_texts}

abbrev pub further : List (List ℕ) → List (List ℕ)
further [] = []
further (message ∷ messages) = messages

abbrev downloaded : SchemaTree → List ServedUpload → Downloaded
downloaded schema uploads = record { schema = schema; uploads = uploads }

abbrev part_with : List ℕ → Option Rows → Part
part_with id batch = record { id = id; batch = batch }

-- the name is such, and the batch is of the schema
abbrev pub IsPart : SchemaTree → Part → Type 0
IsPart schema part = IsId part.id × CanBeServed schema part.batch

-- ---- the parts of a download are such

all_append : (schema : SchemaTree) (ps qs : List Part) → AllByRecursion (IsPart schema) ps → AllByRecursion (IsPart schema) qs → AllByRecursion (IsPart schema) (ps ++ qs)
all_append schema [] qs h g = g
all_append schema (p ∷ ps) qs h g = (h.0, all_append schema ps qs h.1 g)

batches_are_parts : (schema : SchemaTree) (id : List ℕ) (batches : List Rows) → IsId id → AllByRecursion (CanBeWritten schema) batches → AllByRecursion (IsPart schema) (map (batch_part id) batches)
batches_are_parts schema id [] named h = tt
batches_are_parts schema id (rows ∷ batches) named h = ((named, h.0), batches_are_parts schema id batches named h.1)

are_parts : (schema : SchemaTree) (id : List ℕ) (batches : List Rows) → IsId id → AllByRecursion (CanBeWritten schema) batches → AllByRecursion (IsPart schema) (parts_from id batches)
are_parts schema id [] named h = ((named, tt), tt)
are_parts schema id (rows ∷ batches) named h = batches_are_parts schema id (rows ∷ batches) named h

pub all_are_parts : (schema : SchemaTree) (uploads : List ServedUpload) → AllByRecursion (IsServed schema) uploads → AllByRecursion (IsPart schema) (flat_map parts_of uploads)
all_are_parts schema [] h = tt
all_are_parts schema (one ∷ uploads) h =
    all_append schema (parts_of one) (flat_map parts_of uploads) (are_parts schema one.id one.batches h.0.named h.0.batches_written) (all_are_parts schema uploads h.1)

-- ---- one download

-- no two schemas have one message
abbrev pub SchemasAreOne : Type 0
SchemasAreOne = (x y : SchemaTree) → InProfile x → FitsSchema x → InProfile y → FitsSchema y → FitsFrame (schema_message x) → schema_message x ≡ schema_message y → x ≡ y

-- nor do two parts
abbrev pub PartsAreOne : Type 0
PartsAreOne = (schema : SchemaTree) → InProfile schema → FitsSchema schema → (p q : Part) → IsPart schema p → IsPart schema q → FitsFrame (part_text schema p) → part_text schema p ≡ part_text schema q → p ≡ q

abbrev count : List (List ℕ) → ℕ
count [] = 0
count (message ∷ messages) = 1

module _ (schemas : SchemasAreOne) (parts : PartsAreOne) where
  texts_are_one : (schema : SchemaTree) → InProfile schema → FitsSchema schema → (ps qs : List Part) → AllByRecursion (IsPart schema) ps → AllByRecursion (IsPart schema) qs
      → AllByRecursion FitsFrame (map (part_text schema) ps) → map (part_text schema) ps ≡ map (part_text schema) qs → ps ≡ qs
  texts_are_one schema profile fits [] [] h g short same = refl
  texts_are_one schema profile fits [] (q ∷ qs) h g short same =
      let none : 0 ≡ 1 = ap (λ (l : List (List ℕ)). count l) same in
      absurd (omega (arith, none))
  texts_are_one schema profile fits (p ∷ ps) [] h g short same =
      let none : 1 ≡ 0 = ap (λ (l : List (List ℕ)). count l) same in
      absurd (omega (arith, none))
  texts_are_one schema profile fits (p ∷ ps) (q ∷ qs) h g short same =
      ap₂ (λ x xs. x ∷ xs) (parts schema profile fits p q h.0 g.0 short.0 (ap (λ (l : List (List ℕ)). get_or l 0 []) same))
      (texts_are_one schema profile fits ps qs h.1 g.1 short.1 (ap (λ (l : List (List ℕ)). further l) same))

  uploads_are_one : (schema : SchemaTree) → InProfile schema → FitsSchema schema → (xs ys : List ServedUpload) → AllByRecursion (IsServed schema) xs → AllByRecursion (IsServed schema) ys
      → AllByRecursion FitsFrame (flat_map (served_messages schema) xs) → flat_map (served_messages schema) xs ≡ flat_map (served_messages schema) ys → flat_map parts_of xs ≡ flat_map parts_of ys
  uploads_are_one schema profile fits xs ys h g short same =
      texts_are_one schema profile fits (flat_map parts_of xs) (flat_map parts_of ys) (all_are_parts schema xs h) (all_are_parts schema ys g)
      (subst (λ (l : List (List ℕ)). AllByRecursion FitsFrame l) (all_texts schema xs) short) (sym (all_texts schema xs) ∙ same ∙ all_texts schema ys)

  pub grouping_is_one : (messages : List (List ℕ)) (x y : Downloaded) → AllByRecursion FitsFrame messages → IsGrouped messages x → IsGrouped messages y → x ≡ y
  grouping_is_one messages x y fit h g =
      let short = subst (λ (l : List (List ℕ)). AllByRecursion FitsFrame l) h.messages_are fit in
      let same = sym h.messages_are ∙ g.messages_are in
      let schema : x.schema ≡ y.schema = schemas x.schema y.schema h.profile h.schema_fits g.profile g.schema_fits short.0 (ap (λ (l : List (List ℕ)). get_or l 0 []) same) in
      let each = subst (λ (s : SchemaTree). AllByRecursion (IsServed s) y.uploads) (sym schema) g.each in
      let rest = subst (λ (s : SchemaTree). flat_map (served_messages x.schema) x.uploads ≡ flat_map (served_messages s) y.uploads) (sym schema) (ap (λ (l : List (List ℕ)). further l) same) in
      let uploads = grouped_once x.uploads y.uploads h.ids_change g.ids_change (uploads_are_one x.schema h.profile h.schema_fits x.uploads y.uploads h.each each short.1 rest) in
      ap₂ (λ (s : SchemaTree) (us : List ServedUpload). downloaded s us) schema uploads

-- ---- what one message says

abbrev pub SchemaIsOne : Type 0
SchemaIsOne = (message : List ℕ) (x y : SchemaTree) → FitsFrame message → IsSchemaMessage message x → IsSchemaMessage message y → x ≡ y

abbrev pub UploadIsOne : Type 0
UploadIsOne = (schema : SchemaTree) (message id name : List ℕ) (rows others : Option Rows) → InProfile schema → FitsFrame message → IsUploadMessage schema message id rows
    → IsUploadMessage schema message name others → (id ≡ name) × (rows ≡ others)

-- no two schemas have one message
pub schemas_are_one : SchemaIsOne → SchemasAreOne
schemas_are_one schemas x y profile fits other_profile other_fits fit same =
    schemas (schema_message x) x y fit (record { is = refl; profile = profile; fits = fits }) (record { is = same; profile = other_profile; fits = other_fits })

-- and no two parts do
pub parts_are_one : UploadIsOne → PartsAreOne
parts_are_one uploads schema profile fits p q h g fit same =
    let one = uploads schema (part_text schema p) p.id q.id p.batch q.batch profile fit (record { is = refl; named = h.0; served = h.1 })
    (record { is = same; named = g.0; served = g.1 }) in
    ap₂ (λ (id : List ℕ) (batch : Option Rows). part_with id batch) one.0 one.1

pub one_grouping : SchemaIsOne → UploadIsOne
    → (messages : List (List ℕ)) (x y : Downloaded) → AllByRecursion FitsFrame messages → IsGrouped messages x → IsGrouped messages y → x ≡ y
one_grouping schemas uploads = grouping_is_one (schemas_are_one schemas) (parts_are_one uploads)

pub one_download : SchemaIsOne → UploadIsOne
    → (messages : List (List ℕ)) (x y : Downloaded) → AllByRecursion FitsFrame messages → IsDownload messages x → IsDownload messages y → x ≡ y
one_download schemas uploads messages x y fit is other =
    one_grouping schemas uploads messages x y fit (is_grouped messages x is) (is_grouped messages y other)
