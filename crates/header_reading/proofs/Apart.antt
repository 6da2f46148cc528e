-- Where a fault stands in a text, it shows no header.
use Rattle.std.proofs.Common.{◌≡◌, ℕ, zero, suc, ◌+◌, ◌*◌, ◌≤◌, ◌<◌, ◌⊎◌, inl}
use Rattle.std.proofs.Common.{inr, List, length, Some, None, arith, refl, ap, ◌∙◌, subst}
use Rattle.flat_places.specs.declared.fault.PlaceFault.TheVariants as place
use Rattle.flat_places.specs.Number.{ShowsReference}
use Rattle.flat_places.specs.Fault.{NumberFault, SlotFault}
use Rattle.flat_places.proofs.Numbers.{reference_same, reference_not_cut}
use Rattle.flat_places.proofs.Fields.{field_not_cut}
use Rattle.header_types.specs.declared.fault.MetaFault.{MetaFault}
use Rattle.header_types.specs.declared.fault.MetaFault.TheVariants as meta
use Rattle.header_types.specs.Fields.{Entry, FieldHead, Tree, tree, Forest, no_more}
use Rattle.header_types.specs.Fields.{more, width, SchemaTree}
use Rattle.header_types.specs.Slots.{VectorRef, FromPlaceFault, SlotNumberFault}
use Rattle.header_types.specs.Shown.{ShowsEntries}
use Rattle.header_types.specs.Shown.{ShowsTree, ShowsForest, ShowsForestPart}
use Rattle.header_types.specs.Limits.{depth_limit, tree_depth, forest_depth, IsBeyond, IsWithin, add_totals}
use Rattle.header_types.specs.Limits.{forest_totals, entries_totals, schema_totals, SchemaTotals}
use Rattle.header_types.specs.Header.{ShowsSchema, ShowsBatch, Head, Header, schema_header, batch_header, schema_type}
use Rattle.header_types.specs.Header.{dictionary_type, batch_type, version_5, ShowsMessage, ShowsHeader}
use Rattle.header_reading.specs.Faults.{FieldFault, IsChild, HasFieldAtDepth, ForestFault, ExceedsLimits}
use Rattle.header_reading.specs.Faults.{SchemaOwnFault}
use Rattle.header_reading.specs.Faults.{SchemaFault, BatchFault, MessageOwnFault, MessageFault, HeaderFault}
use Rattle.header_types.proofs.Unique.{number_same, target_same, vector_ref_same}
use Rattle.header_types.proofs.Unique.{message_same}
use Rattle.header_reading.proofs.Parts.{some_fields, some_entries, some_bytes, some_entry_bytes}
use Rattle.header_reading.proofs.FieldsApart.{field_apart, metadata_apart, place_fault_apart, reference_apart}
use Rattle.header_reading.proofs.FieldsApart.{slot_number_apart, vector_apart}

-- ---- trees

-- a reference to one of the trees names a table that shows one
element_shown : (text : List ℕ) (first : ℕ) (f : Forest) (i table : ℕ) → i < width f
    → ShowsReference text (first + 4 * i) table
    → ShowsForest text first f → (t : Tree) × ShowsTree text table t × (tree_depth t ≤ forest_depth f)
element_shown text first no_more i table below reference shown = absurd (omega arith)
element_shown text first (more x xs) zero table below reference ((table', reference', shown), rest) =
    let at : first + 4 * zero ≡ first = omega arith in
    let same : table' ≡ table =
    reference_same text first table' table reference' (subst (λ k. ShowsReference text k table) at reference) in
    (x, subst (λ k. ShowsTree text k x) same shown, omega arith)
element_shown text first (more x xs) (suc i) table below reference (one, rest) =
    let at : first + 4 * suc i ≡ first + 4 + 4 * i = omega arith in
    let found = element_shown text (first + 4) xs i table (omega arith)
    (subst (λ k. ShowsReference text k table) at reference) rest in
    (found.0, found.1, omega (arith, found.2))

-- of a shown tree, a field inside it shows one of the trees inside it
child_shown : (text : List ℕ) (table child : ℕ) (c : FieldHead) (es : List Entry) (inner : Forest)
    → IsChild text table child
    → ShowsTree text table (tree c es inner) → (t : Tree) × ShowsTree text child t × (tree_depth t ≤ forest_depth inner)
child_shown text table child c es inner (vector, there, (i, below, reference))
    (r, s, field, all, entries, wide, forest) =
    let same : vector ≡ r = vector_ref_same text table 5 4 vector r there field.children_shown in
    let counts : vector.count ≡ r.count = ap (λ (k : VectorRef). k.count) same in
    let moved : ShowsReference text (r.first + 4 * i) child =
    subst (λ (k : VectorRef). ShowsReference text (k.first + 4 * i) child) same reference in
    element_shown text r.first inner i child (omega arith) moved forest

below_apart : (text : List ℕ) (level table : ℕ) (t : Tree) (e : MetaFault)
    → HasFieldAtDepth text level table (λ field. FieldFault text field e)
    → ShowsTree text table t → ⊥
below_apart text zero table (tree c es inner) e fault (r, s, field, all, entries, wide, forest) =
    field_apart text table c r s es e fault field all entries
below_apart text (suc level) table (tree c es inner) e (child, is, deeper) shown =
    let found = child_shown text table child c es inner is shown in
    below_apart text level child found.0 e deeper found.1

-- a tree reaches at least as deep as something stands below its table
below_deep : (text : List ℕ) (level table : ℕ) (t : Tree) → HasFieldAtDepth text level table (λ field. Unit {0})
    → ShowsTree text table t
    → level < tree_depth t
below_deep text zero table (tree c es inner) stands shown = omega arith
below_deep text (suc level) table (tree c es inner) (child, is, deeper) shown =
    let found = child_shown text table child c es inner is shown in
    omega (arith, below_deep text level child found.0 deeper found.1, found.2)

forest_apart : (text : List ℕ) (levels : ℕ) (vector : VectorRef) (f : Forest) (e : MetaFault)
    → ForestFault text levels vector e → width f ≡ vector.count
    → ShowsForest text vector.first f → forest_depth f ≤ levels → ⊥
forest_apart text levels vector f e (table, level, (i, below, reference), inl (few, stands)) all shown shallow =
    let found = element_shown text vector.first f i table (omega arith) reference shown in
    below_apart text level table found.0 e stands found.1
forest_apart text levels vector f e (table, level, (i, below, reference), inr (is, stands)) all shown shallow =
    let found = element_shown text vector.first f i table (omega arith) reference shown in
    omega (arith, below_deep text levels table found.0 stands found.1, found.2)

-- ---- schemas

not_beyond : (x y : SchemaTotals) → x.fields ≤ y.fields → x.entries ≤ y.entries → x.bytes ≤ y.bytes → IsWithin y
    → IsBeyond x → ⊥
not_beyond x y p q r within (inl far) = omega (arith, within.fields_within)
not_beyond x y p q r within (inr (inl far)) = omega (arith, within.entries_within)
not_beyond x y p q r within (inr (inr far)) = omega (arith, within.bytes_within)

limits_apart : (text : List ℕ) (table : ℕ) (schema : SchemaTree) → ExceedsLimits text table
    → ShowsSchema text table schema → ⊥
limits_apart text table schema w q =
    let vectors : w.fields ≡ q.fields = vector_ref_same text table 1 4 w.fields q.fields w.fields_shown
    q.fields_shown in
    let part : ShowsForestPart text q.fields.first w.part =
    subst (λ (k : VectorRef). ShowsForestPart text k.first w.part) vectors w.part_shown in
    let counts : w.fields.count ≡ q.fields.count = ap (λ (k : VectorRef). k.count) vectors in
    let narrow : width w.part ≤ width schema.fields = omega (arith, w.part_of_fields, q.all) in
    let m = q.metadata_shown in
    let metadata : w.metadata ≡ m.vector = vector_ref_same text table 2 4 w.metadata m.vector w.metadata_shown
    m.vector_shown in
    let entries : ShowsEntries text m.vector.first w.entries =
    subst (λ (k : VectorRef). ShowsEntries text k.first w.entries) metadata w.entries_shown in
    let lengths : w.metadata.count ≡ m.vector.count = ap (λ (k : VectorRef). k.count) metadata in
    let few : length w.entries ≤ length schema.metadata = omega (arith, w.some_entries, m.all) in
    not_beyond (add_totals (forest_totals w.part) (entries_totals w.entries)) (schema_totals schema)
    (omega (arith, some_fields text q.fields.first w.part schema.fields part q.shown narrow))
    (omega (arith, some_entries text q.fields.first w.part schema.fields part q.shown narrow))
    (omega (
      arith,
      some_bytes text q.fields.first w.part schema.fields part q.shown narrow,
      some_entry_bytes text m.vector.first w.entries schema.metadata entries m.shown few,
    ))
    q.within w.beyond

schema_own_apart : (text : List ℕ) (table : ℕ) (schema : SchemaTree) (e : MetaFault) → SchemaOwnFault text table e
    → ShowsSchema text table schema → ⊥
schema_own_apart text table schema meta.Endianness (order, shown, other) q =
    other (number_same text table 0 2 0 order 0 shown q.little_endian)
schema_own_apart text table schema meta.TooManyFields fault q = limits_apart text table schema fault q
schema_own_apart text table schema meta.BadHeader fault q = fault
schema_own_apart text table schema meta.Dictionary fault q = fault
schema_own_apart text table schema (meta.Unsupported told) fault q = fault
schema_own_apart text table schema meta.OutOfBounds fault q = fault
schema_own_apart text table schema meta.NotUtf8 fault q = fault
schema_own_apart text table schema meta.Version fault q = fault
schema_own_apart text table schema meta.TooDeep fault q = fault
schema_own_apart text table schema meta.OutOfMemory fault q = fault

schema_apart : (text : List ℕ) (table : ℕ) (schema : SchemaTree) (e : MetaFault) → SchemaFault text table e
    → ShowsSchema text table schema → ⊥
schema_apart text table schema e (inl fault) q = slot_number_apart text table 0 2 0 0 e fault q.little_endian
schema_apart text table schema e (inr (inl fault)) q = vector_apart text table 1 4 q.fields e fault q.fields_shown
schema_apart text table schema e (inr (inr (inl (vector, there, fault)))) q =
    let same : vector ≡ q.fields = vector_ref_same text table 1 4 vector q.fields there q.fields_shown in
    let moved : ForestFault text depth_limit q.fields e =
    subst (λ (k : VectorRef). ForestFault text depth_limit k e) same fault in
    forest_apart text depth_limit q.fields schema.fields e moved q.all q.shown q.not_deep
schema_apart text table schema e (inr (inr (inr (inl fault)))) q =
    let m = q.metadata_shown in metadata_apart text table 2 m.vector schema.metadata e fault m.vector_shown m.all
    m.shown
schema_apart text table schema e (inr (inr (inr (inr fault)))) q = schema_own_apart text table schema e fault q

-- ---- batches and messages

batch_apart : (text : List ℕ) (table : ℕ) (head : Head) (e : MetaFault) → BatchFault text table e
    → ShowsBatch text table head → ⊥
batch_apart text table head e (inl fault) q = slot_number_apart text table 0 8 0 q.rows e fault q.rows_shown
batch_apart text table head e (inr (inl fault)) q =
    vector_apart text table 1 16 q.nodes_shown.vector e fault q.nodes_shown.vector_shown
batch_apart text table head e (inr (inr (inl fault))) q =
    vector_apart text table 2 16 q.buffers_shown.vector e fault q.buffers_shown.vector_shown
batch_apart text table head e (inr (inr (inr fault))) q =
    place_fault_apart (SlotFault text table 3) e
    (λ p f. field_not_cut text table 3 p q.compression f q.compression_shown) fault

-- a type of a header that is carried
IsType : ℕ → Type 0
IsType type = (type ≡ schema_type) ⊎ (type ≡ batch_type)

message_own_apart : (text : List ℕ) (message type table : ℕ) (e : MetaFault) → IsType type
    → MessageOwnFault text message e
    → ShowsMessage text message type table → ⊥
unfolding IsType
message_own_apart text message type table meta.Version known (version, shown, other) q =
    other (number_same text message 0 2 0 version version_5 shown q.version)
message_own_apart text message type table meta.Dictionary known shown q =
    let same : type ≡ dictionary_type = number_same text message 1 1 0 type dictionary_type q.type_shown shown in
    elim known [ inl is ↦ omega arith | inr is ↦ omega arith ]
message_own_apart text message type table meta.BadHeader known (inl none) q =
    let no : Some table ≡ None = target_same text message 2 (Some table) None q.header none in cc
message_own_apart text message type table meta.BadHeader known (inr (type', shown, (first, second, third))) q =
    let same : type' ≡ type = number_same text message 1 1 0 type' type shown q.type_shown in
    elim known [ inl is ↦ first (same ∙ is) | inr is ↦ third (same ∙ is) ]
message_own_apart text message type table meta.Endianness known fault q = fault
message_own_apart text message type table meta.TooManyFields known fault q = fault
message_own_apart text message type table (meta.Unsupported told) known fault q = fault
message_own_apart text message type table meta.OutOfBounds known fault q = fault
message_own_apart text message type table meta.NotUtf8 known fault q = fault
message_own_apart text message type table meta.TooDeep known fault q = fault
message_own_apart text message type table meta.OutOfMemory known fault q = fault

message_apart : (text : List ℕ) (message type table : ℕ) (e : MetaFault) → IsType type → MessageFault text message e
    → ShowsMessage text message type table → ⊥
message_apart text message type table e known (inl fault) q =
    slot_number_apart text message 0 2 0 version_5 e fault q.version
message_apart text message type table e known (inr (inl fault)) q =
    slot_number_apart text message 1 1 0 type e fault q.type_shown
message_apart text message type table e known (inr (inr (inl fault))) q =
    reference_apart text message 2 (Some table) e fault q.header
message_apart text message type table e known (inr (inr (inr fault))) q =
    message_own_apart text message type table e known fault q

-- ---- headers

-- what is wrong with a text before its header
root_apart : (text : List ℕ) (m type table : ℕ) (e : MetaFault) → IsType type → ShowsMessage text m type table
    → FromPlaceFault (NumberFault text 0 4) e
    ⊎ ((message : ℕ) × ShowsReference text 0 message × MessageFault text message e) → ⊥
root_apart text m type table e known q (inl fault) =
    place_fault_apart (NumberFault text 0 4) e (λ p f. reference_not_cut text 0 p m f q.root) fault
root_apart text m type table e known q (inr (message, root, fault)) =
    let same : message ≡ m = reference_same text 0 message m root q.root in
    message_apart text m type table e known (subst (λ k. MessageFault text k e) same fault) q

pub faults_stand_apart : (text : List ℕ) (e : MetaFault) (x : Header) → HeaderFault text e → ShowsHeader text x → ⊥
unfolding IsType
faults_stand_apart text e (schema_header schema) (inl fault) (m, table, message, shown) =
    root_apart text m schema_type table e (inl refl) message (inl fault)
faults_stand_apart text e (schema_header schema) (inr (inl fault)) (m, table, message, shown) =
    root_apart text m schema_type table e (inl refl) message (inr fault)
faults_stand_apart text e (schema_header schema) (inr (inr (inl (m', table', message', fault))))
    (m, table, message, shown) =
    let same = message_same text m' m schema_type schema_type table' table message' message in
    schema_apart text table schema e (subst (λ k. SchemaFault text k e) same.2 fault) shown
faults_stand_apart text e (schema_header schema) (inr (inr (inr (m', table', message', fault))))
    (m, table, message, shown) =
    let same = message_same text m' m batch_type schema_type table' table message' message in
    let no : batch_type ≡ schema_type = same.1 in omega arith
faults_stand_apart text e (batch_header head) (inl fault) (m, table, message, shown, body) =
    root_apart text m batch_type table e (inr refl) message (inl fault)
faults_stand_apart text e (batch_header head) (inr (inl fault)) (m, table, message, shown, body) =
    root_apart text m batch_type table e (inr refl) message (inr fault)
faults_stand_apart text e (batch_header head) (inr (inr (inl (m', table', message', fault))))
    (m, table, message, shown, body) =
    let same = message_same text m' m schema_type batch_type table' table message' message in
    let no : schema_type ≡ batch_type = same.1 in omega arith
faults_stand_apart text e (batch_header head) (inr (inr (inr (m', table', message', inl fault))))
    (m, table, message, shown, body) =
    let same = message_same text m' m batch_type batch_type table' table message' message in
    batch_apart text table head e (subst (λ k. BatchFault text k e) same.2 fault) shown
faults_stand_apart text e (batch_header head) (inr (inr (inr (m', table', message', inr fault))))
    (m, table, message, shown, (bits, number, is)) =
    let same = message_same text m' m batch_type batch_type table' table message' message in
    slot_number_apart text m 3 8 0 bits e (subst (λ k. SlotNumberFault text k 3 8 e) same.0 fault) number
