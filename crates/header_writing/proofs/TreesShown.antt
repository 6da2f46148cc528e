-- What fields, schemas and messages show, as they are laid out.
use Rattle.std.proofs.Common.{◌≡◌, ℕ, suc, ◌+◌, ◌*◌, ◌^◌, ◌<◌, ◌≤◌, ◌==◌, Bool, true, false, not, List, [], ◌∷◌, length}
use Rattle.std.proofs.Common.{get_or, Some, arith, refl, sym, ap, subst}
use Rattle.std.specs.List.{AllByRecursion}
use Rattle.byteorder.specs.Endian.{little_bytes}
use Rattle.flat_places.specs.Held.{Holds}
use Rattle.flat_places.specs.Number.{ShowsReference}
use Rattle.flat_places.specs.Vector.{ShowsVector}
use Rattle.flat_places.proofs.Bytes.{holds_within}
use Rattle.header_types.specs.Fields.{Entry, DataType, null_type, int_type, floating_point_type, binary_type, utf8_type}
use Rattle.header_types.specs.Fields.{bool_type, decimal_type, date_type, time_type, timestamp_type, list_type}
use Rattle.header_types.specs.Fields.{struct_type, fixed_size_binary_type, fixed_size_list_type, duration_type}
use Rattle.header_types.specs.Fields.{FieldHead, Tree, tree, Forest, no_more, more, width, SchemaTree}
use Rattle.header_types.specs.Slots.{ShowsNumber, ShowsReferenceField, VectorRef, no_vector}
use Rattle.header_types.specs.Shown.{ShowsEntry, ShowsEntries, ShowsFieldHead, ShowsTree, ShowsForest}
use Rattle.header_types.specs.Header.{ShowsMetadata, ShowsSchema, schema_header, version_5, schema_type, ShowsMessage}
use Rattle.header_types.specs.Header.{ShowsHeader}
use Rattle.header_writing.specs.Objects.{Object, string_object, references_object, Cells, no_cells, reference, zeros}
use Rattle.header_writing.specs.Objects.{padding, cell_count, cells_size, lead, laid, unpadded, text_of}
use Rattle.header_writing.specs.Canonical.{number, gap, entry_object, entry_cells, metadata_cell, metadata_place, flag}
use Rattle.header_writing.specs.Canonical.{type_id_of, type_object, field_table_cells, field_object, field_cells}
use Rattle.header_writing.specs.Canonical.{schema_object, message_cells, message_object, header_text}
use Rattle.header_writing.specs.Written.{FitsEntry, FitsTree, FitsForest, FitsSchema}
use Rattle.header_types.specs.Profile.{IsWellFormedTree, IsWellFormedForest, InProfile}
use Rattle.header_writing.proofs.Filling.{length_little}
use Rattle.header_writing.proofs.Lying.{Lies, CellsLie, TableLies, lead_within, held_front, held_back, uint_lies}
use Rattle.header_writing.proofs.Lying.{gap_lies, referred_lies, string_lies, references_lie, table_lies, field_none}
use Rattle.header_writing.proofs.NumbersShown.{number_shown, number_absent, reference_shown, reference_absent}
use Rattle.header_writing.proofs.NumbersShown.{string_at}
use Rattle.header_writing.proofs.NumbersShown.{vector_at, vector_absent, flag_fits}
use Rattle.header_writing.proofs.TypesShown.{data_type_lies}

-- ---- metadata

entry_lies : (text : List ℕ) (place : ℕ) (entry : Entry) → FitsEntry entry → Lies text place (entry_object entry)
    → ShowsEntry text (place + lead place (entry_object entry)) entry
entry_lies text place entry fits lies =
    let t : ℕ = place + lead place (entry_object entry) in
    let slots : List ℕ = 4 ∷ 8 ∷ [] in
    let value : Cells = reference (string_object entry.1) no_cells in
    let next : ℕ = t + 4 + cells_size (reference (string_object entry.0) value) in
    let after : ℕ = next + length (laid next (string_object entry.0)) in
    let (table, cells) = table_lies text place 8 12 slots (reference (string_object entry.0) value) lies refl
    (omega arith) in
    let (to_key, key, rest) = referred_lies text (t + 4) (t + 8) next (string_object entry.0) value cells
    (omega arith) in
    let (to_value, said, _) = referred_lies text (t + 8) (t + 12) after (string_object entry.1) no_cells rest
    (omega arith) in
    record {
      key = Some entry.0;
      value = Some entry.1;
      key_shown =
          string_at text t 0 (next + lead next (string_object entry.0)) entry.0
          (reference_shown text t 8 slots 0 4 (next + lead next (string_object entry.0)) table (omega arith) refl
          (omega arith) (omega arith) to_key)
          (string_lies text next entry.0 key fits.0);
      value_shown =
          string_at text t 1 (after + lead after (string_object entry.1)) entry.1
          (reference_shown text t 8 slots 1 8 (after + lead after (string_object entry.1)) table (omega arith) refl
          (omega arith) (omega arith) to_value)
          (string_lies text after entry.1 said fits.1);
      both = refl;
    }

entries_lie : (text : List ℕ) (at next : ℕ) (entries : List Entry) → AllByRecursion FitsEntry entries
    → CellsLie text at next (entry_cells entries)
    → ShowsEntries text at entries
entries_lie text at next [] fits cells = tt
entries_lie text at next (entry ∷ rest) fits cells =
    let (refers, one, others) = referred_lies text at (at + 4) next (entry_object entry)
    (entry_cells rest) cells refl in (
      (next + lead next (entry_object entry), refers, entry_lies text next entry fits.0 one),
      entries_lie text (at + 4) (next + length (laid next (entry_object entry))) rest fits.1 others,
    )

entries_many : (entries : List Entry) → cell_count (entry_cells entries) ≡ length entries
entries_many [] = refl
entries_many (entry ∷ rest) = ap suc (entries_many rest)

entries_wide : (entries : List Entry) → cells_size (entry_cells entries) ≡ cell_count (entry_cells entries) * 4
entries_wide [] = refl
entries_wide (entry ∷ rest) = omega (arith, entries_wide rest)

metadata_lies : (text : List ℕ) (table own_size : ℕ) (slots : List ℕ) (n v next : ℕ) (entries : List Entry)
    → TableLies text table own_size slots
    → n < length slots → get_or slots n 0 ≡ metadata_place entries v → 0 < v → v < 65536
    → AllByRecursion FitsEntry entries
    → CellsLie text (table + v) next (metadata_cell entries) → ShowsMetadata text table n entries
metadata_lies text table own_size slots n v next [] lies few is above near fits cells = record {
  vector = no_vector;
  vector_shown = vector_absent text table n 4 (reference_absent text table own_size slots n lies few is);
  all = refl;
  shown = tt;
}
metadata_lies text table own_size slots n v next (entry ∷ rest) lies few is above near fits cells =
    let entries : List Entry = entry ∷ rest in
    let object : Object = references_object (entry_cells entries) in
    let target : ℕ = next + lead next object in
    let (refers, there, _) = referred_lies text (table + v) (table + v + 4) next object no_cells cells refl in
    let (shown, elements) = references_lie text next (entry_cells entries) there (entries_wide entries) in
    record {
      vector = record { first = target + 4; count = cell_count (entry_cells entries) };
      vector_shown =
          vector_at text table n target 4 (target + 4) (cell_count (entry_cells entries))
          (reference_shown text table own_size slots n v target lies few is above near refers) shown;
      all = sym (entries_many entries);
      shown = entries_lie text (target + 4) (target + 4 + cells_size (entry_cells entries)) entries fits elements;
    }

-- ---- fields

type_id_fits : (data_type : DataType) → type_id_of data_type < 256 ^ 1
type_id_fits null_type = omega arith
type_id_fits (int_type width signed) = omega arith
type_id_fits (floating_point_type precision) = omega arith
type_id_fits binary_type = omega arith
type_id_fits utf8_type = omega arith
type_id_fits bool_type = omega arith
type_id_fits (decimal_type precision scale width) = omega arith
type_id_fits (date_type unit) = omega arith
type_id_fits (time_type unit) = omega arith
type_id_fits (timestamp_type unit timezone) = omega arith
type_id_fits list_type = omega arith
type_id_fits struct_type = omega arith
type_id_fits (fixed_size_binary_type byte_width) = omega arith
type_id_fits (fixed_size_list_type list_size) = omega arith
type_id_fits (duration_type unit) = omega arith

flag_means : (b : Bool) → b ≡ not (flag b == 0)
flag_means false = refl
flag_means true = refl

fields_many : (f : Forest) → cell_count (field_cells f) ≡ width f
fields_many no_more = refl
fields_many (more t rest) = ap suc (fields_many rest)

fields_wide : (f : Forest) → cells_size (field_cells f) ≡ cell_count (field_cells f) * 4
fields_wide no_more = refl
fields_wide (more t rest) = omega (arith, fields_wide rest)

-- a vector of fields is laid out there
record FieldsLie (text : List ℕ) (target : ℕ) (inner : Forest) : Type 0 where
  pub next : ℕ
  pub shown : ShowsVector text target 4 (target + 4) (width inner)
  pub cells : CellsLie text (target + 4) next (field_cells inner)

fields_lie : (text : List ℕ) (place : ℕ) (inner : Forest) → Lies text place (references_object (field_cells inner))
    → FieldsLie text (place + lead place (references_object (field_cells inner))) inner
fields_lie text place inner lies =
    let target : ℕ = place + lead place (references_object (field_cells inner)) in
    let (shown, cells) = references_lie text place (field_cells inner) lies (fields_wide inner) in
    record {
      next = target + 4 + cells_size (field_cells inner);
      shown = subst (λ k. ShowsVector text target 4 (target + 4) k) (fields_many inner) shown;
      cells = cells;
    }

-- a field is laid out there, and the fields inside it
record FieldPartsLie (text : List ℕ) (table : ℕ) (field : FieldHead) (entries : List Entry)
    (inner : Forest) : Type 0 where
  pub children : ℕ
  pub metadata : VectorRef
  pub shown : ShowsFieldHead text table field (record { first = children + 4; count = width inner }) metadata
  pub all : length entries ≡ metadata.count
  pub entries_shown : ShowsEntries text metadata.first entries
  pub inside : FieldsLie text children inner

field_parts_lie : (text : List ℕ) (place : ℕ) (field : FieldHead) (entries : List Entry) (inner : Forest)
    → FitsTree (tree field entries inner)
    → IsWellFormedTree (tree field entries inner) → Lies text place (field_object (tree field entries inner))
    → FieldPartsLie text (place + lead place (field_object (tree field entries inner))) field entries inner
field_parts_lie text place field entries inner fits formed lies =
    let t : ℕ = place + lead place (field_object (tree field entries inner)) in
    let slots : List ℕ = 4 ∷ 8 ∷ 9 ∷ 12 ∷ 0 ∷ 16 ∷ metadata_place entries 20 ∷ [] in
    let object : Object = references_object (field_cells inner) in
    let all : Cells = field_table_cells field entries object in
    let last : Cells = metadata_cell entries in
    let from_children : Cells = reference object last in
    let from_type : Cells = reference (type_object field.data_type) from_children in
    let from_type_id : Cells = number 1 (type_id_of field.data_type) (gap 2 from_type) in
    let from_flag : Cells = number 1 (flag field.nullable) from_type_id in
    let next : ℕ = t + 4 + cells_size all in
    let next_type : ℕ = next + length (laid next (string_object field.name)) in
    let next_children : ℕ = next_type + length (laid next_type (type_object field.data_type)) in
    let next_metadata : ℕ = next_children + length (laid next_children object) in
    let name_at : ℕ = next + lead next (string_object field.name) in
    let type_at : ℕ = next_type + lead next_type (type_object field.data_type) in
    let children_at : ℕ = next_children + lead next_children object in
    let (table, one) = table_lies text place 18 24 slots all lies refl (omega arith) in
    let (to_name, name, two) = referred_lies text (t + 4) (t + 8) next (string_object field.name) from_flag one
    (omega arith) in
    let (nullable, three) = uint_lies text (t + 8) (t + 9) next_type 1 (flag field.nullable) from_type_id two
    (flag_fits field.nullable) (omega arith) in
    let (type_id, four) = uint_lies text (t + 9) (t + 10) next_type 1 (type_id_of field.data_type)
    (gap 2 from_type) three (type_id_fits field.data_type) (omega arith) in
    let five = gap_lies text (t + 10) (t + 12) next_type 2 from_type four (omega arith) in
    let (to_type, type, six) = referred_lies text (t + 12) (t + 16) next_type
    (type_object field.data_type) from_children five (omega arith) in
    let (to_children, children, seven) = referred_lies text (t + 16) (t + 20) next_children object last six
    (omega arith) in
    let inside : FieldsLie text children_at inner = fields_lie text next_children inner children in
    let metadata : ShowsMetadata text t 6 entries =
    metadata_lies text t 18 slots 6 20 next_metadata entries table (omega arith) refl (omega arith)
    (omega arith) fits.2 seven in
    let referred : ShowsReferenceField text t 3 (Some type_at) =
    reference_shown text t 18 slots 3 12 type_at table (omega arith) refl (omega arith) (omega arith) to_type in
    record {
      children = children_at;
      metadata = metadata.vector;
      shown = record {
        name = Some field.name;
        nullable = flag field.nullable;
        type_id = type_id_of field.data_type;
        name_shown =
            string_at text t 0 name_at field.name
            (reference_shown text t 18 slots 0 4 name_at table (omega arith) refl (omega arith) (omega arith) to_name)
            (string_lies text next field.name name fits.0);
        named = refl;
        nullable_shown = number_shown text t 18 slots 1 8 1 0 (flag field.nullable) table (omega arith) refl
            (omega arith) (omega arith) nullable;
        may_be_null = flag_means field.nullable;
        type_id_shown = number_shown text t 18 slots 2 9 1 0 (type_id_of field.data_type) table (omega arith) refl
            (omega arith) (omega arith) type_id;
        data_type_shown = data_type_lies text t next_type field.data_type fits.1 formed.1 type referred;
        no_dictionary = field_none text t 18 slots 4 table (omega arith) refl;
        children_shown =
            vector_at text t 5 children_at 4 (children_at + 4) (width inner)
            (reference_shown text t 18 slots 5 16 children_at table (omega arith) refl (omega arith)
            (omega arith) to_children) inside.shown;
        allowed = formed.0;
        metadata_shown = metadata.vector_shown;
      };
      all = metadata.all;
      entries_shown = metadata.shown;
      inside = inside;
    }

-- ---- trees

mutual
  tree_lies : (text : List ℕ) (place : ℕ) (t : Tree) → FitsTree t → IsWellFormedTree t
      → Lies text place (field_object t)
      → ShowsTree text (place + lead place (field_object t)) t
  tree_lies text place (tree field entries inner) fits formed lies =
      let there : FieldPartsLie text (place + lead place (field_object (tree field entries inner))) field entries
      inner =
      field_parts_lie text place field entries inner fits formed lies in (
        record { first = there.children + 4; count = width inner },
        there.metadata,
        there.shown,
        there.all,
        there.entries_shown,
        refl,
        forest_lies text (there.children + 4) there.inside.next inner fits.3 formed.2 there.inside.cells,
      )

  forest_lies : (text : List ℕ) (at next : ℕ) (f : Forest) → FitsForest f → IsWellFormedForest f
      → CellsLie text at next (field_cells f)
      → ShowsForest text at f
  forest_lies text at next no_more fits formed cells = tt
  forest_lies text at next (more t rest) fits formed cells =
      let (refers, one, others) =
      referred_lies text at (at + 4) next (field_object t) (field_cells rest) cells refl in (
        (next + lead next (field_object t), refers, tree_lies text next t fits.0 formed.0 one),
        forest_lies text (at + 4) (next + length (laid next (field_object t))) rest fits.1 formed.1 others,
      )

-- ---- schemas

schema_lies : (text : List ℕ) (place : ℕ) (schema : SchemaTree) → InProfile schema → FitsSchema schema
    → Lies text place (schema_object schema)
    → ShowsSchema text (place + lead place (schema_object schema)) schema
schema_lies text place schema profile fits lies =
    let t : ℕ = place + lead place (schema_object schema) in
    let slots : List ℕ = 0 ∷ 4 ∷ metadata_place schema.metadata 8 ∷ [] in
    let object : Object = references_object (field_cells schema.fields) in
    let last : Cells = metadata_cell schema.metadata in
    let next : ℕ = t + 4 + cells_size (reference object last) in
    let fields_at : ℕ = next + lead next object in
    let (table, one) = table_lies text place 10 12 slots (reference object last) lies refl (omega arith) in
    let (to_fields, fields, two) = referred_lies text (t + 4) (t + 8) next object last one (omega arith) in
    let inside : FieldsLie text fields_at schema.fields = fields_lie text next schema.fields fields in
    record {
      little_endian = number_absent text t 10 slots 0 2 0 table (omega arith) refl;
      fields = record { first = fields_at + 4; count = width schema.fields };
      fields_shown =
          vector_at text t 1 fields_at 4 (fields_at + 4) (width schema.fields)
          (reference_shown text t 10 slots 1 4 fields_at table (omega arith) refl (omega arith) (omega arith) to_fields)
          inside.shown;
      all = refl;
      shown = forest_lies text (fields_at + 4) inside.next schema.fields fits.fields profile.well_formed inside.cells;
      metadata_shown =
          metadata_lies text t 10 slots 2 8 (next + length (laid next object)) schema.metadata table (omega arith) refl
          (omega arith) (omega arith)
          fits.metadata two;
      not_deep = profile.not_deep;
      within = profile.within;
    }

-- ---- messages

root_near : (text : List ℕ) (root : Object) → Holds text 4 (laid 4 root) → length text < 2 ^ 32
    → 4 + lead 4 root < 256 ^ 4
root_near text root held small =
    let within : 4 + length (laid 4 root) ≤ length text = holds_within text 4 (laid 4 root) held in
    let leads : lead 4 root ≤ length (laid 4 root) = lead_within 4 root in omega arith

-- the root of a text is laid out behind the reference to it
root_lies : (root : Object) → length (text_of root) < 2 ^ 32
    → ShowsReference (text_of root) 0 (4 + lead 4 root) × Lies (text_of root) 4 root
root_lies root small =
    let text : List ℕ = text_of root in
    let all : Holds text 0 (unpadded root) = record {
      before = [];
      after = zeros (padding 8 (length (unpadded root)));
      parts = refl;
      stands = refl;
    } in
    let number : List ℕ = little_bytes 4 (4 + lead 4 root) in
    let laid_out : Holds text 4 (laid 4 root) =
    held_back text 0 4 number (laid 4 root) (length_little 4 (4 + lead 4 root)) all in (
      record {
        offset = 4 + lead 4 root;
        shown = record { held = held_front text 0 number (laid 4 root) all; fits = root_near text root laid_out small };
        added = omega arith;
      },
      record { held = laid_out; small = small },
    )

-- what a message shows, and that its header lies somewhere
pub record MessageLies (text : List ℕ) (type : ℕ) (header : Object) (body_length : ℕ) : Type 0 where
  pub message : ℕ
  pub next : ℕ
  pub shown : ShowsMessage text message type (next + lead next header)
  pub body : ShowsNumber text message 3 8 0 body_length
  pub lies : Lies text next header

pub message_lies : (type : ℕ) (header : Object) (body_length : ℕ) → type < 256 → body_length < 256 ^ 8
    → length (text_of (message_object type header body_length)) < 2 ^ 32
    → MessageLies (text_of (message_object type header body_length)) type header body_length
message_lies type header body_length near far small =
    let root : Object = message_object type header body_length in
    let text : List ℕ = text_of root in
    let t : ℕ = 4 + lead 4 root in
    let slots : List ℕ = 4 ∷ 6 ∷ 8 ∷ 16 ∷ [] in
    let all : Cells = message_cells type header body_length in
    let last : Cells = number 8 body_length no_cells in
    let from_header : Cells = reference header (gap 4 last) in
    let from_type : Cells = number 1 type (gap 1 from_header) in
    let next : ℕ = t + 4 + cells_size all in
    let after : ℕ = next + length (laid next header) in
    let header_at : ℕ = next + lead next header in
    let (refers, lies) = root_lies root small in
    let (table, one) = table_lies text 4 12 24 slots all lies refl (omega arith) in
    let (version, two) = uint_lies text (t + 4) (t + 6) next 2 version_5 from_type one (omega arith) (omega arith) in
    let (header_type, three) = uint_lies text (t + 6) (t + 7) next 1 type (gap 1 from_header) two (omega arith)
    (omega arith) in
    let four = gap_lies text (t + 7) (t + 8) next 1 from_header three (omega arith) in
    let (to_header, there, five) = referred_lies text (t + 8) (t + 12) next header (gap 4 last) four (omega arith) in
    let six = gap_lies text (t + 12) (t + 16) after 4 last five (omega arith) in
    let (body, _) = uint_lies text (t + 16) (t + 24) after 8 body_length no_cells six far (omega arith) in
    record {
      message = t;
      next = next;
      shown = record {
        root = refers;
        version = number_shown text t 12 slots 0 4 2 0 version_5 table (omega arith) refl (omega arith)
            (omega arith) version;
        type_shown = number_shown text t 12 slots 1 6 1 0 type table (omega arith) refl (omega arith)
            (omega arith) header_type;
        header = reference_shown text t 12 slots 2 8 header_at table (omega arith) refl (omega arith)
            (omega arith) to_header;
      };
      body = number_shown text t 12 slots 3 16 8 0 body_length table (omega arith) refl (omega arith)
          (omega arith) body;
      lies = there;
    }

-- a schema's text that is not too large shows the schema
pub schema_text_shown : (schema : SchemaTree) → InProfile schema → FitsSchema schema
    → length (header_text (schema_header schema)) < 2 ^ 32
    → ShowsHeader (header_text (schema_header schema)) (schema_header schema)
schema_text_shown schema profile fits small =
    let text : List ℕ = header_text (schema_header schema) in
    let there : MessageLies text schema_type (schema_object schema) 0 =
    message_lies schema_type (schema_object schema) 0 (omega arith) (omega arith) small in (
      there.message,
      there.next + lead there.next (schema_object schema),
      there.shown,
      schema_lies text there.next schema profile fits there.lies,
    )
