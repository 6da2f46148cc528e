-- How long objects and texts are, exactly.
use Rattle.std.proofs.Common.{◌≡◌, refl, sym, ap, subst, ◌∙◌, ℕ, ◌+◌, ◌*◌, ◌<◌, ◌≤◌, ◌^◌, List, [], ◌∷◌, ◌++◌, drop, map, length, slice_index_or, length-append, arith}
use Rattle.std.proofs.lemmas.List.{at_drop_more, length-map}
use Rattle.std.proofs.Math.ListN.{drop_of_length-le}
use Rattle.std.proofs.Common.{Some, None}
use Rattle.header_types.specs.Fields.{DataType, null_type, int_type, floating_point_type, binary_type, utf8_type}
use Rattle.header_types.specs.Fields.{bool_type, decimal_type, date_type, time_type, timestamp_type, list_type}
use Rattle.header_types.specs.Fields.{struct_type, fixed_size_binary_type, fixed_size_list_type, duration_type}
use Rattle.header_types.specs.Fields.{Entry, FieldHead, Tree, tree, Forest, no_more, more, width, SchemaTree}
use Rattle.std.proofs.Common.{String, ◌==◌, false, zero, suc}
use Rattle.header_types.specs.Limits.{forest_depth}
use Rattle.std.proofs.lemmas.List.{append-nil}
use Rattle.header_types.specs.Profile.{InProfile}
use Rattle.std.specs.declared.alloc.Global.{Global}
use Rattle.header_types.specs.declared.schema.Field.{Field}
use Rattle.header_types.specs.FieldView.{field_head_of, entries_in, fields_in}
use Rattle.header_types.specs.Views.{entry_of, tree_of, forest_of}
use Rattle.header_types.proofs.FieldTrees.{width_forest_of, forest_next}
use Rattle.header_types.specs.Header.{Head, schema_header, batch_header, schema_type, batch_type}
use Rattle.header_writing.specs.Objects.{Object, string_object, structs_object, references_object, table_object, Cells}
use Rattle.header_writing.specs.Objects.{no_cells, inline, reference, zeros, padding, cell_count, cells_size, shorts}
use Rattle.header_writing.specs.Objects.{table_lead, lead, laid, cells_text, objects_text, unpadded, text_of}
use Rattle.header_writing.specs.Canonical.{metadata_place, entry_object, entry_cells, metadata_cell, type_object, field_object, field_cells}
use Rattle.header_writing.specs.Canonical.{field_numbers, field_table_cells, schema_object, int64_number, batch_object}
use Rattle.header_writing.specs.Canonical.{flag, type_id_of, message_numbers, message_cells, message_object, header_text, pairs_text, pairs_object}
use Rattle.header_writing.specs.Weights.{weight, cells_weight, objects_weight, Behind, numbers_in, cells_in, behind, behind_cells}
use Rattle.byteorder.specs.Endian.{little_bytes}
use Rattle.header_writing.proofs.Filling.{length_zeros, length_little, length_shorts}
use Rattle.header_writing.proofs.Lying.{cells_long}
use Rattle.header_writing.proofs.WrittenSizes.{light, schema_light}
use Rattle.header_writing.proofs.BatchesShown.{pairs_long}

-- ---- objects

pub string_end : (place : ℕ) (bytes : List ℕ) → behind place (string_object bytes) ≡ place + padding 4 place + 5 + length bytes
string_end place bytes =
    simp length-append (omega (arith, length_zeros (padding 4 place), length_little 4 (length bytes)))

pub structs_end : (place count : ℕ) (bytes : List ℕ) → behind place (structs_object count bytes) ≡ place + padding 8 (place + 4) + 4 + length bytes
structs_end place count bytes =
    simp length-append (omega (arith, length_zeros (padding 8 (place + 4)), length_little 4 count))

pub table_end : (place next : ℕ) (numbers : List ℕ) (cells : Cells) → next ≡ behind_cells place numbers (cells_size cells)
    → next + length (objects_text next cells) ≡ behind place (table_object numbers cells)
table_end place next numbers cells is =
    let at : ℕ = place + table_lead place numbers + 4 in
    let from : ℕ = at + cells_size cells in
    rw is (simp length-append (omega (
      arith,
      length_zeros (padding 8 (place + 2 * length numbers)),
      length_shorts numbers,
      length_little 4 (2 * length numbers),
      cells_long at from cells,
    )))

pub references_end : (place next : ℕ) (cells : Cells) → next ≡ place + padding 4 place + 4 + cells_size cells
    → next + length (objects_text next cells) ≡ behind place (references_object cells)
references_end place next cells is =
    let at : ℕ = place + padding 4 place + 4 in
    let from : ℕ = at + cells_size cells in
    rw is (simp length-append (omega (
      arith,
      length_zeros (padding 4 place),
      length_little 4 (cell_count cells),
      cells_long at from cells,
    )))

-- ---- one object after the other

pub behind_object : (end place : ℕ) (o : Object) (rest : Cells) → Behind end place (reference o rest) → Behind end (behind place o) rest
behind_object end place o rest is = record {
  at = omega (arith, is.at, length-append (laid place o) (objects_text (place + length (laid place o)) rest));
  room = omega (arith, is.room, light place o);
}

pub behind_bytes : (end place : ℕ) (bytes : List ℕ) (rest : Cells) → Behind end place (inline bytes rest) → Behind end place rest
behind_bytes end place bytes rest is = record { at = is.at; room = omega (arith, is.room) }

pub behind_all : (end place : ℕ) → Behind end place no_cells → place ≡ end
behind_all end place is = omega (arith, is.at)

pub both_weights : (cells : Cells) → cells_weight cells ≡ cells_size cells + objects_weight cells
both_weights no_cells = refl
both_weights (inline bytes rest) = omega (arith, both_weights rest)
both_weights (reference o rest) = omega (arith, both_weights rest)

pub in_table : (place next : ℕ) (numbers : List ℕ) (cells : Cells) → next ≡ behind_cells place numbers (cells_size cells)
    → place + weight (table_object numbers cells) < 2 ^ 32 → length numbers ≤ 32 → Behind (behind place (table_object numbers cells)) next cells
in_table place next numbers cells is room few = record {
  at = table_end place next numbers cells is;
  room = omega (arith, is, room, both_weights cells);
}

pub in_references : (place next : ℕ) (cells : Cells) → next ≡ place + padding 4 place + 4 + cells_size cells
    → place + weight (references_object cells) < 2 ^ 32 → Behind (behind place (references_object cells)) next cells
in_references place next cells is room = record {
  at = references_end place next cells is;
  room = omega (arith, is, room, both_weights cells);
}

-- ---- a batch

abbrev batch_cells : Head → Cells
batch_cells head =
    reference (pairs_object head.nodes)
    (inline (little_bytes 8 (int64_number head.length)) (reference (pairs_object head.buffers) (inline (zeros 4) no_cells)))

message_cells_long : (type : ℕ) (header : Object) (body : ℕ) → cells_size (message_cells type header body) ≡ 20
message_cells_long type header body =
    omega (arith, length_little 2 4, length_little 1 type, length_zeros 1, length_zeros 4, length_little 8 body)

pub message_end : (type : ℕ) (header : Object) (body : ℕ) → behind 40 header ≡ behind 4 (message_object type header body)
message_end type header body =
    let is : 40 ≡ behind_cells 4 message_numbers (cells_size (message_cells type header body)) =
    omega (arith, message_cells_long type header body) in
    sym (omega (arith, length-append (laid 40 header) []))
    ∙ table_end 4 40 message_numbers (message_cells type header body) is

-- a whole text ends at the next multiple of 8
pub text_long : (type : ℕ) (header : Object) (body end : ℕ) → end ≡ behind 40 header
    → length (text_of (message_object type header body)) ≡ end + padding 8 end
text_long type header body end is =
    let root : Object = message_object type header body in
    let front : length (unpadded root) ≡ end =
    length-append (little_bytes 4 (4 + lead 4 root)) (laid 4 root)
    ∙ ap (λ n. n + length (laid 4 root)) (length_little 4 (4 + lead 4 root))
    ∙ sym (message_end type header body)
    ∙ sym is in
    length-append (unpadded root) (zeros (padding 8 (length (unpadded root))))
    ∙ ap (λ n. length (unpadded root) + n) (length_zeros (padding 8 (length (unpadded root))))
    ∙ ap (λ n. n + padding 8 n) front

pub batch_end : (head : Head) → behind 40 (batch_object head) ≡ 96 + 16 * (length head.nodes + length head.buffers)
batch_end head =
    let cells : Cells = batch_cells head in
    let numbers : List ℕ = 10 ∷ 24 ∷ 8 ∷ 4 ∷ 16 ∷ [] in
    let size : cells_size (batch_cells head) ≡ 20 = omega (arith, length_little 8 (int64_number head.length), length_zeros 4) in
    let next : 80 ≡ behind_cells 40 (10 ∷ 24 ∷ 8 ∷ 4 ∷ 16 ∷ []) (cells_size (batch_cells head)) = omega (arith, size) in
    let whole : 80 + length (objects_text 80 (batch_cells head)) ≡ behind 40 (batch_object head) =
    table_end 40 80 (10 ∷ 24 ∷ 8 ∷ 4 ∷ 16 ∷ []) (batch_cells head) next in
    let first : behind 80 (pairs_object head.nodes) ≡ 88 + 16 * length head.nodes =
    structs_end 80 (length head.nodes) (pairs_text head.nodes) ∙ omega (arith, pairs_long head.nodes) in
    let at : ℕ = behind 80 (pairs_object head.nodes) in
    let second : behind (behind 80 (pairs_object head.nodes)) (pairs_object head.buffers) ≡ 96 + 16 * (length head.nodes + length head.buffers) =
    structs_end (behind 80 (pairs_object head.nodes)) (length head.buffers) (pairs_text head.buffers)
    ∙ omega (arith, first, pairs_long head.buffers) in
    sym whole
    ∙ omega (
      arith,
      length-append (laid 80 (pairs_object head.nodes)) (laid (behind 80 (pairs_object head.nodes)) (pairs_object head.buffers) ++ []),
      length-append (laid (behind 80 (pairs_object head.nodes)) (pairs_object head.buffers)) [],
      second,
    )

pub batch_long : (head : Head) → 96 + 16 * (length head.nodes + length head.buffers) ≡ length (header_text (batch_header head))
batch_long head =
    let end : ℕ = 96 + 16 * (length head.nodes + length head.buffers) in
    sym (text_long batch_type (batch_object head) (int64_number head.body_length) (96 + 16 * (length head.nodes + length head.buffers)) (sym (batch_end head)) ∙ omega arith)

-- ---- one item after the other

-- the objects that are left begin with that of this item
pub next_item : {A : Type 0} (cells : List A → Cells) (object : A → Object)
    → ((x : A) (items : List A) → cells (x ∷ items) ≡ reference (object x) (cells items))
    → (items : List A) (i : ℕ) (x : A) (end place after : ℕ) → i < length items → x ≡ slice_index_or items i x
    → after ≡ behind place (object x) → Behind end place (cells (drop i items)) → Behind end after (cells (drop (i + 1) items))
next_item cells object step items i x end place after there is to left =
    let first : cells (drop i items) ≡ reference (object x) (cells (drop (i + 1) items)) =
    at_drop_more cells items i x there ∙ ap (λ y. cells (y ∷ drop (i + 1) items)) (sym is) ∙ step x (drop (i + 1) items) in
    subst (λ p. Behind end p (cells (drop (i + 1) items))) (sym to)
    (behind_object end place (object x) (cells (drop (i + 1) items)) (subst (Behind end place) first left))

pub no_item : {A : Type 0} (cells : List A → Cells) (items : List A) (i end place : ℕ) → cells [] ≡ no_cells → length items ≤ i
    → Behind end place (cells (drop i items)) → place ≡ end
no_item cells items i end place none over left =
    behind_all end place (subst (Behind end place) (ap cells (drop_of_length-le items over) ∙ none) left)

-- ---- metadata

pub entry_references : (entries : List Entry) → cells_size (entry_cells entries) ≡ 4 * length entries
entry_references [] = refl
entry_references (entry ∷ rest) = omega (arith, entry_references rest)

pub entry_end : (place key value : ℕ) (entry : Entry) → key ≡ behind_cells place (8 ∷ 12 ∷ 4 ∷ 8 ∷ []) 8
    → value ≡ behind key (string_object entry.0) → behind value (string_object entry.1) ≡ behind place (entry_object entry)
entry_end place key value entry first second =
    let cells : Cells = reference (string_object entry.0) (reference (string_object entry.1) no_cells) in
    let whole : key + length (objects_text key (reference (string_object entry.0) (reference (string_object entry.1) no_cells))) ≡ behind place (entry_object entry) =
    table_end place key (8 ∷ 12 ∷ 4 ∷ 8 ∷ []) (reference (string_object entry.0) (reference (string_object entry.1) no_cells)) first in
    omega (
      arith,
      whole,
      length-append (laid key (string_object entry.0)) (laid (behind key (string_object entry.0)) (string_object entry.1) ++ []),
      length-append (laid (behind key (string_object entry.0)) (string_object entry.1)) [],
      second,
      ap (λ p. behind p (string_object entry.1)) second,
    )

pub metadata_size : (entries : List Entry) → cells_size (metadata_cell entries) ≡ 4
metadata_size [] = omega (arith, length_zeros 4)
metadata_size (entry ∷ rest) = omega arith

-- ---- types

pub type_is_table : (t : DataType) → type_object t ≡ table_object (numbers_in (type_object t)) (cells_in (type_object t))
type_is_table null_type = refl
type_is_table (int_type width signed) = refl
type_is_table (floating_point_type precision) = refl
type_is_table binary_type = refl
type_is_table utf8_type = refl
type_is_table bool_type = refl
type_is_table (decimal_type precision scale width) = refl
type_is_table (date_type unit) = refl
type_is_table (time_type unit) = refl
type_is_table (timestamp_type unit None) = refl
type_is_table (timestamp_type unit (Some timezone)) = refl
type_is_table list_type = refl
type_is_table struct_type = refl
type_is_table (fixed_size_binary_type byte_width) = refl
type_is_table (fixed_size_list_type list_size) = refl
type_is_table (duration_type unit) = refl

pub type_end : (place next : ℕ) (t : DataType) → next ≡ behind_cells place (numbers_in (type_object t)) (cells_size (cells_in (type_object t)))
    → next + length (objects_text next (cells_in (type_object t))) ≡ behind place (type_object t)
type_end place next t is =
    table_end place next (numbers_in (type_object t)) (cells_in (type_object t)) is ∙ ap (behind place) (sym (type_is_table t))

pub type_room : (place next : ℕ) (t : DataType) → next ≡ behind_cells place (numbers_in (type_object t)) (cells_size (cells_in (type_object t)))
    → length (numbers_in (type_object t)) ≤ 32 → place + weight (type_object t) < 2 ^ 32
    → next + objects_weight (cells_in (type_object t)) < 2 ^ 32
type_room place next t is few room =
    (in_table place next (numbers_in (type_object t)) (cells_in (type_object t)) is
    (subst (λ o. place + weight o < 2 ^ 32) (type_is_table t) room) few).room

-- ---- fields

pub field_references : (fields : Forest) → cells_size (field_cells fields) ≡ 4 * width fields
field_references no_more = refl
field_references (more t rest) = omega (arith, field_references rest)

-- behind the name and the type of a field stand the fields inside it, and its metadata
pub field_front : (place front : ℕ) (field : FieldHead) (entries : List Entry) (inside : Forest)
    → place + weight (field_object (tree field entries inside)) < 2 ^ 32
    → front ≡ behind (behind (behind_cells place (field_numbers entries) 20) (string_object field.name)) (type_object field.data_type)
    → Behind (behind place (field_object (tree field entries inside))) front (reference (references_object (field_cells inside)) (metadata_cell entries))
field_front place front field entries inside room is =
    let children : Object = references_object (field_cells inside) in
    let next : ℕ = behind_cells place (field_numbers entries) 20 in
    let size : cells_size (field_table_cells field entries (references_object (field_cells inside))) ≡ 20 =
    omega (
      arith,
      length_little 1 (flag field.nullable),
      length_little 1 (type_id_of field.data_type),
      length_zeros 2,
      metadata_size entries,
    ) in
    let all = in_table place next (field_numbers entries) (field_table_cells field entries (references_object (field_cells inside)))
    (ap (behind_cells place (field_numbers entries)) (sym size)) room (omega arith) in
    subst (λ p. Behind (behind place (field_object (tree field entries inside))) p (reference (references_object (field_cells inside)) (metadata_cell entries)))
    (sym is)
    (behind_object _ _ _ _ (behind_bytes _ _ _ _ (behind_bytes _ _ _ _ (behind_bytes _ _ _ _ (behind_object _ _ _ _ all)))))

-- the end of a field, behind its metadata
pub field_end : (place front inner after : ℕ) (field : FieldHead) (entries : List Entry) (inside : Forest)
    → Behind (behind place (field_object (tree field entries inside))) front (reference (references_object (field_cells inside)) (metadata_cell entries))
    → inner ≡ behind front (references_object (field_cells inside)) → after ≡ inner + length (objects_text inner (metadata_cell entries))
    → after ≡ behind place (field_object (tree field entries inside))
field_end place front inner after field entries inside left first second =
    let last = behind_object _ front (references_object (field_cells inside)) (metadata_cell entries) left in
    second ∙ ap (λ p. p + length (objects_text p (metadata_cell entries))) first ∙ last.at

pub item_room : (end place : ℕ) (o : Object) (rest : Cells) → Behind end place (reference o rest) → place + weight o < 2 ^ 32
item_room end place o rest is = omega (arith, is.room)

-- ---- metadata behind fields

pub metadata_room : (end front inner : ℕ) (o : Object) (entries : List Entry) → Behind end front (reference o (metadata_cell entries))
    → inner ≡ behind front o → inner + objects_weight (metadata_cell entries) < 2 ^ 32
metadata_room end front inner o entries left is =
    subst (λ p. p + objects_weight (metadata_cell entries) < 2 ^ 32) (sym is) (behind_object end front o (metadata_cell entries) left).room

-- ---- how many references there are

pub entries_size : (items : List (String Global × String Global)) → cells_size (entry_cells (map entry_of items)) ≡ 4 * length items
entries_size items = entry_references (map entry_of items) ∙ ap (λ n. 4 * n) (length-map items entry_of)

pub fields_size : (fields : List Field) → cells_size (field_cells (forest_of (map tree_of fields))) ≡ 4 * length fields
fields_size fields =
    field_references (forest_of (map tree_of fields))
    ∙ ap (λ n. 4 * n) (width_forest_of (map tree_of fields) ∙ length-map fields tree_of)

pub fields_room : (place : ℕ) (fields : List Field) → place + weight (references_object (field_cells (forest_of (map tree_of fields)))) < 2 ^ 32
    → place + 4 * length fields < 2 ^ 32
fields_room place fields room =
    omega (arith, room, fields_size fields, both_weights (field_cells (forest_of (map tree_of fields))))

pub fields_begin : (place next : ℕ) (fields : List Field) → next ≡ place + padding 4 place + 4 + 4 * length fields
    → place + weight (references_object (field_cells (forest_of (map tree_of fields)))) < 2 ^ 32
    → Behind (behind place (references_object (field_cells (forest_of (map tree_of fields))))) next (field_cells (forest_of (map tree_of fields)))
fields_begin place next fields is room =
    in_references place next (field_cells (forest_of (map tree_of fields)))
    (is ∙ ap (λ n. place + padding 4 place + 4 + n) (sym (fields_size fields))) room

-- the field at this place, and then the others
pub field_left : (end place : ℕ) (fields : List Field) (i : ℕ) (x : Field) → i < length fields → x ≡ slice_index_or fields i x
    → Behind end place (field_cells (forest_of (map tree_of (drop i fields))))
    → Behind end place (reference (field_object (tree (field_head_of x) (entries_in x) (fields_in x))) (field_cells (forest_of (map tree_of (drop (i + 1) fields)))))
field_left end place fields i x there is left = subst (λ f. Behind end place (field_cells f)) (forest_next fields i x there is) left

pub front_room : (end place : ℕ) (field : FieldHead) (entries : List Entry) (inside : Forest) (rest : Cells)
    → Behind end place (reference (field_object (tree field entries inside)) rest)
    → place + 49 + weight (string_object field.name) + weight (type_object field.data_type) < 2 ^ 32
front_room end place field entries inside rest left = omega (arith, left.room)

-- ---- metadata that is there

pub entries_room : (place : ℕ) (items : List (String Global × String Global)) → (length items == 0) ≡ false
    → place + objects_weight (metadata_cell (map entry_of items)) < 2 ^ 32 → place + 4 * length items < 2 ^ 32
entries_room place [] there room = cc
entries_room place (item ∷ items) there room =
    omega (arith, room, entries_size (item ∷ items), both_weights (entry_cells (map entry_of (item ∷ items))))

pub entries_begin : (place next : ℕ) (items : List (String Global × String Global)) → (length items == 0) ≡ false
    → next ≡ place + padding 4 place + 4 + 4 * length items
    → place + objects_weight (metadata_cell (map entry_of items)) < 2 ^ 32
    → Behind (place + length (objects_text place (metadata_cell (map entry_of items)))) next (entry_cells (map entry_of items))
entries_begin place next [] there is room = cc
entries_begin place next (item ∷ items) there is room =
    let cells : Cells = entry_cells (map entry_of (item ∷ items)) in
    let inner = in_references place next (entry_cells (map entry_of (item ∷ items)))
    (omega (arith, is, entries_size (item ∷ items))) (omega (arith, room)) in
    record {
      at = inner.at ∙ ap (λ l. place + length l) (sym (append-nil (laid place (references_object (entry_cells (map entry_of (item ∷ items)))))));
      room = inner.room;
    }

-- ---- a schema

pub schema_front : (place next : ℕ) (schema : SchemaTree)
    → next ≡ behind_cells place (10 ∷ 12 ∷ 0 ∷ 4 ∷ metadata_place schema.metadata 8 ∷ []) 8
    → place + weight (schema_object schema) < 2 ^ 32
    → Behind (behind place (schema_object schema)) next (reference (references_object (field_cells schema.fields)) (metadata_cell schema.metadata))
schema_front place next schema is room =
    let numbers : List ℕ = 10 ∷ 12 ∷ 0 ∷ 4 ∷ metadata_place schema.metadata 8 ∷ [] in
    let cells : Cells = reference (references_object (field_cells schema.fields)) (metadata_cell schema.metadata) in
    let size : 8 ≡ cells_size (reference (references_object (field_cells schema.fields)) (metadata_cell schema.metadata)) =
    omega (arith, metadata_size schema.metadata) in
    in_table place next (10 ∷ 12 ∷ 0 ∷ 4 ∷ metadata_place schema.metadata 8 ∷ [])
    (reference (references_object (field_cells schema.fields)) (metadata_cell schema.metadata))
    (is ∙ ap (behind_cells place (10 ∷ 12 ∷ 0 ∷ 4 ∷ metadata_place schema.metadata 8 ∷ [])) size) room (omega arith)

pub schema_end : (place next inner end : ℕ) (schema : SchemaTree)
    → Behind (behind place (schema_object schema)) next (reference (references_object (field_cells schema.fields)) (metadata_cell schema.metadata))
    → inner ≡ behind next (references_object (field_cells schema.fields))
    → end ≡ inner + length (objects_text inner (metadata_cell schema.metadata)) → end ≡ behind place (schema_object schema)
schema_end place next inner end schema left first second =
    second ∙ ap (λ p. p + length (objects_text p (metadata_cell schema.metadata))) first
    ∙ (behind_object _ next (references_object (field_cells schema.fields)) (metadata_cell schema.metadata) left).at

pub schema_few : (schema : SchemaTree) (end : ℕ) → InProfile schema → end ≡ behind 40 (schema_object schema) → end < 2 ^ 40
schema_few schema end profile is = omega (arith, is, schema_light schema profile, light 40 (schema_object schema))

pub schema_long : (schema : SchemaTree) (end whole : ℕ) → end ≡ behind 40 (schema_object schema) → whole ≡ end + padding 8 end
    → whole ≡ length (header_text (schema_header schema))
schema_long schema end whole is all = all ∙ sym (text_long schema_type (schema_object schema) 0 end is)

-- ---- fields inside a field are less deep

depth_left : (fields : List Field) (i : ℕ) → forest_depth (forest_of (map tree_of (drop i fields))) ≤ forest_depth (forest_of (map tree_of fields))
depth_left fields zero = omega arith
depth_left [] (suc i) = omega arith
depth_left (x ∷ xs) (suc i) = omega (arith, depth_left xs i)

pub depth_falls : (fields : List Field) (i : ℕ) (x : Field) → i < length fields → x ≡ slice_index_or fields i x
    → forest_depth (fields_in x) < forest_depth (forest_of (map tree_of fields))
depth_falls fields i x there is = omega (arith, depth_left fields i, ap forest_depth (forest_next fields i x there is))
