-- Tables and vectors that are written, from the steps that write them.
use Rattle.std.proofs.Common.{◌≡◌, ◌≤◌, ◌<◌, ℕ, suc, ◌+◌, ◌*◌, List, [], ◌∷◌, ◌++◌, map, length, drop, slice_index_or}
use Rattle.std.proofs.Common.{String, arith, refl, sym, ap, ◌∙◌, subst, Result, Ok, Err, OnOk}
use Rattle.std.specs.declared.alloc.AllocError.{AllocError}
use Rattle.std.specs.List.{AllByRecursion}
use Rattle.std.specs.declared.alloc.Global.{Global}
use Rattle.std.proofs.lemmas.List.{at_drop_more, length-map}
use Rattle.std.proofs.Math.ListN.{drop_of_length-le}
use Rattle.header_types.specs.declared.schema.Field.{Field}
use Rattle.header_types.specs.Fields.{Entry, FieldHead, tree, Forest, no_more, more, width, SchemaTree}
use Rattle.header_types.specs.Views.{entry_of, tree_of, forest_of}
use Rattle.header_types.specs.FieldView.{field_head_of, entries_in, fields_in}
use Rattle.header_writing.specs.Objects.{Object, string_object, references_object, table_object, Cells, no_cells}
use Rattle.header_writing.specs.Objects.{reference, zeros, padding, table_lead, cell_count, text_of, unpadded}
use Rattle.header_writing.specs.Canonical.{metadata_place, int64_number, pairs_object, batch_object, message_numbers}
use Rattle.header_writing.specs.Canonical.{message_cells, message_object, flag, type_id_of, empty_table, number, gap}
use Rattle.header_writing.specs.Canonical.{metadata_cell, entry_object, entry_cells, type_object, field_numbers}
use Rattle.header_writing.specs.Canonical.{field_table_cells, field_object, field_cells, schema_object}
use Rattle.header_types.specs.Header.{Head}
use Rattle.header_writing.specs.Filling.{with_object, filled, blank, table_begun, references_begun, field_begun}
use Rattle.header_writing.specs.Filling.{message_begun}
use Rattle.header_writing.specs.declared.layout.Cell.TheVariants.{Byte, Short, Word, Long}
use Rattle.header_writing.specs.Written.{cells_bytes, FitsEntry, FitsField, FitsForest}
use Rattle.header_writing.specs.Writing.{EntriesLeft, FieldsLeft}
use Rattle.header_writing.proofs.Filling.{length_zeros, length_with_object, length_table_begun, length_references_begun}
use Rattle.header_writing.proofs.Filling.{table_filled, references_filled, root_filled}
use Rattle.header_types.proofs.FieldTrees.{forest_next}
use Rattle.header_types.proofs.FieldTrees.{width_forest_of}

-- ---- room

pub table_room : (t t1 numbers cells : List ℕ) (from first : ℕ) → from + 4 ≤ length t
    → t1 ≡ table_begun t from numbers cells
    → first ≡ length t + table_lead (length t) numbers + 4 → first + length cells ≡ length t1
table_room t t1 numbers cells from first within is here =
    ap (λ (n : ℕ). n + length cells) here ∙ sym (ap length is ∙ length_table_begun t from numbers cells within)

pub with_object_room : (t t1 : List ℕ) (from : ℕ) (o : Object) → from + 4 ≤ length t → t1 ≡ with_object t from o
    → length t ≤ length t1
with_object_room t t1 from o within is = let long = ap length is
    ∙ length_with_object t from o within in omega (arith, long)

-- metadata takes no less room than was there
pub filled_room : (t t1 : List ℕ) (from : ℕ) (entries : List Entry) → from + 4 ≤ length t
    → t1 ≡ filled t from (metadata_cell entries) → length t ≤ length t1
filled_room t t1 from [] within is = let long = ap length is in omega (arith, long)
filled_room t t1 from (entry ∷ rest) within is =
    with_object_room t t1 from (references_object (entry_cells (entry ∷ rest))) within is

-- ---- tables

pub entry_put : (t t1 t2 t3 : List ℕ) (from first : ℕ) (entry : Entry) → from + 4 ≤ length t
    → t1 ≡ table_begun t from (8 ∷ 12 ∷ 4 ∷ 8 ∷ []) (zeros 8)
    → first ≡ length t + table_lead (length t) (8 ∷ 12 ∷ 4 ∷ 8 ∷ []) + 4
    → t2 ≡ with_object t1 first (string_object entry.0) → t3 ≡ with_object t2 (first + 4) (string_object entry.1)
    → t3 ≡ with_object t from (entry_object entry)
entry_put t t1 t2 t3 from first entry within begun here key value =
    value
    ∙ ap (λ (x : List ℕ). with_object x (first + 4) (string_object entry.1))
    (key ∙ ap (λ (x : List ℕ). with_object x first (string_object entry.0)) begun)
    ∙ table_filled t (8 ∷ 12 ∷ 4 ∷ 8 ∷ []) (reference (string_object entry.0)
    (reference (string_object entry.1) no_cells)) from first within here

-- the cells of a field but for its metadata
abbrev after_front : List ℕ → ℕ → FieldHead → List Entry → Object → List ℕ
after_front t1 first field entries children =
    filled (with_object (with_object (with_object t1 first (string_object field.name)) (first + 8)
    (type_object field.data_type)) (first + 12) children)
    (first + 16) (metadata_cell entries)

-- the places of the cells, counted from the first one
moved : (t : List ℕ) (first : ℕ) (field : FieldHead) (last : Cells) (children : Object)
    → filled t first
    (reference (string_object field.name)
    (number 1 (flag field.nullable) (number 1 (type_id_of field.data_type)
    (gap 2 (reference (type_object field.data_type) (reference children last))))))
    ≡ filled (with_object (with_object (with_object t first (string_object field.name)) (first + 8)
    (type_object field.data_type)) (first + 12) children) (first + 16) last
moved t first field last children =
    let a : first + 4 + 1 + 1 + 2 ≡ first + 8 = omega arith in
    let b : first + 4 + 1 + 1 + 2 + 4 ≡ first + 12 = omega arith in
    let c : first + 4 + 1 + 1 + 2 + 4 + 4 ≡ first + 16 = omega arith in
    let named = with_object t first (string_object field.name) in
    ap (λ (n : ℕ). filled (with_object (with_object named n (type_object field.data_type))
    (first + 4 + 1 + 1 + 2 + 4) children) (first + 4 + 1 + 1 + 2 + 4 + 4) last) a
    ∙ ap (λ (n : ℕ). filled (with_object (with_object named (first + 8) (type_object field.data_type)) n children)
    (first + 4 + 1 + 1 + 2 + 4 + 4) last) b
    ∙ ap (λ (n : ℕ). filled (with_object (with_object named (first + 8) (type_object field.data_type))
    (first + 12) children) n last) c

places : (t : List ℕ) (first : ℕ) (field : FieldHead) (entries : List Entry) (children : Object)
    → filled t first (field_table_cells field entries children) ≡ after_front t first field entries children
places t first field [] children = moved t first field (gap 4 no_cells) children
places t first field (entry ∷ rest) children =
    moved t first field (reference (references_object (entry_cells (entry ∷ rest))) no_cells) children

-- which fields stand inside a field changes nothing while they are not written
blank_field : (field : FieldHead) (entries : List Entry) (children : Object)
    → blank (field_table_cells field entries empty_table) ≡ blank (field_table_cells field entries children)
blank_field field [] children = refl
blank_field field (entry ∷ rest) children = refl

field_bytes_are : (field : FieldHead) (entries : List Entry)
    → cells_bytes (Word 0 ∷ Byte (flag field.nullable) ∷ Byte
    (type_id_of field.data_type) ∷ Short 0 ∷ Word 0 ∷ Word 0 ∷ Word 0 ∷ [])
    ≡ blank (field_table_cells field entries empty_table)
field_bytes_are field [] = refl
field_bytes_are field (entry ∷ rest) = refl

schema_bytes_are : (entries : List Entry) → zeros 8 ≡ zeros 4 ++ blank (metadata_cell entries)
schema_bytes_are [] = refl
schema_bytes_are (entry ∷ rest) = refl

pub metadata_place_of : (entries : List Entry) (place : ℕ) → 0 < length entries → place ≡ metadata_place entries place
metadata_place_of [] place some = let no : ⊥ = omega (arith, some) in absurd no
metadata_place_of (entry ∷ rest) place some = refl

pub no_metadata_place : (entries : List Entry) (place : ℕ) → length entries ≡ 0 → 0 ≡ metadata_place entries place
no_metadata_place [] place none = refl
no_metadata_place (entry ∷ rest) place none = let no : ⊥ = omega (arith, none) in absurd no

pub metadata_none : (t : List ℕ) (from : ℕ) (entries : List Entry) → length entries ≡ 0
    → (t ≡ filled t from (metadata_cell entries)) × AllByRecursion FitsEntry entries
metadata_none t from [] none = (refl, tt)
metadata_none t from (entry ∷ rest) none = let no : ⊥ = omega (arith, none) in absurd no

pub field_put : (t t1 t2 t3 : List ℕ) (from first : ℕ) (field : FieldHead) (entries : List Entry) (children : Object)
    → from + 4 ≤ length t
    → first ≡ length t + table_lead (length t) (field_numbers entries) + 4
    → t1 ≡ with_object (with_object (field_begun t from field entries) first (string_object field.name)) (first + 8)
    (type_object field.data_type)
    → t2 ≡ with_object t1 (first + 12) children → t3 ≡ filled t2 (first + 16) (metadata_cell entries)
    → t3 ≡ with_object t from (table_object (field_numbers entries) (field_table_cells field entries children))
field_put t t1 t2 t3 from first field entries children within here front inner last =
    last
    ∙ ap (λ (x : List ℕ). filled x (first + 16) (metadata_cell entries))
    (inner ∙ ap (λ (x : List ℕ). with_object x (first + 12) children) front)
    ∙ sym (places (field_begun t from field entries) first field entries children)
    ∙ ap (λ (x : List ℕ). filled (table_begun t from (field_numbers entries) x) first
    (field_table_cells field entries children)) (blank_field field entries children)
    ∙ table_filled t (field_numbers entries) (field_table_cells field entries children) from first within here

pub field_started : (t t1 : List ℕ) (from metadata nullable type_id : ℕ) (field : FieldHead) (entries : List Entry)
    → metadata ≡ metadata_place entries 20
    → nullable ≡ flag field.nullable → type_id ≡ type_id_of field.data_type
    → t1 ≡ table_begun t from (18 ∷ 24 ∷ 4 ∷ 8 ∷ 9 ∷ 12 ∷ 0 ∷ 16 ∷ metadata ∷ [])
    (cells_bytes (Word 0 ∷ Byte nullable ∷ Byte type_id ∷ Short 0 ∷ Word 0 ∷ Word 0 ∷ Word 0 ∷ []))
    → t1 ≡ field_begun t from field entries
field_started t t1 from metadata nullable type_id field entries last flagged numbered begun =
    begun
    ∙ ap (λ (n : ℕ). table_begun t from (18 ∷ 24 ∷ 4 ∷ 8 ∷ 9 ∷ 12 ∷ 0 ∷ 16 ∷ n ∷ [])
    (cells_bytes (Word 0 ∷ Byte nullable ∷ Byte type_id ∷ Short 0 ∷ Word 0 ∷ Word 0 ∷ Word 0 ∷ []))) last
    ∙ ap (λ (n : ℕ). table_begun t from (field_numbers entries)
    (cells_bytes (Word 0 ∷ Byte n ∷ Byte type_id ∷ Short 0 ∷ Word 0 ∷ Word 0 ∷ Word 0 ∷ []))) flagged
    ∙ ap (λ (n : ℕ). table_begun t from (field_numbers entries)
    (cells_bytes (Word 0 ∷ Byte (flag field.nullable) ∷ Byte n ∷ Short 0 ∷ Word 0 ∷ Word 0 ∷ Word 0 ∷ []))) numbered
    ∙ ap (λ (x : List ℕ). table_begun t from (field_numbers entries) x) (field_bytes_are field entries)

pub field_room : (t t1 : List ℕ) (from first : ℕ) (field : FieldHead) (entries : List Entry) → from + 4 ≤ length t
    → t1 ≡ field_begun t from field entries
    → first ≡ length t + table_lead (length t) (field_numbers entries) + 4 → first + 20 ≡ length t1
field_room t t1 from first field entries within begun here =
    let cells = cells_bytes (Word 0 ∷ Byte (flag field.nullable) ∷ Byte
    (type_id_of field.data_type) ∷ Short 0 ∷ Word 0 ∷ Word 0 ∷ Word 0 ∷ []) in
    table_room t t1 (field_numbers entries) cells from first within
    (begun ∙ sym (ap (λ (x : List ℕ). table_begun t from (field_numbers entries) x) (field_bytes_are field entries)))
    here

pub schema_put : (t t1 t2 t3 : List ℕ) (from first metadata : ℕ) (schema : SchemaTree) → from + 4 ≤ length t
    → metadata ≡ metadata_place schema.metadata 8
    → t1 ≡ table_begun t from (10 ∷ 12 ∷ 0 ∷ 4 ∷ metadata ∷ []) (zeros 8)
    → first ≡ length t + table_lead (length t) (10 ∷ 12 ∷ 0 ∷ 4 ∷ metadata ∷ []) + 4
    → t2 ≡ with_object t1 first (references_object (field_cells schema.fields))
    → t3 ≡ filled t2 (first + 4) (metadata_cell schema.metadata)
    → t3 ≡ with_object t from (schema_object schema)
schema_put t t1 t2 t3 from first metadata schema within last begun here fields entries =
    let numbers = 10 ∷ 12 ∷ 0 ∷ 4 ∷ metadata_place schema.metadata 8 ∷ [] in
    let cells = reference (references_object (field_cells schema.fields)) (metadata_cell schema.metadata) in
    let same : t1 ≡ table_begun t from numbers (blank cells) =
    begun ∙ ap (λ (n : ℕ). table_begun t from (10 ∷ 12 ∷ 0 ∷ 4 ∷ n ∷ []) (zeros 8)) last
    ∙ ap (λ (x : List ℕ). table_begun t from numbers x) (schema_bytes_are schema.metadata) in
    entries
    ∙ ap (λ (x : List ℕ). filled x (first + 4) (metadata_cell schema.metadata))
    (fields ∙ ap (λ (x : List ℕ). with_object x first (references_object (field_cells schema.fields))) same)
    ∙ table_filled t numbers cells from first within
    (here ∙ ap (λ (n : ℕ). length t + table_lead (length t) (10 ∷ 12 ∷ 0 ∷ 4 ∷ n ∷ []) + 4) last)

pub batch_put : (t t1 t2 t3 : List ℕ) (from first rows : ℕ) (head : Head) → from + 4 ≤ length t
    → rows ≡ int64_number head.length
    → t1 ≡ table_begun t from (10 ∷ 24 ∷ 8 ∷ 4 ∷ 16 ∷ []) (cells_bytes (Word 0 ∷ Long rows ∷ Word 0 ∷ Word 0 ∷ []))
    → first ≡ length t + table_lead (length t) (10 ∷ 24 ∷ 8 ∷ 4 ∷ 16 ∷ []) + 4
    → t2 ≡ with_object t1 first (pairs_object head.nodes) → t3 ≡ with_object t2 (first + 12) (pairs_object head.buffers)
    → t3 ≡ with_object t from (batch_object head)
batch_put t t1 t2 t3 from first rows head within counted begun here nodes buffers =
    let numbers = 10 ∷ 24 ∷ 8 ∷ 4 ∷ 16 ∷ [] in
    let cells = reference (pairs_object head.nodes)
    (number 8 (int64_number head.length) (reference (pairs_object head.buffers) (gap 4 no_cells))) in
    let same : t1 ≡ table_begun t from numbers (blank cells) =
    begun ∙ ap (λ (n : ℕ). table_begun t from numbers (cells_bytes (Word 0 ∷ Long n ∷ Word 0 ∷ Word 0 ∷ []))) counted in
    let at : first + 12 ≡ first + 4 + 8 = omega arith in
    buffers
    ∙ ap (λ (n : ℕ). with_object t2 n (pairs_object head.buffers)) at
    ∙ ap (λ (x : List ℕ). with_object x (first + 4 + 8) (pairs_object head.buffers))
    (nodes ∙ ap (λ (x : List ℕ). with_object x first (pairs_object head.nodes)) same)
    ∙ table_filled t numbers cells from first within here

pub message_put : (t1 t2 t3 : List ℕ) (type body_length header : ℕ) (o : Object) → t1 ≡ message_begun type body_length
    → header ≡ 24 → t2 ≡ with_object t1 header o
    → t3 ≡ t2 ++ zeros (padding 8 (length t2 + 0)) → t3 ≡ text_of (message_object type o body_length)
message_put t1 t2 t3 type body_length header o begun here put padded =
    let cells = message_cells type o body_length in
    let whole : t2 ≡ unpadded (message_object type o body_length) =
    put ∙ ap (λ (n : ℕ). with_object t1 n o) here ∙ ap (λ (x : List ℕ). with_object x 24 o) begun
    ∙ table_filled (zeros 4) message_numbers cells 0 20 (omega arith) refl
    ∙ root_filled (message_object type o body_length) in
    let none : length t2 + 0 ≡ length t2 = omega arith in
    padded ∙ ap (λ (n : ℕ). t2 ++ zeros (padding 8 n)) none
    ∙ ap (λ (x : List ℕ). x ++ zeros (padding 8 (length x))) whole

-- ---- vectors

four_more : (n : ℕ) → zeros 4 ++ zeros (4 * n) ≡ zeros (4 * suc n)
four_more n = let e : 4 * suc n ≡ suc (suc (suc (suc (4 * n)))) = omega arith in sym (ap zeros e)

blank_entries : (entries : List Entry) → blank (entry_cells entries) ≡ zeros (4 * length entries)
blank_entries [] = refl
blank_entries (entry ∷ rest) = ap (λ (x : List ℕ). zeros 4 ++ x) (blank_entries rest) ∙ four_more (length rest)

count_entries : (entries : List Entry) → cell_count (entry_cells entries) ≡ length entries
count_entries [] = refl
count_entries (entry ∷ rest) = ap suc (count_entries rest)

blank_fields : (f : Forest) → blank (field_cells f) ≡ zeros (4 * width f)
blank_fields no_more = refl
blank_fields (more t rest) = ap (λ (x : List ℕ). zeros 4 ++ x) (blank_fields rest) ∙ four_more (width rest)

count_fields : (f : Forest) → cell_count (field_cells f) ≡ width f
count_fields no_more = refl
count_fields (more t rest) = ap suc (count_fields rest)

pub metadata_whole : (t : List ℕ) (from : ℕ) (entries : List Entry) → 0 < length entries
    → filled t from (metadata_cell entries) ≡ with_object t from (references_object (entry_cells entries))
metadata_whole t from [] some = let no : ⊥ = omega (arith, some) in absurd no
metadata_whole t from (entry ∷ rest) some = refl

pub entries_begun : (t t1 : List ℕ) (from start : ℕ) (entries : List (String Global × String Global))
    → from + 4 ≤ length t
    → t1 ≡ references_begun t from (length entries) (zeros (4 * length entries))
    → start ≡ length t + padding 4 (length t) + 4
    → EntriesLeft t t1 from start 0 entries
entries_begun t t1 from start entries within begun here =
    let seen = map entry_of entries in
    let count : cell_count (entry_cells seen) ≡ length entries = count_entries seen ∙ length-map entries entry_of in
    let cells : blank (entry_cells seen) ≡ zeros (4 * length entries) = blank_entries seen
    ∙ ap (λ (n : ℕ). zeros (4 * n)) (length-map entries entry_of) in
    let same : t1 ≡ references_begun t from (cell_count (entry_cells seen)) (blank (entry_cells seen)) =
    begun ∙ ap (λ (n : ℕ). references_begun t from n (zeros (4 * length entries))) (sym count)
    ∙ ap (λ (x : List ℕ). references_begun t from (cell_count (entry_cells seen)) x) (sym cells) in
    let first : start + 4 * 0 ≡ start = omega arith in
    let long = ap length begun ∙ length_references_begun t from (length entries) (zeros (4 * length entries)) within in
    let blanks = length_zeros (4 * length entries) in
    record {
      rest = ap (λ (n : ℕ). filled t1 n (entry_cells seen)) first
          ∙ ap (λ (x : List ℕ). filled x start (entry_cells seen)) same
          ∙ references_filled t (entry_cells seen) from start within here;
      room = omega arith;
      fit = λ fits. fits;
    }

pub entry_passed : (old t1 t2 : List ℕ) (from start i : ℕ) (entries : List (String Global × String Global))
    (x : String Global × String Global)
    → i < length entries → x ≡ slice_index_or entries i x → EntriesLeft old t1 from start i entries
    → t2 ≡ with_object t1 (start + 4 * i) (entry_object (entry_of x)) → FitsEntry (entry_of x)
    → EntriesLeft old t2 from start (i + 1) entries
entry_passed old t1 t2 from start i entries x there is left put fits =
    let more = map entry_of (drop (i + 1) entries) in
    let next : map entry_of (drop i entries) ≡ entry_of x ∷ more =
    at_drop_more (map entry_of) entries i x there ∙ ap (λ y. entry_of y ∷ more) (sym is) in
    let at : start + 4 * (i + 1) ≡ start + 4 * i + 4 = omega arith in
    let place : start + 4 * i + 4 ≤ length t1 = omega (arith, there, left.room) in
    let longer = with_object_room t1 t2 (start + 4 * i) (entry_object (entry_of x)) place put in
    let room = left.room in
    record {
      rest = ap (λ (n : ℕ). filled t2 n (entry_cells more)) at
          ∙ ap (λ (y : List ℕ). filled y (start + 4 * i + 4) (entry_cells more)) put
          ∙ sym (ap (λ (y : List Entry). filled t1 (start + 4 * i) (entry_cells y)) next) ∙ left.rest;
      room = omega arith;
      fit = λ others. left.fit (subst (AllByRecursion FitsEntry) (sym next) (fits, others));
    }

pub entries_done : (old text : List ℕ) (from start i : ℕ) (entries : List (String Global × String Global))
    → length entries ≤ i
    → EntriesLeft old text from start i entries
    → (text ≡ with_object old from (references_object (entry_cells (map entry_of entries))))
    × AllByRecursion FitsEntry (map entry_of entries)
entries_done old text from start i entries all left =
    let none : drop i entries ≡ [] = drop_of_length-le entries all in (
      sym (ap (λ y. filled text (start + 4 * i) (entry_cells (map entry_of y))) none) ∙ left.rest,
      left.fit (subst (λ y. AllByRecursion FitsEntry (map entry_of y)) (sym none) tt),
    )

pub fields_begun : (t t1 : List ℕ) (from start : ℕ) (fields : List Field) → from + 4 ≤ length t
    → t1 ≡ references_begun t from (length fields) (zeros (4 * length fields))
    → start ≡ length t + padding 4 (length t) + 4
    → FieldsLeft t t1 from start 0 fields
fields_begun t t1 from start fields within begun here =
    let seen = forest_of (map tree_of fields) in
    let many : width seen ≡ length fields = width_forest_of (map tree_of fields) ∙ length-map fields tree_of in
    let count : cell_count (field_cells seen) ≡ length fields = count_fields seen ∙ many in
    let cells : blank (field_cells seen) ≡ zeros (4 * length fields) = blank_fields seen
    ∙ ap (λ (n : ℕ). zeros (4 * n)) many in
    let same : t1 ≡ references_begun t from (cell_count (field_cells seen)) (blank (field_cells seen)) =
    begun ∙ ap (λ (n : ℕ). references_begun t from n (zeros (4 * length fields))) (sym count)
    ∙ ap (λ (x : List ℕ). references_begun t from (cell_count (field_cells seen)) x) (sym cells) in
    let first : start + 4 * 0 ≡ start = omega arith in
    let long = ap length begun ∙ length_references_begun t from (length fields) (zeros (4 * length fields)) within in
    let blanks = length_zeros (4 * length fields) in
    record {
      rest = ap (λ (n : ℕ). filled t1 n (field_cells seen)) first
          ∙ ap (λ (x : List ℕ). filled x start (field_cells seen)) same
          ∙ references_filled t (field_cells seen) from start within here;
      room = omega arith;
      fit = λ fits. fits;
    }

pub field_passed : (old t1 t2 : List ℕ) (from start i : ℕ) (fields : List Field) (x : Field)
    → i < length fields → x ≡ slice_index_or fields i x → FieldsLeft old t1 from start i fields
    → t2 ≡ with_object t1 (start + 4 * i) (table_object (field_numbers (entries_in x))
    (field_table_cells (field_head_of x) (entries_in x) (references_object (field_cells (fields_in x)))))
    → FitsField (field_head_of x) → AllByRecursion FitsEntry (entries_in x) → FitsForest (fields_in x)
    → FieldsLeft old t2 from start (i + 1) fields
field_passed old t1 t2 from start i fields x there is left put fits entries inner =
    let more' = forest_of (map tree_of (drop (i + 1) fields)) in
    let field = tree (field_head_of x) (entries_in x) (fields_in x) in
    let next : forest_of (map tree_of (drop i fields)) ≡ more field more' = forest_next fields i x there is in
    let at : start + 4 * (i + 1) ≡ start + 4 * i + 4 = omega arith in
    let place : start + 4 * i + 4 ≤ length t1 = omega (arith, there, left.room) in
    let longer = with_object_room t1 t2 (start + 4 * i) (field_object field) place put in
    let room = left.room in
    record {
      rest = ap (λ (n : ℕ). filled t2 n (field_cells more')) at
          ∙ ap (λ (y : List ℕ). filled y (start + 4 * i + 4) (field_cells more')) put
          ∙ sym (ap (λ (y : Forest). filled t1 (start + 4 * i) (field_cells y)) next) ∙ left.rest;
      room = omega arith;
      fit = λ others. left.fit (subst FitsForest (sym next) ((fits.0, fits.1, entries, inner), others));
    }

pub fields_done : (old text : List ℕ) (from start i : ℕ) (fields : List Field) → length fields ≤ i
    → FieldsLeft old text from start i fields
    → (text ≡ with_object old from (references_object (field_cells (forest_of (map tree_of fields)))))
    × FitsForest (forest_of (map tree_of fields))
fields_done old text from start i fields all left =
    let none : drop i fields ≡ [] = drop_of_length-le fields all in (
      sym (ap (λ y. filled text (start + 4 * i) (field_cells (forest_of (map tree_of y)))) none) ∙ left.rest,
      left.fit (subst (λ y. FitsForest (forest_of (map tree_of y))) (sym none) tt),
    )

-- ---- whole calls

-- what holds whether a call failed or not
pub in_any_case : {P : Type 0} (r : Result (Unit {0}) AllocError) → P → OnOk r P
in_any_case (Ok x) p = p
in_any_case (Err e) p = tt
