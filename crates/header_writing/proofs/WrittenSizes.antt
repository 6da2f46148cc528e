-- How large the texts of headers are, and that they show their headers.
use Rattle.std.proofs.Common.{◌≡◌, ℕ, ◌+◌, ◌*◌, ◌^◌, ◌<◌, ◌≤◌, false, List, [], ◌∷◌, ◌++◌, length, Some, None, arith}
use Rattle.std.proofs.Common.{◌∙◌, length-append}
use Rattle.byteorder.specs.Endian.{little_bytes}
use Rattle.header_types.specs.Fields.{Entry, DataType, null_type, int_type, floating_point_type, binary_type, utf8_type}
use Rattle.header_types.specs.Fields.{bool_type, decimal_type, date_type, time_type, timestamp_type, list_type}
use Rattle.header_types.specs.Fields.{struct_type, fixed_size_binary_type, fixed_size_list_type, duration_type, Tree}
use Rattle.header_types.specs.Fields.{tree, Forest, no_more, more, SchemaTree}
use Rattle.header_types.specs.Limits.{tree_totals, forest_totals, entry_bytes, data_type_bytes}
use Rattle.header_types.specs.Header.{Head, schema_header, batch_header, schema_type, batch_type, ShowsHeader}
use Rattle.header_writing.specs.Objects.{Object, string_object, structs_object, references_object, table_object, Cells}
use Rattle.header_writing.specs.Objects.{no_cells, inline, reference, zeros, padding, cell_count, cells_size}
use Rattle.header_writing.specs.Objects.{table_lead}
use Rattle.header_writing.specs.Objects.{lead, laid, objects_text, unpadded, text_of}
use Rattle.header_writing.specs.Canonical.{entry_cells, metadata_cell, type_object, field_object, field_cells}
use Rattle.header_writing.specs.Canonical.{schema_object, int64_number, batch_object, message_object, header_text}
use Rattle.header_writing.specs.Written.{FitsSchema, FitsHead}
use Rattle.header_writing.specs.Weights.{weight, cells_weight}
use Rattle.header_types.specs.Profile.{InProfile}
use Rattle.header_writing.proofs.Filling.{length_zeros, length_little, length_shorts}
use Rattle.header_writing.proofs.Lying.{cells_long}
use Rattle.header_writing.proofs.TreesShown.{schema_text_shown}
use Rattle.header_writing.proofs.BatchesShown.{pairs_long, batch_text_shown}

-- ---- objects

few_zeros : (place : ℕ) → length (zeros (padding 4 place)) ≤ 3
few_zeros place = omega (arith, length_zeros (padding 4 place))

some_zeros : (place : ℕ) → length (zeros (padding 8 place)) ≤ 7
some_zeros place = omega (arith, length_zeros (padding 8 place))

mutual
  pub light : (place : ℕ) (o : Object) → length (laid place o) ≤ weight o
  light place (string_object bytes) =
      simp length-append (omega (arith, few_zeros place, length_little 4 (length bytes)))
  light place (structs_object count bytes) =
      simp length-append (omega (arith, some_zeros (place + 4), length_little 4 count))
  light place (references_object cells) =
      let at : ℕ = place + padding 4 place + 4 in
      let next : ℕ = at + cells_size cells in
      simp length-append (omega (
        arith,
        few_zeros place,
        length_little 4
            (cell_count cells),
        cells_long at next cells,
        cells_light next cells,
      ))
  light place (table_object numbers cells) =
      let at : ℕ = place + table_lead place numbers + 4 in
      let next : ℕ = at + cells_size cells in
      simp length-append (omega (
        arith,
        some_zeros (place + 2 * length numbers),
        length_shorts numbers,
        length_little 4 (2 * length numbers),
        cells_long at next cells,
        cells_light next cells,
      ))

  cells_light : (next : ℕ) (cells : Cells) → cells_size cells + length (objects_text next cells) ≤ cells_weight cells
  cells_light next no_cells = omega arith
  cells_light next (inline bytes rest) = omega (arith, cells_light next rest)
  cells_light next (reference o rest) =
      let after : ℕ = next + length (laid next o) in
      simp length-append (omega (arith, light next o, cells_light after rest))

padded_light : (bytes : List ℕ) → length (bytes ++ zeros (padding 8 (length bytes))) ≤ 7 + length bytes
padded_light bytes = simp length-append (omega (arith, some_zeros (length bytes)))

front_long : (number bytes : List ℕ) → length number ≡ 4 → length (number ++ bytes) ≡ 4 + length bytes
front_long number bytes long = length-append number bytes ∙ omega arith

text_light : (root : Object) → length (text_of root) ≤ 11 + weight root
text_light root =
    let front : length (unpadded root) ≡ 4 + length (laid 4 root) =
    front_long (little_bytes 4 (4 + lead 4 root)) (laid 4 root) (length_little 4 (4 + lead 4 root)) in
    let whole : length (text_of root) ≤ 7 + length (unpadded root) = padded_light (unpadded root) in
    omega (arith, light 4 root)

message_light : (type : ℕ) (header : Object) (body_length : ℕ)
    → length (text_of (message_object type header body_length)) ≤ 54 + weight header
message_light type header body_length =
    let root : Object = message_object type header body_length in
    let all : weight root ≡ 43 + weight header = omega arith in
    omega (arith, text_light root)

-- ---- schemas

entries_light : (entries : List Entry) → cells_weight (entry_cells entries) ≤ 47 * length entries + entry_bytes entries
entries_light [] = omega arith
entries_light (entry ∷ rest) = omega (arith, entries_light rest)

metadata_light : (entries : List Entry) → cells_weight
    (metadata_cell entries) ≤ 11 + 47 * length entries + entry_bytes entries
metadata_light [] = omega arith
metadata_light (entry ∷ rest) = omega (arith, entries_light (entry ∷ rest))

data_type_light : (data_type : DataType) → weight (type_object data_type) ≤ 35 + data_type_bytes data_type
data_type_light null_type = omega arith
data_type_light (int_type width signed) = omega arith
data_type_light (floating_point_type precision) = omega arith
data_type_light binary_type = omega arith
data_type_light utf8_type = omega arith
data_type_light bool_type = omega arith
data_type_light (decimal_type precision scale width) = omega arith
data_type_light (date_type unit) = omega arith
data_type_light (time_type unit) = omega arith
data_type_light (timestamp_type unit None) = omega arith
data_type_light (timestamp_type unit (Some timezone)) = omega arith
data_type_light list_type = omega arith
data_type_light struct_type = omega arith
data_type_light (fixed_size_binary_type byte_width) = omega arith
data_type_light (fixed_size_list_type list_size) = omega arith
data_type_light (duration_type unit) = omega arith

mutual
  tree_light : (t : Tree) → 4 + weight (field_object t) ≤ 110 * (tree_totals t).fields + 47 * (tree_totals t).entries
      + (tree_totals t).bytes
  tree_light (tree field entries inner) =
      omega (arith, data_type_light field.data_type, metadata_light entries, forest_light inner)

  forest_light : (f : Forest) → cells_weight
      (field_cells f) ≤ 110 * (forest_totals f).fields + 47 * (forest_totals f).entries + (forest_totals f).bytes
  forest_light no_more = omega arith
  forest_light (more t rest) = omega (arith, tree_light t, forest_light rest)

pub schema_light : (schema : SchemaTree) → InProfile schema → weight (schema_object schema) < 2 ^ 30
schema_light schema profile =
    omega (
      arith,
      forest_light schema.fields,
      metadata_light schema.metadata,
      profile.within.fields_within,
      profile.within.entries_within,
      profile.within.bytes_within,
    )

-- the bound is what the limits of fields, entries and texts leave
pub schema_short : (schema : SchemaTree) → InProfile schema → length (header_text (schema_header schema)) ≤ 1310720
schema_short schema profile =
    omega (
      arith,
      message_light schema_type (schema_object schema) 0,
      forest_light schema.fields,
      metadata_light schema.metadata,
      profile.within.fields_within,
      profile.within.entries_within,
      profile.within.bytes_within,
    )

pub schema_small : (schema : SchemaTree) → InProfile schema → length (header_text (schema_header schema)) < 2 ^ 31
schema_small schema profile = omega (arith, schema_short schema profile)

-- ---- batches

pub batch_small : (head : Head) → length head.nodes ≤ 512 → length head.buffers ≤ 1536
    → length (header_text (batch_header head)) < 2 ^ 31
batch_small head few some =
    omega (
      arith,
      message_light batch_type (batch_object head) (int64_number head.body_length),
      pairs_long head.nodes,
      pairs_long head.buffers,
    )

-- ---- headers

pub schema_shown : (schema : SchemaTree) → InProfile schema → FitsSchema schema
    → ShowsHeader (header_text (schema_header schema)) (schema_header schema)
schema_shown schema profile fits = schema_text_shown schema profile fits (omega (arith, schema_small schema profile))

pub batch_shown : (head : Head) → head.compressed ≡ false → length head.nodes ≤ 512 → length head.buffers ≤ 1536
    → FitsHead head
    → ShowsHeader (header_text (batch_header head)) (batch_header head)
batch_shown head plain few some fits = batch_text_shown head plain fits (omega (arith, batch_small head few some))
