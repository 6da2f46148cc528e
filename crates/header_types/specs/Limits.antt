-- How much a schema may say. Sums are over the tree as it is shown: what two places share counts twice.
use Rattle.std.specs.Prelude.{ℕ, suc, ◌+◌, ◌≤◌, ◌<◌, ◌⊎◌, max, List, [], ◌∷◌, length, Some, None}
use Rattle.header_types.specs.Fields.{Entry, DataType, null_type, int_type, floating_point_type, binary_type, utf8_type}
use Rattle.header_types.specs.Fields.{bool_type, decimal_type, date_type, time_type, timestamp_type, list_type}
use Rattle.header_types.specs.Fields.{struct_type, fixed_size_binary_type, fixed_size_list_type, duration_type}
use Rattle.header_types.specs.Fields.{FieldHead, Tree, tree, Forest, no_more, more, SchemaTree}

-- ---- the limits

-- how deep the fields of a schema may stand inside one another
abbrev pub depth_limit : ℕ
depth_limit = 16

-- how many fields a schema may have, those inside other fields too
abbrev pub fields_limit : ℕ
fields_limit = 512

-- how many entries of metadata a schema may have, those of its fields too
abbrev pub entries_limit : ℕ
entries_limit = 4096

-- how many bytes the names, time zones, keys and values of a schema may have in all
abbrev pub bytes_limit : ℕ
bytes_limit = 1048576

-- how many nodes a batch may have that is written: one of each field
abbrev pub nodes_limit : ℕ
nodes_limit = 512

-- how many buffers a batch may have that is written: three of each field
abbrev pub buffers_limit : ℕ
buffers_limit = 1536

-- ---- what a schema says

-- a sum over all fields
abbrev mutual
  pub tree_sum : (FieldHead → List Entry → ℕ) → Tree → ℕ
  tree_sum weight (tree field entries inner) = weight field entries + forest_sum weight inner

  pub forest_sum : (FieldHead → List Entry → ℕ) → Forest → ℕ
  forest_sum weight no_more = 0
  forest_sum weight (more t rest) = tree_sum weight t + forest_sum weight rest

-- how deep fields stand inside one another; a field alone has depth 1
abbrev mutual
  pub tree_depth : Tree → ℕ
  tree_depth (tree field entries inner) = suc (forest_depth inner)

  pub forest_depth : Forest → ℕ
  forest_depth no_more = 0
  forest_depth (more t rest) = max (tree_depth t) (forest_depth rest)

-- the bytes of texts: names, time zones, keys and values
abbrev pub entry_bytes : List Entry → ℕ
entry_bytes [] = 0
entry_bytes (entry ∷ rest) = length entry.0 + length entry.1 + entry_bytes rest

abbrev pub data_type_bytes : DataType → ℕ
data_type_bytes null_type = 0
data_type_bytes (int_type width signed) = 0
data_type_bytes (floating_point_type precision) = 0
data_type_bytes binary_type = 0
data_type_bytes utf8_type = 0
data_type_bytes bool_type = 0
data_type_bytes (decimal_type precision scale width) = 0
data_type_bytes (date_type unit) = 0
data_type_bytes (time_type unit) = 0
data_type_bytes (timestamp_type unit None) = 0
data_type_bytes (timestamp_type unit (Some timezone)) = length timezone
data_type_bytes list_type = 0
data_type_bytes struct_type = 0
data_type_bytes (fixed_size_binary_type byte_width) = 0
data_type_bytes (fixed_size_list_type list_size) = 0
data_type_bytes (duration_type unit) = 0

abbrev pub field_bytes : FieldHead → ℕ
field_bytes field = length field.name + data_type_bytes field.data_type

-- the three sums of a schema or of a part of one
pub record SchemaTotals : Type 0 where
  pub fields : ℕ
  pub entries : ℕ
  pub bytes : ℕ

abbrev pub no_totals : SchemaTotals
no_totals = record { fields = 0; entries = 0; bytes = 0 }

abbrev pub add_totals : SchemaTotals → SchemaTotals → SchemaTotals
add_totals x y = record { fields = x.fields + y.fields; entries = x.entries + y.entries; bytes = x.bytes + y.bytes }

abbrev pub entries_totals : List Entry → SchemaTotals
entries_totals entries = record { fields = 0; entries = length entries; bytes = entry_bytes entries }

abbrev pub forest_totals : Forest → SchemaTotals
forest_totals f = record {
  fields = forest_sum (λ field entries. 1) f;
  entries = forest_sum (λ field entries. length entries) f;
  bytes = forest_sum (λ field entries. field_bytes field + entry_bytes entries) f;
}

abbrev pub tree_totals : Tree → SchemaTotals
tree_totals t = record {
  fields = tree_sum (λ field entries. 1) t;
  entries = tree_sum (λ field entries. length entries) t;
  bytes = tree_sum (λ field entries. field_bytes field + entry_bytes entries) t;
}

abbrev pub schema_totals : SchemaTree → SchemaTotals
schema_totals s = add_totals (forest_totals s.fields) (entries_totals s.metadata)

pub record IsWithin (x : SchemaTotals) : Type 0 where
  pub fields_within : x.fields ≤ fields_limit
  pub entries_within : x.entries ≤ entries_limit
  pub bytes_within : x.bytes ≤ bytes_limit

abbrev pub IsBeyond : SchemaTotals → Type 0
IsBeyond x = (fields_limit < x.fields) ⊎ (entries_limit < x.entries) ⊎ (bytes_limit < x.bytes)
