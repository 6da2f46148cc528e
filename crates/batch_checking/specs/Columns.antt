-- The columns that are checked one after the other, and what has to be so where they are.
use Rattle.std.specs.Prelude.{◌≡◌, ℕ, ◌+◌, ◌<◌, ◌≤◌, pos, nat_abs, ◌≤ℤ◌, List, map, length, take, drop, get_or}
use Rattle.std.specs.List.{AllByRecursion, range_with_len}
use Rattle.header_types.specs.declared.schema.Field.{Field}
use Rattle.header_types.specs.declared.header.BatchHead.{BatchHead}
use Rattle.header_types.specs.Fields.{Tree, tree, Forest, more, no_more}
use Rattle.header_types.specs.FieldView.{field_head_of, entries_in, fields_in}
use Rattle.header_types.specs.Views.{tree_of, forest_of}
use Rattle.header_types.specs.Limits.{forest_depth}
use Rattle.header_types.specs.Profile.{IsWellFormedForest}
use Rattle.batch_types.specs.Laid.{LaidColumn, laid, LaidColumns, no_column, column_then, node_count, buffer_count}
use Rattle.batch_types.specs.Layouts.{Layout, null_layout, bits_layout, bytes_layout, binary_layout, utf8_layout}
use Rattle.batch_types.specs.Layouts.{list_layout, fixed_size_list_layout, struct_layout}
use Rattle.batch_types.specs.Rules.{first_length}
use Rattle.batch_types.specs.LaysOut.{values_limit}
use Rattle.batch_columns.specs.Held.{layout_named}
use Rattle.batch_columns.specs.declared.place.Place.{Place}
use Rattle.batch_columns.specs.declared.encoded_column.EncodedColumn.{EncodedColumn}
use Rattle.batch_columns.specs.Sources.{columns_from}
use Rattle.batch_checking.specs.declared.around.Around.{Around}
use Rattle.batch_checking.specs.SourceRules.{AreSpreadWithin}
use Rattle.batch_checking.specs.Around.{places_around, IsSteadySource, AreSteady}
use Rattle.batch_checking.specs.Checked.{ReachesIf}

-- ---- the columns around others

abbrev pub sources_around : Around → List EncodedColumn
sources_around around = take around.depth around.levels

abbrev pub first_places : Around → List ℕ
first_places around = range_with_len 0 around.rows

-- the places inside them that belong to the batch
abbrev pub places_in : Around → List ℕ
places_in around = places_around (first_places around) (sources_around around)

-- ---- columns at a place of a header

abbrev pub forest_seen : List Field → Forest
forest_seen fields = forest_of (map tree_of fields)

abbrev pub columns_at : Forest → BatchHead → Place → LaidColumns
columns_at fields head place =
    columns_from fields (drop place.node head.nodes.items) (drop place.buffer head.buffers.items)

abbrev pub inside_of : LaidColumn → LaidColumns
inside_of (laid layout node ranges inner) = inner

-- where a column has as many values as are asked of it, the places are among them
abbrev pub Reaches : ℕ → LaidColumn → List ℕ → Type 0
Reaches asked (laid layout node ranges inner) places = ReachesIf asked (nat_abs node.0) places

abbrev pub AllReach : ℕ → LaidColumns → List ℕ → Type 0
AllReach asked no_column places = Unit {0}
AllReach asked (column_then column rest) places = Reaches asked column places × AllReach asked rest places

-- no node has less than no values, or more than one may have
abbrev pub AreCounted : BatchHead → Type 0
AreCounted head =
    (k : ℕ) → k < length head.nodes.items
    → (pos 0 ≤ℤ (get_or head.nodes.items k (pos 0, pos 0)).0)
    × ((get_or head.nodes.items k (pos 0, pos 0)).0 ≤ℤ pos values_limit)

-- the header has the columns of these fields from this place on, so many values are asked of each, and these columns
-- stand around them
pub record MayCheck (fields : Forest) (head : BatchHead) (place : Place) (asked : ℕ) (around : Around) : Type 0 where
  pub counted : AreCounted head
  pub nodes : place.node + node_count fields ≤ length head.nodes.items
  pub buffers : place.buffer + buffer_count fields ≤ length head.buffers.items
  pub formed : IsWellFormedForest fields
  pub shallow : around.depth + forest_depth fields ≤ 16
  pub room : length around.levels ≡ 16
  pub steady : AreSteady (first_places around) (sources_around around)
  pub reach : AllReach asked (columns_at fields head place) (places_in around)

-- a field with those inside it
abbrev pub tree_seen : Field → Tree
tree_seen field = tree (field_head_of field) (entries_in field) (fields_in field)

-- the same of one field, with those inside it
abbrev pub MayCheckOne : Field → BatchHead → Place → ℕ → Around → Type 0
MayCheckOne field head place asked around = MayCheck (more (tree_seen field) no_more) head place asked around

-- the place behind the columns of these fields
abbrev pub IsBehind : Forest → Place → Place → Type 0
IsBehind fields place next =
    (next.node ≡ place.node + node_count fields) × (next.buffer ≡ place.buffer + buffer_count fields)

-- ---- what is known of a column that keeps its own rules

-- the values of a list lead into so many of the first column inside it
abbrev pub LeadsInto : Layout → ℕ → List ℕ → ℕ → Type 0
LeadsInto null_layout count offsets first = Unit {0}
LeadsInto bits_layout count offsets first = Unit {0}
LeadsInto (bytes_layout size) count offsets first = Unit {0}
LeadsInto (binary_layout offset) count offsets first = Unit {0}
LeadsInto (utf8_layout offset) count offsets first = Unit {0}
LeadsInto (list_layout offset) count offsets first = AreSpreadWithin offsets count first
LeadsInto (fixed_size_list_layout size) count offsets first = Unit {0}
LeadsInto struct_layout count offsets first = Unit {0}

-- what is read of a column whose places these are
pub record IsOpen (source : EncodedColumn) (column : LaidColumn) (places : List ℕ) : Type 0 where
  pub steady : IsSteadySource source
  pub below : AllByRecursion (λ row. row < source.length) places
  pub leads : LeadsInto (layout_named source.layout) source.length source.offsets.now (first_length (inside_of column))
