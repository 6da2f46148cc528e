-- What is read of one column: its layout, its node and the bytes of its buffers. Apache Arrow, "Arrow Columnar Format",
-- "Physical memory layout" and "RecordBatch message".
use Rattle.std.specs.Prelude.{◌≡◌, ℕ, ◌<◌, pos, List, map, length, drop, get_or}
use Rattle.header_types.specs.declared.schema.Field.{Field}
use Rattle.header_types.specs.declared.header.BatchHead.{BatchHead}
use Rattle.header_types.specs.Fields.{tree}
use Rattle.header_types.specs.FieldView.{field_head_of, entries_in, fields_in}
use Rattle.batch_types.specs.Layouts.{Layout}
use Rattle.batch_types.specs.Laid.{Node, Range, LaidColumn, laid}
use Rattle.batch_types.specs.Placed.{bytes_at, buffer_at}
use Rattle.batch_types.specs.Rules.{IsInside}
use Rattle.batch_columns.specs.Buffers.{offsets_among, values_among}
use Rattle.batch_columns.specs.Held.{layout_named}
use Rattle.batch_columns.specs.declared.place.Place.{Place}
use Rattle.batch_columns.specs.declared.encoded_column.EncodedColumn.{EncodedColumn}
use Rattle.batch_columns.specs.Sources.{column_from}

-- the column of a field at a place of a header
abbrev pub column_at : Field → BatchHead → Place → LaidColumn
column_at field head place =
    column_from (tree (field_head_of field) (entries_in field) (fields_in field)) (drop place.node head.nodes.items)
    (drop place.buffer head.buffers.items)

-- the offsets and the values of a column of this layout, whose buffers are these ranges of a body
abbrev pub offsets_at : List ℕ → Layout → List Range → List ℕ
offsets_at body layout ranges = offsets_among layout (map (bytes_at body) ranges)

abbrev pub values_at : List ℕ → Layout → List Range → List ℕ
values_at body layout ranges = values_among layout (map (bytes_at body) ranges)

-- all its own buffers lie inside the body
abbrev pub LiesInside : List ℕ → LaidColumn → Type 0
LiesInside body (laid layout node ranges inner) =
    (n : ℕ) → n < length ranges → IsInside (length body) (get_or ranges n (pos 0, pos 0))

-- a column of this layout, with this node and these ranges of a body
pub record IsSource (body : List ℕ) (layout : Layout) (node : Node) (ranges : List Range)
    (source : EncodedColumn) : Type 0 where
  pub layout_is : layout_named source.layout ≡ layout
  pub node_is : node ≡ (pos source.length, source.nulls)
  pub validity_is : source.validity.now ≡ buffer_at body ranges 0
  pub offsets_is : source.offsets.now ≡ offsets_at body layout ranges
  pub values_is : source.values.now ≡ values_at body layout ranges

abbrev pub IsSourceOf : List ℕ → LaidColumn → EncodedColumn → Type 0
IsSourceOf body (laid layout node ranges inner) source = IsSource body layout node ranges source
