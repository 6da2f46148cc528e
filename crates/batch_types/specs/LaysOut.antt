-- A header and a body lay out a batch, or which fault is told of them: Apache Arrow, "Arrow Columnar Format",
-- "RecordBatch message".
use Rattle.std.specs.Prelude.{◌≡◌, ◌⊎◌, ℕ, ◌<◌, ◌≤◌, pos, ◌≤ℤ◌, nat_abs, false, List, [], ◌∷◌, map}
use Rattle.std.specs.Prelude.{length, take, get_or}
use Rattle.std.specs.List.{range_with_len}
use Rattle.header_types.specs.Fields.{SchemaTree}
use Rattle.header_types.specs.Header.{Head}
use Rattle.batch_types.specs.declared.fault.BatchFault.{BatchFault}
use Rattle.batch_types.specs.declared.fault.BatchFault.TheVariants as fault
use Rattle.batch_types.specs.Order.{head_order, column_order, AreKept, IsFirstBroken}
use Rattle.batch_types.specs.Cells.{Cell, Rows}
use Rattle.batch_types.specs.Layouts.{Layout}
use Rattle.batch_types.specs.Laid.{Node, Range, LaidColumn, laid, LaidColumns, no_column, column_then}
use Rattle.batch_types.specs.Laid.{nodes_in, buffers_in, AreColumnsOf, node_count, buffer_count}
use Rattle.batch_types.specs.Placed.{buffer_at, cell_at}
use Rattle.batch_types.specs.Rules.{HasBuffers, HasNullCount, HasOffsets, AreUtf8, asked_inside, places_inside}

-- ---- limits, which are this service's own

-- how many rows a batch may have
abbrev pub rows_limit : ℕ
rows_limit = 1048576

-- how many values a node may have
abbrev pub values_limit : ℕ
values_limit = 16777216

-- ---- one column

-- The rules of a column, where so many values are asked of it and those at these places belong to the batch: its
-- buffers, its null count, its offsets, its length, its texts. The other faults tell of no column.
abbrev pub KeepsRule : List ℕ → Layout → Node → List Range → LaidColumns → ℕ → List ℕ → BatchFault → Type 0
KeepsRule body layout node ranges inner asked places fault.Compressed = Unit {0}
KeepsRule body layout node ranges inner asked places fault.TooManyRows = Unit {0}
KeepsRule body layout node ranges inner asked places fault.NodeCount = Unit {0}
KeepsRule body layout node ranges inner asked places fault.BufferCount = Unit {0}
KeepsRule body layout node ranges inner asked places fault.BufferRange = HasBuffers body layout node ranges
KeepsRule body layout node ranges inner asked places fault.NullCount = HasNullCount layout (buffer_at body ranges 0) node
KeepsRule body layout node ranges inner asked places fault.OffsetsFall = HasOffsets body layout node ranges inner
KeepsRule body layout node ranges inner asked places fault.ChildShort = asked ≤ nat_abs node.0
KeepsRule body layout node ranges inner asked places fault.NotUtf8 = AreUtf8 body layout ranges places
KeepsRule body layout node ranges inner asked places fault.OutOfMemory = Unit {0}

-- ---- columns with those inside them

abbrev mutual
  -- the column and all columns inside it keep their rules
  pub IsSound : List ℕ → LaidColumn → ℕ → List ℕ → Type 0
  IsSound body (laid layout node ranges inner) asked places =
      AreKept (KeepsRule body layout node ranges inner asked places) column_order
      × AreSound body inner (asked_inside layout (nat_abs node.0)) (places_inside body layout ranges places)

  pub AreSound : List ℕ → LaidColumns → ℕ → List ℕ → Type 0
  AreSound body no_column asked places = Unit {0}
  AreSound body (column_then column rest) asked places =
      IsSound body column asked places × AreSound body rest asked places

abbrev mutual
  -- This fault is the first, where a column's own rules come before those of the columns inside it.
  pub HasFault : List ℕ → LaidColumn → ℕ → List ℕ → BatchFault → Type 0
  HasFault body (laid layout node ranges inner) asked places told =
      IsFirstBroken (KeepsRule body layout node ranges inner asked places) column_order told
      ⊎ (AreKept (KeepsRule body layout node ranges inner asked places) column_order
      × HaveFault body inner (asked_inside layout (nat_abs node.0)) (places_inside body layout ranges places) told)

  -- and those of a column and of all inside it before those of the next column
  pub HaveFault : List ℕ → LaidColumns → ℕ → List ℕ → BatchFault → Type 0
  HaveFault body no_column asked places told = ⊥
  HaveFault body (column_then column rest) asked places told =
      HasFault body column asked places told
      ⊎ (IsSound body column asked places × HaveFault body rest asked places told)

-- the cells of each column, one a row
abbrev pub columns_at : List ℕ → LaidColumns → ℕ → List (List Cell)
columns_at body no_column count = []
columns_at body (column_then column rest) count =
    map (cell_at body column) (range_with_len 0 count) ∷ columns_at body rest count

-- ---- the header

-- from no row up to as many as a batch may have, and so of the values of each node
pub record HasRowsWithin (head : Head) : Type 0 where
  pub counted : pos 0 ≤ℤ head.length
  pub few : head.length ≤ℤ pos rows_limit
  pub nodes_counted : (k : ℕ) → k < length head.nodes → pos 0 ≤ℤ (get_or head.nodes k (pos 0, pos 0)).0
  pub nodes_few : (k : ℕ) → k < length head.nodes → (get_or head.nodes k (pos 0, pos 0)).0 ≤ℤ pos values_limit

-- the header says how long the body is, no less than 0, and the body is as long or longer ("Encapsulated message format")
pub record HasBody (head : Head) (body : List ℕ) : Type 0 where
  pub counted : pos 0 ≤ℤ head.body_length
  pub there : head.body_length ≤ℤ pos (length body)

-- the rules of the header; the other faults tell of columns
abbrev pub KeepsHeadRule : SchemaTree → Head → List ℕ → BatchFault → Type 0
KeepsHeadRule schema head body fault.Compressed = head.compressed ≡ false
KeepsHeadRule schema head body fault.TooManyRows = HasRowsWithin head
KeepsHeadRule schema head body fault.NodeCount = length head.nodes ≡ node_count schema.fields
KeepsHeadRule schema head body fault.BufferCount = length head.buffers ≡ buffer_count schema.fields
KeepsHeadRule schema head body fault.BufferRange = HasBody head body
KeepsHeadRule schema head body fault.NullCount = Unit {0}
KeepsHeadRule schema head body fault.OffsetsFall = Unit {0}
KeepsHeadRule schema head body fault.ChildShort = Unit {0}
KeepsHeadRule schema head body fault.NotUtf8 = Unit {0}
KeepsHeadRule schema head body fault.OutOfMemory = Unit {0}

-- ---- the whole

-- the header has these columns, depth first, for the fields of the schema
pub record HasColumns (schema : SchemaTree) (head : Head) (columns : LaidColumns) : Type 0 where
  pub of_schema : AreColumnsOf schema.fields columns
  pub nodes : head.nodes ≡ nodes_in columns
  pub buffers : head.buffers ≡ buffers_in columns

-- the part of the body that the header speaks of ("Encapsulated message format")
abbrev pub body_of : Head → List ℕ → List ℕ
body_of head body = take (nat_abs head.body_length) body

-- the header and the body lay out these rows of a table of this schema
pub record LaysOut (schema : SchemaTree) (head : Head) (body : List ℕ) (rows : Rows) : Type 0 where
  pub head_kept : AreKept (KeepsHeadRule schema head body) head_order
  pub columns : LaidColumns
  pub columns_are : HasColumns schema head columns
  pub sound : AreSound (body_of head body) columns rows.count (range_with_len 0 rows.count)
  pub count : head.length ≡ pos rows.count
  pub cells : rows.columns ≡ columns_at (body_of head body) columns rows.count

-- this fault is the first one
abbrev pub IsFaultOf : SchemaTree → Head → List ℕ → BatchFault → Type 0
IsFaultOf schema head body told =
    IsFirstBroken (KeepsHeadRule schema head body) head_order told
    ⊎ (AreKept (KeepsHeadRule schema head body) head_order
    × ((columns : LaidColumns)
    × HasColumns schema head columns
    × HaveFault (body_of head body) columns (nat_abs head.length) (range_with_len 0 (nat_abs head.length)) told))
