-- How long the buffers of columns are in the body that is written: Apache Arrow, "Arrow Columnar Format", "Physical
-- memory layout" and "Buffer alignment and padding". The buffers themselves are defined in `Canonical` of `batch_types`.
use Rattle.std.specs.Prelude.{◌≡◌, ℕ, ◌+◌, ◌*◌, ◌^◌, ◌<◌, ◌≤◌, pos, ◌≤ℤ◌, Bool, if◌then◌else◌, List, length, drop, get_or}
use Rattle.header_types.specs.declared.header.BatchHead.{BatchHead}
use Rattle.header_types.specs.Fields.{Forest}
use Rattle.header_types.specs.Limits.{fields_limit}
use Rattle.header_types.specs.Profile.{IsWellFormedForest}
use Rattle.batch_types.specs.Cells.{Cell}
use Rattle.batch_types.specs.Layouts.{Layout, null_layout, bits_layout, bytes_layout, binary_layout, utf8_layout}
use Rattle.batch_types.specs.Layouts.{list_layout, fixed_size_list_layout, struct_layout}
use Rattle.batch_types.specs.Laid.{node_count, buffer_count}
use Rattle.batch_types.specs.LaysOut.{AreSound, values_limit}
use Rattle.batch_types.specs.Rules.{bytes_for}
use Rattle.batch_types.specs.Shapes.{Shapes, shapes_of}
use Rattle.batch_types.specs.Canonical.{padded, body_with, columns_parts}
use Rattle.batch_columns.specs.declared.place.Place.{Place}
use Rattle.batch_reading.specs.Built.{columns_wanted}
use Rattle.batch_reading.specs.Readable.{columns_there}
use Rattle.batch_reading.specs.Spots.{Spot}
use Rattle.batch_lengths.specs.declared.counted.Counted.{Counted}
use Rattle.batch_lengths.specs.Reach.{Between}
use Rattle.batch_lengths.specs.Tally.{tally, BeginsWith}

-- ---- one column

-- how long a bitmap is, where one is written
abbrev pub validity_size : Bool → ℕ → ℕ
validity_size has_null count = if has_null then padded (bytes_for count) else 0

-- the buffers of a column of so many cells, one of them null or not, with so many bytes or elements in all; those of the
-- columns inside it aside
abbrev pub own_size : Layout → ℕ → Bool → ℕ → ℕ
own_size null_layout count has_null total = 0
own_size bits_layout count has_null total = validity_size has_null count + padded (bytes_for count)
own_size (bytes_layout size) count has_null total = validity_size has_null count + padded (size * count)
own_size (binary_layout offset) count has_null total =
    validity_size has_null count + padded (offset * (count + 1)) + padded total
own_size (utf8_layout offset) count has_null total =
    validity_size has_null count + padded (offset * (count + 1)) + padded total
own_size (list_layout offset) count has_null total = validity_size has_null count + padded (offset * (count + 1))
own_size (fixed_size_list_layout size) count has_null total = validity_size has_null count
own_size struct_layout count has_null total = validity_size has_null count

-- how many cells the columns inside it have
abbrev pub count_inside : Layout → ℕ → ℕ → ℕ
count_inside null_layout count total = 0
count_inside bits_layout count total = 0
count_inside (bytes_layout size) count total = 0
count_inside (binary_layout offset) count total = 0
count_inside (utf8_layout offset) count total = 0
count_inside (list_layout offset) count total = total
count_inside (fixed_size_list_layout size) count total = size * count
count_inside struct_layout count total = count

-- ---- columns

-- how long the body is that is written of columns of these cells
abbrev pub columns_size : Shapes → List (List Cell) → ℕ
columns_size shapes columns = length (body_with (columns_parts shapes columns).buffers)

-- how long the body is that is written of the cells of these columns at these spots
abbrev pub size_there : List ℕ → Forest → BatchHead → Place → List Spot → ℕ
size_there body fields head place spots =
    columns_size (shapes_of fields) (columns_wanted body (columns_there fields head place) (shapes_of fields) spots)

abbrev pub first_place : Place
first_place = record { node = 0; buffer = 0 }

-- the header has the columns of these fields from this place on, and they keep their rules where so many values are asked
pub record MayWalk (fields : Forest) (head : BatchHead) (place : Place) (body : List ℕ) (end : ℕ) : Type 0 where
  pub places : List ℕ
  pub few_values : end ≤ values_limit
  pub short : length body < 2 ^ 64
  pub sound : AreSound body (columns_there fields head place) end places
  pub formed : IsWellFormedForest fields
  pub nodes_there : place.node + node_count fields ≤ length head.nodes.items
  pub buffers_there : place.buffer + buffer_count fields ≤ length head.buffers.items
  pub nodes_few : place.node + node_count fields ≤ fields_limit
  pub buffers_few : place.buffer ≤ 3 * place.node
  pub counted : (k : ℕ) → k < length head.nodes.items → pos 0 ≤ℤ (get_or head.nodes.items k (pos 0, pos 0)).0
  pub few : (k : ℕ) → k < length head.nodes.items → (get_or head.nodes.items k (pos 0, pos 0)).0 ≤ℤ pos values_limit

-- the same, the table has what was counted of them at these spots, which stand in order, and there are so many
pub record MayMeasure (fields : Forest) (head : BatchHead) (place : Place) (body : List ℕ) (count : ℕ) (table : List Counted)
    (spots : List Spot) : Type 0 where
  pub limit : ℕ
  pub walk : MayWalk fields head place body limit
  pub between : Between 0 limit spots
  pub wanted : count ≡ length spots
  pub tallied : BeginsWith (drop place.node table) (tally body (columns_there fields head place) spots)

-- Of the columns of these fields, which begin at the first place, the body has so many bytes without those of the rest;
-- of as many as there may be, these are left: a tool of the proofs.
pub record Measured (fields : Forest) (head : BatchHead) (place : Place) (body : List ℕ) (count : ℕ) (table : List Counted)
    (spots : List Spot) (most : ℕ) (rest : Forest) (next : Place) (left : ℕ) : Type 0 where
  pub may : MayMeasure rest head next body count table spots
  pub done : ℕ
  pub fits : left + done ≡ most
  pub whole : done + size_there body rest head next spots ≡ size_there body fields head place spots
