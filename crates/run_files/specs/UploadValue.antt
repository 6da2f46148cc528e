-- What a value of JSON tells as an upload: one column of small numbers, batch by batch. Its id is hexadecimal (RFC
-- 4648, section 8).
use Rattle.std.specs.Prelude.{◌≡◌, ◌⊎◌, ◌≤◌, ◌<◌, ℕ, ℤ, pos, ◌-ℤ◌, true, List, [], ◌∷◌, codes, length, map, Option, Some, None, option_and_then, Ok}
use Rattle.std.specs.List.{AllZip}
use Rattle.serde_json.specs.Data.{Data, null}
use Rattle.serde_json.specs.Find.{get, as_number, as_i64, as_str, as_array}
use Rattle.serde_json.specs.View.{items_of}
use Rattle.hex.specs.Hex.{decode_of}
use Rattle.header_types.specs.declared.field_type.BitWidth.TheVariants.{Eight}
use Rattle.header_types.specs.Fields.{SchemaTree, int_type, tree, no_more, more}
use Rattle.batch_types.specs.Cells.{Cell, null_cell, bytes_cell, Rows}
use Rattle.batch_types.specs.Layouts.{bytes_layout}
use Rattle.batch_types.specs.Shapes.{shape, no_shape, shape_then}
use Rattle.batch_columns.specs.Held.{shapes_held}
use Rattle.batch_columns.specs.Batches.{rows_of}
use Rattle.batch_columns.specs.declared.batch.Batch.{Batch}
use Rattle.table_types.specs.Uploads.{Upload, upload_text}
use Rattle.table_types.specs.Valid.{IsUpload}
use Rattle.run_files.specs.JsonValues.{text_at, array_at}

-- a column of this name, of numbers of eight bits with a sign, which may be missing
abbrev pub column_schema : List ℕ → SchemaTree
column_schema name = record {
  fields = more (tree (record { name = name; nullable = true; data_type = int_type Eight true }) [] no_more) no_more;
  metadata = [];
}

-- the byte of two's complement of a number from -128 to 127
abbrev pub IsByteOf : ℤ → ℕ → Type 0
IsByteOf z byte = ((z ≡ pos byte) × (byte < 128)) ⊎ ((z ≡ pos byte -ℤ pos 256) × (128 ≤ byte) × (byte < 256))

-- the value is null, or a number that is held by one byte
abbrev pub TellsCell : Data → Option (List ℕ) → Type 0
TellsCell d None = d ≡ null
TellsCell d (Some bytes) =
    (z : ℤ) × (byte : ℕ) × (option_and_then as_i64 (as_number d) ≡ Some z) × IsByteOf z byte × (bytes ≡ byte ∷ [])

-- a cell of such a column
abbrev pub byte_cell : Option (List ℕ) → Cell
byte_cell None = null_cell
byte_cell (Some bytes) = bytes_cell bytes

-- the rows of one column with these cells
abbrev pub column_rows : List Cell → Rows
column_rows cells = record { count = length cells; columns = cells ∷ [] }

-- a batch of one column of single bytes, with a cell for each row
pub record IsByteBatch (batch : Batch) : Type 0 where
  pub shaped : shapes_held batch.columns.items ≡ shape_then (shape (bytes_layout 1) no_shape) no_shape
  pub cells : List Cell
  pub rows_are : rows_of batch ≡ column_rows cells

-- the value is an array, which has a cell for each row
pub record TellsRows (d : Data) (rows : Rows) : Type 0 where
  pub values : List Data
  pub items : as_array d ≡ Some (items_of values)
  pub bytes : List (Option (List ℕ))
  pub each : AllZip TellsCell values bytes
  pub rows_are : rows ≡ column_rows (map byte_cell bytes)

-- the name of the column: the text at `name`, and `a` where there is no such member
abbrev pub name_told : Option Data → Option (List ℕ)
name_told None = Some (codes "a")
name_told (Some d) = as_str d

-- The value is an object with these; what else it has means nothing.
pub record TellsUpload (d : Data) (upload : Upload) : Type 0 where
  pub table : text_at (codes "table") d ≡ Some upload.table
  pub digits : List ℕ
  pub digits_at : text_at (codes "id") d ≡ Some digits
  pub id : decode_of digits ≡ Ok upload.id
  pub name : List ℕ
  pub named : name_told (get (codes "name") d) ≡ Some name
  pub schema : upload.schema ≡ column_schema name
  pub values : List Data
  pub values_at : array_at (codes "values") d ≡ Some (items_of values)
  pub batches : AllZip TellsRows values upload.batches

-- it tells an upload that is taken, of which this is the encoding
pub record MeansUpload (d : Data) (text : List ℕ) : Type 0 where
  pub upload : Upload
  pub tells : TellsUpload d upload
  pub valid : IsUpload upload
  pub encoded : text ≡ upload_text upload
