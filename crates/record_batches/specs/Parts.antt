-- What is written of columns as they are held: Apache Arrow, "Arrow Columnar Format", "RecordBatch message".
use Rattle.std.specs.Prelude.{ℕ, List, [], ◌∷◌}
use Rattle.batch_types.specs.Canonical.{Parts, no_parts, both_parts, parts_of}
use Rattle.batch_columns.specs.Contents.{Contents}

-- the parts of some columns, one behind the other
abbrev pub parts_held : List Contents → Parts
parts_held [] = no_parts
parts_held (column ∷ rest) = both_parts (parts_of column.shape column.cells) (parts_held rest)

-- buffers with no node
abbrev pub buffers_alone : List (List ℕ) → Parts
buffers_alone buffers = record { nodes = []; buffers = buffers }
