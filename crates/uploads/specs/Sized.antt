-- What batches are encoded as, and whether each is served: tools of the contracts of private functions.
use Rattle.std.specs.Prelude.{ℕ, List, map}
use Rattle.std.specs.List.{AllByRecursion}
use Rattle.header_types.specs.Fields.{SchemaTree}
use Rattle.batch_columns.specs.Batches.{rows_of}
use Rattle.batch_columns.specs.declared.batch.Batch.{Batch}
use Rattle.table_types.specs.Valid.{FitsFrame}
use Rattle.uploads.specs.Parts.{batch_parts, served_of}

-- the header and the body of each batch, as they are written
abbrev pub parts_held : SchemaTree → List Batch → List (List ℕ × List ℕ)
parts_held schema batches = map (batch_parts schema) (map rows_of batches)

-- a frame has room for what is served of each, with the upload's id
abbrev pub AreServed : List ℕ → SchemaTree → List Batch → Type 0
AreServed id schema batches = AllByRecursion (λ parts. FitsFrame (served_of id parts)) (parts_held schema batches)
