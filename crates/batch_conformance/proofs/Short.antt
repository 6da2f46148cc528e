-- A body whose length can be told is short enough for a header.
use Rattle.std.proofs.Common.{◌≡◌, ℕ, ◌<◌, ◌^◌, length, arith}
use Rattle.header_types.specs.Fields.{SchemaTree}
use Rattle.batch_types.specs.Canonical.{canonical_body}
use Rattle.batch_types.specs.Shapes.{shapes_of}
use Rattle.batch_columns.specs.Batches.{rows_of, IsBatchOf}
use Rattle.batch_columns.specs.Held.{shapes_held}
use Rattle.batch_columns.specs.declared.batch.Batch.{Batch}

pub short : (schema : SchemaTree) (batch : Batch) (n : ℕ) → IsBatchOf schema batch
    → ((s : SchemaTree) → shapes_held batch.columns.items ≡ shapes_of s.fields → length (canonical_body s (rows_of batch)) ≡ n) → n < 2 ^ 63
    → length (canonical_body schema (rows_of batch)) < 2 ^ 63
short schema batch n of_schema known fits = omega (arith, known schema of_schema.shapes, fits)
