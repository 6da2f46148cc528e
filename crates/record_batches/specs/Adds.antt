-- What stands behind what stood before: in the writer of a header (Apache Arrow, "Arrow Columnar Format", "RecordBatch message"),
-- and at the end of a text.
use Rattle.std.specs.Prelude.{◌≡◌, ◌+◌, ◌++◌, ℕ, List, length}
use Rattle.batch_types.specs.Canonical.{Parts, body_with, ranges_from}
use Rattle.record_batches.specs.declared.head.HeadWriter.{HeadWriter}

-- these parts were put, and nothing else
pub record Adds (before after : HeadWriter) (parts : Parts) : Type 0 where
  pub nodes : after.nodes.items ≡ before.nodes.items ++ parts.nodes
  pub buffers : after.buffers.items ≡ before.buffers.items ++ ranges_from before.end parts.buffers
  pub end : after.end ≡ before.end + length (body_with parts.buffers)

-- the old bytes stand at the front
abbrev pub Grows : List ℕ → List ℕ → Type 0
Grows old new = (more : List ℕ) × (new ≡ old ++ more)
