-- What a message behind the first adds to an upload: tools of the contracts of private functions.
use Rattle.std.specs.Prelude.{◌≡◌, ◌≤◌, ◌<◌, ℕ, Bool, true, List, [], ◌∷◌, length}
use Rattle.header_types.specs.Fields.{SchemaTree}
use Rattle.header_types.specs.Header.{Head}
use Rattle.batch_types.specs.Canonical.{canonical_body}
use Rattle.batch_types.specs.Cells.{Rows}
use Rattle.batch_types.specs.LaysOut.{LaysOut}
use Rattle.batch_columns.specs.Batches.{rows_of, IsBatchOf}
use Rattle.batch_columns.specs.declared.batch.Batch.{Batch}
use Rattle.grpc_frames.specs.Frame.{payload_limit}
use Rattle.table_types.specs.Valid.{batches_limit}
use Rattle.call_reading.specs.declared.upload_builder.Addition.{Addition}
use Rattle.call_reading.specs.declared.upload_builder.Addition.TheVariants as additions
use Rattle.call_reading.specs.Requests.{HasBatch, Adds}

-- A batch that was wanted is built of what a head and a body lay out, and a frame has room for the body that is written of it.
pub record IsBuilt (schema : SchemaTree) (wanted : Bool) (head : Head) (body : List ℕ) (batch : Batch) : Type 0 where
  pub laid : LaysOut schema head body (rows_of batch)
  pub of_schema : IsBatchOf schema batch
  pub is_wanted : wanted ≡ true
  pub small : length (canonical_body schema (rows_of batch)) ≤ payload_limit

-- They lay out a batch that is left out: none is wanted, or no frame has room for the body that would be written of it.
pub record IsLeftOut (schema : SchemaTree) (wanted : Bool) (head : Head) (body : List ℕ) : Type 0 where
  pub rows : Rows
  pub laid : LaysOut schema head body rows
  pub long : wanted ≡ true → payload_limit < length (canonical_body schema rows)

-- what a header and a body add
abbrev pub HasAddition : SchemaTree → Bool → List ℕ → List ℕ → Addition → Type 0
HasAddition schema wanted header body additions.Nothing = ⊥
HasAddition schema wanted header body (additions.Built batch) =
    HasBatch schema header body (rows_of batch) × IsBatchOf schema batch × (wanted ≡ true)
HasAddition schema wanted header body additions.LeftOut =
    (rows : Rows) × HasBatch schema header body rows × (wanted ≡ true → payload_limit < length (canonical_body schema rows))

-- what a message adds
abbrev pub AddsAs : SchemaTree → Bool → List ℕ → Addition → Type 0
AddsAs schema wanted message additions.Nothing = Adds schema message []
AddsAs schema wanted message (additions.Built batch) =
    Adds schema message (rows_of batch ∷ []) × IsBatchOf schema batch × (wanted ≡ true)
AddsAs schema wanted message additions.LeftOut =
    (rows : Rows) × Adds schema message (rows ∷ []) × (wanted ≡ true → payload_limit < length (canonical_body schema rows))

-- there may be one more, where there is one
abbrev pub HasRoom : ℕ → Addition → Type 0
HasRoom count additions.Nothing = Unit {0}
HasRoom count (additions.Built batch) = count < batches_limit
HasRoom count additions.LeftOut = count < batches_limit
