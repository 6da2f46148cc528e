-- What is written of batches is no longer than an upload may be: a tool of the contracts of private functions.
use Rattle.std.specs.Prelude.{◌≤◌, List, length}
use Rattle.std.specs.List.{AllByRecursion}
use Rattle.header_types.specs.Fields.{SchemaTree}
use Rattle.batch_columns.specs.declared.batch.Batch.{Batch}
use Rattle.table_types.specs.Valid.{upload_limit}
use Rattle.uploads.specs.Sized.{parts_held}

-- the header and the body of each are
abbrev pub AreShort : SchemaTree → List Batch → Type 0
AreShort schema batches =
    AllByRecursion (λ parts. (length parts.0 ≤ upload_limit) × (length parts.1 ≤ upload_limit)) (parts_held schema batches)
