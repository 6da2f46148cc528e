-- What one message more says of uploads: tools of the contracts of private functions.
use Rattle.std.specs.Prelude.{◌≡◌, ◌⊎◌, ◌≤◌, List, [], ◌∷◌, ◌++◌, length, map, Vec, Option, Some, None, IsSome, IfSome, Result, Ok, Err}
use Rattle.std.specs.Option.{option_map, option_to_list}
use Rattle.std.specs.List.{AllByRecursion, flat_map}
use Rattle.std.specs.declared.alloc.AllocError.{AllocError}
use Rattle.std.specs.declared.alloc.Global.{Global}
use Rattle.header_types.specs.Fields.{SchemaTree}
use Rattle.batch_columns.specs.declared.batch.Batch.{Batch}
use Rattle.batch_columns.specs.Batches.{rows_of, IsBatchOf}
use Rattle.downloads.specs.declared.upload_message.UploadMessage.{UploadMessage}
use Rattle.downloads.specs.declared.download.ServedUpload.{ServedUpload}
use Rattle.downloads.specs.Downloads.{IdsChange}
use Rattle.downloads.specs.Parts.{Part, parts_of}
use Rattle.downloads.specs.Taken.{served_in, HasBatchesOf}

-- what the message says
abbrev pub part_in : UploadMessage → Part
part_in said = record { id = said.id; batch = option_map rows_of said.batch }

-- the upload of which the message says the first
pub record IsBegun (said : UploadMessage) (upload : ServedUpload) : Type 0 where
  pub named : upload.id ≡ said.id
  pub batches : upload.batches.items ≡ option_to_list said.batch

-- the uploads with one that the message begins
pub record Begins (uploads : List ServedUpload) (said : UploadMessage) (next : List ServedUpload) : Type 0 where
  pub upload : ServedUpload
  pub begun : IsBegun said upload
  pub are : next ≡ uploads ++ upload ∷ []

-- an upload that has batches, with one batch more
pub record IsLonger (upload : ServedUpload) (batch : Option Batch) (next : ServedUpload) : Type 0 where
  pub named : next.id ≡ upload.id
  pub some : 1 ≤ length upload.batches.items
  pub given : IsSome batch
  pub batches : next.batches.items ≡ upload.batches.items ++ option_to_list batch

-- the upload with the batch; or there is none because there is no batch, or there was none before
abbrev pub Lengthens : ServedUpload → Option Batch → Result (Option ServedUpload) AllocError → Type 0
Lengthens upload batch (Ok (Some next)) = IsLonger upload batch next
Lengthens upload batch (Ok None) = (upload.batches.items ≡ []) ⊎ (batch ≡ None)
Lengthens upload batch (Err refused) = Unit {0}

-- what is said of all the uploads
abbrev pub parts_in : List ServedUpload → List Part
parts_in uploads = flat_map parts_of (map served_in uploads)

-- what is said of the next uploads is what is said of these, and the message's at the end
pub record AreWith (uploads : List ServedUpload) (said : UploadMessage) (next : List ServedUpload) : Type 0 where
  pub parts : parts_in next ≡ parts_in uploads ++ part_in said ∷ []
  pub names : IdsChange (map served_in uploads) → IdsChange (map served_in next)
  pub columns : (schema : SchemaTree) → AllByRecursion (HasBatchesOf schema) uploads → IfSome said.batch (IsBatchOf schema)
      → AllByRecursion (HasBatchesOf schema) next

-- what is said last has the id that the message has, and one of the two is an id alone
pub record IsAlone (uploads : List ServedUpload) (said : UploadMessage) : Type 0 where
  pub front : List Part
  pub last : Part
  pub parts : parts_in uploads ≡ front ++ last ∷ []
  pub named : last.id ≡ said.id
  pub alone : (last.batch ≡ None) ⊎ (said.batch ≡ None)

-- the uploads with what the message says, or an id stands alone beside the same id
abbrev pub Adds : List ServedUpload → UploadMessage → Result (Option (Vec ServedUpload Global)) AllocError → Type 0
Adds uploads said (Ok (Some next)) = AreWith uploads said next.items
Adds uploads said (Ok None) = IsAlone uploads said
Adds uploads said (Err refused) = Unit {0}
