-- The messages behind the schema's, each by what it says: the id of an upload, and a batch of it or none.
use Rattle.std.specs.Prelude.{ℕ, List, [], ◌∷◌, Option, Some, None, map}
use Rattle.header_types.specs.Fields.{SchemaTree}
use Rattle.batch_types.specs.Cells.{Rows}
use Rattle.downloads.specs.Messages.{message_text}
use Rattle.downloads.specs.Downloads.{ServedUpload}

-- what one message says
pub record Part : Type 0 where
  pub id : List ℕ
  pub batch : Option Rows

-- a batch of an upload of this id
abbrev pub batch_part : List ℕ → Rows → Part
batch_part id rows = record { id = id; batch = Some rows }

-- what is said of an upload: each of its batches; without batches its id alone
abbrev pub parts_from : List ℕ → List Rows → List Part
parts_from id [] = record { id = id; batch = None } ∷ []
parts_from id (rows ∷ batches) = map (batch_part id) (rows ∷ batches)

abbrev pub parts_of : ServedUpload → List Part
parts_of served = parts_from served.id served.batches

-- the message that says it
abbrev pub part_text : SchemaTree → Part → List ℕ
part_text schema part = message_text schema part.id part.batch
