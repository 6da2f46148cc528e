-- What contracts see of the uploads that wait at a node, and what is told of each of them. That uploads wait is this
-- service's own.
use Rattle.std.specs.Prelude.{◌≡◌, ◌↔◌, ℕ, Bool, IsTrue, List}
use Rattle.ballots.specs.declared.value.Value.{Value}
use Rattle.table_types.specs.Uploads.{Upload}
use Rattle.table_types.specs.Texts.{IsTextOf, IsUploadText}
use Rattle.table_types.specs.Tables.{outcome_of, unknown}
use Rattle.table_versions.specs.State.{TablesState, HasTaken}
use Rattle.table_versions.specs.Values.{AreUploadsIn}

-- their encodings, in the order in which they came, and how many more can be taken without memory
pub record Waiting : Type 0 where
  pub texts : List (List ℕ)
  pub room : ℕ

-- the text is an upload's encoding, and the answer is whether these tables know nothing of it
pub record TellsUnknown (tables : TablesState) (text : List ℕ) (answer : Bool) : Type 0 where
  pub is_upload : IsUploadText text
  pub tells : (values : List Value) (uploads : List Upload) (uploaded : Upload) → HasTaken tables values
      → AreUploadsIn values uploads → IsTextOf text uploaded → (IsTrue answer ↔ (outcome_of uploads uploaded ≡ unknown))
