-- Values as uploads: what is agreed on is bytes, and those that encode no upload count for nothing.
use Rattle.std.specs.Prelude.{ℕ, List, map}
use Rattle.ballots.specs.declared.value.Value.{Value}
use Rattle.ballots.specs.Message.{value_bytes}
use Rattle.learner.specs.Calls.{LearnerCall}
use Rattle.table_types.specs.Uploads.{Upload}
use Rattle.agreement_rules.specs.Views.{HasPrefix}
pub use Rattle.table_types.specs.Texts.{IsTextOf, IsUploadText, AreUploadsOf}

-- the uploads of these values: a Noop is no bytes, and none
abbrev pub AreUploadsIn : List Value → List Upload → Type 0
AreUploadsIn values uploads = AreUploadsOf (map value_bytes values) uploads

-- the uploads of the prefix that these calls of its learner leave a node
pub record HasUploads (members : ℕ) (calls : List LearnerCall) (uploads : List Upload) : Type 0 where
  pub values : List Value
  pub prefix : HasPrefix members calls values
  pub are : AreUploadsIn values uploads
