-- Values: what is decided for a slot is opaque to agreement.
use Rattle.std.specs.Prelude.{ℕ, ◌<◌, ◌≤◌, List, length}
use Rattle.ballots.specs.Limits.{max_upload_bytes}

-- what may stand behind an upload's value: at least one byte, and no more than the limit
pub record IsUploadBytes (bytes : List ℕ) : Type 0 where
  pub some : 0 < length bytes
  pub within : length bytes ≤ max_upload_bytes
