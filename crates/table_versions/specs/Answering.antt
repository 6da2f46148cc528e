-- What holds of the frames of an answer: gRPC, "gRPC over HTTP2", "Length-Prefixed-Message".
use Rattle.std.specs.Prelude.{◌≡◌, ℕ, ◌<◌, ◌^◌, List, length}
use Rattle.std.specs.List.{AllByRecursion, concat}
use Rattle.table_types.specs.Served.{in_frame}
use Rattle.table_types.specs.Valid.{FitsFrame}

-- the frame of one message, which a frame has room for
abbrev pub IsMessageFrame : List ℕ → Type 0
IsMessageFrame bytes = (message : List ℕ) × FitsFrame message × (bytes ≡ in_frame message)

-- each is such a frame, and how many bytes they have is a number of 64 bits
pub record AreFrames (frames : List (List ℕ)) : Type 0 where
  pub each : AllByRecursion IsMessageFrame frames
  pub few : length (concat frames) < 2 ^ 64
