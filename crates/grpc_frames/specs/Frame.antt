-- Frames: gRPC over HTTP/2, "Length-Prefixed-Message": a flag, the length of the message in four bytes with the highest
-- first, and the message. Which flags there are is this service's own choice: 0 for a message, 0x80 for an end.
use Rattle.std.specs.Prelude.{◌≡◌, ℕ, ◌≤◌, ◌⊎◌, List, ◌∷◌, ◌++◌, length}
use Rattle.std.specs.List.{flat_map, AllByRecursion}
use Rattle.byteorder.specs.Endian.{big_bytes}

pub record Frame : Type 0 where
  pub flag : ℕ
  pub payload : List ℕ

-- the five bytes before a payload of n bytes
abbrev pub header_text : ℕ → ℕ → List ℕ
header_text flag n = flag ∷ big_bytes 4 n

-- how a frame is spelled
abbrev pub frame_text : Frame → List ℕ
frame_text f = header_text f.flag (length f.payload) ++ f.payload

-- the most bytes of a payload
abbrev pub payload_limit : ℕ
payload_limit = 4194304

abbrev pub IsFlag : ℕ → Type 0
IsFlag flag = (flag ≡ 0) ⊎ (flag ≡ 128)

pub record IsFrame (f : Frame) : Type 0 where
  pub flag : IsFlag f.flag
  pub payload : length f.payload ≤ payload_limit

-- the text is these frames, one after the other
pub record IsFrames (text : List ℕ) (frames : List Frame) : Type 0 where
  pub parts : text ≡ flat_map frame_text frames
  pub each : AllByRecursion IsFrame frames
