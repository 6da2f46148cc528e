-- What the steps of reading a frame give: the five bytes in front, what they say, and the payload piece by piece.
use Rattle.std.specs.Prelude.{◌≡◌, ◌≢◌, ℕ, ◌<◌, ◌+◌, ◌-◌, ◌*◌, min, max, List, [], ◌++◌, length}
use Rattle.std.specs.Prelude.{Option, Some, None, Result, Ok, Err}
use Rattle.grpc_frames.specs.declared.fault.FrameFault.{FrameFault}
use Rattle.grpc_frames.specs.declared.fault.FrameFault.TheVariants.{
  Truncated,
  BadFlag,
  Compressed,
  TooLong,
  Io,
  OutOfMemory,
}
use Rattle.grpc_frames.specs.declared.frame.Header.{Header}
use Rattle.grpc_frames.specs.Frame.{payload_limit, IsFlag}
use Rattle.grpc_frames.specs.FrameFaults.{BeginsFrame, FrameFaultStands, LeavesAfter, ReadsFewer}

-- what reading the five bytes in front of a payload gives
abbrev pub ReadsHeader : Result (Option Header) FrameFault → List ℕ → List ℕ → Type 0
ReadsHeader (Ok None) text rest = (text ≡ []) × (rest ≡ [])
ReadsHeader (Ok (Some h)) text rest = BeginsFrame text h.flag h.len rest
ReadsHeader (Err fault) text rest = FrameFaultStands fault text × LeavesAfter fault text rest

-- what is wrong with a flag and a length, the flag first
abbrev pub HeaderFaultStands : FrameFault → ℕ → ℕ → Type 0
HeaderFaultStands BadFlag flag n = (flag ≢ 0) × (flag ≢ 1) × (flag ≢ 128)
HeaderFaultStands Compressed flag n = flag ≡ 1
HeaderFaultStands TooLong flag n = IsFlag flag × (payload_limit < n)
HeaderFaultStands Truncated flag n = ⊥
HeaderFaultStands Io flag n = ⊥
HeaderFaultStands OutOfMemory flag n = ⊥

-- the bytes grew by what went from the text
abbrev pub MovesTo : List ℕ → List ℕ → List ℕ → List ℕ → Type 0
MovesTo old new text rest = old ++ text ≡ new ++ rest

-- Reading the rest of n bytes failed, where `front` of them had come: the text ends before, or fewer than the rest were
-- read.
abbrev pub FailsBehind : List ℕ → FrameFault → ℕ → List ℕ → List ℕ → Type 0
FailsBehind front Truncated n text rest = (length front + length text < n) × (rest ≡ [])
FailsBehind front Io n text rest = ReadsFewer (n - length front) text rest
FailsBehind front OutOfMemory n text rest = ReadsFewer (n - length front) text rest
FailsBehind front BadFlag n text rest = ⊥
FailsBehind front Compressed n text rest = ⊥
FailsBehind front TooLong n text rest = ⊥

-- How many bytes there is to be room for on the way to n, where so many have come: twice as many, and 65,536 at least.
abbrev pub next_len : ℕ → ℕ → ℕ
next_len came n = max came (min n (max (2 * came) 65536))
