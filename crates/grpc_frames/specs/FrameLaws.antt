-- Frames are told apart by their text, and so are the faults of texts that are no frames.
use Rattle.std.specs.Prelude.{◌≡◌, ◌≢◌, ℕ, ◌<◌, ◌≤◌, ◌⊎◌, List, [], ◌++◌, length, Option, Some, None, Result, Ok, Err}
use Rattle.std.specs.List.{AllByRecursion}
use Rattle.grpc_frames.specs.declared.fault.FrameFault.{FrameFault}
use Rattle.grpc_frames.specs.declared.fault.FrameFault.TheVariants.{
  Truncated,
  BadFlag,
  Compressed,
  TooLong,
  Io,
  OutOfMemory,
}
use Rattle.grpc_frames.specs.Frame.{Frame, frame_text, IsFrame, IsFrames}
use Rattle.grpc_frames.specs.FrameFaults.{FrameFaultStands, LeavesAfter, ReadsFrame, Writes}

-- No frame's text begins another's: where a text begins with two frames, they are one, and so are the rests.
abbrev pub NoFrameBeginsAnother : Type 0
NoFrameBeginsAnother =
    (f g : Frame) (x y : List ℕ) → IsFrame f → IsFrame g → frame_text f ++ x ≡ frame_text g ++ y → (f ≡ g) × (x ≡ y)

-- a text is the frames of one list at most
abbrev pub FramesAreOne : Type 0
FramesAreOne = (text : List ℕ) (fs gs : List Frame) → IsFrames text fs → IsFrames text gs → fs ≡ gs

-- the fault is one of the text, and not of a read or of memory
abbrev pub IsOfText : FrameFault → Type 0
IsOfText fault = (fault ≢ Io) × (fault ≢ OutOfMemory)

-- at most one fault stands at the front of a text
abbrev pub FaultsStandApart : Type 0
FaultsStandApart =
    (text : List ℕ) (d e : FrameFault) → IsOfText d → IsOfText e → FrameFaultStands d text → FrameFaultStands e text
    → d ≡ e

-- no fault stands where a frame begins
abbrev pub NoFaultAtAFrame : Type 0
NoFaultAtAFrame =
    (f : Frame) (rest : List ℕ) (e : FrameFault) → IsFrame f → IsOfText e → FrameFaultStands e (frame_text f ++ rest)
    → ⊥

-- nor at the end of the input
abbrev pub NoFaultAtTheEnd : Type 0
NoFaultAtTheEnd = (e : FrameFault) → IsOfText e → FrameFaultStands e [] → ⊥

-- the text has ended, or begins with a frame, or has a fault there
abbrev pub EndsOrBeginsOrFails : List ℕ → Type 0
EndsOrBeginsOrFails text =
    (text ≡ [])
    ⊎ ((f : Frame) × (rest : List ℕ) × IsFrame f × (text ≡ frame_text f ++ rest))
    ⊎ ((e : FrameFault) × IsOfText e × FrameFaultStands e text)

-- so it is with every text of bytes
abbrev pub EachTextIsJudged : Type 0
EachTextIsJudged = (text : List ℕ) → AllByRecursion (λ byte. byte < 256) text → EndsOrBeginsOrFails text

-- no fault of the five bytes in front stands where memory is asked for
abbrev pub NoMemoryForABadHeader : Type 0
NoMemoryForABadHeader =
    (text : List ℕ) (e : FrameFault) → FrameFaultStands OutOfMemory text
    → (e ≡ BadFlag) ⊎ (e ≡ Compressed) ⊎ (e ≡ TooLong) → FrameFaultStands e text → ⊥

-- it is a frame, the end, or a fault of the text
abbrev pub IsDecided : Result (Option Frame) FrameFault → Type 0
IsDecided (Ok found) = Unit {0}
IsDecided (Err fault) = IsOfText fault

-- What reading a text gives is one, and so is where it ends, but for failed reads and refused memory.
abbrev pub ReadingsAreOne : Type 0
ReadingsAreOne =
    (text x y : List ℕ) (a b : Result (Option Frame) FrameFault) → IsDecided a → IsDecided b
    → ReadsFrame a text x → ReadsFrame b text y → (a ≡ b) × (x ≡ y)

-- After a failed read or refused memory, some of the frame's own bytes are not read yet.
abbrev pub FailsWithinTheFrame : Type 0
FailsWithinTheFrame =
    (f : Frame) (after rest : List ℕ) (e : FrameFault) → IsFrame f → (e ≡ Io) ⊎ (e ≡ OutOfMemory)
    → LeavesAfter e (frame_text f ++ after) rest → (left : List ℕ) × (0 < length left) × (rest ≡ left ++ after)

-- A frame that was cut by a failed write does not begin with a frame.
abbrev pub NoFrameInACutOne : Type 0
NoFrameInACutOne =
    (f g : Frame) (rest new : List ℕ) (e : FrameFault) → IsFrame f → IsFrame g → Writes (Err e) (frame_text f) [] new
    → new ≡ frame_text g ++ rest → ⊥
