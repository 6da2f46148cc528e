-- What reading and writing a frame gives, and where a reader or a writer then stands.
use Rattle.std.specs.Prelude.{◌≡◌, ◌≢◌, ℕ, ◌^◌, ◌<◌, ◌≤◌, ◌⊎◌, List, [], ◌++◌, length, drop}
use Rattle.std.specs.Prelude.{Option, Some, None, Result, Ok, Err}
use Rattle.grpc_frames.specs.declared.fault.FrameFault.{FrameFault}
use Rattle.grpc_frames.specs.declared.fault.FrameFault.TheVariants.{
  Truncated,
  BadFlag,
  Compressed,
  TooLong,
  Io,
  OutOfMemory,
}
use Rattle.grpc_frames.specs.Frame.{Frame, header_text, frame_text, payload_limit, IsFlag, IsFrame}

-- the text begins with the five bytes of a frame with this flag and length
pub record BeginsFrame (text : List ℕ) (flag n : ℕ) (rest : List ℕ) : Type 0 where
  pub parts : text ≡ header_text flag n ++ rest
  pub fits : n < 2 ^ 32

-- the text begins with five bytes that announce a payload of n bytes, and flag and length are allowed
pub record Announces (text : List ℕ) (n : ℕ) (rest : List ℕ) : Type 0 where
  pub flag : ℕ
  pub header : BeginsFrame text flag n rest
  pub allowed : IsFlag flag
  pub limit : n ≤ payload_limit

-- What is wrong with a text that does not begin with a frame: the flag is judged first, then the length, and then how
-- much of the payload is there. A failed read may come with any text; memory is asked for where a payload is announced.
abbrev pub FrameFaultStands : FrameFault → List ℕ → Type 0
FrameFaultStands Truncated text =
    ((0 < length text) × (length text < 5)) ⊎ ((n : ℕ) × (rest : List ℕ) × Announces text n rest × (length rest < n))
FrameFaultStands BadFlag text =
    (flag n : ℕ) × (rest : List ℕ) × BeginsFrame text flag n rest × (flag ≢ 0) × (flag ≢ 1) × (flag ≢ 128)
FrameFaultStands Compressed text = (n : ℕ) × (rest : List ℕ) × BeginsFrame text 1 n rest
FrameFaultStands TooLong text =
    (flag n : ℕ) × (rest : List ℕ) × BeginsFrame text flag n rest × IsFlag flag × (payload_limit < n)
FrameFaultStands Io text = Unit {0}
FrameFaultStands OutOfMemory text = (n : ℕ) × (rest : List ℕ) × Announces text n rest × (0 < n)

-- fewer than n bytes of the text were read, and this is left
abbrev pub ReadsFewer : ℕ → List ℕ → List ℕ → Type 0
ReadsFewer n text rest = (taken : List ℕ) × (text ≡ taken ++ rest) × (length taken < n)

-- the five bytes that announce a payload were read, and fewer than it has behind them
abbrev pub StopsInPayload : List ℕ → List ℕ → Type 0
StopsInPayload text rest = (n : ℕ) × (payload : List ℕ) × Announces text n payload × ReadsFewer n payload rest

-- What is left of a text after a fault: nothing where it was too short, what follows the five bytes that are wrong, and
-- some of the frame's own bytes at least where a read failed or memory was refused.
abbrev pub LeavesAfter : FrameFault → List ℕ → List ℕ → Type 0
LeavesAfter Truncated text rest = rest ≡ []
LeavesAfter BadFlag text rest = rest ≡ drop 5 text
LeavesAfter Compressed text rest = rest ≡ drop 5 text
LeavesAfter TooLong text rest = rest ≡ drop 5 text
LeavesAfter Io text rest = ReadsFewer 5 text rest ⊎ StopsInPayload text rest
LeavesAfter OutOfMemory text rest = StopsInPayload text rest

-- what reading a frame from this text gives, with the rest that is left
abbrev pub ReadsFrame : Result (Option Frame) FrameFault → List ℕ → List ℕ → Type 0
ReadsFrame (Ok None) text rest = (text ≡ []) × (rest ≡ [])
ReadsFrame (Ok (Some f)) text rest = IsFrame f × (text ≡ frame_text f ++ rest)
ReadsFrame (Err fault) text rest = FrameFaultStands fault text × LeavesAfter fault text rest

-- Where known bytes are told before and after, this holds of them.
abbrev pub WhereKnown : Option (List ℕ) → Option (List ℕ) → (List ℕ → List ℕ → Type 0) → Type 0
WhereKnown None new P = Unit {0}
WhereKnown (Some old) None P = ⊥
WhereKnown (Some old) (Some new) P = P old new

-- it is this answer, or a read failed
abbrev pub IsUnlessFailed : {A : Type 0} → Result A FrameFault → Result A FrameFault → Type 0
IsUnlessFailed r answer = (r ≡ answer) ⊎ (r ≡ Err Io)

-- it is this answer, or a read failed, or memory was refused
abbrev pub IsUnlessRefused : {A : Type 0} → Result A FrameFault → A → Type 0
IsUnlessRefused r x = (r ≡ Ok x) ⊎ (r ≡ Err Io) ⊎ (r ≡ Err OutOfMemory)

-- it is this fault, or a read failed, or memory was refused
abbrev pub IsFaultUnlessRefused : {A : Type 0} → Result A FrameFault → FrameFault → Type 0
IsFaultUnlessRefused r fault = (r ≡ Err fault) ⊎ (r ≡ Err Io) ⊎ (r ≡ Err OutOfMemory)

-- what went out is a beginning of the text
abbrev pub IsBeginning : List ℕ → List ℕ → Type 0
IsBeginning written text = (more : List ℕ) × (written ++ more ≡ text)

-- what writing this text to a writer left there: all of it, or after a fault less than all
abbrev pub Writes : Result (Unit {0}) FrameFault → List ℕ → List ℕ → List ℕ → Type 0
Writes (Ok done) text old new = new ≡ old ++ text
Writes (Err fault) text old new =
    (written : List ℕ) × (new ≡ old ++ written) × IsBeginning written text × (length written < length text)
