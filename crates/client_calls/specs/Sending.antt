-- What sending some bytes gives: a tool of the contracts of private functions.
use Rattle.std.specs.Prelude.{◌≡◌, ℕ, List, ◌++◌, Vec, Result, Ok, Err}
use Rattle.std.specs.declared.alloc.Global.{Global}
use Rattle.grpc_frames.specs.FrameFaults.{IsBeginning}
use Rattle.call_protocol.specs.declared.call_fault.CallFault.{CallFault}
use Rattle.call_protocol.specs.declared.call_fault.CallFault.TheVariants as calls

-- a beginning of the text has gone out
abbrev pub SendsPart : List ℕ → List ℕ → List ℕ → Type 0
SendsPart text old new = (written : List ℕ) × IsBeginning written text × (new ≡ old ++ written)

-- all of the text has gone out; or, where a write failed or memory was refused, a beginning of it
abbrev pub Sends : Result (Unit {0}) CallFault → List ℕ → List ℕ → List ℕ → Type 0
Sends (Ok done) text old new = new ≡ old ++ text
Sends (Err calls.Write) text old new = SendsPart text old new
Sends (Err calls.OutOfMemory) text old new = SendsPart text old new
Sends (Err calls.Read) text old new = ⊥

-- the bytes are this text, or memory was refused
abbrev pub IsText : List ℕ → Result (Vec ℕ Global) CallFault → Type 0
IsText text (Ok bytes) = bytes.items ≡ text
IsText text (Err fault) = fault ≡ calls.OutOfMemory
