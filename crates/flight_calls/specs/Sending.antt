-- What sending some bytes gives: a tool of the contracts of private functions.
use Rattle.std.specs.Prelude.{◌≡◌, ◌≢◌, ℕ, List, ◌++◌, Result, Ok, Err}
use Rattle.grpc_frames.specs.FrameFaults.{IsBeginning}
use Rattle.call_protocol.specs.declared.call_fault.CallFault.{CallFault}
use Rattle.call_protocol.specs.declared.call_fault.CallFault.TheVariants as faults
use Rattle.flight_calls.specs.Replies.{Reply, reply_text}
use Rattle.flight_calls.specs.Serving.{read_failed}

-- all of the text has gone out; or, where a write failed, a beginning of it
abbrev pub Sends : Result (Unit {0}) CallFault → List ℕ → List ℕ → List ℕ → Type 0
Sends (Ok done) text old new = new ≡ old ++ text
Sends (Err faults.Write) text old new =
    (written : List ℕ) × IsBeginning written text × (new ≡ old ++ written)
Sends (Err faults.Read) text old new = ⊥
Sends (Err faults.OutOfMemory) text old new = ⊥

-- the same of a reply's text, where it is told that a read failed
abbrev pub SendsReply : Result (Unit {0}) CallFault → Reply → List ℕ → List ℕ → Type 0
SendsReply (Ok done) reply old new = (reply ≢ read_failed) × (new ≡ old ++ reply_text reply)
SendsReply (Err faults.Read) reply old new = (reply ≡ read_failed) × (new ≡ old ++ reply_text reply)
SendsReply (Err faults.Write) reply old new =
    (written : List ℕ) × IsBeginning written (reply_text reply) × (new ≡ old ++ written)
SendsReply (Err faults.OutOfMemory) reply old new = ⊥
