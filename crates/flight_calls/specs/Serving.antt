-- What serving one call gives, over a reader, a writer and a backend that tell what they hold: Apache Arrow, "Arrow Flight
-- RPC", "RPC Methods and Request Patterns".
use Rattle.std.specs.Prelude.{◌≡◌, ◌≢◌, ◌⊎◌, ℕ, List, [], ◌∷◌, ◌++◌, Result, Ok, Err}
use Rattle.grpc_frames.specs.FrameFaults.{IsBeginning}
use Rattle.grpc_frames.specs.declared.fault.FrameFault.TheVariants as frames
use Rattle.call_protocol.specs.declared.back_fault.BackFault.{BackFault}
use Rattle.call_protocol.specs.declared.back_fault.BackFault.TheVariants as backs
use Rattle.call_protocol.specs.declared.refusal.CallRefusal.{CallRefusal}
use Rattle.call_protocol.specs.declared.refusal.CallRefusal.TheVariants as refusals
use Rattle.call_protocol.specs.declared.call_fault.CallFault.{CallFault}
use Rattle.call_protocol.specs.declared.call_fault.CallFault.TheVariants as faults
use Rattle.call_reading.specs.Requests.{Request, describes, shows, lists, serves, puts, IsCall}
use Rattle.call_reading.specs.Faults.{RefusalStands}
use Rattle.flight_calls.specs.Replies.{BackAnswer, failed, Reply, refuses, reply_text, Replies}

-- What a backend may answer to a request, which uploads it was handed, what a put may leave, and what a call may leave by which
-- it takes nothing.
abbrev pub MayAnswer : Type 0 → Type 1
MayAnswer B = B → Request → BackAnswer → Type 0

abbrev pub Handed : Type 0 → Type 0
Handed B = B → List (List ℕ)

abbrev pub Leaves : Type 0 → Type 1
Leaves B = B → List ℕ → B → Type 0

abbrev pub Stays : Type 0 → Type 1
Stays B = B → B → Type 0

-- the reply to what was answered; or memory for it was refused
abbrev pub RepliesUnlessRefused : Request → BackAnswer → Reply → Type 0
RepliesUnlessRefused request answer reply = Replies request answer reply ⊎ (reply ≡ refuses refusals.OutOfMemory)

-- the backend answered this request, was handed no upload, and took nothing
pub record Asks {B : Type 0} (may : MayAnswer B) (handed : Handed B) (stays : Stays B) (request : Request) (old new : B) (reply : Reply)
    : Type 0 where
  pub answer : BackAnswer
  pub may_answer : may old request answer
  pub replies : RepliesUnlessRefused request answer reply
  pub hands_nothing : handed new ≡ handed old
  pub takes_nothing : stays old new

-- the put failed, and nothing was taken; or it left this backend, which was then asked what became of the upload
abbrev pub PutsThenAsks : {B : Type 0} → MayAnswer B → Leaves B → Stays B → List ℕ → B → B → Reply → Type 0
PutsThenAsks {B} may leaves stays text old new reply =
    ((fault : BackFault) × may old (puts text) (failed fault) × stays old new × (reply ≡ refuses (refusals.Back fault)))
    ⊎ ((mid : B) × leaves old text mid × stays mid new
    × ((answer : BackAnswer) × may mid (puts text) answer × RepliesUnlessRefused (puts text) answer reply))

-- the upload was handed over, and no other; where memory was refused it may not have been
abbrev pub Hands : {B : Type 0} → Handed B → List ℕ → B → B → Reply → Type 0
Hands handed text old new reply =
    (handed new ≡ handed old ++ text ∷ [])
    ⊎ ((reply ≡ refuses (refusals.Back backs.OutOfMemory)) × (handed new ≡ handed old))

-- nothing was handed over, or one upload
abbrev pub HandsOneAtMost : {B : Type 0} → Handed B → B → B → Type 0
HandsOneAtMost handed old new = (handed new ≡ handed old) ⊎ ((text : List ℕ) × (handed new ≡ handed old ++ text ∷ []))

-- the backend was handed this upload, and no other
pub record Puts {B : Type 0} (may : MayAnswer B) (handed : Handed B) (leaves : Leaves B) (stays : Stays B) (text : List ℕ) (old new : B)
    (reply : Reply) : Type 0 where
  pub replies : PutsThenAsks may leaves stays text old new reply
  pub hands : Hands handed text old new reply

abbrev pub Responds : {B : Type 0} → MayAnswer B → Handed B → Leaves B → Stays B → Request → B → B → Reply → Type 0
Responds may handed leaves stays (describes table) old new reply = Asks may handed stays (describes table) old new reply
Responds may handed leaves stays (shows table) old new reply = Asks may handed stays (shows table) old new reply
Responds may handed leaves stays lists old new reply = Asks may handed stays lists old new reply
Responds may handed leaves stays (serves asked) old new reply = Asks may handed stays (serves asked) old new reply
Responds may handed leaves stays (puts text) old new reply = Puts may handed leaves stays text old new reply

-- The reply that is due to a text that begins so, of which this is left: what the backend answers to the call that the
-- text begins with, or the fault that stands in it, of which the backend hears nothing.
abbrev pub IsDue : {B : Type 0} → MayAnswer B → Handed B → Leaves B → Stays B → List ℕ → List ℕ → B → B → Reply → Type 0
IsDue may handed leaves stays text rest old new reply =
    ((refusal : CallRefusal) × RefusalStands refusal text rest × (new ≡ old) × (reply ≡ refuses refusal))
    ⊎ ((request : Request) × IsCall text request rest × Responds may handed leaves stays request old new reply)

-- what a read that failed is answered
abbrev pub read_failed : Reply
read_failed = refuses (refusals.Frame frames.Io)

-- What serving a call gives: the reply that is due has gone out; or it is that a read failed; or a write failed, and a
-- beginning of it has gone out.
abbrev pub Serves : {B : Type 0} → MayAnswer B → Handed B → Leaves B → Stays B → Result (Unit {0}) CallFault → B → B → List ℕ → List ℕ → List ℕ → List ℕ → Type 0
Serves may handed leaves stays (Ok done) old new text rest before after =
    (reply : Reply) × IsDue may handed leaves stays text rest old new reply × (reply ≢ read_failed) × (after ≡ before ++ reply_text reply)
Serves may handed leaves stays (Err faults.Read) old new text rest before after =
    IsDue may handed leaves stays text rest old new read_failed × (after ≡ before ++ reply_text read_failed)
Serves may handed leaves stays (Err faults.Write) old new text rest before after =
    (reply : Reply) × IsDue may handed leaves stays text rest old new reply
    × ((written : List ℕ) × IsBeginning written (reply_text reply) × (after ≡ before ++ written))
Serves may handed leaves stays (Err faults.OutOfMemory) old new text rest before after = ⊥
