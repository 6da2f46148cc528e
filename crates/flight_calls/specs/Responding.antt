-- What the parts of responding give: tools of the contracts of private functions.
use Rattle.std.specs.Prelude.{◌≡◌, ◌⊎◌, ℕ, List, Result, Ok, Err}
use Rattle.table_types.specs.Tables.{Outcome}
use Rattle.call_protocol.specs.declared.refusal.CallRefusal.{CallRefusal}
use Rattle.call_protocol.specs.declared.refusal.CallRefusal.TheVariants as refusals
use Rattle.call_protocol.specs.Texts.{messages_text}
use Rattle.call_reading.specs.Requests.{Request, puts}
use Rattle.flight_calls.specs.Replies.{BackAnswer, Reply, answers, refuses, RepliesOutcome}
use Rattle.flight_calls.specs.declared.outgoing.Outgoing.{Outgoing}
use Rattle.flight_calls.specs.Framing.{outgoing_text}
use Rattle.flight_calls.specs.Serving.{MayAnswer, Handed, Leaves, Stays, Responds, RepliesUnlessRefused, IsDue}

-- the frames are those of the reply's messages, or it is refused so
abbrev pub AnswersIn : Result Outgoing CallRefusal → Reply → Type 0
AnswersIn (Ok outgoing) reply =
    (messages : List (List ℕ)) × (reply ≡ answers messages) × (outgoing_text outgoing ≡ messages_text messages)
AnswersIn (Err refusal) reply = reply ≡ refuses refusal

-- what is told of the upload with this encoding, or memory for it was refused
abbrev pub TellsOutcome : List ℕ → Outcome → Result Outgoing CallRefusal → Type 0
TellsOutcome text outcome result =
    (reply : Reply) × (RepliesOutcome text outcome reply ⊎ (reply ≡ refuses refusals.OutOfMemory)) × AnswersIn result reply

-- the reply to what the backend answers of an upload that was put
abbrev pub DecidesBy : {B : Type 0} → MayAnswer B → List ℕ → B → Result Outgoing CallRefusal → Type 0
DecidesBy may text old result =
    (reply : Reply) × ((answer : BackAnswer) × may old (puts text) answer × RepliesUnlessRefused (puts text) answer reply)
    × AnswersIn result reply

-- the reply that is due to the request is in these frames, or is this refusal
abbrev pub RespondsBy : {B : Type 0} → MayAnswer B → Handed B → Leaves B → Stays B → Request → B → B → Result Outgoing CallRefusal → Type 0
RespondsBy may handed leaves stays request old new result =
    (reply : Reply) × Responds may handed leaves stays request old new reply × AnswersIn result reply

-- the reply that is due to a text that begins so is in these frames, or is this refusal
abbrev pub AnswersText : {B : Type 0} → MayAnswer B → Handed B → Leaves B → Stays B → B → B → Result Outgoing CallRefusal → List ℕ → List ℕ → Type 0
AnswersText may handed leaves stays old new result text rest =
    (reply : Reply) × IsDue may handed leaves stays text rest old new reply × AnswersIn result reply
