-- What node 0 answers as an acceptor, over a whole list of frames: Lamport, "Paxos Made Simple", section 2.2. A standing
-- says what each slot has promised and accepted; this is about no code's lists.
use Rattle.std.specs.Prelude.{◌≡◌, ℕ, ◌⊎◌, List, [], ◌∷◌, Option, Some, None}
use Rattle.grpc_frames.specs.Frame.{Frame, frame_text}
use Rattle.ballots.specs.declared.acceptance.Acceptance.{Acceptance}
use Rattle.ballots.specs.declared.message.Message.{Message}
use Rattle.ballots.specs.declared.message.Body.{Body}
use Rattle.ballots.specs.declared.message.Body.TheVariants as says
use Rattle.ballots.specs.Ballot.{Ballot, IsAbove, IsAtLeast}
use Rattle.ballots.specs.Message.{message, IsMessageText, canonical}
use Rattle.acceptor.specs.declared.answer.Answer.{Answer}
use Rattle.acceptor.specs.declared.answer.Answer.TheVariants.{Promise, PromiseFrom, Granted, Nack}
use Rattle.acceptor.specs.Standing.{Standing, IsSame}
use Rattle.acceptor.specs.Answering.{Prepares, Accepts}

-- the number of the node that answers
abbrev pub own_number : ℕ
own_number = 0

-- what the node that answers says of a slot
abbrev pub own_message : ℕ → Body → Message
own_message slot body = message own_number slot body

-- the message that brings an acceptor's answer to a Prepare, and to an Accept
abbrev pub prepare_reply : ℕ → Ballot → Answer → Option Message
prepare_reply slot ballot (Promise report) = Some (own_message slot (says.Promise ballot report))
prepare_reply slot ballot (Nack promised) = Some (own_message slot (says.Nack ballot promised))
prepare_reply slot ballot Granted = None
prepare_reply slot ballot (PromiseFrom reports) = None

abbrev pub accept_reply : ℕ → Acceptance → Answer → Option Message
accept_reply slot proposal Granted = Some (own_message slot (says.Accepted proposal))
accept_reply slot proposal (Nack promised) = Some (own_message slot (says.Nack proposal.ballot promised))
accept_reply slot proposal (Promise report) = None
accept_reply slot proposal (PromiseFrom reports) = None

abbrev pub RepliesToPrepare : Standing → ℕ → Ballot → Option Message → Standing → Type 0
RepliesToPrepare old slot ballot reply new =
    (answer : Answer) × Prepares old new slot ballot answer × (reply ≡ prepare_reply slot ballot answer)

abbrev pub RepliesToAccept : Standing → ℕ → Acceptance → Option Message → Standing → Type 0
RepliesToAccept old slot proposal reply new =
    (answer : Answer) × Accepts old new slot proposal answer × (reply ≡ accept_reply slot proposal answer)

-- a Prepare and an Accept for the slot are answered as the acceptor does, and no other message is
abbrev pub AnswersBody : Standing → ℕ → Body → Option Message → Standing → Type 0
AnswersBody old slot (says.Prepare ballot) reply new = RepliesToPrepare old slot ballot reply new
AnswersBody old slot (says.Accept proposal) reply new = RepliesToAccept old slot proposal reply new
AnswersBody old slot (says.Promise ballot report) reply new = (reply ≡ None) × IsSame old new
AnswersBody old slot (says.Nack ballot promised) reply new = (reply ≡ None) × IsSame old new
AnswersBody old slot (says.Accepted acceptance) reply new = (reply ≡ None) × IsSame old new
AnswersBody old slot says.Ask reply new = (reply ≡ None) × IsSame old new
AnswersBody old slot (says.Decided value) reply new = (reply ≡ None) × IsSame old new

-- the two kinds that an acceptor answers
abbrev pub IsRequest : Body → Type 0
IsRequest (says.Prepare ballot) = Unit {0}
IsRequest (says.Accept proposal) = Unit {0}
IsRequest (says.Promise ballot report) = ⊥
IsRequest (says.Nack ballot promised) = ⊥
IsRequest (says.Accepted acceptance) = ⊥
IsRequest says.Ask = ⊥
IsRequest (says.Decided value) = ⊥

-- whoever sends it
abbrev pub Answers : Standing → Message → Option Message → Standing → Type 0
Answers old m reply new = AnswersBody old m.slot m.body reply new

-- a Prepare that is promised, or an Accept that is granted
abbrev pub IsBodyGranted : Standing → ℕ → Body → Type 0
IsBodyGranted old slot (says.Prepare ballot) = IsAbove ballot (old.promised slot)
IsBodyGranted old slot (says.Accept proposal) = IsAtLeast proposal.ballot (old.promised slot)
IsBodyGranted old slot (says.Promise ballot report) = ⊥
IsBodyGranted old slot (says.Nack ballot promised) = ⊥
IsBodyGranted old slot (says.Accepted acceptance) = ⊥
IsBodyGranted old slot says.Ask = ⊥
IsBodyGranted old slot (says.Decided value) = ⊥

abbrev pub IsGranted : Standing → Message → Type 0
IsGranted old m = IsBodyGranted old m.slot m.body

-- a Prepare is answered at its ballot by a Promise or a Nack, an Accept by an Accepted of the same or a Nack
abbrev pub IsReplyBody : Body → Body → Type 0
IsReplyBody (says.Prepare ballot) reply =
    ((report : Option Acceptance) × (reply ≡ says.Promise ballot report))
    ⊎ ((promised : Ballot) × (reply ≡ says.Nack ballot promised))
IsReplyBody (says.Accept proposal) reply =
    (reply ≡ says.Accepted proposal) ⊎ ((promised : Ballot) × (reply ≡ says.Nack proposal.ballot promised))
IsReplyBody (says.Promise ballot report) reply = ⊥
IsReplyBody (says.Nack ballot promised) reply = ⊥
IsReplyBody (says.Accepted acceptance) reply = ⊥
IsReplyBody says.Ask reply = ⊥
IsReplyBody (says.Decided value) reply = ⊥

-- this message answers that one: its slot is the same, and its sender is the node that answers
pub record IsReplyTo (m reply : Message) : Type 0 where
  pub sender_is : reply.sender ≡ own_number
  pub slot_is : reply.slot ≡ m.slot
  pub says_so : IsReplyBody m.body reply.body

abbrev pub message_frame : Message → Frame
message_frame m = record { flag = 0; payload = canonical m }

-- what goes out for a reply: its frame, or nothing
abbrev pub reply_text : Option Message → List ℕ
reply_text None = []
reply_text (Some reply) = frame_text (message_frame reply)

-- the frame carries a message that is answered so
pub record Turn (old : Standing) (f : Frame) (text : List ℕ) (new : Standing) : Type 0 where
  pub message : Message
  pub reply : Option Message
  pub flag : f.flag ≡ 0
  pub means : IsMessageText f.payload message
  pub answers : Answers old message reply new
  pub out : text ≡ reply_text reply

-- the frames are answered one after the other, and these texts go out
abbrev pub Turns : Standing → List Frame → List (List ℕ) → Standing → Type 0
Turns old [] [] new = old ≡ new
Turns old [] (text ∷ texts) new = ⊥
Turns old (f ∷ frames) [] new = ⊥
Turns old (f ∷ frames) (text ∷ texts) new = (mid : Standing) × Turn old f text mid × Turns mid frames texts new
