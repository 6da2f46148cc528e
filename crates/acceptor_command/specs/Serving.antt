-- What a run of the acceptor over a whole input gives.
use Rattle.std.specs.Prelude.{◌≡◌, ℕ, ◌<◌, ◌⊎◌, Bool, true, false, List, [], ◌++◌, length, Some, Result, Ok, Err}
use Rattle.std.specs.List.{flat_map}
use Rattle.grpc_frames.specs.Frame.{Frame, frame_text, payload_limit}
use Rattle.grpc_frames.specs.FrameFaults.{FrameFaultStands, LeavesAfter, IsBeginning}
use Rattle.ballots.specs.declared.message.Message.{Message}
use Rattle.ballots.specs.declared.fault.MessageFault.{MessageFault}
use Rattle.ballots.specs.declared.fault.MessageFault.TheVariants.{OutOfMemory}
use Rattle.ballots.specs.Message.{IsMessageText, IsFaultOf, HasUpload, canonical}
use Rattle.acceptor.specs.Standing.{Standing, IsFresh}
use Rattle.acceptor_command.specs.declared.fault.AnswerFault.{AnswerFault}
use Rattle.acceptor_command.specs.declared.fault.AnswerFault.TheVariants as faults
use Rattle.acceptor_command.specs.Conversation.{Answers, IsRequest, message_frame, Turn, Turns}

-- the most frames that a run answers
abbrev pub frame_limit : ℕ
frame_limit = 1000000

-- the texts, one after the other
abbrev pub joined : List (List ℕ) → List ℕ
joined texts = flat_map (λ text. text) texts

-- the text begins with these frames, which a fresh acceptor answers so, and this is left
pub record Served (text : List ℕ) (frames : List Frame) (texts : List (List ℕ)) (now : Standing) (rest : List ℕ) : Type 0 where
  pub parts : text ≡ flat_map frame_text frames ++ rest
  pub start : Standing
  pub fresh : IsFresh start
  pub turns : Turns start frames texts now

-- the frame carries a message that is answered with this one
pub record Replies (now : Standing) (f : Frame) (reply : Message) : Type 0 where
  pub message : Message
  pub next : Standing
  pub flag : f.flag ≡ 0
  pub means : IsMessageText f.payload message
  pub answers : Answers now message (Some reply) next

-- The fault stands in the payload, or memory was refused, and that only for the upload of a message that it means.
abbrev pub PayloadFault : List ℕ → MessageFault → Type 0
PayloadFault payload fault =
    IsFaultOf payload fault × (fault ≡ OutOfMemory → (m : Message) × IsMessageText payload m × HasUpload m)

-- Why a frame ends a run, and what went out by then: nothing of a reply, but for a beginning of one where a write failed.
-- Memory beside that for an upload is asked for only where the frame carries a Prepare or an Accept.
abbrev pub FrameEnds : AnswerFault → Standing → Frame → List ℕ → List ℕ → Type 0
FrameEnds faults.EndFlag now f old new = (f.flag ≡ 128) × (new ≡ old)
FrameEnds (faults.Message fault) now f old new = (f.flag ≡ 0) × PayloadFault f.payload fault × (new ≡ old)
FrameEnds faults.AnswerTooLong now f old new =
    (reply : Message) × Replies now f reply × (payload_limit < length (canonical reply)) × (new ≡ old)
FrameEnds faults.Write now f old new =
    (reply : Message) × (written : List ℕ) × Replies now f reply × IsBeginning written (frame_text (message_frame reply))
    × (new ≡ old ++ written)
FrameEnds faults.OutOfMemory now f old new =
    (f.flag ≡ 0) × (m : Message) × IsMessageText f.payload m × IsRequest m.body × (new ≡ old)
FrameEnds (faults.Frame fault) now f old new = ⊥
FrameEnds faults.FrameLimit now f old new = ⊥

-- a frame stands at the front, which ends the run, and this is left behind it
pub record FrontEnds (fault : AnswerFault) (now : Standing) (rest after old new : List ℕ) : Type 0 where
  pub frame : Frame
  pub front : rest ≡ frame_text frame ++ after
  pub ends : FrameEnds fault now frame old new

-- Why a run ended where this was left, with n frames answered before; what the reader has left after that, and what went
-- out for the next frame.
abbrev pub Ends : AnswerFault → ℕ → Standing → List ℕ → List ℕ → List ℕ → List ℕ → Type 0
Ends (faults.Frame fault) n now rest after old new = FrameFaultStands fault rest × LeavesAfter fault rest after × (new ≡ old)
Ends faults.FrameLimit n now rest after old new = (n ≡ frame_limit) × (after ≡ rest) × (new ≡ old)
Ends faults.EndFlag n now rest after old new = FrontEnds faults.EndFlag now rest after old new
Ends (faults.Message fault) n now rest after old new = FrontEnds (faults.Message fault) now rest after old new
Ends faults.AnswerTooLong n now rest after old new = FrontEnds faults.AnswerTooLong now rest after old new
Ends faults.Write n now rest after old new = FrontEnds faults.Write now rest after old new
Ends faults.OutOfMemory n now rest after old new = FrontEnds faults.OutOfMemory now rest after old new

-- So far a run over the text has answered n frames, this is left, and the answers have gone out.
pub record SoFar (n : ℕ) (now : Standing) (text rest old new : List ℕ) : Type 0 where
  pub frames : List Frame
  pub texts : List (List ℕ)
  pub served : Served text frames texts now rest
  pub count : length frames ≡ n
  pub out : new ≡ old ++ joined texts

-- The whole input is frames that were answered, fewer than the limit, and nothing of it is left.
pub record ServesToTheEnd (text rest old new : List ℕ) : Type 0 where
  pub n : ℕ
  pub now : Standing
  pub all : SoFar n now text [] old new
  pub left : rest ≡ []
  pub within : n < frame_limit

-- The first n frames were answered, and then this is wrong. Every fault but that of too many frames comes before the limit.
pub record ServesUpTo (n : ℕ) (fault : AnswerFault) (text after old new : List ℕ) : Type 0 where
  pub now : Standing
  pub rest : List ℕ
  pub mid : List ℕ
  pub before : SoFar n now text rest old mid
  pub ends : Ends fault n now rest after mid new
  pub within : (fault ≡ faults.FrameLimit) ⊎ (n < frame_limit)

-- what a run over this text gives, with what is left of it, and what the writer held before and holds afterwards
abbrev pub Serves : Result (Unit {0}) (ℕ × AnswerFault) → List ℕ → List ℕ → List ℕ → List ℕ → Type 0
Serves (Ok done) text rest old new = ServesToTheEnd text rest old new
Serves (Err e) text rest old new = ServesUpTo e.0 e.1 text rest old new

-- one frame more: there was none, it was answered, or it ended the run
pub record FrontTurn (now next : Standing) (rest after old new : List ℕ) : Type 0 where
  pub frame : Frame
  pub text : List ℕ
  pub front : rest ≡ frame_text frame ++ after
  pub turn : Turn now frame text next
  pub out : new ≡ old ++ text

abbrev pub Steps : Result Bool AnswerFault → Standing → Standing → List ℕ → List ℕ → List ℕ → List ℕ → Type 0
Steps (Ok true) now next rest after old new = FrontTurn now next rest after old new
Steps (Ok false) now next rest after old new = (rest ≡ []) × (after ≡ []) × (new ≡ old)
Steps (Err fault) now next rest after old new = Ends fault 0 now rest after old new

-- what sending a reply gives
abbrev pub Sends : Result (Unit {0}) AnswerFault → Message → List ℕ → List ℕ → Type 0
Sends (Ok done) reply old new = new ≡ old ++ frame_text (message_frame reply)
Sends (Err faults.AnswerTooLong) reply old new = (payload_limit < length (canonical reply)) × (new ≡ old)
Sends (Err faults.Write) reply old new =
    (written : List ℕ) × IsBeginning written (frame_text (message_frame reply)) × (new ≡ old ++ written)
Sends (Err faults.OutOfMemory) reply old new = new ≡ old
Sends (Err other) reply old new = ⊥

-- what answering a frame gives
abbrev pub AnswersFrame : Result (Unit {0}) AnswerFault → Standing → Standing → Frame → List ℕ → List ℕ → Type 0
AnswersFrame (Ok done) now next f old new = (text : List ℕ) × Turn now f text next × (new ≡ old ++ text)
AnswersFrame (Err fault) now next f old new = FrameEnds fault now f old new

-- after some frames some fault ended the run
abbrev pub ServesUpToSome : List ℕ → List ℕ → List ℕ → List ℕ → Type 0
ServesUpToSome text rest old new = (n : ℕ) × (fault : AnswerFault) × ServesUpTo n fault text rest old new
