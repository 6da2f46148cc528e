-- One frame answered, or the end of a run.
use Rattle.std.proofs.Common.{◌≡◌, ℕ, true, false, List, [], ◌++◌, Option, Some, None, Result, Ok, Err, refl, sym, ap, subst, ◌∙◌, append-nil, inl, inr}
use Rattle.std.specs.Result.{is_err}
use Rattle.std.specs.Io.KnownBytes.{Keeps}
use Rattle.std.proofs.lemmas.Option.{none-some}
use Rattle.grpc_frames.specs.Frame.{Frame, IsFlag, frame_text}
use Rattle.grpc_frames.specs.FrameFaults.{WhereKnown, ReadsFrame, Writes}
use Rattle.grpc_frames.specs.declared.fault.FrameFault.{FrameFault}
use Rattle.ballots.specs.declared.message.Message.{Message}
use Rattle.ballots.specs.declared.message.Body.{Body}
use Rattle.ballots.specs.declared.message.Body.TheVariants as says
use Rattle.ballots.specs.declared.fault.MessageFault.{MessageFault}
use Rattle.ballots.specs.declared.fault.MessageFault.TheVariants.{OutOfMemory}
use Rattle.ballots.specs.Message.{IsMessageText, IsFaultOf, HasUpload, canonical}
use Rattle.acceptor.specs.Standing.{Standing}
use Rattle.acceptor_command.specs.declared.fault.AnswerFault.{AnswerFault}
use Rattle.acceptor_command.specs.declared.fault.AnswerFault.TheVariants as faults
use Rattle.acceptor_command.specs.Conversation.{Answers, AnswersBody, IsBodyGranted, IsGranted, IsRequest, reply_text}
use Rattle.acceptor_command.specs.Serving.{Replies, PayloadFault, FrameEnds, FrontEnds, Ends, Sends, AnswersFrame, Steps}

-- a flag that is not the one is the other
pub message_flag : (flag : ℕ) → IsFlag flag → (flag ≡ 128 → ⊥) → flag ≡ 0
message_flag flag (inl e) not_end = e
message_flag flag (inr e) not_end = absurd (not_end e)

-- ---- which messages are requests

-- what is promised or granted
granted_is_request : (now : Standing) (slot : ℕ) (body : Body) → IsBodyGranted now slot body → IsRequest body
granted_is_request now slot (says.Prepare ballot) h = tt
granted_is_request now slot (says.Accept proposal) h = tt
granted_is_request now slot (says.Promise ballot report) h = absurd h
granted_is_request now slot (says.Nack ballot promised) h = absurd h
granted_is_request now slot (says.Accepted acceptance) h = absurd h
granted_is_request now slot says.Ask h = absurd h
granted_is_request now slot (says.Decided value) h = absurd h

-- what has a reply
answered_is_request : (now next : Standing) (slot : ℕ) (body : Body) (reply : Message) → AnswersBody now slot body (Some reply) next → IsRequest body
answered_is_request now next slot (says.Prepare ballot) reply h = tt
answered_is_request now next slot (says.Accept proposal) reply h = tt
answered_is_request now next slot (says.Promise ballot report) reply h = absurd (none-some reply (sym h.0))
answered_is_request now next slot (says.Nack ballot promised) reply h = absurd (none-some reply (sym h.0))
answered_is_request now next slot (says.Accepted acceptance) reply h = absurd (none-some reply (sym h.0))
answered_is_request now next slot says.Ask reply h = absurd (none-some reply (sym h.0))
answered_is_request now next slot (says.Decided value) reply h = absurd (none-some reply (sym h.0))

-- ---- what a frame carries

-- the payload was not read as a message
pub misread : (now next : Standing) (f : Frame) (payload : List ℕ) (r : Result Message MessageFault) (fault : MessageFault) → f.flag ≡ 0 → payload ≡ f.payload → r ≡ Err fault → IsFaultOf payload fault
    → (r ≡ Err OutOfMemory → (m : Message) × IsMessageText payload m × HasUpload m) → (held : Option (List ℕ)) → WhereKnown held held (AnswersFrame (Err (faults.Message fault)) now next f)
misread now next f payload r fault flag same is stands memory None = tt
misread now next f payload r fault flag same is stands memory (Some held) =
    (flag, subst (λ (p : List ℕ). PayloadFault p fault) same (stands, λ e. memory (is ∙ ap (λ (x : MessageFault). Err x) e)), refl)

module _ (now next : Standing) (f : Frame) (payload : List ℕ) (m : Message) (flag : f.flag ≡ 0) (same : payload ≡ f.payload) (means : IsMessageText payload m) where
  carried : IsMessageText f.payload m
  carried = subst (λ (p : List ℕ). IsMessageText p m) same means

  -- no reply goes out
  pub answered_none : (held : Option (List ℕ)) → Answers now m None next → WhereKnown held held (AnswersFrame (Ok tt) now next f)
  answered_none None a = tt
  answered_none (Some held) a =
      ([], record { message = m; reply = None; flag = flag; means = carried; answers = a; out = refl }, sym (append-nil held))

  -- memory was refused for what the acceptor would hold and reply
  pub refused : (held : Option (List ℕ)) → IsGranted now m → WhereKnown held held (AnswersFrame (Err faults.OutOfMemory) now next f)
  refused None granted = tt
  refused (Some held) granted = (flag, m, carried, granted_is_request now m.slot m.body granted, refl)

  replies : (reply : Message) → Answers now m (Some reply) next → Replies now f reply
  replies reply a = record { message = m; next = next; flag = flag; means = carried; answers = a }

  sent : (r : Result (Unit {0}) AnswerFault) (reply : Message) (old new : List ℕ) → Answers now m (Some reply) next → Sends r reply old new → AnswersFrame r now next f old new
  sent (Ok done) reply old new a h =
      (reply_text (Some reply), record { message = m; reply = Some reply; flag = flag; means = carried; answers = a; out = refl }, h)
  sent (Err faults.AnswerTooLong) reply old new a h = (reply, replies reply a, h.0, h.1)
  sent (Err faults.Write) reply old new a h = (reply, h.0, replies reply a, h.1, h.2)
  sent (Err faults.OutOfMemory) reply old new a h = (flag, m, carried, answered_is_request now next m.slot m.body reply a, h)
  sent (Err faults.EndFlag) reply old new a h = absurd h
  sent (Err (faults.Message fault)) reply old new a h = absurd h
  sent (Err (faults.Frame fault)) reply old new a h = absurd h
  sent (Err faults.FrameLimit) reply old new a h = absurd h

  -- the reply goes out
  pub answered_some : (r : Result (Unit {0}) AnswerFault) (reply : Message) (old new : Option (List ℕ)) → Answers now m (Some reply) next → WhereKnown old new (Sends r reply) → WhereKnown old new (AnswersFrame r now next f)
  answered_some r reply None new a h = tt
  answered_some r reply (Some old) None a h = absurd h
  answered_some r reply (Some old) (Some new) a h = sent r reply old new a h

-- ---- a reply that was written

abbrev message_text : List ℕ → List ℕ
message_text payload = frame_text (let f : Frame = record { flag = 0; payload = payload } in f)

-- the whole frame went out, and the flush failed
pub whole_frame : (r : Result (Unit {0}) FrameFault) (reply : Message) (payload : List ℕ) (old mid new : Option (List ℕ)) → is_err r ≡ false → payload ≡ canonical reply
    → WhereKnown old mid (Writes r (frame_text (record { flag = 0; payload = payload }))) → Keeps mid new → WhereKnown old new (Sends (Err faults.Write) reply)
whole_frame (Err fault) reply payload old mid new e same h k = absurd (let wrong : true ≡ false = e in cc)
whole_frame (Ok done) reply payload None mid new e same h k = tt
whole_frame (Ok done) reply payload (Some xs) None new e same h k = absurd h
whole_frame (Ok done) reply payload (Some xs) (Some ys) None e same h k = absurd k
whole_frame (Ok done) reply payload (Some xs) (Some ys) (Some zs) e same h k =
    (message_text (canonical reply), ([], append-nil (message_text (canonical reply))), k ∙ h ∙ ap (λ (p : List ℕ). xs ++ message_text p) same)

-- ---- a frame that was read

module _ (now : Standing) (f : Frame) (rest after old new : List ℕ) (front : rest ≡ frame_text f ++ after) where
  front_ends : (fault : AnswerFault) → FrameEnds fault now f old new → FrontEnds fault now rest after old new
  front_ends fault ends = record { frame = f; front = front; ends = ends }

  ends_front : (fault : AnswerFault) → FrameEnds fault now f old new → Ends fault 0 now rest after old new
  ends_front faults.EndFlag ends = front_ends faults.EndFlag ends
  ends_front (faults.Message fault) ends = front_ends (faults.Message fault) ends
  ends_front faults.AnswerTooLong ends = front_ends faults.AnswerTooLong ends
  ends_front faults.Write ends = front_ends faults.Write ends
  ends_front faults.OutOfMemory ends = front_ends faults.OutOfMemory ends
  ends_front (faults.Frame fault) ends = absurd ends
  ends_front faults.FrameLimit ends = absurd ends

-- the frame was answered
pub steps_on : (now next : Standing) (f : Frame) (rest after old new : Option (List ℕ)) → WhereKnown rest after (ReadsFrame (Ok (Some f))) → WhereKnown old new (AnswersFrame (Ok tt) now next f)
    → WhereKnown rest after (λ x y. WhereKnown old new (Steps (Ok true) now next x y))
steps_on now next f None after old new a b = tt
steps_on now next f (Some rest) None old new a b = absurd a
steps_on now next f (Some rest) (Some after) None new a b = tt
steps_on now next f (Some rest) (Some after) (Some old) None a b = absurd b
steps_on now next f (Some rest) (Some after) (Some old) (Some new) a b = record { frame = f; text = b.0; front = a.1; turn = b.1; out = b.2 }

-- the frame ended the run
pub steps_out : (fault : AnswerFault) (now next : Standing) (f : Frame) (rest after old new : Option (List ℕ)) → WhereKnown rest after (ReadsFrame (Ok (Some f))) → WhereKnown old new (AnswersFrame (Err fault) now next f)
    → WhereKnown rest after (λ x y. WhereKnown old new (Steps (Err fault) now next x y))
steps_out fault now next f None after old new a b = tt
steps_out fault now next f (Some rest) None old new a b = absurd a
steps_out fault now next f (Some rest) (Some after) None new a b = tt
steps_out fault now next f (Some rest) (Some after) (Some old) None a b = absurd b
steps_out fault now next f (Some rest) (Some after) (Some old) (Some new) a b = ends_front now f rest after old new a.1 fault b

-- no frame was there
pub steps_over : (now : Standing) (rest after held : Option (List ℕ)) → WhereKnown rest after (ReadsFrame (Ok None)) → WhereKnown rest after (λ x y. WhereKnown held held (Steps (Ok false) now now x y))
steps_over now None after held a = tt
steps_over now (Some rest) None held a = absurd a
steps_over now (Some rest) (Some after) None a = tt
steps_over now (Some rest) (Some after) (Some held) a = (a.0, a.1, refl)

-- no frame could be read
pub steps_into : (fault : FrameFault) (now : Standing) (rest after held : Option (List ℕ)) → WhereKnown rest after (ReadsFrame (Err fault)) → WhereKnown rest after (λ x y. WhereKnown held held (Steps (Err (faults.Frame fault)) now now x y))
steps_into fault now None after held a = tt
steps_into fault now (Some rest) None held a = absurd a
steps_into fault now (Some rest) (Some after) None a = tt
steps_into fault now (Some rest) (Some after) (Some held) a = (a.0, a.1, refl)
