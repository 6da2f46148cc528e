use Rattle.std.proofs.Common.{◌≡◌, ◌≢◌, ℕ, List, refl, ap, subst, ◌∙◌, arith}
use Rattle.grpc_frames.specs.Frame.{Frame}
use Rattle.ballots.specs.declared.message.Message.{Message}
use Rattle.ballots.specs.declared.message.Body.TheVariants as says
use Rattle.ballots.specs.declared.fault.MessageFault.TheVariants.{OutOfMemory}
use Rattle.ballots.specs.Message.{IsMessageText, CarriesUpload}
use Rattle.acceptor.specs.Standing.{Standing}
use Rattle.acceptor_command.specs.declared.fault.AnswerFault.{AnswerFault}
use Rattle.acceptor_command.specs.declared.fault.AnswerFault.TheVariants as faults
use Rattle.acceptor_command.specs.Conversation.{IsRequest}
use Rattle.acceptor_command.specs.Serving.{FrameEnds}
use Rattle.acceptor_command.proofs.laws.faults_stand_at_their_frames.Goals as goal

module _ (now : Standing) (f : Frame) (old new : List ℕ) where
  end_flag : (fault : AnswerFault) → FrameEnds fault now f old new → f.flag ≡ 128 → fault ≡ faults.EndFlag
  end_flag faults.EndFlag h e = refl
  end_flag (faults.Message fault) h e = absurd (omega (arith, e, h.0))
  end_flag faults.AnswerTooLong h e = absurd (omega (arith, e, h.1.flag))
  end_flag faults.Write h e = absurd (omega (arith, e, h.2.flag))
  end_flag faults.OutOfMemory h e = absurd (omega (arith, e, h.0))
  end_flag (faults.Frame fault) h e = absurd h
  end_flag faults.FrameLimit h e = absurd h

  silent : (fault : AnswerFault) → FrameEnds fault now f old new → fault ≢ faults.Write → new ≡ old
  silent faults.EndFlag h other = h.1
  silent (faults.Message fault) h other = h.2
  silent faults.AnswerTooLong h other = h.3
  silent faults.Write h other = absurd (other refl)
  silent faults.OutOfMemory h other = h.4
  silent (faults.Frame fault) h other = absurd h
  silent faults.FrameLimit h other = absurd h

pub returns-clause-end_flag : goal.returns-clause-end_flag
returns-clause-end_flag g = λ fault now f old new h.
    ((λ e. (subst (λ (x : AnswerFault). FrameEnds x now f old new) e h).0), end_flag now f old new fault h)

pub returns-clause-silent : goal.returns-clause-silent
returns-clause-silent g = λ fault now f old new h. silent now f old new fault h

abbrev MessagesAreOne : Type 0
MessagesAreOne = (text : List ℕ) (m n : Message) → IsMessageText text m → IsMessageText text n → m ≡ n

module _ (one : MessagesAreOne) (now : Standing) (f : Frame) (old new : List ℕ) (m : Message) (means : IsMessageText f.payload m) (is_ask : m.body ≡ says.Ask) where
  -- whatever message the payload means is an Ask
  asks : (n : Message) → IsMessageText f.payload n → n.body ≡ says.Ask
  asks n read = ap (λ (x : Message). x.body) (one f.payload n m read means) ∙ is_ask

  no_request : FrameEnds faults.OutOfMemory now f old new → ⊥
  no_request h = subst IsRequest (asks h.1 h.2) h.3

  no_upload : (CarriesUpload says.Ask → ⊥) → FrameEnds (faults.Message OutOfMemory) now f old new → ⊥
  no_upload none h = let found = h.1.1 refl in none (subst CarriesUpload (asks found.0 found.1) found.2)

pub returns-clause-ask : goal.returns-clause-ask
returns-clause-ask c = λ fault now f old new m h means is_ask. (
  (λ e. no_request c.messages_are_one.ensures now f old new m means is_ask (subst (λ (x : AnswerFault). FrameEnds x now f old new) e h)),
  (λ e.
      no_upload c.messages_are_one.ensures now f old new m means is_ask c.only_uploads_take_memory.ensures.ask
      (subst (λ (x : AnswerFault). FrameEnds x now f old new) e h)),
)
