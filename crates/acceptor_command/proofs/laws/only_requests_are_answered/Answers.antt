use Rattle.std.proofs.Common.{◌≡◌, ℕ, Option, Some, None, refl, sym, ap, subst, inl, inr}
use Rattle.std.proofs.lemmas.Option.{same_Some}
use Rattle.ballots.specs.Ballot.{Ballot}
use Rattle.ballots.specs.declared.acceptance.Acceptance.{Acceptance}
use Rattle.ballots.specs.declared.message.Message.{Message}
use Rattle.ballots.specs.declared.message.Body.{Body}
use Rattle.ballots.specs.declared.message.Body.TheVariants as says
use Rattle.ballots.specs.Message.{message}
use Rattle.acceptor.specs.declared.answer.Answer.{Answer}
use Rattle.acceptor.specs.declared.answer.Answer.TheVariants.{Promise, PromiseFrom, Granted, Nack}
use Rattle.acceptor.specs.Standing.{Standing, IsSame}
use Rattle.acceptor_command.specs.Conversation.{AnswersBody, IsReplyBody, IsReplyTo, own_message, prepare_reply, accept_reply}
use Rattle.acceptor_command.proofs.laws.only_requests_are_answered.Goals as goal

asked : (old new : Standing) (slot : ℕ) (body : Body) (reply : Option Message) → body ≡ says.Ask → AnswersBody old slot body reply new → (reply ≡ None) × IsSame old new
asked old new slot body reply is answers = subst (λ (b : Body). AnswersBody old slot b reply new) is answers

pub returns-clause-ask : goal.returns-clause-ask
returns-clause-ask g = λ old new m reply is answers. asked old new m.slot m.body reply is answers

-- what the node says as a reply
replied : (m reply : Message) (b : Body) → Some reply ≡ Some (own_message m.slot b) → IsReplyBody m.body b → IsReplyTo m reply
replied m reply b e h =
    let is = same_Some reply (own_message m.slot b) e in
    record {
      sender_is = ap (λ (r : Message). r.sender) is;
      slot_is = ap (λ (r : Message). r.slot) is;
      says_so = subst (IsReplyBody m.body) (sym (ap (λ (r : Message). r.body) is)) h;
    }

prepared : (sender slot : ℕ) (b : Ballot) (reply : Message) (answer : Answer) → Some reply ≡ prepare_reply slot b answer → IsReplyTo (message sender slot (says.Prepare b)) reply
prepared p s b reply (Promise report) e = replied (message p s (says.Prepare b)) reply (says.Promise b report) e (inl (report, refl))
prepared p s b reply (Nack promised) e = replied (message p s (says.Prepare b)) reply (says.Nack b promised) e (inr (promised, refl))
prepared p s b reply Granted e = absurd cc
prepared p s b reply (PromiseFrom reports) e = absurd cc

accepted : (sender slot : ℕ) (a : Acceptance) (reply : Message) (answer : Answer) → Some reply ≡ accept_reply slot a answer → IsReplyTo (message sender slot (says.Accept a)) reply
accepted p s a reply Granted e = replied (message p s (says.Accept a)) reply (says.Accepted a) e (inl refl)
accepted p s a reply (Nack promised) e = replied (message p s (says.Accept a)) reply (says.Nack a.ballot promised) e (inr (promised, refl))
accepted p s a reply (Promise report) e = absurd cc
accepted p s a reply (PromiseFrom reports) e = absurd cc

-- what is not answered
no_reply : (reply : Message) → Some reply ≡ None → ⊥
no_reply reply e = absurd cc

by_body : (old new : Standing) (sender slot : ℕ) (body : Body) (reply : Message) → AnswersBody old slot body (Some reply) new → IsReplyTo (message sender slot body) reply
by_body old new p s (says.Prepare b) reply h = prepared p s b reply h.0 h.2
by_body old new p s (says.Promise b report) reply h = absurd (no_reply reply h.0)
by_body old new p s (says.Nack b promised) reply h = absurd (no_reply reply h.0)
by_body old new p s (says.Accept a) reply h = accepted p s a reply h.0 h.2
by_body old new p s (says.Accepted a) reply h = absurd (no_reply reply h.0)
by_body old new p s says.Ask reply h = absurd (no_reply reply h.0)
by_body old new p s (says.Decided v) reply h = absurd (no_reply reply h.0)

pub returns-clause-reply : goal.returns-clause-reply
returns-clause-reply g = λ old new m reply h. by_body old new m.sender m.slot m.body reply h
