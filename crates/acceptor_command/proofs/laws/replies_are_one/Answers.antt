use Rattle.std.proofs.Common.{◌≡◌, ℕ, Option, Some, refl, sym, ap, subst, ◌∙◌}
use Rattle.std.proofs.lemmas.Option.{same_Some}
use Rattle.ballots.specs.Ballot.{Ballot, IsBelow, IsAbove, IsAtLeast}
use Rattle.ballots.proofs.CallerLemmas.{at_least_where_not_below}
use Rattle.ballots.specs.declared.acceptance.Acceptance.{Acceptance}
use Rattle.ballots.specs.declared.message.Message.{Message}
use Rattle.ballots.specs.declared.message.Body.{Body}
use Rattle.ballots.specs.declared.message.Body.TheVariants as says
use Rattle.acceptor.specs.declared.answer.Answer.{Answer}
use Rattle.acceptor.specs.declared.answer.Answer.TheVariants.{Promise, PromiseFrom, Granted, Nack}
use Rattle.acceptor.specs.Standing.{Standing}
use Rattle.acceptor.specs.Answering.{Prepares, Accepts}
use Rattle.acceptor_command.specs.Conversation.{AnswersBody, own_message, prepare_reply, accept_reply}
use Rattle.acceptor_command.proofs.laws.replies_are_one.Goals as goal

module _ (old a b : Standing) (slot : ℕ) (ballot : Ballot) where
  nacks : (c d : Ballot) → old.promised slot ≡ Some c → old.promised slot ≡ Some d → c ≡ d
  nacks c d e f = same_Some c d (sym e ∙ f)

  -- no ballot is above what was promised and not above it
  promise_or_nack : (c : Ballot) → IsAbove ballot (old.promised slot) → old.promised slot ≡ Some c → IsAtLeast c (Some ballot) → ⊥
  promise_or_nack c above e at_least = (at_least_where_not_below ballot c).0 at_least (subst (IsAbove ballot) e above)

  prepared : (x y : Answer) → Prepares old a slot ballot x → Prepares old b slot ballot y → prepare_reply slot ballot x ≡ prepare_reply slot ballot y
  prepared (Promise r) (Promise q) h i = ap (λ (w : Option Acceptance). Some (own_message slot (says.Promise ballot w))) (h.1 ∙ sym i.1)
  prepared (Promise r) (Nack c) h i = absurd (promise_or_nack c h.0 i.0 i.1)
  prepared (Promise r) Granted h i = absurd i
  prepared (Promise r) (PromiseFrom q) h i = absurd i
  prepared (Nack c) (Promise q) h i = absurd (promise_or_nack c i.0 h.0 h.1)
  prepared (Nack c) (Nack d) h i = ap (λ (w : Ballot). Some (own_message slot (says.Nack ballot w))) (nacks c d h.0 i.0)
  prepared (Nack c) Granted h i = absurd i
  prepared (Nack c) (PromiseFrom q) h i = absurd i
  prepared Granted y h i = absurd h
  prepared (PromiseFrom r) y h i = absurd h

  grant_or_nack : (c : Ballot) → IsAtLeast ballot (old.promised slot) → old.promised slot ≡ Some c → IsBelow ballot c → ⊥
  grant_or_nack c at_least e below = (at_least_where_not_below c ballot).0 (subst (IsAtLeast ballot) e at_least) below

module _ (old a b : Standing) (slot : ℕ) (p : Acceptance) where
  accepted : (x y : Answer) → Accepts old a slot p x → Accepts old b slot p y → accept_reply slot p x ≡ accept_reply slot p y
  accepted Granted Granted h i = refl
  accepted Granted (Nack c) h i = absurd (grant_or_nack old a b slot p.ballot c h.0 i.0 i.1)
  accepted Granted (Promise q) h i = absurd i
  accepted Granted (PromiseFrom q) h i = absurd i
  accepted (Nack c) Granted h i = absurd (grant_or_nack old a b slot p.ballot c i.0 h.0 h.1)
  accepted (Nack c) (Nack d) h i = ap (λ (w : Ballot). Some (own_message slot (says.Nack p.ballot w))) (nacks old a b slot p.ballot c d h.0 i.0)
  accepted (Nack c) (Promise q) h i = absurd i
  accepted (Nack c) (PromiseFrom q) h i = absurd i
  accepted (Promise r) y h i = absurd h
  accepted (PromiseFrom r) y h i = absurd h

by_body : (old a b : Standing) (slot : ℕ) (body : Body) (r q : Option Message) → AnswersBody old slot body r a → AnswersBody old slot body q b → r ≡ q
by_body old a b s (says.Prepare c) r q h i = h.2 ∙ prepared old a b s c h.0 i.0 h.1 i.1 ∙ sym i.2
by_body old a b s (says.Promise c report) r q h i = h.0 ∙ sym i.0
by_body old a b s (says.Nack c promised) r q h i = h.0 ∙ sym i.0
by_body old a b s (says.Accept p) r q h i = h.2 ∙ accepted old a b s p h.0 i.0 h.1 i.1 ∙ sym i.2
by_body old a b s (says.Accepted p) r q h i = h.0 ∙ sym i.0
by_body old a b s says.Ask r q h i = h.0 ∙ sym i.0
by_body old a b s (says.Decided v) r q h i = h.0 ∙ sym i.0

pub returns : goal.returns
returns g = λ old a b m r q h i. by_body old a b m.slot m.body r q h i
