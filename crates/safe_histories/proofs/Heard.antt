-- What a node heard_since_restart, as its learner is told of it: in a lawful history both say the same.
use Rattle.std.proofs.Common.{◌≡◌, ℕ, suc, ◌<◌, ◌⊎◌, inl, inr, Bool, true, false, cond, if◌then◌else◌, List, [], ◌∷◌, length, Option, Some, None, slice_get, refl, ap, subst, eq-eqb, arith}
use Rattle.std.specs.Option.{option_and_then}
use Rattle.std.specs.List.{Contains, filter_map}
use Rattle.ballots.specs.Ballot.{Ballot}
use Rattle.ballots.specs.declared.value.Value.{Value}
use Rattle.ballots.specs.declared.message.Message.{Message}
use Rattle.ballots.specs.declared.message.Body.{Body}
use Rattle.ballots.specs.declared.message.Body.TheVariants as body
use Rattle.ballots.specs.Message.{message}
use Rattle.lawful_histories.specs.Majorities.{MajorityOf}
use Rattle.lawful_histories.specs.Saying.{Saying, Silent, Accepted, of_one, says, sayings}
use Rattle.lawful_histories.specs.Lawful.{Said, SaidBefore, IsLawful, IsChosen, OneValue}
use Rattle.lawful_histories.specs.HistoryLaws.{DecidedIsChosen}
use Rattle.lawful_histories.specs.Messages.{accepted, decided}
use Rattle.learner.specs.Calls.{LearnerCall, IsLearned}
use Rattle.learner.specs.Calls as call
use Rattle.learner.specs.Votes.{MajorityAccepted, IsDecidedOrChosen}
use Rattle.agreement_rules.specs.Views.{HasPrefix}
use Rattle.histories.specs.History.{Step}
use Rattle.safe_histories.specs.Learning.{since_restart, is_taken, handed_to, delivered_in, heard_since_restart, HasLearnedPrefix}
use Rattle.safe_histories.proofs.Lists.{In, some_same, none_is_some, in_from_contains, contains_from_in, in_from_at, in_filter_map, filter_map_in}

-- ---- the calls of messages

abbrev pub call_of : (sender slot : ℕ) → Body → Option LearnerCall
call_of sender slot (body.Prepare ballot) = None
call_of sender slot (body.Promise ballot report) = None
call_of sender slot (body.Nack ballot promised) = None
call_of sender slot (body.Accept proposal) = None
call_of sender slot (body.Accepted acceptance) = Some (call.Accepted sender slot acceptance.ballot acceptance.value)
call_of sender slot body.Ask = None
call_of sender slot (body.Decided value) = Some (call.Decided slot value)

abbrev pub call_in : Message → Option LearnerCall
call_in m = call_of m.sender m.slot m.body

abbrev pub calls_of : List Message → List LearnerCall
calls_of messages = filter_map call_in messages

-- the message is one that makes this call
abbrev pub Makes : Message → LearnerCall → Type 0
Makes m (call.Accepted acceptor slot ballot value) = m ≡ accepted acceptor slot ballot value
Makes m (call.Decided slot value) = (sender : ℕ) × (m ≡ decided sender slot value)

makes : (sender slot : ℕ) (b : Body) (c : LearnerCall) → call_of sender slot b ≡ Some c → Makes (message sender slot b) c
makes sender slot (body.Prepare ballot) c is = absurd (none_is_some c is)
makes sender slot (body.Promise ballot report) c is = absurd (none_is_some c is)
makes sender slot (body.Nack ballot promised) c is = absurd (none_is_some c is)
makes sender slot (body.Accept proposal) c is = absurd (none_is_some c is)
makes sender slot (body.Accepted acceptance) c is =
    let made : LearnerCall = call.Accepted sender slot acceptance.ballot acceptance.value in
    subst (Makes (message sender slot (body.Accepted acceptance))) (some_same made c is) refl
makes sender slot body.Ask c is = absurd (none_is_some c is)
makes sender slot (body.Decided value) c is =
    let made : LearnerCall = call.Decided slot value in
    subst (Makes (message sender slot (body.Decided value))) (some_same made c is) (sender, refl)

made_by : (messages : List Message) (c : LearnerCall) → In (calls_of messages) c → (m : Message) × In messages m × Makes m c
made_by messages c there =
    let by = in_filter_map call_in messages c there in
    (by.0, by.1, makes by.0.sender by.0.slot by.0.body c by.2)

pub told_accepted : (messages : List Message) (acceptor slot : ℕ) (ballot : Ballot) (value : Value) → Contains (calls_of messages) (call.Accepted acceptor slot ballot value)
    → In messages (accepted acceptor slot ballot value)
told_accepted messages acceptor slot ballot value there =
    let by = made_by messages (call.Accepted acceptor slot ballot value) (in_from_contains (calls_of messages) (call.Accepted acceptor slot ballot value) there) in
    subst (In messages) by.2 by.1

pub told_decided : (messages : List Message) (slot : ℕ) (value : Value) → Contains (calls_of messages) (call.Decided slot value)
    → (sender : ℕ) × In messages (decided sender slot value)
told_decided messages slot value there =
    let by = made_by messages (call.Decided slot value) (in_from_contains (calls_of messages) (call.Decided slot value) there) in
    (by.2.0, subst (In messages) by.2.1 by.1)

pub accepted_told : (messages : List Message) (acceptor slot : ℕ) (ballot : Ballot) (value : Value) → In messages (accepted acceptor slot ballot value)
    → Contains (calls_of messages) (call.Accepted acceptor slot ballot value)
accepted_told messages acceptor slot ballot value there =
    contains_from_in (calls_of messages) (call.Accepted acceptor slot ballot value)
    (filter_map_in call_in messages (accepted acceptor slot ballot value) (call.Accepted acceptor slot ballot value) there refl)

pub decided_told : (messages : List Message) (sender slot : ℕ) (value : Value) → In messages (decided sender slot value)
    → Contains (calls_of messages) (call.Decided slot value)
decided_told messages sender slot value there =
    contains_from_in (calls_of messages) (call.Decided slot value)
    (filter_map_in call_in messages (decided sender slot value) (call.Decided slot value) there refl)

-- ---- what is heard_since_restart was sent

handed_there : (sent : List Message) (m : Message) (b : Bool) (o : Option ℕ)
    → (if b then option_and_then (λ number. slice_get sent number) o else None) ≡ Some m → In sent m
handed_there sent m true None is = absurd (none_is_some m is)
handed_there sent m true (Some number) is = in_from_at sent number m is
handed_there sent m false o is = absurd (none_is_some m is)

pub heard_was_sent : (sent : List Message) (steps : List Step) (node : ℕ) (m : Message) → In (heard_since_restart sent steps node) m → In sent m
heard_was_sent sent steps node m there =
    let by = in_filter_map (delivered_in sent node) (since_restart node steps) m there in
    handed_there sent m (is_taken by.0.result) (handed_to node by.0.event) by.2

-- ---- what is learned of messages

-- the value was decided, or a majority accepted it at one ballot
abbrev pub Learned : ℕ → List Message → ℕ → Value → Type 0
Learned members messages slot value =
    ((sender : ℕ) × Contains messages (decided sender slot value))
    ⊎ ((ballot : Ballot) × MajorityOf members (λ a. Contains messages (accepted a slot ballot value)))

-- laws of a learner
pub record LearnerLaws : Type 0 where
  pub decided : (members : ℕ) (calls : List LearnerCall) (slot : ℕ) (v : Value) → Contains calls (call.Decided slot v) → (w : Value) × IsLearned members calls slot w
  pub chosen : (members : ℕ) (calls : List LearnerCall) (slot : ℕ) (ballot : Ballot) → MajorityAccepted members calls slot ballot
      → (w : Value) × IsLearned members calls slot w
  pub only : (members : ℕ) (calls : List LearnerCall) (slot : ℕ) (v : Value) → IsLearned members calls slot v → IsDecidedOrChosen members calls slot v

-- laws of lawful histories
pub record ChoiceLaws : Type 0 where
  pub one : OneValue
  pub decided : DecidedIsChosen

-- a message says this of its slot, in its place
said_in : (sent : List Message) (s : ℕ) (m : Message) → In sent m → (j : ℕ) × (j < length sent) × Said (sayings sent s) j (says m s)
said_in [] s m there = absurd there
said_in (x ∷ xs) s m (inl same) = (0, omega arith, (omega arith, ap (λ (y : Message). says y s) same))
said_in (x ∷ xs) s m (inr later) =
    let there = said_in xs s m later in
    let within = there.2.0 in
    (suc there.0, omega (arith, there.1), (omega (arith, within), there.2.1))

own_slot : (s : ℕ) (x : Saying) → of_one s s x ≡ x
own_slot s x = ap (λ (t : Bool). cond t x Silent) (eq-eqb s s refl)

module _ (members : ℕ) (sent : List Message) (lawful : IsLawful members sent) where
  accepted_there : (a s : ℕ) (b : Ballot) (v : Value) → In sent (accepted a s b v) → SaidBefore (sayings sent s) (length sent) (Accepted a b v)
  accepted_there a s b v there =
      let said = said_in sent s (accepted a s b v) there in
      (said.0, said.1, subst (Said (sayings sent s) said.0) (own_slot s (Accepted a b v)) said.2)

  -- what is accepted at one ballot is one value
  accepted_is_one : (a c s : ℕ) (b : Ballot) (v w : Value) → In sent (accepted a s b v) → In sent (accepted c s b w) → v ≡ w
  accepted_is_one a c s b v w there other =
      let one = accepted_there a s b v there in
      let more = accepted_there c s b w other in
      let proposed = (lawful s).accepts_what_was_proposed one.0 a b v one.2 in
      let also = (lawful s).accepts_what_was_proposed more.0 c b w more.2 in
      (lawful s).one_value_a_ballot proposed.0 also.0 b v w proposed.2 also.2

  module _ (laws : ChoiceLaws) (messages : List Message) (were_sent : (m : Message) → In messages m → In sent m) where
    pub learned_is_chosen : (slot : ℕ) (value : Value) → Learned members messages slot value → IsChosen members sent slot value
    learned_is_chosen slot value (inl (sender, there)) =
        let m = decided sender slot value in
        let at = contains_from_in sent m (were_sent m (in_from_contains messages m there)) in
        laws.decided members sent at.0 slot value lawful (m, (at.1, at.2), (sender, refl))
    learned_is_chosen slot value (inr (ballot, most)) = (
      ballot,
      record {
        is_in = most.is_in;
        majority = most.majority;
        each = λ a lt is. accepted_there a slot ballot value
            (were_sent (accepted a slot ballot value) (in_from_contains messages (accepted a slot ballot value) (most.each a lt is)));
      },
    )

    module _ (learner : LearnerLaws) where
      pub learned_of_calls : (slot : ℕ) (value : Value) → IsLearned members (calls_of messages) slot value → Learned members messages slot value
      learned_of_calls slot value is = by_cases (learner.only members (calls_of messages) slot value is)
        where
          by_cases : IsDecidedOrChosen members (calls_of messages) slot value → Learned members messages slot value
          by_cases (inl told) =
              let there = told_decided messages slot value told in
              inl (there.0, contains_from_in messages (decided there.0 slot value) there.1)
          by_cases (inr chosen) =
              let proposed = told_accepted messages chosen.member slot chosen.ballot value chosen.proposed in
              inr (
                chosen.ballot,
                record {
                  is_in = chosen.accepted.is_voter;
                  majority = chosen.accepted.majority;
                  each = λ a lt is.
                      let vote = chosen.accepted.each a lt is in
                      let there = told_accepted messages a slot chosen.ballot vote.0 vote.1 in
                      let same = accepted_is_one a chosen.member slot chosen.ballot vote.0 value
                      (were_sent (accepted a slot chosen.ballot vote.0) there) (were_sent (accepted chosen.member slot chosen.ballot value) proposed) in
                      contains_from_in messages (accepted a slot chosen.ballot value)
                      (subst (λ (v : Value). In messages (accepted a slot chosen.ballot v)) same there);
                },
              )

      something_learned : (slot : ℕ) (value : Value) → Learned members messages slot value → (w : Value) × IsLearned members (calls_of messages) slot w
      something_learned slot value (inl (sender, there)) =
          learner.decided members (calls_of messages) slot value (decided_told messages sender slot value (in_from_contains messages (decided sender slot value) there))
      something_learned slot value (inr (ballot, most)) =
          learner.chosen members (calls_of messages) slot ballot (record {
            is_voter = most.is_in;
            majority = most.majority;
            each = λ a lt is.
                (value, accepted_told messages a slot ballot value (in_from_contains messages (accepted a slot ballot value) (most.each a lt is)));
          })

      pub calls_of_learned : (slot : ℕ) (value : Value) → Learned members messages slot value → IsLearned members (calls_of messages) slot value
      calls_of_learned slot value learned =
          let is = something_learned slot value learned in
          subst (IsLearned members (calls_of messages) slot)
          (laws.one members sent slot is.0 value lawful
          (learned_is_chosen slot is.0 (learned_of_calls slot is.0 is.1)) (learned_is_chosen slot value learned)) is.1

-- ---- prefixes

module _ (members : ℕ) (sent : List Message) (lawful : IsLawful members sent) (laws : ChoiceLaws) (learner : LearnerLaws) (steps : List Step) (node : ℕ)
    (values : List Value) where
  pub prefix_is_learned : HasPrefix members (calls_of (heard_since_restart sent steps node)) values → HasLearnedPrefix members sent steps node values
  prefix_is_learned prefix = record {
    learned = λ slot value at.
        learned_of_calls members sent lawful laws (heard_since_restart sent steps node) (heard_was_sent sent steps node) learner slot value (prefix.learned slot value at);
    gap = λ value is. prefix.gap value
        (calls_of_learned members sent lawful laws (heard_since_restart sent steps node) (heard_was_sent sent steps node) learner (length values) value is);
  }

  pub learned_is_prefix : HasLearnedPrefix members sent steps node values → HasPrefix members (calls_of (heard_since_restart sent steps node)) values
  learned_is_prefix prefix = record {
    learned = λ slot value at.
        calls_of_learned members sent lawful laws (heard_since_restart sent steps node) (heard_was_sent sent steps node) learner slot value (prefix.learned slot value at);
    gap = λ value is. prefix.gap value
        (learned_of_calls members sent lawful laws (heard_since_restart sent steps node) (heard_was_sent sent steps node) learner (length values) value is);
  }
