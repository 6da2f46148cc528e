-- What a node tells as decided is what the rules ask: what it learned was chosen, since all that it was told was sent.
use Rattle.std.proofs.Common.{◌≡◌, ℕ, ◌+◌, ◌<◌, inl, inr, List, length, slice_get, Some, sym, subst, ◌∙◌}
use Rattle.std.specs.List.{Contains}
use Rattle.std.proofs.lemmas.Option.{get_or_from_slice_get}
use Rattle.ballots.specs.Ballot.{Ballot}
use Rattle.ballots.specs.declared.value.Value.{Value}
use Rattle.ballots.specs.declared.message.Message.{Message}
use Rattle.decided_log.specs.Asked.{decided_message, asked_of}
use Rattle.learner.specs.Calls.{LearnerCall as Told, IsLearned}
use Rattle.learner.specs.Calls as told
use Rattle.learner.specs.Votes.{IsDecidedOrChosen, IsAcceptedByMajority}
use Rattle.lawful_histories.specs.Saying.{Saying}
use Rattle.lawful_histories.specs.Saying as say
use Rattle.lawful_histories.specs.Messages.{decided}
use Rattle.agreement_rules.specs.Views.{HasPrefix}
use Rattle.histories.proofs.Rules.{AllowsDecided}
use Rattle.histories.proofs.Knowing.{WasTold}

-- ---- the laws that are used here

-- what is learned was told as decided, or accepted by a majority
abbrev pub LearnerLaw : Type 0
LearnerLaw = (members : ℕ) (calls : List Told) (slot : ℕ) (v : Value) → IsLearned members calls slot v → IsDecidedOrChosen members calls slot v

-- each message of an answer has the prefix's value of its slot
abbrev pub AskedLaw : Type 0
AskedLaw = (node from k : ℕ) (prefix : List Value) → k < length (asked_of node prefix from)
    → (value : Value) × (slice_get prefix (from + k) ≡ Some value) × (slice_get (asked_of node prefix from) k ≡ Some (decided_message node (from + k) value))

-- ---- what is learned

module _ (learns : LearnerLaw) (members : ℕ) (WasSaid : ℕ → Saying → Type 0)
    (proposed : (s a : ℕ) (b : Ballot) (v : Value) → WasSaid s (say.Accepted a b v) → WasSaid s (say.Accept b v))
    (one_value : (s : ℕ) (b : Ballot) (v w : Value) → WasSaid s (say.Accept b v) → WasSaid s (say.Accept b w) → v ≡ w)
    (chosen : (s : ℕ) (v : Value) → WasSaid s (say.Decided v) → AllowsDecided members (WasSaid s) v)
    (heard : List Told) (told_of : (call : Told) → Contains heard call → WasTold WasSaid call) where
  module _ (slot : ℕ) (v : Value) where
    accepted_alike : (a c : ℕ) (b : Ballot) (w : Value) → WasSaid slot (say.Accepted a b w) → WasSaid slot (say.Accepted c b v) → WasSaid slot (say.Accepted a b v)
    accepted_alike a c b w one other =
        subst (λ (x : Value). WasSaid slot (say.Accepted a b x)) (one_value slot b w v (proposed slot a b w one) (proposed slot c b v other)) one

    majority_chose : IsAcceptedByMajority members heard slot v → AllowsDecided members (WasSaid slot) v
    majority_chose it = (
      it.ballot,
      record {
        is_in = it.accepted.is_voter;
        majority = it.accepted.majority;
        each = λ a lt in'.
            let vote = it.accepted.each a lt in' in
            accepted_alike a it.member it.ballot vote.0 (told_of (told.Accepted a slot it.ballot vote.0) vote.1)
            (told_of (told.Accepted it.member slot it.ballot v) it.proposed);
      },
    )

    pub learned_was_chosen : IsLearned members heard slot v → AllowsDecided members (WasSaid slot) v
    learned_was_chosen learned = elim (learns members heard slot v learned) as (λ _. AllowsDecided members (WasSaid slot) v) [
      | inl decision ↦ chosen slot v (told_of (told.Decided slot v) decision)
      | inr majority ↦ majority_chose majority
    ]

  -- ---- what is answered to one who asks

  -- a message of the node that a value was decided which was chosen
  pub record TellsChosen (me : ℕ) (m : Message) : Type 0 where
    pub slot : ℕ
    pub value : Value
    pub is : m ≡ decided me slot value
    pub chosen_is : AllowsDecided members (WasSaid slot) value

  pub asked_is_chosen : AskedLaw → (me from : ℕ) (values : List Value) → HasPrefix members heard values → (m : Message) → Contains (asked_of me values from) m → TellsChosen me m
  asked_is_chosen asked me from values prefix m (k, within, at) =
      let it = asked me from k values within in
      record {
        slot = from + k;
        value = it.0;
        is = sym at ∙ get_or_from_slice_get (asked_of me values from) k (decided_message me (from + k) it.0) m it.2;
        chosen_is = learned_was_chosen (from + k) it.0 (prefix.learned (from + k) it.0 it.1);
      }

-- what is said later changes nothing of it
pub chosen_still : (members : ℕ) (Was Now : Saying → Type 0) (v : Value) → ((x : Saying) → Was x → Now x) → AllowsDecided members Was v → AllowsDecided members Now v
chosen_still members Was Now v kept it = (
  it.0,
  record {
    is_in = it.1.is_in;
    majority = it.1.majority;
    each = λ a lt in'. kept (say.Accepted a it.0 v) (it.1.each a lt in');
  },
)
