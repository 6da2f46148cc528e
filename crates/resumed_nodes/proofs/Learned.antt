-- What a member has learned is what a majority recorded; and what a majority recorded, who hears of it learns.
use Rattle.std.proofs.Common.{◌≡◌, ℕ, zero, suc, ◌<◌, ◌⊎◌, inl, inr, Bool, true, false, if◌then◌else◌, None, Some, Option, List, [], ◌∷◌, ◌++◌, length, filter_map, option_and_then, slice_get, refl, sym, ap, subst, ◌∙◌, arith, append-nil}
use Rattle.std.specs.List.{All, Contains, cons_option, flat_map}
use Rattle.std.proofs.lemmas.List.Elements.{All-nil, All-cons, All-contains, Contains-append_left, Contains-append_right}
use Rattle.ballots.specs.Acceptance.{acceptance}
use Rattle.ballots.specs.Ballot.{Ballot}
use Rattle.ballots.specs.declared.value.Value.{Value}
use Rattle.ballots.specs.declared.record.Record.{Record}
use Rattle.ballots.specs.declared.record.Record.TheVariants.{Accepted as HasAccepted}
use Rattle.ballots.specs.declared.message.Message.{Message}
use Rattle.learner.specs.Calls.{IsLearned}
use Rattle.learner.specs.Calls as learner
use Rattle.learner.specs.Votes.{MajorityAccepted}
use Rattle.lawful_histories.specs.Majorities.{MajorityOf}
use Rattle.lawful_histories.specs.Saying.{Accepted}
use Rattle.lawful_histories.specs.Messages.{accepted, decided, Says, SaysBefore, KeepsTheRules}
use Rattle.agreement_rules.specs.Views.{AgreementConfig, HasPrefix}
use Rattle.agreement_rules.specs.Calling.{learner_calls_of}
use Rattle.agreement_rules.specs.Keeping.{record_of}
use Rattle.histories.specs.History.{Step}
use Rattle.safe_histories.specs.Learning.{since_restart, handed_to, is_taken, delivered_in, heard_since_restart, HasLearned, HasLearnedPrefix}
use Rattle.chosen_records.specs.Chosen.{IsChosenAt, IsToldChosen, told_of}
use Rattle.resumed_nodes.specs.Heard.{learner_calls_from}
use Rattle.resumed_nodes.specs.Knowing.{TellsAll}

-- ---- lists

pub none_is_some : {X : Type 0} (x : X) → None ≡ Some x → ⊥
none_is_some x same = cc

pub some_same : {X : Type 0} (x y : X) → Some x ≡ Some y → x ≡ y
some_same x y same = cc

has_at : {X : Type 0} (xs : List X) (k : ℕ) (x : X) → slice_get xs k ≡ Some x → Contains xs x
has_at [] k x is = absurd (none_is_some x is)
has_at (y ∷ xs) zero x is = (0, omega arith, some_same y x is)
has_at (y ∷ xs) (suc k) x is =
    let rest = has_at xs k x is in
    (suc rest.0, omega (arith, rest.1), rest.2)

-- what holds of all that is given holds of the list of it
given_step : {Y : Type 0} (P : Y → Type 0) (o : Option Y) (ys : List Y) → ((y : Y) → o ≡ Some y → P y) → All P ys → All P (cons_option o ys)
given_step P None ys each all = all
given_step P (Some y) ys each all = All-cons P y ys (each y refl) all

all_given : {X Y : Type 0} (f : X → Option Y) (P : Y → Type 0) → ((x : X) (y : Y) → f x ≡ Some y → P y) → (xs : List X) → All P (filter_map f xs)
all_given f P each [] = All-nil P
all_given f P each (x ∷ xs) = given_step P (f x) (filter_map f xs) (each x) (all_given f P each xs)

in_one_of : {X Y : Type 0} (f : X → List Y) (xs : List X) (x : X) (y : Y) → Contains xs x → Contains (f x) y → Contains (flat_map f xs) y
in_one_of f [] x y has is = absurd (omega (arith, has.1))
in_one_of f (z ∷ xs) x y (zero, within, same) is = Contains-append_left (f z) (flat_map f xs) y (subst (λ (x : _). Contains (f x) y) (sym same) is)
in_one_of f (z ∷ xs) x y (suc k, within, same) is =
    Contains-append_right (f z) (flat_map f xs) y (in_one_of f xs x y (k, omega (arith, within), same) is)

-- ---- a majority

majority_of : (members : ℕ) (P Q : ℕ → Type 0) → ((a : ℕ) → a < members → P a → Q a) → MajorityOf members P → MajorityOf members Q
majority_of members P Q each most = record {
  is_in = most.is_in;
  majority = most.majority;
  each = λ a member is. each a member (most.each a member is);
}

-- ---- what a member heard_since_restart was sent

module _ (sent : List Message) where
  handed_was_sent : (handed : Option ℕ) (m : Message) → option_and_then (λ number. slice_get sent number) handed ≡ Some m → Contains sent m
  handed_was_sent None m is = absurd (none_is_some m is)
  handed_was_sent (Some number) m is = has_at sent number m is

  taken_was_sent : (taken : Bool) (handed : Option ℕ) (m : Message)
      → (if taken then option_and_then (λ number. slice_get sent number) handed else None) ≡ Some m → Contains sent m
  taken_was_sent true handed m is = handed_was_sent handed m is
  taken_was_sent false handed m is = absurd (none_is_some m is)

  delivered_was_sent : (node : ℕ) (step : Step) (m : Message) → delivered_in sent node step ≡ Some m → Contains sent m
  delivered_was_sent node step m is = taken_was_sent (is_taken step.result) (handed_to node step.event) m is

  heard_was_sent : (steps : List Step) (node : ℕ) (m : Message) → Contains (heard_since_restart sent steps node) m → Contains sent m
  heard_was_sent steps node m has =
      All-contains (Contains sent) (heard_since_restart sent steps node) m
      (all_given (delivered_in sent node) (Contains sent) (delivered_was_sent node) (since_restart node steps)) has

  -- ---- what it learned a majority accepted

  said_and_sent : (k slot a : ℕ) (ballot : Ballot) (value : Value) → Says sent k slot (Accepted a ballot value) → Contains sent (accepted a slot ballot value)
  said_and_sent k slot a ballot value (m, (within, same), is) = subst (Contains sent) is (k, within, same)

  a_majority_accepted : (members : ℕ) (steps : List Step) (node slot : ℕ) (value : Value) → KeepsTheRules members sent → HasLearned members sent steps node slot value
      → (ballot : Ballot) × MajorityOf members (λ a. Contains sent (accepted a slot ballot value))
  a_majority_accepted members steps node slot value rules (inl (sender, has)) =
      let there = heard_was_sent steps node (decided sender slot value) has in
      let chosen = rules.decided_was_chosen there.0 slot value (decided sender slot value, (there.1, there.2), (sender, refl)) in (
        chosen.0,
        majority_of members (λ a. SaysBefore sent there.0 slot (Accepted a chosen.0 value)) (λ a. Contains sent (accepted a slot chosen.0 value))
            (λ a member said. said_and_sent said.0 slot a chosen.0 value said.2) chosen.1,
      )
  a_majority_accepted members steps node slot value rules (inr (ballot, most)) = (
    ballot,
    majority_of members _ (λ a. Contains sent (accepted a slot ballot value))
        (λ a member has. heard_was_sent steps node (accepted a slot ballot value) has) most,
  )

  -- and recorded
  a_majority_recorded : (members : ℕ) (all : List (List Record)) (slot : ℕ) (ballot : Ballot) (value : Value)
      → ((m : Message) (kept : Record) → m.sender < members → Contains sent m → record_of m ≡ Some kept
      → (own : List Record) × (slice_get all m.sender ≡ Some own) × Contains own kept)
      → MajorityOf members (λ a. Contains sent (accepted a slot ballot value)) → IsChosenAt members all slot ballot value
  a_majority_recorded members all slot ballot value records most =
      majority_of members (λ a. Contains sent (accepted a slot ballot value)) _
      (λ a member has. records (accepted a slot ballot value) (HasAccepted slot (acceptance ballot value)) member has refl) most

-- ---- who is told learns

called : (told : List Message) (node slot : ℕ) (ballot : Ballot) (value : Value) → Contains told (told_of node slot (acceptance ballot value))
    → Contains (learner_calls_from told) (learner.Accepted node slot ballot value)
called told node slot ballot value has =
    in_one_of (λ (m : Message). learner_calls_of m.sender m.slot m.body) told (told_of node slot (acceptance ballot value))
    (learner.Accepted node slot ballot value) has (0, omega arith, refl)

a_majority_is_told : (members : ℕ) (told : List Message) (slot : ℕ) → IsToldChosen members told slot
    → (ballot : Ballot) × MajorityAccepted members (learner_calls_from told) slot ballot
a_majority_is_told members told slot (ballot, value, most) = (
  ballot,
  record {
    is_voter = most.is_in;
    majority = most.majority;
    each = λ member within is. (value, called told member slot ballot value (most.each member within is));
  },
)

-- ---- what was ever learned is learned again

next_is : (xs rest : List Value) (value : Value) → slice_get (xs ++ value ∷ rest) (length xs) ≡ Some value
next_is [] rest value = refl
next_is (x ∷ xs) rest value = next_is xs rest value

-- one that has no gap where the other has a value begins with the other
begins : (learned prefix : List Value) → ((rest : List Value) × (prefix ≡ learned ++ rest)) ⊎ ((rest : List Value) × (learned ≡ prefix ++ rest))
    → ((value : Value) → slice_get learned (length prefix) ≡ Some value → ⊥) → (rest : List Value) × (prefix ≡ learned ++ rest)
begins learned prefix (inl longer) filled = longer
begins learned prefix (inr ([], is)) filled = ([], sym (append-nil learned ∙ (is ∙ append-nil prefix)))
begins learned prefix (inr (value ∷ rest, is)) filled =
    absurd (filled value (ap (λ (l : List Value). slice_get l (length prefix)) is ∙ next_is prefix rest value))

module _ (config : AgreementConfig) (sent : List Message) (all : List (List Record)) (told : List Message) (rules : KeepsTheRules config.members sent)
    (records : (m : Message) (kept : Record) → m.sender < config.members → Contains sent m → record_of m ≡ Some kept
    → (own : List Record) × (slice_get all m.sender ≡ Some own) × Contains own kept)
    (tells : TellsAll config all told)
    (learns : (slot : ℕ) (ballot : Ballot) → MajorityAccepted config.members (learner_calls_from told) slot ballot
    → (value : Value) × IsLearned config.members (learner_calls_from told) slot value) where
  learned_again : (steps : List Step) (node slot : ℕ) (value : Value) → HasLearned config.members sent steps node slot value
      → (again : Value) × IsLearned config.members (learner_calls_from told) slot again
  learned_again steps node slot value learned =
      let accepted = a_majority_accepted sent config.members steps node slot value rules learned in
      let chosen = a_majority_recorded sent config.members all slot accepted.0 value records accepted.1 in
      let again = a_majority_is_told config.members told slot (tells slot accepted.0 value chosen) in
      learns slot again.0 again.1

  -- so a prefix begins with all that was learned anywhere before
  pub goes_further : (steps : List Step) (node : ℕ) (learned prefix : List Value) → HasLearnedPrefix config.members sent steps node learned
      → HasPrefix config.members (learner_calls_from told) prefix
      → ((rest : List Value) × (prefix ≡ learned ++ rest)) ⊎ ((rest : List Value) × (learned ≡ prefix ++ rest)) → (rest : List Value) × (prefix ≡ learned ++ rest)
  goes_further steps node learned prefix shown has either =
      begins learned prefix either
      (λ value is. (let again = learned_again steps node (length prefix) value (shown.learned (length prefix) value is) in has.gap again.0 again.1))
