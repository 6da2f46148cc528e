-- Which histories of messages correct nodes may have sent, and what they chose: Lamport, "Paxos Made Simple", section 2.
-- A history is a number of members and the list of all messages that were sent, in their order. It speaks of nothing that
-- a node keeps: a sent message stays for good, whoever received it.
use Rattle.std.specs.Prelude.{◌≡◌, ℕ, ◌<◌, ◌⊎◌, IsTrue, List, length, get_or, Some, None}
use Rattle.ballots.specs.Ballot.{Ballot, IsBelow}
use Rattle.ballots.specs.declared.value.Value.{Value}
use Rattle.ballots.specs.declared.message.Message.{Message}
use Rattle.ballots.specs.Acceptance.{acceptance}
use Rattle.lawful_histories.specs.Majorities.{MajorityOf}
use Rattle.lawful_histories.specs.Saying.{IsUpTo, Report, Saying, Silent, Promise, Accept, Accepted, Decided, sayings}

-- this is said in that place
abbrev pub Said : List Saying → ℕ → Saying → Type 0
Said xs k x = (k < length xs) × (get_or xs k Silent ≡ x)

-- this is said in an earlier place
abbrev pub SaidBefore : List Saying → ℕ → Saying → Type 0
SaidBefore xs k x = (j : ℕ) × (j < k) × Said xs j x

-- ---- the six clauses, for what is said of one slot

-- An acceptor accepts what was proposed at that ballot (section 2.2, phase 2b).
abbrev pub AcceptsWhatWasProposed : List Saying → Type 0
AcceptsWhatWasProposed xs = (k a : ℕ) (b : Ballot) (v : Value) → Said xs k (Accepted a b v) → SaidBefore xs k (Accept b v)

-- the acceptor promised this ballot there, or accepted at it
abbrev pub BindsAt : List Saying → ℕ → ℕ → Ballot → Type 0
BindsAt xs k a b = ((r : Report) × Said xs k (Promise a b r)) ⊎ ((v : Value) × Said xs k (Accepted a b v))

-- After that it accepts nothing below that ballot, and promises only above it (section 2.2, phases 1b and 2b; P1a).
pub record KeepsItsPromise (xs : List Saying) : Type 0 where
  pub accepts : (j k a : ℕ) (b c : Ballot) (v : Value) → j < k → BindsAt xs j a b → Said xs k (Accepted a c v) → IsBelow c b → ⊥
  pub promises : (j k a : ℕ) (b c : Ballot) (r : Report) → j < k → BindsAt xs j a b → Said xs k (Promise a c r) → IsBelow b c

-- the acceptor has accepted nothing above this ballot before that place, or nothing at all
abbrev pub AcceptedUpTo : List Saying → ℕ → ℕ → Ballot → Type 0
AcceptedUpTo xs k a b = (j : ℕ) (c : Ballot) (v : Value) → j < k → Said xs j (Accepted a c v) → IsBelow b c → ⊥

abbrev pub AcceptedNothing : List Saying → ℕ → ℕ → Type 0
AcceptedNothing xs k a = (j : ℕ) (c : Ballot) (v : Value) → j < k → Said xs j (Accepted a c v) → ⊥

-- A promise reports what its acceptor accepted at the highest ballot, which was proposed there, or that it accepted
-- nothing (section 2.2, phase 1b).
pub record ReportsItsHighest (xs : List Saying) : Type 0 where
  pub nothing : (k a : ℕ) (b : Ballot) → Said xs k (Promise a b None) → AcceptedNothing xs k a
  pub below : (k a : ℕ) (b c : Ballot) (v : Value) → Said xs k (Promise a b (Some (acceptance c v))) → IsBelow c b
  pub proposed : (k a : ℕ) (b c : Ballot) (v : Value) → Said xs k (Promise a b (Some (acceptance c v))) → SaidBefore xs k (Accept c v)
  pub highest : (k a : ℕ) (b c : Ballot) (v : Value) → Said xs k (Promise a b (Some (acceptance c v))) → AcceptedUpTo xs k a c

-- At one ballot one value is proposed (section 2.2: proposals have numbers of their own).
abbrev pub OneValueABallot : List Saying → Type 0
OneValueABallot xs = (j k : ℕ) (b : Ballot) (v w : Value) → Said xs j (Accept b v) → Said xs k (Accept b w) → v ≡ w

-- the acceptor promised this ballot before that place, and its report goes up to the other
abbrev pub PromisedUpTo : List Saying → ℕ → Ballot → Ballot → ℕ → Type 0
PromisedUpTo xs k b c a = (r : Report) × SaidBefore xs k (Promise a b r) × IsUpTo r c

-- a majority promised the ballot, and the highest of their reports has this value
pub record IsOfHighestReport (n : ℕ) (xs : List Saying) (k : ℕ) (b : Ballot) (v : Value) : Type 0 where
  pub highest : Ballot
  pub promised : MajorityOf n (PromisedUpTo xs k b highest)
  pub reporter : ℕ
  pub is_member : reporter < n
  pub is_in : IsTrue (promised.is_in reporter)
  pub reported : SaidBefore xs k (Promise reporter b (Some (acceptance highest v)))

-- The value may be proposed at the ballot: a majority promised it, and none of them reported anything, or the highest
-- report among them has this value.
abbrev pub MayBeProposed : ℕ → List Saying → ℕ → Ballot → Value → Type 0
MayBeProposed n xs k b v = MajorityOf n (λ a. SaidBefore xs k (Promise a b None)) ⊎ IsOfHighestReport n xs k b v

-- What is proposed is safe (section 2.2, phase 2a; P2c).
abbrev pub ProposesWhatIsSafe : ℕ → List Saying → Type 0
ProposesWhatIsSafe n xs = (k : ℕ) (b : Ballot) (v : Value) → Said xs k (Accept b v) → MayBeProposed n xs k b v

-- before that place a majority has accepted the value at this ballot
abbrev pub IsChosenBefore : ℕ → List Saying → ℕ → Ballot → Value → Type 0
IsChosenBefore n xs k b v = MajorityOf n (λ a. SaidBefore xs k (Accepted a b v))

-- What is told as decided was chosen (section 2.3).
abbrev pub DecidesWhatWasChosen : ℕ → List Saying → Type 0
DecidesWhatWasChosen n xs = (k : ℕ) (v : Value) → Said xs k (Decided v) → (b : Ballot) × IsChosenBefore n xs k b v

pub record IsLawfulSlot (n : ℕ) (xs : List Saying) : Type 0 where
  pub accepts_what_was_proposed : AcceptsWhatWasProposed xs
  pub keeps_its_promise : KeepsItsPromise xs
  pub reports_its_highest : ReportsItsHighest xs
  pub one_value_a_ballot : OneValueABallot xs
  pub proposes_what_is_safe : ProposesWhatIsSafe n xs
  pub decides_what_was_chosen : DecidesWhatWasChosen n xs

-- ---- histories

-- every slot keeps the six clauses
abbrev pub IsLawful : ℕ → List Message → Type 0
IsLawful n sent = (s : ℕ) → IsLawfulSlot n (sayings sent s)

-- at this ballot a majority has accepted the value for the slot (section 2.1)
abbrev pub IsChosenAt : ℕ → List Message → ℕ → Ballot → Value → Type 0
IsChosenAt n sent s b v = IsChosenBefore n (sayings sent s) (length sent) b v

abbrev pub IsChosen : ℕ → List Message → ℕ → Value → Type 0
IsChosen n sent s v = (b : Ballot) × IsChosenAt n sent s b v

-- No two values are chosen for one slot.
abbrev pub OneValue : Type 0
OneValue = (n : ℕ) (sent : List Message) (s : ℕ) (v w : Value) → IsLawful n sent → IsChosen n sent s v → IsChosen n sent s w → v ≡ w

-- Once a value is chosen at a ballot, it alone is proposed above it (section 2.2, P2b).
abbrev pub ChosenValueStays : Type 0
ChosenValueStays = (n : ℕ) (sent : List Message) (s k : ℕ) (b c : Ballot) (v w : Value)
    → IsLawful n sent → IsChosenAt n sent s b v → Said (sayings sent s) k (Accept c w) → IsBelow b c → w ≡ v
