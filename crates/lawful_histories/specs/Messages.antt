-- The clauses of a lawful history, clause by clause over the places of all that was sent, by what the message in a place
-- says of a slot: Lamport, "Paxos Made Simple", section 2. `Lawful` says them one slot at a time.
use Rattle.std.specs.Prelude.{◌≡◌, ℕ, ◌<◌, ◌⊎◌, IsTrue, List, length, get_or, Some, None}
use Rattle.ballots.specs.Ballot.{Ballot, IsBelow}
use Rattle.ballots.specs.declared.value.Value.{Value}
use Rattle.ballots.specs.declared.message.Message.{Message}
use Rattle.ballots.specs.declared.message.Body.TheVariants as body
use Rattle.ballots.specs.Acceptance.{acceptance}
use Rattle.ballots.specs.Message.{message}
use Rattle.lawful_histories.specs.Saying.{Report, Saying, Silent, Prepare, Promise, Accept, Accepted, Decided}
use Rattle.lawful_histories.specs.Majorities.{MajorityOf}
use Rattle.lawful_histories.specs.Saying.{IsUpTo}

-- ---- the messages of a slot, by who sends them

abbrev pub prepare : (sender slot : ℕ) → Ballot → Message
prepare sender slot ballot = message sender slot (body.Prepare ballot)

abbrev pub promise : (sender slot : ℕ) → Ballot → Report → Message
promise sender slot ballot report = message sender slot (body.Promise ballot report)

abbrev pub accept : (sender slot : ℕ) → Ballot → Value → Message
accept sender slot ballot value = message sender slot (body.Accept (acceptance ballot value))

abbrev pub accepted : (sender slot : ℕ) → Ballot → Value → Message
accepted sender slot ballot value = message sender slot (body.Accepted (acceptance ballot value))

abbrev pub decided : (sender slot : ℕ) → Value → Message
decided sender slot value = message sender slot (body.Decided value)

-- ---- what they say

-- The message says this of the slot: here each form of message is tied to what it says. No message says `Silent`.
abbrev pub IsSaidBy : Message → ℕ → Saying → Type 0
IsSaidBy m s Silent = ⊥
IsSaidBy m s (Prepare b) = (p : ℕ) × (m ≡ prepare p s b)
IsSaidBy m s (Promise a b r) = m ≡ promise a s b r
IsSaidBy m s (Accept b v) = (p : ℕ) × (m ≡ accept p s b v)
IsSaidBy m s (Accepted a b v) = m ≡ accepted a s b v
IsSaidBy m s (Decided v) = (p : ℕ) × (m ≡ decided p s v)

-- ---- their places

-- this message stands in that place
abbrev pub Sent : List Message → ℕ → Message → Type 0
Sent sent k m = (k < length sent) × (get_or sent k m ≡ m)

-- in that place this is said of the slot, by the message that stands there
abbrev pub Says : List Message → ℕ → ℕ → Saying → Type 0
Says sent k s x = (m : Message) × Sent sent k m × IsSaidBy m s x

-- in an earlier place this is said of the slot
abbrev pub SaysBefore : List Message → ℕ → ℕ → Saying → Type 0
SaysBefore sent k s x = (j : ℕ) × (j < k) × Says sent j s x

-- ---- the rules

-- a majority promised the ballot for the slot before that place, and the highest of their reports has this value
pub record HasHighestReport (n : ℕ) (sent : List Message) (k s : ℕ) (b : Ballot) (v : Value) : Type 0 where
  pub highest : Ballot
  pub promised : MajorityOf n (λ a. (r : Report) × SaysBefore sent k s (Promise a b r) × IsUpTo r highest)
  pub reporter : ℕ
  pub is_member : reporter < n
  pub is_in : IsTrue (promised.is_in reporter)
  pub reported : SaysBefore sent k s (Promise reporter b (Some (acceptance highest v)))

-- What nodes that keep the rules of Paxos say of each slot, message by message.
pub record KeepsTheRules (n : ℕ) (sent : List Message) : Type 0 where
  -- an Accepted stands behind an Accept of its ballot and value
  pub accepted_was_proposed : (k a s : ℕ) (b : Ballot) (v : Value)
      → Says sent k s (Accepted a b v) → SaysBefore sent k s (Accept b v)
  -- an Accepted is not below what its acceptor promised or accepted before
  pub accepted_above_promise : (j k a s : ℕ) (b c : Ballot) (r : Report) (v : Value) → j < k
      → Says sent j s (Promise a b r) → Says sent k s (Accepted a c v) → IsBelow c b → ⊥
  pub accepted_above_accepted : (j k a s : ℕ) (b c : Ballot) (u v : Value) → j < k
      → Says sent j s (Accepted a b u) → Says sent k s (Accepted a c v) → IsBelow c b → ⊥
  -- a Promise is above what its acceptor promised or accepted before
  pub promise_above_promise : (j k a s : ℕ) (b c : Ballot) (q r : Report) → j < k
      → Says sent j s (Promise a b q) → Says sent k s (Promise a c r) → IsBelow b c
  pub promise_above_accepted : (j k a s : ℕ) (b c : Ballot) (u : Value) (r : Report) → j < k
      → Says sent j s (Accepted a b u) → Says sent k s (Promise a c r) → IsBelow b c
  -- a Promise without a report stands behind no Accepted of its acceptor
  pub nothing_was_accepted : (j k a s : ℕ) (b c : Ballot) (v : Value) → j < k
      → Says sent k s (Promise a b None) → Says sent j s (Accepted a c v) → ⊥
  -- what a Promise reports is below it, was proposed, and is the highest that its acceptor accepted before
  pub report_is_below : (k a s : ℕ) (b c : Ballot) (v : Value)
      → Says sent k s (Promise a b (Some (acceptance c v))) → IsBelow c b
  pub report_was_proposed : (k a s : ℕ) (b c : Ballot) (v : Value)
      → Says sent k s (Promise a b (Some (acceptance c v))) → SaysBefore sent k s (Accept c v)
  pub report_is_highest : (j k a s : ℕ) (b c d : Ballot) (v w : Value) → j < k
      → Says sent k s (Promise a b (Some (acceptance c v))) → Says sent j s (Accepted a d w) → IsBelow c d → ⊥
  -- Accepts of one ballot have one value
  pub one_value_a_ballot : (j k s : ℕ) (b : Ballot) (v w : Value)
      → Says sent j s (Accept b v) → Says sent k s (Accept b w) → v ≡ w
  -- an Accept stands behind a majority's Promises of its ballot, which report nothing or whose highest report has its value
  pub accept_is_safe : (k s : ℕ) (b : Ballot) (v : Value) → Says sent k s (Accept b v)
      → MajorityOf n (λ a. SaysBefore sent k s (Promise a b None)) ⊎ HasHighestReport n sent k s b v
  -- a Decided stands behind a majority's Accepted of its value at one ballot
  pub decided_was_chosen : (k s : ℕ) (v : Value) → Says sent k s (Decided v)
      → (b : Ballot) × MajorityOf n (λ a. SaysBefore sent k s (Accepted a b v))
