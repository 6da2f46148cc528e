-- Promises, as the calls have them: the words of the laws. Lamport, "Paxos Made Simple", section 2.2, phase 2a, and
-- section 3.
use Rattle.std.specs.Prelude.{◌≡◌, ℕ, ◌<◌, ◌≤◌, Bool, true, List}
use Rattle.std.specs.List.{Contains}
use Rattle.ballots.specs.Majority.{tally, IsMajority}
use Rattle.proposer.specs.Call.{Reach, OneSlot, AllFrom, Begun, Promise, PromiseFrom, ProposerCall, Promises, PromisesFrom}
use Rattle.proposer.specs.Reporting.{rises_from}

-- an attempt that begins at the first slot is for this one
abbrev pub Reaches : Reach → ℕ → ℕ → Type 0
Reaches OneSlot first slot = slot ≡ first
Reaches AllFrom first slot = first ≤ slot

-- it answers the attempt: a member's promise for its slot and at its ballot
pub record IsAnswerTo (members : ℕ) (begun : Begun) (promise : Promise) : Type 0 where
  pub member : promise.sender < members
  pub slot : promise.slot ≡ begun.slot
  pub ballot : promise.ballot ≡ begun.ballot

-- and one of all slots from its first on, with reports of slots that rise from there
pub record IsAnswerFrom (members : ℕ) (begun : Begun) (promise : PromiseFrom) : Type 0 where
  pub member : promise.sender < members
  pub slot : promise.slot ≡ begun.slot
  pub ballot : promise.ballot ≡ begun.ballot
  pub rises : rises_from promise.slot promise.reports ≡ true

-- the node is among those who answered the attempt, in the form of its reach
abbrev pub HasPromisedBy : Reach → ℕ → Begun → List ProposerCall → ℕ → Type 0
HasPromisedBy OneSlot members begun calls node =
    (promise : Promise) × Contains calls (Promises promise) × IsAnswerTo members begun promise × (promise.sender ≡ node)
HasPromisedBy AllFrom members begun calls node =
    (promise : PromiseFrom) × Contains calls (PromisesFrom promise) × IsAnswerFrom members begun promise
    × (promise.sender ≡ node)

abbrev pub HasPromised : ℕ → Begun → List ProposerCall → ℕ → Type 0
HasPromised members begun calls node = HasPromisedBy begun.reach members begun calls node

-- different members, more than half of all, each of whom did
pub record MajorityPromised (members : ℕ) (begun : Begun) (calls : List ProposerCall) : Type 0 where
  pub has_promised : ℕ → Bool
  pub majority : IsMajority members (tally members has_promised)
  pub each : (node : ℕ) → node < members → has_promised node ≡ true → HasPromised members begun calls node
