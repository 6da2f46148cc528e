-- What a message that was sent before is to a later one of the slot: Lamport, "Paxos Made Simple", section 2.2, the messages
-- of the two phases.
use Rattle.std.specs.Prelude.{◌≡◌, ℕ, ◌<◌, ◌⊎◌, List, Option, Some, None, IfSome, IsSomeAnd}
use Rattle.std.specs.List.{Any}
use Rattle.ballots.specs.Ballot.{Ballot, IsBelow}
use Rattle.ballots.specs.declared.value.Value.{Value}
use Rattle.ballots.specs.declared.acceptance.Acceptance.{Acceptance}
use Rattle.ballots.specs.declared.message.Message.{Message}
use Rattle.ballots.specs.declared.message.Body.{Body}
use Rattle.ballots.specs.declared.message.Body.TheVariants.{Prepare, Promise, Nack, Accept, Accepted, Ask, Decided}
use Rattle.lawful_histories.specs.Saying.{Report, IsUpTo}
use Rattle.lawful_histories.specs.Majorities.{MajorityOf}
use Rattle.lawful_histories.specs.Judging.{ReportCovers}

-- ---- what a body says

-- what an Accept proposes
abbrev pub proposal_in : Body → Option Acceptance
proposal_in (Prepare ballot) = None
proposal_in (Promise ballot report) = None
proposal_in (Nack ballot promised) = None
proposal_in (Accept proposal) = Some proposal
proposal_in (Accepted acceptance) = None
proposal_in Ask = None
proposal_in (Decided value) = None

-- what an Accepted accepts
abbrev pub acceptance_in : Body → Option Acceptance
acceptance_in (Prepare ballot) = None
acceptance_in (Promise ballot report) = None
acceptance_in (Nack ballot promised) = None
acceptance_in (Accept proposal) = None
acceptance_in (Accepted acceptance) = Some acceptance
acceptance_in Ask = None
acceptance_in (Decided value) = None

-- the ballot to which it binds its sender: the one that it promises, or at which it accepts
abbrev pub bound_in : Body → Option Ballot
bound_in (Prepare ballot) = None
bound_in (Promise ballot report) = Some ballot
bound_in (Nack ballot promised) = None
bound_in (Accept proposal) = None
bound_in (Accepted acceptance) = Some acceptance.ballot
bound_in Ask = None
bound_in (Decided value) = None

-- it is a Promise of the ballot, with a report of which this holds
abbrev pub IsPromiseWith : Ballot → (Report → Type 0) → Body → Type 0
IsPromiseWith b P (Prepare ballot) = ⊥
IsPromiseWith b P (Promise ballot report) = (ballot ≡ b) × P report
IsPromiseWith b P (Nack ballot promised) = ⊥
IsPromiseWith b P (Accept proposal) = ⊥
IsPromiseWith b P (Accepted acceptance) = ⊥
IsPromiseWith b P Ask = ⊥
IsPromiseWith b P (Decided value) = ⊥

-- it is a Decided of the value
abbrev pub IsDecided : Value → Body → Type 0
IsDecided v (Prepare ballot) = ⊥
IsDecided v (Promise ballot report) = ⊥
IsDecided v (Nack ballot promised) = ⊥
IsDecided v (Accept proposal) = ⊥
IsDecided v (Accepted acceptance) = ⊥
IsDecided v Ask = ⊥
IsDecided v (Decided value) = value ≡ v

-- ---- what one message lets be

-- where it proposes at the ballot, it proposes this value
abbrev pub LetsPropose : ℕ → Ballot → Value → Message → Type 0
LetsPropose s b v e = e.slot ≡ s → IfSome (proposal_in e.body) (λ p. p.ballot ≡ b → p.value ≡ v)

-- it binds the node to no ballot above this one
abbrev pub LetsAccept : ℕ → ℕ → Ballot → Message → Type 0
LetsAccept s a b e = e.slot ≡ s → e.sender ≡ a → IfSome (bound_in e.body) (λ c. IsBelow b c → ⊥)

-- it binds the node to ballots below this one alone
abbrev pub LetsPromise : ℕ → ℕ → Ballot → Message → Type 0
LetsPromise s a b e = e.slot ≡ s → e.sender ≡ a → IfSome (bound_in e.body) (λ c. IsBelow c b)

-- where it is the node's Accepted, the report is of its ballot or a higher one
abbrev pub LetsReport : ℕ → ℕ → Report → Message → Type 0
LetsReport s a r e = e.slot ≡ s → e.sender ≡ a → IfSome (acceptance_in e.body) (λ p. ReportCovers r p.ballot)

-- ---- what one message says

-- it proposes the value at the ballot
abbrev pub Proposes : ℕ → Ballot → Value → Message → Type 0
Proposes s b v e = (e.slot ≡ s) × IsSomeAnd (proposal_in e.body) (λ p. (p.ballot ≡ b) × (p.value ≡ v))

-- it is this node's Accepted of the value at the ballot
abbrev pub Accepts : ℕ → Ballot → Value → ℕ → Message → Type 0
Accepts s b v a e = (e.slot ≡ s) × (e.sender ≡ a) × IsSomeAnd (acceptance_in e.body) (λ p. (p.ballot ≡ b) × (p.value ≡ v))

-- it is this node's Promise of the ballot, with a report of which this holds
abbrev pub Promises : ℕ → Ballot → (Report → Type 0) → ℕ → Message → Type 0
Promises s b P a e = (e.slot ≡ s) × (e.sender ≡ a) × IsPromiseWith b P e.body

-- it is a member's Promise of the ballot that reports an acceptance of which this holds
abbrev pub Reports : ℕ → ℕ → Ballot → (Acceptance → Type 0) → Message → Type 0
Reports n s b P e = (e.slot ≡ s) × (e.sender < n) × IsPromiseWith b (λ r. IsSomeAnd r P) e.body

-- it tells that the value is decided
abbrev pub Decides : ℕ → Value → Message → Type 0
Decides s v e = (e.slot ≡ s) × IsDecided v e.body

-- ---- what all messages before say

-- the value was proposed at the ballot
abbrev pub WasProposed : ℕ → List Message → Ballot → Value → Type 0
WasProposed s before b v = Any (Proposes s b v) before

-- a majority promised the ballot, each with a report of which this holds
abbrev pub MostPromised : ℕ → ℕ → List Message → Ballot → (Report → Type 0) → Type 0
MostPromised n s before b P = MajorityOf n (λ a. Any (Promises s b P a) before)

-- a majority promised the ballot
abbrev pub IsPromised : ℕ → ℕ → List Message → Ballot → Type 0
IsPromised n s before b = MostPromised n s before b (λ r. Unit {0})

-- the report is of no ballot above the bound, or is none where there is no bound
abbrev pub IsWithin : Option Ballot → Report → Type 0
IsWithin None r = r ≡ None
IsWithin (Some c) r = IsUpTo r c

-- it is a member's Promise of the ballot that reports the value, and a majority promised with no higher report
abbrev pub ShowsSafe : ℕ → ℕ → List Message → Ballot → Value → Message → Type 0
ShowsSafe n s before b v e = Reports n s b (λ q. (q.value ≡ v) × MostPromised n s before b (IsWithin (Some q.ballot))) e

-- a majority promised the ballot and reported nothing, or the highest report of a majority has this value
abbrev pub MayBeProposed : ℕ → ℕ → List Message → Ballot → Value → Type 0
MayBeProposed n s before b v = MostPromised n s before b (IsWithin None) ⊎ Any (ShowsSafe n s before b v) before

-- a majority accepted the value at the ballot
abbrev pub MostAccepted : ℕ → ℕ → List Message → Ballot → Value → Type 0
MostAccepted n s before b v = MajorityOf n (λ a. Any (Accepts s b v a) before)

-- and so at some ballot
abbrev pub WasChosen : ℕ → ℕ → List Message → Value → Type 0
WasChosen n s before v = (b : Ballot) × MostAccepted n s before b v

-- it is an Accepted of the value, at a ballot at which a majority accepted it
abbrev pub ShowsChosen : ℕ → ℕ → List Message → Value → Message → Type 0
ShowsChosen n s before v e = (e.slot ≡ s) × IsSomeAnd (acceptance_in e.body) (λ p. (p.value ≡ v) × MostAccepted n s before p.ballot v)
