-- Which attempt is open after a list of calls, what answers it, and when it has its majority: Lamport, "Paxos Made
-- Simple", sections 2.2 and 2.5, phases 1a and 2a, and section 3.
use Rattle.std.specs.Prelude.{◌≡◌, ℕ, suc, max, ◌==◌, nat_lt, nat_le, ◌&&◌, Bool, true, false, Option, Some, None}
use Rattle.std.specs.Prelude.{List, [], ◌∷◌, ◌++◌, filter, filter_map}
use Rattle.std.specs.List.{AllByRecursion}
use Rattle.ballots.specs.Ballot.{Ballot, is_same_ballot}
use Rattle.ballots.specs.declared.value.Value.{Value}
use Rattle.proposer.specs.Call.{Reach, OneSlot, AllFrom, Begun, Promise, PromiseFrom}
use Rattle.proposer.specs.Call.{ProposerCall, Begins, Promises, PromisesFrom, GoesOn, Nacks}
use Rattle.proposer.specs.Choosing.{HasMajority, Chooses, first_of_each, reports_of}
use Rattle.proposer.specs.Reporting.{promise_in}

-- ---- ballots

-- the greatest of this round and all that were begun
abbrev pub highest_begun : ℕ → List ProposerCall → ℕ
highest_begun round [] = round
highest_begun round (Begins begun ∷ calls) = highest_begun (max round begun.ballot.round) calls
highest_begun round (Promises promise ∷ calls) = highest_begun round calls
highest_begun round (PromisesFrom promise ∷ calls) = highest_begun round calls
highest_begun round (GoesOn candidate ∷ calls) = highest_begun round calls
highest_begun round (Nacks slot ballot ∷ calls) = highest_begun round calls

-- a node's next ballot: one round above the greater of those two
abbrev pub next_ballot : ℕ → ℕ → ℕ → Ballot
next_ballot me highest seen_round = record { round = suc (max seen_round highest); node = me }

-- each attempt begins at its node's next ballot, above what the node had seen and above all that it began before
pub record BallotsIncrease (me highest : ℕ) (calls : List ProposerCall) : Type 0 where
  pub each : (before after : List ProposerCall) (begun : Begun) → calls ≡ before ++ Begins begun ∷ after
      → begun.ballot ≡ next_ballot me (highest_begun highest before) begun.seen_round

-- ---- the open attempt

-- an attempt that begins at the first slot is for this one
abbrev pub reaches : Reach → ℕ → ℕ → Bool
reaches OneSlot first slot = slot == first
reaches AllFrom first slot = nat_le first slot

-- another attempt begins, or a Nack of a slot and the ballot of this one comes
abbrev pub ends : Begun → ProposerCall → Bool
ends begun (Begins another) = true
ends begun (Promises promise) = false
ends begun (PromisesFrom promise) = false
ends begun (GoesOn candidate) = false
ends begun (Nacks slot ballot) = reaches begun.reach begun.slot slot && is_same_ballot ballot begun.ballot

-- the attempt began, and none of the calls since has ended it
pub record IsOpen (calls : List ProposerCall) (begun : Begun) (since : List ProposerCall) : Type 0 where
  pub before : List ProposerCall
  pub split : calls ≡ before ++ Begins begun ∷ since
  pub goes_on : AllByRecursion (λ call. ends begun call ≡ false) since

-- this slot and ballot are those of the open attempt, or none is open
abbrev pub IsAttempt : List ProposerCall → Option (ℕ × Ballot) → Type 0
IsAttempt calls (Some attempt) =
    (begun : Begun) × (since : List ProposerCall) × IsOpen calls begun since × (attempt ≡ (begun.slot, begun.ballot))
IsAttempt calls None = (begun : Begun) (since : List ProposerCall) → IsOpen calls begun since → ⊥

-- ---- its promises

-- it is by a member, for the attempt's slot and at its ballot
abbrev pub is_for : ℕ → Begun → Promise → Bool
is_for members begun promise =
    nat_lt promise.sender members && (promise.slot == begun.slot && is_same_ballot promise.ballot begun.ballot)

-- the promises of members among these calls that answer the attempt, with what they report of a slot
abbrev pub answering_at : ℕ → Begun → ℕ → List ProposerCall → List Promise
answering_at members begun slot calls = filter (is_for members begun) (filter_map (promise_in begun.reach slot) calls)

-- and of its first slot
abbrev pub answering : ℕ → Begun → List ProposerCall → List Promise
answering members begun calls = answering_at members begun begun.slot calls

-- with this call, and not before it, a majority has answered
pub record CompletesBy (members : ℕ) (begun : Begun) (since : List ProposerCall) (call : ProposerCall) : Type 0 where
  pub before : HasMajority members (answering members begun since) → ⊥
  pub now : HasMajority members (answering members begun (since ++ call ∷ []))

-- the promises that count: of those that answer the attempt, each sender's first
abbrev pub counted_at : ℕ → Begun → ℕ → List ProposerCall → List Promise
counted_at members begun slot calls = first_of_each (answering_at members begun slot calls)

abbrev pub counted : ℕ → Begun → List ProposerCall → List Promise
counted members begun calls = counted_at members begun begun.slot calls

-- the value that the attempt proposes for its first slot, by the promises that count
abbrev pub Proposes : ℕ → Begun → List ProposerCall → Value → Type 0
Proposes members begun since value = Chooses begun.candidate (reports_of (counted members begun since)) value

-- the Accept of the open attempt, for its first slot, which this call completes after these
pub record LeadsToAcceptBy (members : ℕ) (calls : List ProposerCall) (call : ProposerCall) (accept : ℕ × Ballot × Value) : Type 0 where
  pub begun : Begun
  pub since : List ProposerCall
  pub open_is : IsOpen calls begun since
  pub completes : CompletesBy members begun since call
  pub slot_is : accept.0 ≡ begun.slot
  pub ballot_is : accept.1 ≡ begun.ballot
  pub value_is : Proposes members begun (since ++ call ∷ []) accept.2

-- what is answered to a call: an Accept exactly where it completes the open attempt
abbrev pub AnswersCall : ℕ → List ProposerCall → ProposerCall → Option (ℕ × Ballot × Value) → Type 0
AnswersCall members calls call (Some accept) = LeadsToAcceptBy members calls call accept
AnswersCall members calls call None =
    (begun : Begun) (since : List ProposerCall) → IsOpen calls begun since → CompletesBy members begun since call → ⊥

-- the open attempt has been promised by a majority, so that its Accept was answered
abbrev pub HasItsMajority : ℕ → List ProposerCall → Type 0
HasItsMajority members calls =
    (begun : Begun) × (since : List ProposerCall) × IsOpen calls begun since
    × HasMajority members (answering members begun since)

-- ---- what a promise of one slot completes, and is answered

abbrev pub Completes : ℕ → Begun → List ProposerCall → Promise → Type 0
Completes members begun since promise = CompletesBy members begun since (Promises promise)

abbrev pub LeadsToAccept : ℕ → List ProposerCall → Promise → ℕ × Ballot × Value → Type 0
LeadsToAccept members calls promise accept = LeadsToAcceptBy members calls (Promises promise) accept

abbrev pub Answers : ℕ → List ProposerCall → Promise → Option (ℕ × Ballot × Value) → Type 0
Answers members calls promise answer = AnswersCall members calls (Promises promise) answer

-- ---- and one of all slots from one on

abbrev pub AnswersFrom : ℕ → List ProposerCall → PromiseFrom → Option (ℕ × Ballot × Value) → Type 0
AnswersFrom members calls promise answer = AnswersCall members calls (PromisesFrom promise) answer
