-- When the next tick of a node is due, by what came to pass at its worker. Ticks are this service's own; attempts and what
-- answers them are those of Lamport, "Paxos Made Simple", sections 2.2 and 2.3.
use Rattle.std.specs.Prelude.{◌≡◌, ℕ, suc, ◌+◌, ◌*◌, ◌^◌, ◌==◌, ◌&&◌, ◌||◌, Bool, true, false, not, nat_lt, nat_le, min, max, if◌then◌else◌}
use Rattle.std.specs.Prelude.{Option, Some, None, List, [], ◌∷◌}
use Rattle.std.specs.List.{list_any}
use Rattle.std.specs.Option.{option_map, option_map_or, option_or}
use Rattle.ballots.specs.Ballot.{Ballot, is_same_ballot}
use Rattle.ballots.specs.Majority.{tally, contains}
use Rattle.ballots.specs.declared.message.Message.{Message}
use Rattle.ballots.specs.declared.message.Body.{Body}
use Rattle.ballots.specs.declared.message.Body.TheVariants as body
use Rattle.node_worker.specs.declared.attempt.Attempt.{Attempt}

-- What comes to pass at a node's worker: so many milliseconds pass without a message; a message comes; an event of the node
-- is entered that is no tick, no delivery and no answer; or a tick is given, with the message that went out, if one did.
pub data Happening : Type 0 where
  Passed : ℕ → Happening
  Came : Message → Happening
  Acted : Happening
  Ticked : Option Message → Happening

-- What came to pass so far is a list of these, the latest first.

-- ---- how long it waits

-- for so many milliseconds no message came, and no tick was given
abbrev pub quiet_for : List Happening → ℕ
quiet_for [] = 0
quiet_for (Passed time ∷ before) = quiet_for before + time
quiet_for (Came message ∷ before) = 0
quiet_for (Acted ∷ before) = quiet_for before
quiet_for (Ticked sent ∷ before) = 0

abbrev pub is_ask : Body → Bool
is_ask (body.Prepare ballot) = false
is_ask (body.Promise ballot report) = false
is_ask (body.Nack ballot promised) = false
is_ask (body.Accept proposal) = false
is_ask (body.Accepted acceptance) = false
is_ask body.Ask = true
is_ask (body.Decided value) = false

abbrev pub is_prepare : Body → Bool
is_prepare (body.Prepare ballot) = true
is_prepare (body.Promise ballot report) = false
is_prepare (body.Nack ballot promised) = false
is_prepare (body.Accept proposal) = false
is_prepare (body.Accepted acceptance) = false
is_prepare body.Ask = false
is_prepare (body.Decided value) = false

-- a node that says this accepted a proposal, which a majority had promised, or knows of a decision
abbrev pub is_progress : Body → Bool
is_progress (body.Prepare ballot) = false
is_progress (body.Promise ballot report) = false
is_progress (body.Nack ballot promised) = false
is_progress (body.Accept proposal) = false
is_progress (body.Accepted acceptance) = true
is_progress body.Ask = false
is_progress (body.Decided value) = true

-- the number of its ticks that sent an Ask since an Accepted or a Decided came, or an event that is no tick, no delivery and no answer
abbrev pub asked : List Happening → ℕ
asked [] = 0
asked (Passed time ∷ before) = asked before
asked (Came message ∷ before) = if is_progress message.body then 0 else asked before
asked (Acted ∷ before) = 0
asked (Ticked sent ∷ before) = if option_map_or (λ message. is_ask message.body) sent false then suc (asked before) else asked before

-- the number of its ticks that began an attempt since then, or since an Ask came, which tells that its sender is there
abbrev pub tried : List Happening → ℕ
tried [] = 0
tried (Passed time ∷ before) = tried before
tried (Came message ∷ before) = if is_progress message.body || is_ask message.body then 0 else tried before
tried (Acted ∷ before) = 0
tried (Ticked sent ∷ before) = if option_map_or (λ message. is_prepare message.body) sent false then suc (tried before) else tried before

-- the milliseconds that it waits after this number of tries: 50 at first, and twice as many with each of them, up to 51,200
abbrev pub wait_behind : ℕ → ℕ
wait_behind tries = min (50 * 2 ^ tries) 51200

-- A tick is due after this many milliseconds without a message: the longer of what its Asks and its attempts make it wait.
abbrev pub wait_after : List Happening → ℕ
wait_after happened = max (wait_behind (asked happened)) (wait_behind (tried happened))

-- ---- its attempts

-- an attempt for a slot at a ballot, and the messages that came since it began, the latest first
pub record WatchedAttempt : Type 0 where
  pub slot : ℕ
  pub ballot : Ballot
  pub since : List Message

abbrev pub begins_by : ℕ → Body → Option WatchedAttempt
begins_by slot (body.Prepare ballot) = Some (record { slot = slot; ballot = ballot; since = [] })
begins_by slot (body.Promise ballot report) = None
begins_by slot (body.Nack ballot promised) = None
begins_by slot (body.Accept proposal) = None
begins_by slot (body.Accepted acceptance) = None
begins_by slot body.Ask = None
begins_by slot (body.Decided value) = None

-- the attempt that a tick begins with the message that it sends
abbrev pub begins : Option Message → Option WatchedAttempt
begins None = None
begins (Some message) = begins_by message.slot message.body

abbrev pub with_message : Message → WatchedAttempt → WatchedAttempt
with_message message begun = record { slot = begun.slot; ballot = begun.ballot; since = message ∷ begun.since }

-- the latest attempt
abbrev pub begun_in : List Happening → Option WatchedAttempt
begun_in [] = None
begun_in (Passed time ∷ before) = begun_in before
begun_in (Came message ∷ before) = option_map (with_message message) (begun_in before)
begun_in (Acted ∷ before) = begun_in before
begun_in (Ticked sent ∷ before) = option_or (begins sent) (begun_in before)

abbrev pub refuses_by : Ballot → Body → Bool
refuses_by ballot (body.Prepare b) = false
refuses_by ballot (body.Promise b report) = false
refuses_by ballot (body.Nack b promised) = is_same_ballot b ballot
refuses_by ballot (body.Accept proposal) = false
refuses_by ballot (body.Accepted acceptance) = false
refuses_by ballot body.Ask = false
refuses_by ballot (body.Decided value) = false

abbrev pub accepts_by : Ballot → Body → Bool
accepts_by ballot (body.Prepare b) = false
accepts_by ballot (body.Promise b report) = false
accepts_by ballot (body.Nack b promised) = false
accepts_by ballot (body.Accept proposal) = false
accepts_by ballot (body.Accepted acceptance) = is_same_ballot acceptance.ballot ballot
accepts_by ballot body.Ask = false
accepts_by ballot (body.Decided value) = false

abbrev pub decides_by : Body → Bool
decides_by (body.Prepare b) = false
decides_by (body.Promise b report) = false
decides_by (body.Nack b promised) = false
decides_by (body.Accept proposal) = false
decides_by (body.Accepted acceptance) = false
decides_by body.Ask = false
decides_by (body.Decided value) = true

-- a Nack of the slot's attempt at this ballot
abbrev pub refuses : ℕ → Ballot → Message → Bool
refuses slot ballot message = message.slot == slot && refuses_by ballot message.body

-- a Decided of the slot
abbrev pub decides : ℕ → Message → Bool
decides slot message = message.slot == slot && decides_by message.body

-- an Accepted at the slot and ballot
abbrev pub accepts : ℕ → Ballot → Message → Bool
accepts slot ballot message = message.slot == slot && accepts_by ballot message.body

-- the node accepted it
abbrev pub has_accepted : WatchedAttempt → ℕ → Bool
has_accepted begun node = list_any (λ message. message.sender == node && accepts begun.slot begun.ballot message) begun.since

-- a majority of the members accepted it
abbrev pub is_accepted : ℕ → WatchedAttempt → Bool
is_accepted members begun = nat_lt members (2 * tally members (has_accepted begun))

-- it was not refused, nothing was decided for its slot, and no majority accepted it
abbrev pub is_open : ℕ → WatchedAttempt → Bool
is_open members begun =
    not (list_any (refuses begun.slot begun.ballot) begun.since)
    && (not (list_any (decides begun.slot) begun.since) && not (is_accepted members begun))

abbrev pub lost_by : ℕ → ℕ → Ballot → List Message → Bool
lost_by members slot ballot [] = false
lost_by members slot ballot (message ∷ since) =
    lost_by members slot ballot since
    || (is_open members (record { slot = slot; ballot = ballot; since = since }) && refuses slot ballot message)

-- it was refused while it was open
abbrev pub is_lost : ℕ → WatchedAttempt → Bool
is_lost members begun = lost_by members begun.slot begun.ballot begun.since

-- ---- what is due

-- the latest attempt is open
abbrev pub attempts : ℕ → List Happening → Bool
attempts members happened = option_map_or (is_open members) (begun_in happened) false

-- A tick is due at once where an upload waits, no attempt is open, and none began without progress since; and else after the wait without
-- a message.
abbrev pub is_due : ℕ → List Happening → Bool → Bool
is_due members happened waits =
    (waits && (not (attempts members happened) && tried happened == 0)) || nat_le (wait_after happened) (quiet_for happened)

-- A tick leaves as many free slots to other nodes as the node's number says behind an attempt that was lost, and else none.
abbrev pub left_after : ℕ → ℕ → List Happening → ℕ
left_after me members happened = if option_map_or (is_lost members) (begun_in happened) false then me else 0

-- ---- what a node keeps of it

pub record PaceState : Type 0 where
  pub me : ℕ
  pub members : ℕ
  pub attempt : Option Attempt
  pub was_lost : Bool
  pub quiet : ℕ
  pub ask_wait : ℕ
  pub attempt_wait : ℕ

-- it is that attempt, and open
pub record IsAttempt (members : ℕ) (begun : WatchedAttempt) (attempt : Attempt) : Type 0 where
  pub slot_is : attempt.slot ≡ begun.slot
  pub ballot_is : attempt.ballot ≡ begun.ballot
  pub open_is : is_open members begun ≡ true
  pub accepted : (node : ℕ) → contains attempt.accepted node ≡ has_accepted begun node

-- the latest attempt, where it is open
abbrev pub AreAttempts : ℕ → Option WatchedAttempt → Option Attempt → Type 0
AreAttempts members None None = Unit {0}
AreAttempts members None (Some attempt) = ⊥
AreAttempts members (Some begun) None = is_open members begun ≡ false
AreAttempts members (Some begun) (Some attempt) = IsAttempt members begun attempt

-- what a node of this number, of so many members, keeps of what came to pass
pub record IsPaceOf (me members : ℕ) (happened : List Happening) (pace : PaceState) : Type 0 where
  pub me_is : pace.me ≡ me
  pub members_are : pace.members ≡ members
  pub attempt_is : AreAttempts members (begun_in happened) pace.attempt
  pub lost_is : pace.was_lost ≡ option_map_or (is_lost members) (begun_in happened) false
  pub quiet_is : pace.quiet ≡ min (quiet_for happened) 51200
  pub ask_wait_is : pace.ask_wait ≡ wait_behind (asked happened)
  pub attempt_wait_is : pace.attempt_wait ≡ wait_behind (tried happened)
