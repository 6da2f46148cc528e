-- What the records of a node leave: Lamport, "Paxos Made Simple", section 2.2, where an acceptor remembers the highest
-- number that it has promised and the highest-numbered proposal that it has accepted, section 2.5, where it has them
-- back from stable storage, and section 3, where one promise is for infinitely many instances. A record of an acceptance
-- tells a promise of its ballot too: what is accepted at a ballot is granted from it on.
use Rattle.std.specs.Prelude.{◌≡◌, ◌≤◌, ◌⊎◌, ℕ, List, [], ◌∷◌, ◌++◌, Option, Some, None, nat_eq, nat_le, ◌&&◌, if◌then◌else◌}
use Rattle.std.specs.List.{Contains, filter_map}
use Rattle.ballots.specs.Ballot.{Ballot, IsBelow}
use Rattle.ballots.specs.Limits.{max_slot}
use Rattle.ballots.specs.declared.acceptance.Acceptance.{Acceptance}
use Rattle.ballots.specs.declared.record.Record.{Record}
use Rattle.ballots.specs.declared.record.Record.TheVariants.{Began, Promised, Accepted, PromisedFrom}
use Rattle.acceptor.specs.Standing.{Standing}

-- the ballot that a record says of a slot: a promise of slots from a first one on says it of each of them, up to the last
-- one that there is
abbrev pub promise_in : ℕ → Record → Option Ballot
promise_in slot (Began ballot) = None
promise_in slot (Promised of ballot) = if nat_eq slot of then Some ballot else None
promise_in slot (Accepted of acceptance) = if nat_eq slot of then Some acceptance.ballot else None
promise_in slot (PromisedFrom first ballot) = if nat_le first slot && nat_le slot max_slot then Some ballot else None

-- what a record says that the slot has accepted
abbrev pub acceptance_in : ℕ → Record → Option Acceptance
acceptance_in slot (Began ballot) = None
acceptance_in slot (Promised of ballot) = None
acceptance_in slot (Accepted of acceptance) = if nat_eq slot of then Some acceptance else None
acceptance_in slot (PromisedFrom first ballot) = None

-- the highest of these ballots, none where there are none
abbrev pub IsHighest : List Ballot → Option Ballot → Type 0
IsHighest ballots None = ballots ≡ []
IsHighest ballots (Some ballot) =
    Contains ballots ballot × ((other : Ballot) → Contains ballots other → ¬ IsBelow ballot other)

-- the acceptance at the highest ballot, the last one where ballots are equal: none before it is above it, and all
-- behind it are below it
abbrev pub IsLastHighest : List Acceptance → Option Acceptance → Type 0
IsLastHighest acceptances None = acceptances ≡ []
IsLastHighest acceptances (Some highest) =
    (before after : List Acceptance)
    × (acceptances ≡ before ++ highest ∷ after)
    × ((other : Acceptance) → Contains before other → ¬ IsBelow highest.ballot other.ballot)
    × ((other : Acceptance) → Contains after other → IsBelow other.ballot highest.ballot)

-- So an acceptor stands that has these records.
pub record IsRestored (records : List Record) (now : Standing) : Type 0 where
  pub promises : (slot : ℕ) → IsHighest (filter_map (promise_in slot) records) (now.promised slot)
  pub acceptances : (slot : ℕ) → IsLastHighest (filter_map (acceptance_in slot) records) (now.accepted slot)

-- the round that a record says was begun
abbrev pub round_in : Record → Option ℕ
round_in (Began ballot) = Some ballot.round
round_in (Promised of ballot) = None
round_in (Accepted of acceptance) = None
round_in (PromisedFrom first ballot) = None

-- the highest round that was begun, 0 where none was: rounds begin at 1
pub record IsHighestRound (records : List Record) (round : ℕ) : Type 0 where
  pub begun : (round ≡ 0) ⊎ Contains (filter_map round_in records) round
  pub highest : (other : ℕ) → Contains (filter_map round_in records) other → other ≤ round
