-- Promises of all slots from a first one on, as an acceptor holds them: Lamport, "Paxos Made Simple", section 3, where
-- one message prepares infinitely many instances.
use Rattle.std.specs.Prelude.{ℕ, ◌<◌, List, [], ◌∷◌, Option, Some, None, nat_le, if◌then◌else◌}
use Rattle.std.specs.List.{AllByRecursion}
use Rattle.std.specs.Option.{option_or}
use Rattle.std.specs.Ordering.{is_lt}
use Rattle.ballots.specs.Ballot.{Ballot, IsBelow, ballot_cmp}
use Rattle.ballots.specs.Limits.{max_slot}

-- by first slots what all slots from them on have promised together, and how many more there is room for without memory
pub record RangesState : Type 0 where
  pub ranges : List (ℕ × Ballot)
  pub room : ℕ

-- the higher of two ballots that may be none: none is below every ballot
abbrev pub higher : Option Ballot → Option Ballot → Option Ballot
higher None b = b
higher (Some a) None = Some a
higher (Some a) (Some b) = if is_lt (ballot_cmp a b) then Some b else Some a

-- the ballot of the last range that begins at the slot or below it, by ranges' first slots and ballots
abbrev pub last_begun : List (ℕ × Ballot) → ℕ → Option Ballot
last_begun [] slot = None
last_begun (range ∷ ranges) slot =
    option_or (last_begun ranges slot) (if nat_le range.0 slot then Some range.1 else None)

-- the ballot that a slot has promised with others: each range ends with the last slot that there is
abbrev pub ranged_at : List (ℕ × Ballot) → ℕ → Option Ballot
ranged_at ranges slot = if nat_le slot max_slot then last_begun ranges slot else None

-- first slots rise, and ballots rise with them
abbrev pub Rise : List (ℕ × Ballot) → Type 0
Rise [] = Unit {0}
Rise (range ∷ ranges) =
    AllByRecursion (λ later. (range.0 < later.0) × IsBelow range.1 later.1) ranges × Rise ranges
