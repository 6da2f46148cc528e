-- Members, sets of nodes and majorities: Lamport, "Paxos Made Simple", section 2.1, where any two majorities have a member
-- in common.
use Rattle.std.specs.Prelude.{ℕ, zero, suc, ◌*◌, ◌<◌, ◌≤◌, Bool, false, List, slice_index_or, if◌then◌else◌}
use Rattle.ballots.specs.Limits.{max_members}

-- how many members there can be
pub record IsMembers (count : ℕ) : Type 0 where
  pub some : 0 < count
  pub within : count ≤ max_members

-- A set of members is a test on their numbers, 0 to n less 1; this is its size.
abbrev pub tally : ℕ → (ℕ → Bool) → ℕ
tally zero is_in = zero
tally (suc n) is_in = if is_in n then suc (tally n is_in) else tally n is_in

-- twice the size is more than the members
abbrev pub IsMajority : ℕ → ℕ → Type 0
IsMajority n size = n < 2 * size

-- a set of nodes: for each node, by its number, whether it is in the set
abbrev pub NodeSet : Type 0
NodeSet = List Bool

abbrev pub contains : NodeSet → ℕ → Bool
contains set node = slice_index_or set node false

-- so many members are in the set; nodes that are no members do not count
abbrev pub members_in : ℕ → NodeSet → ℕ
members_in members set = tally members (contains set)
