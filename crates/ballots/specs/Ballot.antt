-- Ballots and their order: Lamport, "Paxos Made Simple", section 2.2, where numbers are asked to differ between
-- proposers; here a number is a pair of a round and the node that began it.
use Rattle.std.specs.Prelude.{◌≡◌, ℕ, ◌<◌, ◌≤◌, ◌⊎◌, ◌==◌, ◌&&◌, Bool, Option, Some, None}
use Rattle.std.specs.declared.cmp.Ordering.{Ordering}
use Rattle.std.specs.Ordering.{nat_cmp, ordering_then}
use Rattle.ballots.specs.Limits.{max_round, max_node}

pub record Ballot : Type 0 where
  pub round : ℕ
  pub node : ℕ

-- by round, then by node
abbrev pub IsBelow : Ballot → Ballot → Type 0
IsBelow a b = (a.round < b.round) ⊎ ((a.round ≡ b.round) × (a.node < b.node))

-- the same order as an answer
abbrev pub ballot_cmp : Ballot → Ballot → Ordering
ballot_cmp a b = ordering_then (nat_cmp a.round b.round) (nat_cmp a.node b.node)

-- whether they are one ballot
abbrev pub is_same_ballot : Ballot → Ballot → Bool
is_same_ballot a b = a.round == b.round && a.node == b.node

-- the ballots that there are
pub record IsBallot (b : Ballot) : Type 0 where
  pub above_zero : 0 < b.round
  pub round : b.round ≤ max_round
  pub node : b.node ≤ max_node

-- above a ballot that may be none: none is below every ballot
abbrev pub IsAbove : Ballot → Option Ballot → Type 0
IsAbove b None = Unit {0}
IsAbove b (Some a) = IsBelow a b

-- at that ballot or above it
abbrev pub IsAtLeast : Ballot → Option Ballot → Type 0
IsAtLeast b None = Unit {0}
IsAtLeast b (Some a) = IsBelow a b ⊎ (a ≡ b)
