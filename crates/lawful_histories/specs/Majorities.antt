-- What holds of each member of some majority: Lamport, "Paxos Made Simple", section 2.1.
use Rattle.std.specs.Prelude.{ℕ, ◌<◌, Bool, IsTrue}
use Rattle.ballots.specs.Majority.{tally, IsMajority}

-- so it is of each member of some majority
pub record MajorityOf (n : ℕ) (P : ℕ → Type 0) : Type 0 where
  pub is_in : ℕ → Bool
  pub majority : IsMajority n (tally n is_in)
  pub each : (a : ℕ) → a < n → IsTrue (is_in a) → P a
