-- Crashes. A call takes some time, and the machine may fail at each moment of it: `moment` is a number of the store
-- that does not fall, and `finds_since store t found` says that a crash at some moment from t on might have left a
-- store of which this is found. Lamport, "Paxos Made Simple", section 2.5, has a record in stable storage before its
-- answer goes out; the moments are this service's own.
use Rattle.std.specs.Prelude.{◌⊎◌, ℕ, ◌≤◌}
use Rattle.stable_records.specs.Found.{Found}

-- A crash at any moment from one state of the store to a later one leaves what may be found there.
pub record AnyCrashLeaves {S : Type 0} (moment : S → ℕ) (finds_since : S → ℕ → Found → Type 0) (old new : S)
    (may_be_found : Found → Type 0) : Type 0 where
  pub later : moment old ≤ moment new
  pub leaves : (found : Found) → finds_since new (moment old) found → may_be_found found
  -- for what began earlier
  pub before : (t : ℕ) (found : Found) → t ≤ moment old → finds_since new t found
      → finds_since old t found ⊎ may_be_found found
  -- what a crash might have left stays
  pub remembers : (t : ℕ) (found : Found) → t ≤ moment old → finds_since old t found → finds_since new t found
