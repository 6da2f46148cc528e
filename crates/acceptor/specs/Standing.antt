-- How an acceptor stands, by what each slot has promised and accepted: Lamport, "Paxos Made Simple", section 2.2.
use Rattle.std.specs.Prelude.{◌≡◌, ℕ, Option, Some, None}
use Rattle.ballots.specs.Ballot.{Ballot}
use Rattle.ballots.specs.Slots.{SetsSlot}
use Rattle.ballots.specs.declared.acceptance.Acceptance.{Acceptance}

pub record Standing : Type 0 where
  pub promised : ℕ → Option Ballot
  pub accepted : ℕ → Option Acceptance

-- nothing is promised or accepted
pub record IsFresh (now : Standing) : Type 0 where
  pub promises : (slot : ℕ) → now.promised slot ≡ None
  pub acceptances : (slot : ℕ) → now.accepted slot ≡ None

-- every slot is as before
pub record IsSame (old new : Standing) : Type 0 where
  pub promises : (slot : ℕ) → new.promised slot ≡ old.promised slot
  pub acceptances : (slot : ℕ) → new.accepted slot ≡ old.accepted slot

-- the slot has this promise and this acceptance, and every other slot is as before
pub record Sets (old new : Standing) (slot : ℕ) (ballot : Ballot) (held : Option Acceptance) : Type 0 where
  pub promises : SetsSlot old.promised new.promised slot (Some ballot)
  pub acceptances : SetsSlot old.accepted new.accepted slot held
