-- How a record changes what an acceptor has: Lamport, "Paxos Made Simple", section 2.2, where it remembers the highest
-- number that it has promised and the highest-numbered proposal that it has accepted, and section 3, where one promise is
-- for infinitely many instances.
use Rattle.std.specs.Prelude.{◌≡◌, ℕ, Option, Some}
use Rattle.std.specs.Option.{option_map}
use Rattle.ballots.specs.Ballot.{Ballot, IsBelow, IsAtLeast}
use Rattle.ballots.specs.Slots.{OthersStay}
use Rattle.ballots.specs.declared.record.Record.{Record}
use Rattle.ballots.specs.declared.record.Record.TheVariants.{Began, Promised, Accepted, PromisedFrom}
use Rattle.acceptor.specs.Standing.{Standing, IsSame}
use Rattle.acceptor.specs.Ranged.{IsFrom}

-- The slot has this entry, unless it had one at a higher ballot, which then stays. Every other slot is as before.
pub record Raises {X : Type 0} (ballot_of : X → Ballot) (old new : ℕ → Option X) (slot : ℕ) (entry : X) : Type 0 where
  pub kept : (held : X) → old slot ≡ Some held → IsBelow (ballot_of entry) (ballot_of held) → new slot ≡ old slot
  pub raised : IsAtLeast (ballot_of entry) (option_map ballot_of (old slot)) → new slot ≡ Some entry
  pub others : OthersStay old new slot

-- Each slot from the first one on has this promise, unless it had a higher one, which then stays. Every other slot is as
-- before.
pub record RaisesFrom (old new : ℕ → Option Ballot) (first : ℕ) (ballot : Ballot) : Type 0 where
  pub kept : (slot : ℕ) (held : Ballot) → IsFrom first slot → old slot ≡ Some held → IsBelow ballot held → new slot ≡ old slot
  pub raised : (slot : ℕ) → IsFrom first slot → IsAtLeast ballot (old slot) → new slot ≡ Some ballot
  pub others : (slot : ℕ) → ¬ IsFrom first slot → new slot ≡ old slot

-- A promise raises what its slot has promised, and one of all slots from a first one on what each of them has. An
-- acceptance raises its slot's promise too, and what its slot has accepted. The begin of an attempt is none of an
-- acceptor's.
abbrev pub Applies : Standing → Standing → Record → Type 0
Applies old new (Began ballot) = IsSame old new
Applies old new (Promised slot ballot) =
    Raises (λ held. held) old.promised new.promised slot ballot
    × ((other : ℕ) → new.accepted other ≡ old.accepted other)
Applies old new (Accepted slot acceptance) =
    Raises (λ held. held) old.promised new.promised slot acceptance.ballot
    × Raises (λ held. held.ballot) old.accepted new.accepted slot acceptance
Applies old new (PromisedFrom first ballot) =
    RaisesFrom old.promised new.promised first ballot × ((other : ℕ) → new.accepted other ≡ old.accepted other)
