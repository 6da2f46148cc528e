-- What an acceptor answers, and how it stands afterwards: Lamport, "Paxos Made Simple", section 2.2, phases 1b and 2b.
use Rattle.std.specs.Prelude.{◌≡◌, ℕ, Some}
use Rattle.ballots.specs.Ballot.{Ballot, IsBelow, IsAbove, IsAtLeast}
use Rattle.ballots.specs.declared.acceptance.Acceptance.{Acceptance}
use Rattle.acceptor.specs.declared.answer.Answer.{Answer}
use Rattle.acceptor.specs.declared.answer.Answer.TheVariants.{Promise, PromiseFrom, Granted, Nack}
use Rattle.acceptor.specs.Standing.{Standing, IsSame, Sets}

-- A Prepare is promised exactly where its ballot is above what the slot has promised. The Promise reports what the
-- slot has accepted, and the slot's promise is then this ballot. Else the Nack names what the slot has promised.
abbrev pub Prepares : Standing → Standing → ℕ → Ballot → Answer → Type 0
Prepares old new slot ballot (Promise report) =
    IsAbove ballot (old.promised slot) × (report ≡ old.accepted slot) × Sets old new slot ballot (old.accepted slot)
Prepares old new slot ballot (Nack promised) =
    (old.promised slot ≡ Some promised) × IsAtLeast promised (Some ballot) × IsSame old new
Prepares old new slot ballot (PromiseFrom reports) = ⊥
Prepares old new slot ballot Granted = ⊥

-- An Accept is granted exactly where its ballot is what the slot has promised or above. The slot has then promised
-- its ballot, and accepted its value at it. Else the Nack names what the slot has promised.
abbrev pub Accepts : Standing → Standing → ℕ → Acceptance → Answer → Type 0
Accepts old new slot proposal Granted =
    IsAtLeast proposal.ballot (old.promised slot) × Sets old new slot proposal.ballot (Some proposal)
Accepts old new slot proposal (Nack promised) =
    (old.promised slot ≡ Some promised) × IsBelow proposal.ballot promised × IsSame old new
Accepts old new slot proposal (Promise report) = ⊥
Accepts old new slot proposal (PromiseFrom reports) = ⊥
