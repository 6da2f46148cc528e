-- What an acceptor holds, and the two look-ups by which contracts see it.
use Rattle.std.specs.Prelude.{ℕ, ◌<◌, List, Option, nat_eq}
use Rattle.std.specs.Map.{lookup}
use Rattle.ballots.specs.Ballot.{Ballot}
use Rattle.ballots.specs.declared.acceptance.Acceptance.{Acceptance}
use Rattle.ballots.specs.declared.record.Record.{Record}
use Rattle.ballots.specs.declared.record.Record.TheVariants.{Began, Promised, Accepted, PromisedFrom}
use Rattle.acceptor.specs.Standing.{Standing}
use Rattle.acceptor.specs.Ranges.{higher, ranged_at}

-- by slot what it has promised by itself, and what is accepted with its ballot; by first slots what all slots from them
-- on have promised together; and how many records of slots can be applied without memory, whatever their slots
pub record AcceptorState : Type 0 where
  pub promises : List (ℕ × Ballot)
  pub ranges : List (ℕ × Ballot)
  pub acceptances : List (ℕ × Acceptance)
  pub room : ℕ

-- the record can be applied without memory: one of slots wants room, and the begin of an attempt wants none
abbrev pub HasRoomFor : AcceptorState → Record → Type 0
HasRoomFor state (Began ballot) = Unit {0}
HasRoomFor state (Promised slot ballot) = 0 < state.room
HasRoomFor state (Accepted slot acceptance) = 0 < state.room
HasRoomFor state (PromisedFrom first ballot) = 0 < state.room

-- a slot's entry in a map by slots
abbrev pub at : {X : Type 0} → List (ℕ × X) → ℕ → Option X
at entries slot = lookup (nat_eq slot) entries

-- what a slot has promised: the higher of its own promise and of that which it made with others
abbrev pub promised_at : AcceptorState → ℕ → Option Ballot
promised_at state slot = higher (at state.promises slot) (ranged_at state.ranges slot)

abbrev pub accepted_at : AcceptorState → ℕ → Option Acceptance
accepted_at state slot = at state.acceptances slot

abbrev pub standing : AcceptorState → Standing
standing state = record { promised = promised_at state; accepted = accepted_at state }
