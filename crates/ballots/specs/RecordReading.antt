-- Reading a record from what its fields mean, with the fault that is met first: a tool of the proofs. What a text means is
-- defined in `Record`.
use Rattle.std.specs.Prelude.{ℕ, Result, Ok, Err, ◌==◌, if◌then◌else◌}
use Rattle.proto_fields.specs.Reading.{◌>>=◌}
use Rattle.ballots.specs.declared.slot.TheConstants.{MAX_SLOT}
use Rattle.ballots.specs.declared.record.numbers.TheConstants.{BEGAN, PROMISED, ACCEPTED, PROMISED_FROM}
use Rattle.ballots.specs.declared.record.Record.{Record}
use Rattle.ballots.specs.declared.record.Record.TheVariants.{Began, Promised, Accepted, PromisedFrom}
use Rattle.ballots.specs.declared.fault.MessageFault.{MessageFault}
use Rattle.ballots.specs.declared.fault.MessageFault.TheVariants.{BadKind}
use Rattle.ballots.specs.Record.{RecordParts}
use Rattle.ballots.specs.MessageReading.{known, within, ballot_at, acceptance_at}

abbrev pub began_at : RecordParts → Result Record MessageFault
began_at p = ballot_at p.round p.node >>= λ b. Ok (Began b)

abbrev pub promised_at : RecordParts → Result Record MessageFault
promised_at p = within MAX_SLOT p.slot >>= λ s. ballot_at p.round p.node >>= λ b. Ok (Promised s b)

abbrev pub accepted_at : RecordParts → Result Record MessageFault
accepted_at p = within MAX_SLOT p.slot >>= λ s. acceptance_at p.round p.node p.value >>= λ a. Ok (Accepted s a)

abbrev pub promised_from_at : RecordParts → Result Record MessageFault
promised_from_at p = within MAX_SLOT p.slot >>= λ s. ballot_at p.round p.node >>= λ b. Ok (PromisedFrom s b)

unfoldable pub kept_at : ℕ → RecordParts → Result Record MessageFault
kept_at kind p =
    if kind == BEGAN then began_at p
    else if kind == PROMISED then promised_at p
    else if kind == ACCEPTED then accepted_at p
    else if kind == PROMISED_FROM then promised_from_at p
    else Err BadKind

unfoldable pub record_at : RecordParts → Result Record MessageFault
record_at p = known p.kind >>= λ kind. kept_at kind p
