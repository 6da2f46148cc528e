-- Ballots, values and messages as the bytes of one line each. But for long uploads, a line is the one that the program
-- prints of a message everywhere.
use Rattle.std.specs.Prelude.{ℕ, nat_le, ◌-◌, if◌then◌else◌, List, [], ◌++◌, length, take, drop, codes, Option, Some, None}
use Rattle.std.specs.Fmt.{decimal}
use Rattle.hex.specs.Hex.{encode_lower}
use Rattle.ballots.specs.Ballot.{Ballot}
use Rattle.ballots.specs.declared.value.Value.{Value}
use Rattle.ballots.specs.declared.value.Value.TheVariants.{Noop, Upload}
use Rattle.ballots.specs.declared.acceptance.Acceptance.{Acceptance}
use Rattle.ballots.specs.declared.message.Message.{Message}
use Rattle.ballots.specs.declared.message.Body.{Body}
use Rattle.ballots.specs.declared.message.Body.TheVariants.{Prepare, Promise, Nack, Accept, Accepted, Ask, Decided}

-- the round, a point and the node
abbrev pub ballot_text : Ballot → List ℕ
ballot_text b = decimal b.round ++ (codes "." ++ decimal b.node)

-- the first 24 bytes, the last eight, and how many there are
abbrev pub ends_text : List ℕ → List ℕ
ends_text bytes =
    encode_lower (take 24 bytes)
    ++ (codes ".." ++ (encode_lower (drop (length bytes - 8) bytes) ++ (codes " (" ++ (decimal (length bytes) ++ codes " bytes)"))))

-- the bytes of an upload in hexadecimal digits, and of more than 32 bytes the ends alone
abbrev pub upload_text : List ℕ → List ℕ
upload_text bytes = if nat_le (length bytes) 32 then encode_lower bytes else ends_text bytes

abbrev pub value_text : Value → List ℕ
value_text Noop = codes "noop"
value_text (Upload bytes) = upload_text bytes

-- the ballot, a space and the value
abbrev pub acceptance_text : Acceptance → List ℕ
acceptance_text a = ballot_text a.ballot ++ (codes " " ++ value_text a.value)

-- what a Promise says, with its report, if there is one
abbrev pub promise_text : Ballot → Option Acceptance → List ℕ
promise_text b None = codes "Promise " ++ ballot_text b
promise_text b (Some report) = codes "Promise " ++ (ballot_text b ++ (codes " accepted " ++ acceptance_text report))

-- the name of what is said, and behind it what else it has
abbrev pub body_text : Body → List ℕ
body_text (Prepare ballot) = codes "Prepare " ++ ballot_text ballot
body_text (Promise ballot report) = promise_text ballot report
body_text (Nack ballot promised) = codes "Nack " ++ (ballot_text ballot ++ (codes " promised " ++ ballot_text promised))
body_text (Accept proposal) = codes "Accept " ++ acceptance_text proposal
body_text (Accepted acceptance) = codes "Accepted " ++ acceptance_text acceptance
body_text Ask = codes "Ask"
body_text (Decided value) = codes "Decided " ++ value_text value

-- the sender, the slot and the body
abbrev pub message_text : Message → List ℕ
message_text m = codes "node " ++ (decimal m.sender ++ (codes " slot " ++ (decimal m.slot ++ (codes " " ++ body_text m.body))))
