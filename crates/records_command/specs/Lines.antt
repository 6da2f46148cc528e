-- The lines that are printed of a node's records: numbers are decimal, and bytes are hexadecimal digits (RFC 4648, section 8, in lower
-- case). The words are this service's own.
use Rattle.std.specs.Prelude.{ℕ, ◌+◌, min, List, [], ◌∷◌, ◌++◌, length, take, codes, decimal}
use Rattle.hex.specs.Hex.{encode_lower}
use Rattle.ballots.specs.Ballot.{Ballot}
use Rattle.ballots.specs.declared.value.Value.{Value}
use Rattle.ballots.specs.declared.value.Value.TheVariants.{Noop, Upload}
use Rattle.ballots.specs.declared.acceptance.Acceptance.{Acceptance}
use Rattle.ballots.specs.declared.record.Record.{Record}
use Rattle.ballots.specs.declared.record.Record.TheVariants.{Began, Promised, Accepted, PromisedFrom}

-- the round, a point and the node
abbrev pub ballot_text : Ballot → List ℕ
ballot_text b = decimal b.round ++ (codes "." ++ decimal b.node)

-- how many bytes an upload has, and the first of them, 32 at most
abbrev pub upload_text : List ℕ → List ℕ
upload_text bytes = codes "upload of " ++ (decimal (length bytes) ++ (codes " bytes " ++ encode_lower (take (min (length bytes) 32) bytes)))

abbrev pub value_text : Value → List ℕ
value_text Noop = codes "noop"
value_text (Upload bytes) = upload_text bytes

abbrev pub acceptance_text : Acceptance → List ℕ
acceptance_text a = ballot_text a.ballot ++ (codes " " ++ value_text a.value)

-- what was kept
abbrev pub record_text : Record → List ℕ
record_text (Began ballot) = codes "began " ++ ballot_text ballot
record_text (Promised slot ballot) = codes "promised slot " ++ (decimal slot ++ (codes " " ++ ballot_text ballot))
record_text (Accepted slot acceptance) = codes "accepted slot " ++ (decimal slot ++ (codes " " ++ acceptance_text acceptance))
record_text (PromisedFrom first ballot) = codes "promised from slot " ++ (decimal first ++ (codes " " ++ ballot_text ballot))

-- the line of the record of this number
abbrev pub line_of : ℕ → Record → List ℕ
line_of number kept = decimal number ++ (codes " " ++ (record_text kept ++ codes "\n"))

-- the lines of these records, which are numbered from this number on
abbrev pub lines_from : ℕ → List Record → List ℕ
lines_from number [] = []
lines_from number (kept ∷ later) = line_of number kept ++ lines_from (number + 1) later

-- the lines of a file's records, which are numbered from 0 on
abbrev pub lines_of : List Record → List ℕ
lines_of records = lines_from 0 records
