-- What messages and records are written as, whatever their kind: all fields in their order, and 0 or no bytes where a kind
-- has none. Those that hold 0 or no bytes are left out, so a field that no kind has yet changes no text.
use Rattle.std.specs.Prelude.{ℕ, List, [], ◌∷◌, Option, Some, None}
use Rattle.proto_fields.specs.Field.{Bytes}
use Rattle.ballots.specs.Ballot.{Ballot}
use Rattle.ballots.specs.Message.{number_field, written}

-- The fields are numbered here once more, so that they stand in no constant alone.
unfoldable pub all_fields_text : (kind sender slot round node second_round second_node : ℕ) → List ℕ → List ℕ
all_fields_text kind sender slot round node second_round second_node bytes = written (
    number_field 1 kind ∷ number_field 2 sender ∷ number_field 3 slot ∷ number_field 5 round ∷ number_field 6 node
    ∷ number_field 7 second_round ∷ number_field 8 second_node ∷ record { number = 9; held = Bytes bytes } ∷ [])

unfoldable pub all_record_fields_text : (kind slot round node : ℕ) → List ℕ → List ℕ
all_record_fields_text kind slot round node bytes = written (
    number_field 1 kind ∷ number_field 2 slot ∷ number_field 3 round ∷ number_field 4 node ∷ record { number = 5; held = Bytes bytes } ∷ [])

-- the numbers of a ballot that may be none
abbrev pub round_of : Option Ballot → ℕ
round_of None = 0
round_of (Some b) = b.round

abbrev pub node_of : Option Ballot → ℕ
node_of None = 0
node_of (Some b) = b.node
