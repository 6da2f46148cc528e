-- What the fields of one text mean, gathered for all numbers at once: a tool of reading. What each number means is defined
-- in `proto_fields`.
use Rattle.std.specs.Prelude.{◌≡◌, ℕ, ◌<◌, ◌==◌, if◌then◌else◌, List, slice_index_or, Option, None}
use Rattle.std.specs.Option.{option_map}
use Rattle.proto_fields.specs.Field.{Field}
use Rattle.proto_fields.specs.Meaning.{number_in, number_meant, bytes_meant, after}
use Rattle.ballots.specs.declared.message.numbers.TheConstants as in_message
use Rattle.ballots.specs.declared.record.numbers.TheConstants as in_record
use Rattle.ballots.specs.declared.fields.TheConstants.{FIELD_NUMBERS}
use Rattle.ballots.specs.declared.fields.Fields.{Fields}
use Rattle.ballots.specs.Message.{Parts}
use Rattle.ballots.specs.Record.{RecordParts}

-- what is gathered for this number
abbrev pub number_of : List (Option ℕ) → ℕ → Option ℕ
number_of numbers number = slice_index_or numbers number None

-- each number means what it meant before, or what it means after this field more
abbrev pub Notes : (old new : List (Option ℕ)) → Field → Type 0
Notes old new f = (number : ℕ) → number < FIELD_NUMBERS
    → number_of new number ≡ (if f.number == number then after (number_of old number) (number_in f.held) else number_of old number)

-- the numbers are what these fields mean, and the bytes what those of the value's number do
pub record Gathers (value : ℕ) (numbers : List (Option ℕ)) (bytes : Option (List ℕ)) (fields : List Field) : Type 0 where
  pub numbers_are : (number : ℕ) → number < FIELD_NUMBERS → number_of numbers number ≡ number_meant number fields
  pub bytes_are : bytes ≡ bytes_meant value fields

-- the bytes that are gathered
abbrev pub value_of : Fields → Option (List ℕ)
value_of all = option_map (λ bytes. bytes.now) all.value

-- what was gathered, as the parts of a message, and as those of a record
abbrev pub parts_in : Fields → Parts
parts_in all = record {
  kind = number_of all.numbers in_message.KIND;
  sender = number_of all.numbers in_message.SENDER;
  slot = number_of all.numbers in_message.SLOT;
  round = number_of all.numbers in_message.ROUND;
  node = number_of all.numbers in_message.NODE;
  second_round = number_of all.numbers in_message.SECOND_ROUND;
  second_node = number_of all.numbers in_message.SECOND_NODE;
  value = value_of all;
}

abbrev pub record_parts_in : Fields → RecordParts
record_parts_in all = record {
  kind = number_of all.numbers in_record.KIND;
  slot = number_of all.numbers in_record.SLOT;
  round = number_of all.numbers in_record.ROUND;
  node = number_of all.numbers in_record.NODE;
  value = value_of all;
}
