-- What was chosen, as messages tell it again, and the values of the slots from 0 on that they tell.
use Rattle.std.specs.Prelude.{◌≡◌, ◌≢◌, ◌==◌, ◌+◌, ◌++◌, ℕ, ◌∷◌, [], List, length, slice_get, Some, if◌then◌else◌}
use Rattle.std.specs.List.{All}
use Rattle.std.specs.List.Sorted.{IsNonDecreasingBy}
use Rattle.ballots.specs.Ballot.{Ballot}
use Rattle.ballots.specs.Limits.{max_slot}
use Rattle.ballots.specs.declared.message.Body.{Body}
use Rattle.ballots.specs.declared.message.Body.TheVariants.{Accepted, Accept, Ask, Decided, Nack, Prepare, Promise}
use Rattle.ballots.specs.declared.message.Message.{Message}
use Rattle.ballots.specs.declared.record.Record.{Record}
use Rattle.ballots.specs.declared.value.Value.{Value}
use Rattle.chosen_records.specs.Chosen.{IsChosenAt, IsRecorded, IsToldChosen, TellsChosen}
use Rattle.folder_report.specs.Reporting.{IsChosenByRecords}

-- how many slots there can be
abbrev pub slots_limit : ℕ
slots_limit = max_slot + 1

-- The messages tell what was chosen: each tells of what its sender recorded and a majority did, each slot for which
-- something is chosen is told, and the slots rise.
pub record TellsAgain (members : ℕ) (all : List (List Record)) (told : List Message) : Type 0 where
  pub recorded : All (IsRecorded all) told
  pub only : All (TellsChosen members all) told
  pub whole : (slot : ℕ) (ballot : Ballot) (value : Value) → IsChosenAt members all slot ballot value
      → IsToldChosen members told slot
  pub rising : IsNonDecreasingBy (λ message. message.slot) told

-- the value that the sender accepted
abbrev pub value_told : Body → List Value
value_told (Accepted acceptance) = acceptance.value ∷ []
value_told (Accept acceptance) = []
value_told (Prepare ballot) = []
value_told (Promise ballot report) = []
value_told (Nack ballot promised) = []
value_told Ask = []
value_told (Decided value) = []

-- the values, with that of the message where it is of the slot behind them
abbrev pub followed_by : List Value → Message → List Value
followed_by values message =
    if message.slot == length values then values ++ value_told message.body else values

-- the values are chosen for the slots from 0 on, and no message is of the slot behind them
pub record FillSlots (members : ℕ) (all : List (List Record)) (told : List Message) (values : List Value) : Type 0 where
  pub chosen : (slot : ℕ) (value : Value) → slice_get values slot ≡ Some value → IsChosenByRecords members all slot value
  pub ends : All (λ message. message.slot ≢ length values) told
