-- What nodes know at once that have all started again, each over the records that it kept, and hear again what these say
-- was chosen. An acceptor remembers what it accepted, whatever fails, as it keeps it before it tells it: Lamport, "Paxos
-- Made Simple", section 2.5. A value is chosen where a majority accepted it at one ballot, and a learner has learned it
-- that was told so by a majority: section 2.3. So the records of a majority tell again all that was ever learned.
use Rattle.std.specs.Prelude.{◌≡◌, ℕ, ◌≤◌, Bool, IsSome, Some, List, slice_get}
use Rattle.ballots.specs.Ballot.{Ballot}
use Rattle.ballots.specs.declared.value.Value.{Value}
use Rattle.ballots.specs.declared.record.Record.{Record}
use Rattle.ballots.specs.declared.message.Message.{Message}
use Rattle.table_types.specs.Uploads.{Upload}
use Rattle.table_types.specs.Tables.{applied, outcome_of, version_of}
use Rattle.agreement_rules.specs.Views.{AgreementConfig}
use Rattle.histories.specs.Texts.{IsTextOf, HasUploads}
use Rattle.histories.specs.Event.{Outcome as AsksOutcome}
use Rattle.histories.specs.EventResult.{Outcome}
use Rattle.histories.specs.History.{History}
use Rattle.histories.specs.Following.{UpOrDown}
use Rattle.safe_histories.specs.Safe.{IsStep}
use Rattle.joined_histories.specs.Joined.{Precedes}
use Rattle.chosen_records.specs.Chosen.{IsChosenAt, IsToldChosen}
use Rattle.resumed_nodes.specs.Heard.{heard}
use Rattle.resumed_nodes.specs.Starting.{HaveBack}

-- The messages tell of each slot of which a majority has recorded that it accepted a value at one ballot: no slot that was
-- chosen is left out (section 2.3).
abbrev pub TellsAll : AgreementConfig → List (List Record) → List Message → Type 0
TellsAll config all told =
    (slot : ℕ) (ballot : Ballot) (value : Value) → IsChosenAt config.members all slot ballot value
    → IsToldChosen config.members told slot

-- By these uploads this one was applied as the version of this number, and its table has that version and all before it.
pub record IsApplied (uploads : List Upload) (upload : Upload) (number : ℕ) : Type 0 where
  pub outcome : outcome_of uploads upload ≡ applied number
  pub versions : (version : ℕ) → version ≤ number → IsSome (version_of upload.table version uploads)

-- Whatever history left nodes with these records: an upload that a node told in it to be applied as a version is applied
-- as that version at each node that has started with its own of these records and heard these messages, by all uploads of
-- the prefix that it has learned then (sections 2.3 and 2.5).
abbrev pub KnowsAcknowledged : AgreementConfig → List (List Record) → List Message → Type 0
KnowsAcknowledged config all told =
    (left : ℕ → UpOrDown) (before : History) (found : ℕ → Bool) → Precedes config left before → HaveBack left found all
    → (place k number : ℕ) (text : List ℕ) (upload : Upload) → IsTextOf text upload
    → IsStep before.steps place (AsksOutcome k text) (Outcome (applied number))
    → (member : ℕ) (records : List Record) → slice_get all member ≡ Some records
    → (uploads : List Upload) → HasUploads config.members (heard records told).learner_calls uploads
    → IsApplied uploads upload number
