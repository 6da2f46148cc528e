-- What is promised of a history to the clients of its nodes.
use Rattle.std.specs.Prelude.{◌≡◌, ◌≢◌, ℕ, ◌-◌, ◌<◌, ◌≤◌, Some, List, length, take, slice_get}
use Rattle.std.specs.List.{Contains, AllByRecursion}
use Rattle.table_types.specs.Uploads.{Upload, upload_text}
use Rattle.table_types.specs.Valid.{IsUpload}
use Rattle.table_types.specs.Tables.{Version, applied, version_of}
use Rattle.table_types.specs.Answers.{answer_of}
use Rattle.histories.specs.Texts.{IsTextOf}
use Rattle.histories.specs.Event.{Event, node_of, Put, Tick, Deliver, TickCut, DeliverCut, Restart, Get, Info, Outcome}
use Rattle.histories.specs.EventResult.{EventResult, Done, Answer}
use Rattle.histories.specs.EventResult as results
use Rattle.histories.specs.History.{Step, History}
use Rattle.histories.specs.Following.{GetGivesIfAble, InfoGivesIfAble, OutcomeGives}
use Rattle.safe_histories.specs.Learning.{Runs, HasTables}

-- the step stands at this place
abbrev pub IsStep : List Step → ℕ → Event → EventResult → Type 0
IsStep steps place event given = slice_get steps place ≡ Some (record { event = event; result = given })

-- what is answered to a query by one who has such tables; of other events nothing is said
abbrev pub AnswersFrom : (List Upload → Type 0) → Event → EventResult → Type 0
AnswersFrom HasThem (Put node text) given = Unit {0}
AnswersFrom HasThem (Tick node left) given = Unit {0}
AnswersFrom HasThem (Deliver node number) given = Unit {0}
AnswersFrom HasThem (TickCut node left) given = Unit {0}
AnswersFrom HasThem (DeliverCut node number) given = Unit {0}
AnswersFrom HasThem (Restart node) given = Unit {0}
AnswersFrom HasThem (Get node table version) given =
    (uploads : List Upload) × HasThem uploads × GetGivesIfAble uploads table version given
AnswersFrom HasThem (Info node table) given =
    (uploads : List Upload) × HasThem uploads × InfoGivesIfAble uploads table given
AnswersFrom HasThem (Outcome node text) given =
    (uploads : List Upload) × HasThem uploads × OutcomeGives uploads text given

-- Any two answers to one ticket, at whatever nodes and times, have equal bytes.
abbrev pub SameTicketSameBytes : List Step → Type 0
SameTicketSameBytes steps =
    (i j k l version : ℕ) (table x y : List ℕ)
    → IsStep steps i (Get k table version) (Answer x) → IsStep steps j (Get l table version) (Answer y) → x ≡ y

-- The bytes are those of the version of the table that valid uploads make by the rules of tables: it has so many uploads, of
-- different ids, of which this is the one at this place.
pub record StandsIn (table bytes : List ℕ) (count number : ℕ) (upload : Upload) : Type 0 where
  pub uploads : List Upload
  pub valid : AllByRecursion IsUpload uploads
  pub version : Version
  pub by_rules : version_of table count uploads ≡ Some version
  pub bytes_are : bytes ≡ answer_of version
  pub whole : length version.uploads ≡ count
  pub apart : (i j : ℕ) (one other : Upload) → i < j → slice_get version.uploads i ≡ Some one
      → slice_get version.uploads j ≡ Some other → one.id ≢ other.id
  pub placed : slice_get version.uploads (number - 1) ≡ Some upload

-- Where a node told that an upload was applied as some version, every answer to a ticket of its table for that version or
-- a later one, earlier or later and at whatever node, has the upload at that version's place and nowhere else.
abbrev pub AcknowledgedStandsOnce : List Step → Type 0
AcknowledgedStandsOnce steps =
    (i j k l number version : ℕ) (text y : List ℕ) (upload : Upload)
    → IsTextOf text upload → IsStep steps i (Outcome k text) (results.Outcome (applied number))
    → number ≤ version → IsStep steps j (Get l upload.table version) (Answer y)
    → (1 ≤ number) × StandsIn upload.table y version number upload

-- A member that is up answers every query from the tables of its prefix, as the history before the query has it.
-- Memory for an answer may be refused, where there is one; what has become of an upload is always told.
abbrev pub ServesItsPrefix : History → Type 0
ServesItsPrefix history =
    (place : ℕ) (step : Step) → slice_get history.steps place ≡ Some step → node_of step.event < history.config.members
    → Runs (node_of step.event) (take place history.steps)
    → AnswersFrom (λ uploads. HasTables history.config.members history.sent (take place history.steps)
    (node_of step.event) uploads) step.event step.result

-- Each upload of a version that is served was handed in before, at some node that took it.
abbrev pub ServedWasPut : History → Type 0
ServedWasPut history =
    (place k version : ℕ) (table y : List ℕ) (uploads : List Upload) (found : Version) (upload : Upload)
    → IsStep history.steps place (Get k table version) (Answer y)
    → HasTables history.config.members history.sent (take place history.steps) k uploads
    → version_of table version uploads ≡ Some found → Contains found.uploads upload
    → (earlier : ℕ) × (node : ℕ) × (earlier < place)
    × IsStep history.steps earlier (Put node (upload_text upload)) Done

pub record IsSafe (history : History) : Type 0 where
  pub same_ticket_same_bytes : SameTicketSameBytes history.steps
  pub acknowledged_stands_once : AcknowledgedStandsOnce history.steps
  pub serves_its_prefix : ServesItsPrefix history
  pub served_was_put : ServedWasPut history
