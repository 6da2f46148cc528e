-- What a file that tells a schedule means: JSON (RFC 8259) whose numbers are whole. A schedule, its words and its limits
-- are this service's own.
use Rattle.std.specs.Prelude.{◌≡◌, ℕ, ◌≤◌, List, [], ◌∷◌, codes, Some, IsUtf8, slice_get}
use Rattle.std.specs.List.{AllZip}
use Rattle.serde_json.specs.Data.{Data, string}
use Rattle.serde_json.specs.Read.{read as read_text}
use Rattle.serde_json.specs.Find.{as_array}
use Rattle.serde_json.specs.View.{items_of}
use Rattle.ballots.specs.Majority.{IsMembers}
use Rattle.table_types.specs.Ticket.{IsTableVersion}
use Rattle.node_events.specs.declared.event.Event.{Event}
use Rattle.node_events.specs.declared.event.Event.TheVariants.{Put, Tick, Deliver, TickCut, DeliverCut, Restart, Get, Info, Outcome}
use Rattle.traces.specs.declared.config.Config.{Config}
use Rattle.traces.specs.Limits.{IsWithinLimits, most_entries}
use Rattle.run_files.specs.JsonValues.{whole, words, number_at, array_at}
use Rattle.run_files.specs.UploadValue.{MeansUpload}

-- how many slots a tick of a schedule leaves to others at most
abbrev pub most_left_read : ℕ
most_left_read = 255

-- Of these uploads: the word says that this happens to the node, by the values that stand behind the node's number. An
-- upload is named by its place, from 0 on, and a version of a table as a ticket has it.
abbrev pub Says : List (List ℕ) → List ℕ → ℕ → List Data → Event → Type 0
Says uploads word node rest (Put own upload) =
    (word ≡ codes "put") × (own ≡ node) × (place : ℕ) × (rest ≡ whole place ∷ []) × (slice_get uploads place ≡ Some upload)
Says uploads word node rest (Tick own left) = (word ≡ codes "tick") × (own ≡ node) × (rest ≡ whole left ∷ []) × (left ≤ most_left_read)
Says uploads word node rest (Deliver own message) = (word ≡ codes "deliver") × (own ≡ node) × (rest ≡ whole message ∷ [])
Says uploads word node rest (TickCut own left) =
    (word ≡ codes "tickcut") × (own ≡ node) × (rest ≡ whole left ∷ []) × (left ≤ most_left_read)
Says uploads word node rest (DeliverCut own message) =
    (word ≡ codes "delivercut") × (own ≡ node) × (rest ≡ whole message ∷ [])
Says uploads word node rest (Restart own) = (word ≡ codes "restart") × (own ≡ node) × (rest ≡ [])
Says uploads word node rest (Get own ticket) =
    (word ≡ codes "get") × (own ≡ node) × (rest ≡ string ticket.table ∷ whole ticket.version ∷ []) × IsTableVersion ticket
Says uploads word node rest (Info own table) = (word ≡ codes "info") × (own ≡ node) × (rest ≡ string table ∷ [])
Says uploads word node rest (Outcome own upload) =
    (word ≡ codes "outcome") × (own ≡ node) × (place : ℕ) × (rest ≡ whole place ∷ []) × (slice_get uploads place ≡ Some upload)

-- The value is an array that says of these uploads what happens.
pub record TellsEvent (uploads : List (List ℕ)) (d : Data) (event : Event) : Type 0 where
  pub word : List ℕ
  pub node : ℕ
  pub rest : List Data
  pub items : as_array d ≡ Some (words word node rest)
  pub says : Says uploads word node rest event

-- what the nodes of the schedule that a value tells have in common
pub record TellsConfig (d : Data) (config : Config) : Type 0 where
  pub members : number_at (codes "members") d ≡ Some config.members
  pub slots : number_at (codes "slot_limit") d ≡ Some config.slot_limit
  pub entries : config.journal_limit ≡ most_entries
  pub members_within : IsMembers config.members
  pub within : IsWithinLimits config

-- The file is an object with these; what else it has means nothing.
pub record MeansSchedule (file : List ℕ) (config : Config) (events : List Event) : Type 0 where
  pub is_text : IsUtf8 file
  pub value : Data
  pub read : read_text file ≡ Some value
  pub configured : TellsConfig value config
  pub upload_values : List Data
  pub uploads_at : array_at (codes "uploads") value ≡ Some (items_of upload_values)
  pub uploads : List (List ℕ)
  pub uploads_mean : AllZip MeansUpload upload_values uploads
  pub event_values : List Data
  pub events_at : array_at (codes "events") value ≡ Some (items_of event_values)
  pub events_mean : AllZip (TellsEvent uploads) event_values events

-- it means none
abbrev pub MeansNothing : List ℕ → Type 0
MeansNothing file = (config : Config) (events : List Event) → MeansSchedule file config events → ⊥
