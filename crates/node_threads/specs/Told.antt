-- What a node's step tells whoever asked for it. Clusters are this service's own.
use Rattle.std.specs.Prelude.{◌≡◌, ℕ, ◌-◌, ◌≤◌, List, Some}
use Rattle.seats.specs.parts.table_types.specs.Uploads.{Upload}
use Rattle.seats.specs.parts.table_types.specs.Tables.{Version, version_of}
use Rattle.seats.specs.parts.table_types.specs.Answers.{answer_of}
use Rattle.seats.specs.parts.table_versions.specs.declared.outcome.Outcome.{Outcome}
use Rattle.seats.specs.parts.node_events.specs.declared.event.Event.TheVariants as event
use Rattle.seats.specs.parts.node_events.specs.declared.event_result.EventResult.TheVariants as results
use Rattle.seats.specs.journal.specs.declared.receipt.Receipt.{Receipt}
use Rattle.seats.specs.declared.input.SeatInput.{SeatInput}
use Rattle.seats.specs.declared.query.Query.{Query}
use Rattle.seats.specs.declared.query.Query.TheVariants as query
use Rattle.seats.specs.Inputs.{event_at, given_for}
use Rattle.seats.specs.Steps.{asked_at, AnswersQuery}
use Rattle.node_threads.specs.declared.steps.Taken.{Taken}

-- The receipt tells this input at this node, and just the messages went out that it says.
pub record IsTold (node : ℕ) (input : SeatInput) (taken : Taken) : Type 0 where
  pub event_is : taken.receipt.event ≡ event_at node input
  pub forth : taken.sent.start ≤ taken.sent.end
  pub answer_is : taken.receipt.answer ≡ given_for input taken.sent.start (taken.sent.end - taken.sent.start)

-- The receipt is of this query at this node, with the answer of some tables.
pub record IsAskedAt (node : ℕ) (asked : Query) (receipt : Receipt) : Type 0 where
  pub event_is : receipt.event ≡ asked_at node asked
  pub uploads : List Upload
  pub answers : AnswersQuery uploads asked receipt.answer

-- The frames are those of the ticket's version of some tables, and the receipt is of the ticket at this node, with these frames.
pub record IsGotAt (node : ℕ) (table : List ℕ) (version : ℕ) (frames : List ℕ) (receipt : Receipt) : Type 0 where
  pub event_is : receipt.event ≡ event.Get node (record { table = table; version = version })
  pub answer_is : receipt.answer ≡ results.Answer frames
  pub uploads : List Upload
  pub found : Version
  pub of : version_of table version uploads ≡ Some found
  pub frames_are : frames ≡ answer_of found

-- what has become of an upload at a node, and the number of the entry that says so
pub record Settling : Type 0 where
  pub number : ℕ
  pub node : ℕ
  pub upload : List ℕ
  pub outcome : Outcome

-- some tables say so
abbrev pub IsOfTables : Settling → Type 0
IsOfTables s = (uploads : List Upload) × AnswersQuery uploads (query.Outcome s.upload) (results.Outcome s.outcome)

-- the receipt of that entry
abbrev pub settling_receipt : Settling → Receipt
settling_receipt s = record { number = s.number; event = event.Outcome s.node s.upload; answer = results.Outcome s.outcome }
