-- Receipts of steps, and what two of one journal are worth. Receipts are this service's own.
use Rattle.std.specs.Prelude.{◌≡◌, ◌⊎◌, ℕ, ◌<◌, ◌≤◌, false, List, Some, slice_get}
use Rattle.node_parts.specs.table_types.specs.Uploads.{Upload}
use Rattle.node_parts.specs.table_types.specs.Ticket.{TableVersion}
use Rattle.node_parts.specs.table_versions.specs.declared.outcome.Outcome.TheVariants.{Applied}
use Rattle.node_parts.specs.histories.specs.Texts.{IsTextOf}
use Rattle.node_parts.specs.safe_histories.specs.Learning.{brings_up, brings_down}
use Rattle.node_parts.specs.safe_histories.specs.Safe.{StandsIn}
use Rattle.node_parts.specs.node_events.specs.declared.event.Event.TheVariants.{Get, Outcome as AsksOutcome}
use Rattle.node_parts.specs.node_events.specs.declared.event_result.EventResult.TheVariants.{Answer, Outcome as TellsOutcome, Refused}
use Rattle.node_parts.specs.node_events.specs.declared.event_result.Reason.TheVariants.{OutOfMemory}
use Rattle.node_parts.specs.traces.specs.declared.step.Step.{Step}
use Rattle.node_parts.specs.traces.specs.Told.{step_of}
use Rattle.node_parts.specs.traces.specs.Traced.{Traced}
use Rattle.journal.specs.declared.receipt.Receipt.{Receipt}

-- the step that a receipt tells of
abbrev pub step_told : Receipt → Step
step_told receipt = record { event = receipt.event; result = receipt.answer }

-- the step of its number is the one that it tells of
abbrev pub IsReceiptOf : Traced → Receipt → Type 0
IsReceiptOf trace receipt = slice_get trace.steps receipt.number ≡ Some (step_told receipt)

-- the receipt is of a query for a version of a table that was answered with these bytes
pub record Answers (receipt : Receipt) (ticket : TableVersion) (bytes : List ℕ) : Type 0 where
  pub node : ℕ
  pub event_is : receipt.event ≡ Get node ticket
  pub answer_is : receipt.answer ≡ Answer bytes

-- the receipt is of a query what has become of an upload, which was told to be applied as this version
pub record TellsApplied (receipt : Receipt) (upload : Upload) (number : ℕ) : Type 0 where
  pub node : ℕ
  pub text : List ℕ
  pub is_text : IsTextOf text upload
  pub event_is : receipt.event ≡ AsksOutcome node text
  pub answer_is : receipt.answer ≡ TellsOutcome (Applied number)

-- two answers to one ticket have equal bytes
abbrev pub SameBytes : Receipt → Receipt → Type 0
SameBytes one other = (ticket : TableVersion) (x y : List ℕ) → Answers one ticket x → Answers other ticket y → x ≡ y

-- An upload that one tells to be applied as a version stands at that version's place, and nowhere else, in the other's answer
-- to a ticket of its table for that version or a later one.
abbrev pub StandsOnce : Receipt → Receipt → Type 0
StandsOnce one other =
    (upload : Upload) (number : ℕ) (ticket : TableVersion) (bytes : List ℕ) → TellsApplied one upload number
    → ticket.table ≡ upload.table → number ≤ ticket.version → Answers other ticket bytes
    → (1 ≤ number) × StandsIn upload.table bytes ticket.version number upload

pub record AreWorth (one other : Receipt) : Type 0 where
  pub same_bytes : SameBytes one other
  pub stands_once : StandsOnce one other
  pub stands_once_too : StandsOnce other one

-- A node that told that an upload was applied as a version, and that neither went down nor was restarted since, answers a
-- ticket of its table for that version or an earlier one; memory may be refused.
abbrev pub IsFresh : Traced → Receipt → Receipt → Type 0
IsFresh trace one other =
    (node : ℕ) (text : List ℕ) (upload : Upload) (number : ℕ) (ticket : TableVersion)
    → IsTextOf text upload → one.event ≡ AsksOutcome node text → one.answer ≡ TellsOutcome (Applied number)
    → other.event ≡ Get node ticket → ticket.table ≡ upload.table → ticket.version ≤ number → one.number < other.number
    → ((between : ℕ) (step : Step) → one.number < between → between < other.number → slice_get trace.steps between ≡ Some step
    → (brings_up node (step_of step) ≡ false) × (brings_down node (step_of step) ≡ false))
    → ((bytes : List ℕ) × (other.answer ≡ Answer bytes)) ⊎ (other.answer ≡ Refused OutOfMemory)
