-- How each slot stands that there can be, as it is marked: none where nothing is accepted for it.
use Rattle.std.specs.Prelude.{◌≡◌, ◌==◌, ℕ, ◌<◌, ◌≤◌, Bool, true, false, ◌∷◌, [], List, length, map}
use Rattle.std.specs.Prelude.{Option, None, Some, slice_index_or, if◌then◌else◌}
use Rattle.std.specs.List.{Contains, list_any}
use Rattle.std.specs.List.Sorted.{IsStrictlyIncreasing}
use Rattle.ballots.specs.declared.message.Message.{Message}
use Rattle.ballots.specs.declared.record.Record.{Record}
use Rattle.ballots.specs.declared.record.Record.TheVariants.{Accepted, Began, Promised, PromisedFrom}
use Rattle.folder_report.specs.Values.{slots_limit}
use Rattle.folder_report.specs.declared.report.SlotReport.{SlotReport}
use Rattle.folder_report.specs.declared.report.SlotState.{SlotState}
use Rattle.folder_report.specs.declared.report.SlotState.TheVariants.{Undecided, Waiting}

abbrev pub Marks : Type 0
Marks = List (Option SlotState)

abbrev pub mark_at : Marks → ℕ → Option SlotState
mark_at marks slot = slice_index_or marks slot None

-- the slots that pass the test are marked so, and every other is as before
pub record AreMarked (old new : Marks) (passes : ℕ → Bool) (state : SlotState) : Type 0 where
  pub size : length new ≡ length old
  pub each : (slot : ℕ) → mark_at new slot ≡ (if passes slot then Some state else mark_at old slot)

-- whether it records an acceptance for the slot
abbrev pub accepts : ℕ → Record → Bool
accepts slot (Accepted other acceptance) = other == slot
accepts slot (Began ballot) = false
accepts slot (Promised other ballot) = false
accepts slot (PromisedFrom first ballot) = false

-- whether one of these does
abbrev pub accept : ℕ → List Record → Bool
accept slot own = list_any (accepts slot) own

-- whether a message is of the slot
abbrev pub are_of : ℕ → List Message → Bool
are_of slot told = list_any (λ (message : Message). message.slot == slot) told

-- how a slot stands, by whether it is told that something was chosen for it, and whether something was accepted
abbrev pub stand : Bool → Bool → Option SlotState
stand true accepted = Some Waiting
stand false true = Some Undecided
stand false false = None

-- so it is marked of each slot that there can be
pub record MarkAll (all : List (List Record)) (told : List Message) (marks : Marks) : Type 0 where
  pub size : length marks ≡ slots_limit
  pub each : (slot : ℕ) → mark_at marks slot ≡ stand (are_of slot told) (list_any (accept slot) all)

-- what is told of the slot of this number, which is marked so
abbrev pub slot_told : ℕ → Option SlotState → List SlotReport
slot_told number None = []
slot_told number (Some state) = record { slot = number; state = state } ∷ []

-- the slots from one up to another that are marked are told, and no others, in order
pub record ListsMarked (marks : Marks) (first end : ℕ) (slots : List SlotReport) : Type 0 where
  pub rising : IsStrictlyIncreasing (map (λ told. told.slot) slots)
  pub only : (told : SlotReport) → Contains slots told
      → (first ≤ told.slot) × (told.slot < end) × (mark_at marks told.slot ≡ Some told.state)
  pub whole : (slot : ℕ) (state : SlotState) → first ≤ slot → slot < end → mark_at marks slot ≡ Some state
      → Contains slots (record { slot = slot; state = state })
