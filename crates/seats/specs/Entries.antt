-- What is entered of an input: the step of the journal, and the node's own entry of it.
use Rattle.std.specs.Prelude.{◌≡◌, ℕ, Bool, false, None, List, [], length}
use Rattle.journal.specs.parts.ballots.specs.declared.message.Message.{Message}
use Rattle.journal.specs.parts.histories.specs.Owning.{OwnEntry}
use Rattle.journal.specs.parts.node_events.specs.declared.event.Event.{Event}
use Rattle.journal.specs.parts.node_events.specs.declared.event.Event.TheVariants as restart
use Rattle.journal.specs.parts.node_events.specs.declared.event_result.EventResult.TheVariants as results
use Rattle.journal.specs.parts.traces.specs.declared.step.Step.{Step}
use Rattle.journal.specs.parts.traces.specs.Told.{step_of}
use Rattle.seats.specs.declared.entering.Copies.{Copies}
use Rattle.seats.specs.declared.input.SeatInput.{SeatInput}
use Rattle.seats.specs.Inputs.{event_at, given_for, handed_by}

-- the input is done, and so many messages go out from this number on
abbrev pub done_step : ℕ → SeatInput → (first count : ℕ) → Step
done_step me input first count = record { event = event_at me input; result = given_for input first count }

abbrev pub done_entry : ℕ → SeatInput → ℕ → List Message → OwnEntry
done_entry me input first sends = record {
  step = step_of (done_step me input first (length sends));
  recovered = false;
  handed = handed_by input;
  sends = sends;
}

-- the node goes down in the midst of it, in this event
abbrev pub cut_step : Event → Step
cut_step cut = record { event = cut; result = results.Done }

abbrev pub cut_entry : Event → SeatInput → OwnEntry
cut_entry cut input = record { step = step_of (cut_step cut); recovered = false; handed = handed_by input; sends = [] }

-- the node started again, and had back the record in doubt, or had not
abbrev pub restart_step : ℕ → Step
restart_step me = record { event = restart.Restart me; result = results.Done }

abbrev pub restart_entry : ℕ → Bool → OwnEntry
restart_entry me recovered = record { step = step_of (restart_step me); recovered = recovered; handed = None; sends = [] }

-- there is a copy of the input's event for each place where it stands, and of the messages that go out
pub record AreCopies (me : ℕ) (input : SeatInput) (sends : List Message) (copies : Copies) : Type 0 where
  pub entered_is : copies.entered ≡ event_at me input
  pub told_is : copies.told ≡ event_at me input
  pub own_is : copies.own ≡ event_at me input
  pub sends_are : copies.sends.items ≡ sends
  pub own_sends_are : copies.own_sends.items ≡ sends
