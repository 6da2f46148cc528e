-- What a journal recalls of its steps: all, or the last messages alone. That it forgets is this service's own.
use Rattle.std.specs.Prelude.{◌≡◌, ◌⊎◌, ℕ, ◌+◌, ◌<◌, ◌≤◌, Bool, Option, None, List, [], ◌∷◌, ◌++◌, length, map, drop, slice_get, nat_lt, if◌then◌else◌, flat_map}
use Rattle.node_parts.specs.ballots.specs.declared.message.Message.{Message}
use Rattle.node_parts.specs.traces.specs.declared.step.Step.{Step}
use Rattle.node_parts.specs.traces.specs.Traced.{Traced, TellsAsBefore, TellsMore, HasRoomFor}
use Rattle.journal.specs.declared.last_messages.LastMessages.{LastMessages}

-- the message of this number, where the first so many are forgotten
abbrev pub held_at : ℕ → List Message → ℕ → Option Message
held_at forgotten sent number = if nat_lt number forgotten then None else slice_get sent number

-- These are the last of all that were sent: as many as are held always, or all.
pub record IsEndOf (sent : List Message) (last : LastMessages) : Type 0 where
  pub capacity_is : last.messages.capacity ≡ 65536
  pub within : last.first ≤ length sent
  pub are : last.messages.items ≡ drop last.first sent
  pub enough : (last.first ≡ 0) ⊎ (last.first + 65536 ≤ length sent)

-- what is recalled: the steps with the messages, and of each whether it restarted a node that had back what was due
pub record Recalled : Type 0 where
  pub trace : Traced
  pub recovered : List Bool
  -- how many more of these it takes without memory
  pub room : ℕ
  -- so many messages, the first ones, are held no more
  pub forgotten : ℕ

-- it recalls what it recalled before
pub record RecallsAsBefore (old new : Recalled) : Type 0 where
  pub trace : TellsAsBefore old.trace new.trace
  pub recovered_is : new.recovered ≡ old.recovered
  pub forgotten_is : new.forgotten ≡ old.forgotten

-- one step more
pub record RecallsMore (old : Recalled) (step : Step) (more : List Message) (recovered : Bool) (new : Recalled) : Type 0 where
  pub trace : TellsMore old.trace step more new.trace
  pub recovered_is : new.recovered ≡ old.recovered ++ recovered ∷ []

-- there is room for one step more, and for so many messages
abbrev pub HasRoomToRecall : Recalled → ℕ → Type 0
HasRoomToRecall recalled count = HasRoomFor recalled.trace count × (0 < recalled.room)

-- only messages before the last 65,536 are forgotten
abbrev pub HoldsTheLast : Recalled → Type 0
HoldsTheLast recalled = (recalled.forgotten ≡ 0) ⊎ (recalled.forgotten + 65536 ≤ length recalled.trace.sent)

-- a step, whether it recovered, and what it sent
abbrev pub Effect : Type 0
Effect = (Step × Bool) × List Message

abbrev pub steps_in : List Effect → List Step
steps_in effects = map (λ effect. effect.0.0) effects

abbrev pub recovered_in : List Effect → List Bool
recovered_in effects = map (λ effect. effect.0.1) effects

abbrev pub sent_in : List Effect → List Message
sent_in effects = flat_map (λ effect. effect.1) effects
