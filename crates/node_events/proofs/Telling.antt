-- What is told alike is one.
use Rattle.std.proofs.Common.{◌≡◌, refl, sym, ap, ◌∙◌}
use Rattle.table_types.specs.Tables as tables
use Rattle.table_versions.specs.declared.outcome.Outcome as outcome_type
use Rattle.table_versions.specs.declared.outcome.Outcome.TheVariants as outcome
use Rattle.table_versions.specs.Outcomes.{told}
use Rattle.histories.specs.Event as event
use Rattle.histories.specs.EventResult as results
use Rattle.node_events.specs.declared.event.Event.{Event}
use Rattle.node_events.specs.declared.event.Event.TheVariants.{Put, Tick, Deliver, TickCut, DeliverCut, Restart, Get, Info, Outcome}
use Rattle.node_events.specs.declared.event_result.EventResult.{EventResult}
use Rattle.node_events.specs.declared.event_result.EventResult.TheVariants as given
use Rattle.node_events.specs.declared.event_result.Reason.{Reason}
use Rattle.node_events.specs.declared.event_result.Reason.TheVariants.{OutOfRange, SlotsSpent, RoundsSpent, OutOfMemory, Down, NotSent}
use Rattle.node_events.specs.Told.{event_of, reason_of, result_of}

-- ---- back from what is told

event_from : event.Event → Event
event_from (event.Put node text) = Put node text
event_from (event.Tick node left) = Tick node left
event_from (event.Deliver node number) = Deliver node number
event_from (event.TickCut node left) = TickCut node left
event_from (event.DeliverCut node number) = DeliverCut node number
event_from (event.Restart node) = Restart node
event_from (event.Get node table version) = Get node (record { table = table; version = version })
event_from (event.Info node table) = Info node table
event_from (event.Outcome node text) = Outcome node text

event_back : (x : Event) → event_from (event_of x) ≡ x
unfolding event_from
event_back (Put node upload) = refl
event_back (Tick node left) = refl
event_back (Deliver node number) = refl
event_back (TickCut node left) = refl
event_back (DeliverCut node number) = refl
event_back (Restart node) = refl
event_back (Get node ticket) = refl
event_back (Info node table) = refl
event_back (Outcome node upload) = refl

reason_from : results.Reason → Reason
reason_from results.OutOfRange = OutOfRange
reason_from results.SlotsSpent = SlotsSpent
reason_from results.RoundsSpent = RoundsSpent
reason_from results.OutOfMemory = OutOfMemory
reason_from results.Down = Down
reason_from results.NotSent = NotSent

reason_back : (x : Reason) → reason_from (reason_of x) ≡ x
unfolding reason_from
reason_back OutOfRange = refl
reason_back SlotsSpent = refl
reason_back RoundsSpent = refl
reason_back OutOfMemory = refl
reason_back Down = refl
reason_back NotSent = refl

outcome_from : tables.Outcome → outcome_type.Outcome
outcome_from (tables.applied number) = outcome.Applied number
outcome_from tables.mismatched = outcome.SchemaMismatch
outcome_from tables.conflicting = outcome.Conflict
outcome_from tables.unknown = outcome.Unknown

outcome_back : (x : outcome_type.Outcome) → outcome_from (told x) ≡ x
unfolding outcome_from
outcome_back (outcome.Applied number) = refl
outcome_back outcome.SchemaMismatch = refl
outcome_back outcome.Conflict = refl
outcome_back outcome.Unknown = refl

gave_from : results.EventResult → EventResult
gave_from (results.Sent first count) = given.Sent first count
gave_from results.Done = given.Done
gave_from (results.Answer bytes) = given.Answer bytes
gave_from results.Unavailable = given.Unavailable
gave_from (results.Info version) = given.Info version
gave_from results.NoTable = given.NoTable
gave_from (results.Outcome told_outcome) = given.Outcome (outcome_from told_outcome)
gave_from (results.Refused reason) = given.Refused (reason_from reason)

gave_back : (x : EventResult) → gave_from (result_of x) ≡ x
unfolding gave_from
gave_back (given.Sent first count) = refl
gave_back given.Done = refl
gave_back (given.Answer bytes) = refl
gave_back given.Unavailable = refl
gave_back (given.Info version) = refl
gave_back given.NoTable = refl
gave_back (given.Outcome told_outcome) = ap given.Outcome (outcome_back told_outcome)
gave_back (given.Refused reason) = ap given.Refused (reason_back reason)

pub one_event : (x y : Event) → event_of x ≡ event_of y → x ≡ y
one_event x y same = sym (event_back x) ∙ ap event_from same ∙ event_back y

pub one_gave : (x y : EventResult) → result_of x ≡ result_of y → x ≡ y
one_gave x y same = sym (gave_back x) ∙ ap gave_from same ∙ gave_back y
