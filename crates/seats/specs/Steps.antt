-- What the calls of a running node give and leave, by cases of what they answer (Lamport, "Paxos Made Simple", section 2.5, for
-- what a node keeps before it answers). Seats, journals and receipts are this service's own.
use Rattle.std.specs.Prelude.{◌≡◌, ◌≢◌, ◌⊎◌, ℕ, ◌<◌, Bool, false, IsTrue, None, Some, IsSome, Result, Ok, Err, List, [], length}
use Rattle.journal.specs.parts.ballots.specs.declared.record.Record.{Record}
use Rattle.stable_records.specs.Calls.{RaisesCount, ReadyAfterRecall}
use Rattle.journal.specs.parts.agreement.specs.declared.refusal.Refusal.{Refusal}
use Rattle.journal.specs.parts.agreement.specs.declared.refusal.Refusal.TheVariants as refusal
use Rattle.journal.specs.parts.agreement_rules.specs.Views.{Views, started_with}
use Rattle.journal.specs.parts.agreement_rules.specs.Due.{Plan, Plans}
use Rattle.journal.specs.parts.table_types.specs.Uploads.{Upload}
use Rattle.journal.specs.parts.table_types.specs.Tables.{version_of}
use Rattle.journal.specs.parts.histories.specs.Texts.{HasUploads}
use Rattle.journal.specs.parts.histories.specs.Due.{IsDue, InputKeeps}
use Rattle.journal.specs.parts.histories.specs.Following.{UpOrDown, IsUp, with_due, GetGives, OutcomeGives}
use Rattle.journal.specs.parts.histories.specs.Owning.{OwnEntry}
use Rattle.node_core.specs.State.{NodeState, NodeHas}
use Rattle.node_core.specs.Plans.{IsRefused}
use Rattle.journal.specs.parts.node_events.specs.declared.event.Event.{Event}
use Rattle.journal.specs.parts.node_events.specs.declared.event.Event.TheVariants as event
use Rattle.journal.specs.parts.node_events.specs.declared.event_result.EventResult.{EventResult}
use Rattle.journal.specs.parts.node_events.specs.declared.event_result.EventResult.TheVariants as results
use Rattle.journal.specs.parts.node_events.specs.declared.event_result.Reason.{Reason}
use Rattle.journal.specs.parts.node_events.specs.declared.event_result.Reason.TheVariants as reason
use Rattle.journal.specs.parts.node_events.specs.Told.{result_of}
use Rattle.stored_nodes.specs.declared.fault.StoredNodeFault.{StoredNodeFault as NodeFault}
use Rattle.stored_nodes.specs.declared.fault.StoredNodeFault.TheVariants as recover
use Rattle.stored_nodes.specs.State.{Stands, StandsUp}
use Rattle.stored_nodes.specs.Parts.{IsPlannedFor}
use Rattle.journal.specs.parts.traces.specs.declared.config.Config.{Config}
use Rattle.journal.specs.declared.receipt.Receipt.{Receipt}
use Rattle.journal.specs.Journaled.{Journaled, IsFull, HasEntry, TellsSame}
use Rattle.seats.specs.declared.fault.SeatFault.{SeatFault}
use Rattle.seats.specs.declared.fault.SeatFault.TheVariants as fault
use Rattle.seats.specs.declared.input.SeatInput.{SeatInput}
use Rattle.seats.specs.declared.input.Prepared.{Prepared}
use Rattle.seats.specs.declared.query.Query.{Query}
use Rattle.seats.specs.declared.query.Query.TheVariants as query
use Rattle.seats.specs.declared.query.Found.{Found}
use Rattle.seats.specs.Inputs.{input_of, event_at, given_for, IsCutAt, IsHeldIn}
use Rattle.seats.specs.State.{RunningSeat, IsLedTo, HasOwn, Agrees, IsSeenToAgree}

abbrev pub IsDown : {S : Type 0} → RunningSeat S → Type 0
IsDown seat = seat.node.node ≡ None

-- the node stands as before, whatever room it made
pub record StandsSame {S : Type 0} (old new : RunningSeat S) : Type 0 where
  pub config_is : new.config ≡ old.config
  pub start_is : new.start ≡ old.start
  pub me_is : new.node.me ≡ old.node.me
  pub own_is : new.own ≡ old.own
  pub keeps_is : new.keeps ≡ old.keeps
  pub known_is : new.known ≡ old.known
  pub records_are : new.node.records ≡ old.node.records
  pub doubted_is : new.node.doubted ≡ old.node.doubted
  pub stands : (seat : UpOrDown) → Stands old.node seat → Stands new.node seat

-- the count of the store's faults, by the answer of a call
abbrev pub Counts : {T : Type 0} → (tells : Bool) → Result T SeatFault → (old new : ℕ) → Type 0
Counts tells (Ok _) old new = new ≡ old
Counts tells (Err fault.Down) old new = new ≡ old
Counts tells (Err fault.Strange) old new = new ≡ old
Counts tells (Err fault.JournalFull) old new = new ≡ old
Counts tells (Err fault.NotSent) old new = new ≡ old
Counts tells (Err (fault.Refused why)) old new = new ≡ old
Counts tells (Err (fault.Store why)) old new = RaisesCount why old new
Counts tells (Err fault.Lost) old new = (IsTrue tells → ⊥) × (new ≡ old)

-- ---- an input that is prepared

-- The plan is what is due to the input, by what its own entries leave the node, and it can be committed.
pub record IsPreparedFor {S : Type 0} (seat : RunningSeat S) (prepared : Prepared) : Type 0 where
  pub views : Views
  pub led : IsLedTo seat (IsUp views)
  pub planned : IsPlannedFor seat.node views (input_of prepared.input) prepared.plan

abbrev pub RefusesFor : {S : Type 0} → RunningSeat S → SeatInput → Refusal → Type 0
RefusesFor seat input why = (views : Views) (up : StandsUp seat.node views) → IsRefused up.node views (input_of input) why

-- the fault of a seat whose node refuses an input for this reason
abbrev pub IsFaultFor : Reason → SeatFault → Type 0
IsFaultFor reason.OutOfRange why = why ≡ fault.Refused refusal.OutOfRange
IsFaultFor reason.SlotsSpent why = why ≡ fault.Refused refusal.SlotsSpent
IsFaultFor reason.RoundsSpent why = why ≡ fault.Refused refusal.RoundsSpent
IsFaultFor reason.OutOfMemory why = why ≡ fault.Refused refusal.OutOfMemory
IsFaultFor reason.Down why = why ≡ fault.Down
IsFaultFor reason.NotSent why = why ≡ fault.NotSent

-- what is due to the input: its refusal, or its plan; or the node is down, and then nothing is due
abbrev pub PrepareGives : {S : Type 0} → (old new : RunningSeat S) → SeatInput → Result Prepared SeatFault → Type 0
PrepareGives old new input (Ok prepared) = (prepared.input ≡ input) × IsPreparedFor new prepared
PrepareGives old new input (Err fault.Down) = IsDown old
PrepareGives old new input (Err fault.Strange) = ⊥
PrepareGives old new input (Err fault.JournalFull) = ⊥
PrepareGives old new input (Err fault.NotSent) = ⊥
PrepareGives old new input (Err (fault.Refused why)) = (IsDown old → ⊥) × RefusesFor old input why
PrepareGives old new input (Err (fault.Store why)) = ⊥
PrepareGives old new input (Err fault.Lost) = ⊥

-- ---- a query

abbrev pub asked_at : ℕ → Query → Event
asked_at node (query.Get ticket) = event.Get node ticket
asked_at node (query.Outcome upload) = event.Outcome node upload

-- the answer of one who has such tables
abbrev pub AnswersQuery : List Upload → Query → EventResult → Type 0
AnswersQuery uploads (query.Get ticket) answer = GetGives uploads ticket.table ticket.version (result_of answer)
AnswersQuery uploads (query.Outcome upload) answer = OutcomeGives uploads upload (result_of answer)

-- there is something to answer for which memory may be refused
abbrev pub HasAnswer : List Upload → Query → Type 0
HasAnswer uploads (query.Get ticket) = IsSome (version_of ticket.table ticket.version uploads)
HasAnswer uploads (query.Outcome upload) = ⊥

-- for whatever the node may stand by
abbrev pub OfItsTables : {S : Type 0} → RunningSeat S → (List Upload → Type 0) → Type 0
OfItsTables seat Have =
    (views : Views) (uploads : List Upload) → StandsUp seat.node views
    → HasUploads seat.node.config.members views.learner_calls uploads → Have uploads

-- what a node answers, for whatever it may stand by
abbrev pub NodeReads : NodeState → Query → Result EventResult Refusal → Type 0
NodeReads node asked (Ok answer) =
    (views : Views) (uploads : List Upload) → NodeHas node views
    → HasUploads node.agreement.config.members views.learner_calls uploads → AnswersQuery uploads asked answer
NodeReads node asked (Err why) =
    (why ≡ refusal.OutOfMemory) × ((views : Views) (uploads : List Upload) → NodeHas node views
    → HasUploads node.agreement.config.members views.learner_calls uploads → HasAnswer uploads asked)

pub record IsFoundBy {S : Type 0} (seat : RunningSeat S) (found : Found) : Type 0 where
  pub up : IsDown seat → ⊥
  pub answers : OfItsTables seat (λ uploads. AnswersQuery uploads found.query found.answer)

abbrev pub ReadGives : {S : Type 0} → RunningSeat S → Query → Result Found SeatFault → Type 0
ReadGives seat asked (Ok found) = (found.query ≡ asked) × IsFoundBy seat found
ReadGives seat asked (Err fault.Down) = IsDown seat
ReadGives seat asked (Err fault.Strange) = ⊥
ReadGives seat asked (Err fault.JournalFull) = ⊥
ReadGives seat asked (Err fault.NotSent) = ⊥
ReadGives seat asked (Err (fault.Refused why)) =
    (why ≡ refusal.OutOfMemory) × (IsDown seat → ⊥) × OfItsTables seat (λ uploads. HasAnswer uploads asked)
ReadGives seat asked (Err (fault.Store why)) = ⊥
ReadGives seat asked (Err fault.Lost) = ⊥

-- ---- what a call with the journal comes to before it does anything

-- seat and journal agree, and there is room for an entry
abbrev pub IsOpen : {S : Type 0} → RunningSeat S → Journaled → Type 0
IsOpen seat journal = IsSeenToAgree seat journal × (IsFull journal → ⊥)

-- whether it is open, and if not, why
abbrev pub OpensFor : {S T : Type 0} → RunningSeat S → Journaled → Result T SeatFault → Type 0
OpensFor seat journal (Ok _) = IsOpen seat journal
OpensFor seat journal (Err fault.Down) = ⊥
OpensFor seat journal (Err fault.Strange) = IsSeenToAgree seat journal → ⊥
OpensFor seat journal (Err fault.JournalFull) = IsSeenToAgree seat journal × IsFull journal
OpensFor seat journal (Err fault.NotSent) = ⊥
OpensFor seat journal (Err (fault.Refused why)) = ⊥
OpensFor seat journal (Err (fault.Store why)) = ⊥
OpensFor seat journal (Err fault.Lost) = ⊥

-- and the delivered message, if there is one, is held
abbrev pub Admits : {S T : Type 0} → RunningSeat S → Journaled → SeatInput → Result T SeatFault → Type 0
Admits seat journal input (Ok _) = IsOpen seat journal × IsHeldIn journal input
Admits seat journal input (Err fault.Down) = ⊥
Admits seat journal input (Err fault.Strange) = IsSeenToAgree seat journal → ⊥
Admits seat journal input (Err fault.JournalFull) = IsSeenToAgree seat journal × IsFull journal
Admits seat journal input (Err fault.NotSent) = IsOpen seat journal × (IsHeldIn journal input → ⊥)
Admits seat journal input (Err (fault.Refused why)) = ⊥
Admits seat journal input (Err (fault.Store why)) = ⊥
Admits seat journal input (Err fault.Lost) = ⊥

-- what another node did itself, the journal has still
abbrev pub OthersAgree : ℕ → (before after : Journaled) → Type 0
OthersAgree me before after =
    (config : Config) (other : ℕ) (start : UpOrDown) (own : List OwnEntry) → other ≢ me → other < config.members
    → HasOwn config other start own before → HasOwn config other start own after

-- the entry is told by the receipt
abbrev pub TellsEntry : Journaled → Event → EventResult → Receipt → Type 0
TellsEntry journal e given receipt =
    receipt ≡ record { number = length journal.trace.steps; event = e; answer = given }

-- ---- an input that is taken

-- One entry: the input's event at this node, with what is due; the messages that are due go out; the node and its own
-- entries are as these say, and agree.
pub record IsTaken {S : Type 0} (old new : RunningSeat S) (before after : Journaled) (prepared : Prepared) (receipt : Receipt) : Type 0 where
  pub views : Views
  pub led : IsLedTo old (IsUp views)
  pub plan : Plan
  pub due : IsDue old.node.config old.node.me views (input_of prepared.input) (Plans plan)
  pub stands : StandsUp new.node plan.after
  pub entry : HasEntry before (record { event = event_at old.node.me prepared.input; result = receipt.answer })
      plan.sends false after
  pub answer_is : receipt.answer ≡ given_for prepared.input (length before.trace.sent) (length plan.sends)
  pub told : TellsEntry before (event_at old.node.me prepared.input) receipt.answer receipt
  pub agrees : Agrees new after
  pub knows : new.known ≡ after.log

-- The store failed: one entry, that of the node that went down in the midst, where a record was due that is not kept, or of
-- which nobody knows.
pub record IsCut {S : Type 0} (old new : RunningSeat S) (before after : Journaled) (prepared : Prepared) : Type 0 where
  pub views : Views
  pub led : IsLedTo old (IsUp views)
  pub last : Record
  pub keeps : InputKeeps old.node.config old.node.me views (input_of prepared.input) (Some last)
  pub down : IsDown new
  pub unkept : new.node.records ≡ old.node.records
  pub doubt : (new.node.doubted ≡ None) ⊎ (new.node.doubted ≡ Some last)
  pub cut : Event
  pub is_cut : IsCutAt old.node.me prepared.input cut
  pub entry : HasEntry before (record { event = cut; result = results.Done }) [] false after
  pub agrees : Agrees new after
  pub knows : new.known ≡ after.log

-- nothing changes
abbrev pub IsUnchanged : {S : Type 0} → (old new : RunningSeat S) → (before after : Journaled) → Type 0
IsUnchanged old new before after = StandsSame old new × TellsSame before after

abbrev pub TakeGives : {S : Type 0} → (old new : RunningSeat S) → (before after : Journaled) → Prepared → Result Receipt SeatFault → Type 0
TakeGives old new before after prepared (Ok receipt) =
    IsOpen old before × IsHeldIn before prepared.input × IsTaken old new before after prepared receipt
TakeGives old new before after prepared (Err fault.Down) = ⊥
TakeGives old new before after prepared (Err fault.Strange) = (IsSeenToAgree old before → ⊥) × IsUnchanged old new before after
TakeGives old new before after prepared (Err fault.JournalFull) =
    IsSeenToAgree old before × IsFull before × IsUnchanged old new before after
TakeGives old new before after prepared (Err fault.NotSent) =
    IsOpen old before × (IsHeldIn before prepared.input → ⊥) × IsUnchanged old new before after
TakeGives old new before after prepared (Err (fault.Refused why)) =
    IsOpen old before × IsHeldIn before prepared.input × (why ≡ refusal.OutOfMemory)
    × IsUnchanged old new before after
TakeGives old new before after prepared (Err (fault.Store why)) =
    IsOpen old before × IsHeldIn before prepared.input × IsCut old new before after prepared
TakeGives old new before after prepared (Err fault.Lost) = ⊥

-- ---- an answer that is served

-- One entry: the query at this node, with what was read; and the seat agrees still.
pub record IsServed {S : Type 0} (seat : RunningSeat S) (before after : Journaled) (found : Found) (receipt : Receipt) : Type 0 where
  pub entry : HasEntry before (record { event = asked_at seat.node.me found.query; result = found.answer }) [] false after
  pub told : TellsEntry before (asked_at seat.node.me found.query) found.answer receipt
  pub agrees : Agrees seat after

abbrev pub ServeGives : {S : Type 0} → RunningSeat S → (before after : Journaled) → Found → Result Receipt SeatFault → Type 0
ServeGives seat before after found (Ok receipt) = IsOpen seat before × IsServed seat before after found receipt
ServeGives seat before after found (Err fault.Down) = ⊥
ServeGives seat before after found (Err fault.Strange) = (IsSeenToAgree seat before → ⊥) × TellsSame before after
ServeGives seat before after found (Err fault.JournalFull) = IsSeenToAgree seat before × IsFull before × TellsSame before after
ServeGives seat before after found (Err fault.NotSent) = ⊥
ServeGives seat before after found (Err (fault.Refused why)) =
    IsOpen seat before × (why ≡ refusal.OutOfMemory) × TellsSame before after
ServeGives seat before after found (Err (fault.Store why)) = ⊥
ServeGives seat before after found (Err fault.Lost) = ⊥

-- ---- a restart

-- why the node was not started again, as a fault of the seat
abbrev pub IsFaultOf : NodeFault → SeatFault → Type 0
IsFaultOf recover.OutOfMemory why = why ≡ fault.Refused refusal.OutOfMemory
IsFaultOf (recover.Store failed) why = why ≡ fault.Store failed
IsFaultOf recover.Lost why = why ≡ fault.Lost

-- One entry: the node started again, with the records that it kept, and with the one in doubt where its store had it.
pub record IsRestarted {S : Type 0} (old new : RunningSeat S) (before after : Journaled) (receipt : Receipt) : Type 0 where
  pub recovered : Bool
  pub none : old.node.doubted ≡ None → recovered ≡ false
  pub stands : StandsUp new.node (started_with (with_due recovered old.node.records old.node.doubted))
  pub entry : HasEntry before (record { event = event.Restart old.node.me; result = results.Done }) [] recovered after
  pub told : TellsEntry before (event.Restart old.node.me) results.Done receipt
  pub agrees : Agrees new after
  pub knows : new.known ≡ after.log

abbrev pub RestartGives : {S : Type 0} → (old new : RunningSeat S) → (before after : Journaled) → Result Receipt SeatFault → Type 0
RestartGives old new before after (Ok receipt) = IsOpen old before × IsRestarted old new before after receipt
RestartGives old new before after (Err fault.Down) = ⊥
RestartGives old new before after (Err fault.Strange) = (IsSeenToAgree old before → ⊥) × IsUnchanged old new before after
RestartGives old new before after (Err fault.JournalFull) =
    IsSeenToAgree old before × IsFull before × IsUnchanged old new before after
RestartGives old new before after (Err fault.NotSent) = ⊥
RestartGives old new before after (Err (fault.Refused why)) =
    IsOpen old before × (why ≡ refusal.OutOfMemory) × IsUnchanged old new before after
RestartGives old new before after (Err (fault.Store why)) = IsOpen old before × IsUnchanged old new before after
RestartGives old new before after (Err fault.Lost) = IsOpen old before × IsUnchanged old new before after

-- Whether the store is ready: it was asked for its records, unless seat and journal are not seen to agree, or there is no room.
abbrev pub ReadyAfterRestart : Result Receipt SeatFault → (old new : Bool) → Type 0
ReadyAfterRestart (Ok _) old new = IsTrue new
ReadyAfterRestart (Err fault.Down) old new = ⊥
ReadyAfterRestart (Err fault.Strange) old new = new ≡ old
ReadyAfterRestart (Err fault.JournalFull) old new = new ≡ old
ReadyAfterRestart (Err fault.NotSent) old new = ⊥
ReadyAfterRestart (Err (fault.Refused why)) old new = (new ≡ old) ⊎ IsTrue new
ReadyAfterRestart (Err (fault.Store why)) old new = ReadyAfterRecall {T = Receipt} (Err why) old new
ReadyAfterRestart (Err fault.Lost) old new = IsTrue new
