-- What a seat does that is ready, with its number and the count of its messages as the program has them.
use Rattle.std.proofs.Common.{◌≡◌, ◌⊎◌, inl, inr, ℕ, Bool, false, Option, None, Some, List, [], ◌∷◌, ◌++◌, length, refl, sym, ap, subst, ◌∙◌}
use Rattle.journal.specs.parts.ballots.specs.declared.message.Message.{Message}
use Rattle.journal.specs.parts.ballots.specs.declared.record.Record.{Record}
use Rattle.journal.specs.parts.agreement_rules.specs.Views.{AgreementConfig, Views}
use Rattle.journal.specs.parts.table_types.specs.Uploads.{Upload}
use Rattle.journal.specs.parts.histories.specs.Texts.{HasUploads}
use Rattle.journal.specs.parts.histories.specs.Due.{Input}
use Rattle.journal.specs.parts.histories.specs.EventResult.{EventResult as HistoryResult, count_of}
use Rattle.journal.specs.parts.histories.specs.Following.{UpOrDown, IsUp, GetGives}
use Rattle.journal.specs.parts.histories.specs.Following as following
use Rattle.journal.specs.parts.histories.specs.Owning.{OwnEntry}
use Rattle.node_core.specs.State.{NodeState}
use Rattle.node_core.specs.declared.plan.Planned.{Planned}
use Rattle.node_core.specs.Plans.{CanCommit, sent_by}
use Rattle.journal.specs.parts.node_events.specs.declared.event.Event.{Event}
use Rattle.journal.specs.parts.node_events.specs.declared.event.Event.TheVariants as event
use Rattle.journal.specs.parts.node_events.specs.declared.event_result.EventResult.{EventResult}
use Rattle.journal.specs.parts.node_events.specs.declared.event_result.EventResult.TheVariants as results
use Rattle.journal.specs.parts.node_events.specs.Told.{result_of}
use Rattle.stored_nodes.specs.State.{StoredNodeState, IsPlaced, StandsUp}
use Rattle.stored_nodes.specs.Parts.{IsPlannedFor, IsDoneFor, IsBrokenOff, IsUnchanged as NodeUnchanged, StandsStill}
use Rattle.journal.specs.declared.receipt.Receipt.{Receipt}
use Rattle.journal.specs.Journaled.{Journaled, HasEntry, MayEnter, EntersOwn}
use Rattle.seats.specs.declared.input.SeatInput.{SeatInput}
use Rattle.seats.specs.declared.query.Query.{Query}
use Rattle.seats.specs.declared.query.Query.TheVariants as query
use Rattle.seats.specs.Inputs.{input_of, event_at, given_for, IsCutAt, IsSentIn}
use Rattle.seats.specs.Entries.{done_step, done_entry, cut_step, cut_entry, restart_step, restart_entry}
use Rattle.seats.specs.State.{RunningSeat, StandsSo, IsLedTo, IsLed, Agrees}
use Rattle.seats.specs.Steps.{IsPreparedFor, IsFoundBy, AnswersQuery, asked_at, TellsEntry}
use Rattle.seats.proofs.Joining.{next_at, cut_there}
use Rattle.seats.proofs.Leading.{WasUp, was_up, Done, done_of, next_of_done, Broken, broken_of, next_of_cut, member_in, led_in, config_in}

-- ---- an input that is ready to be taken

-- the node can commit the plan
pub can_take : {S : Type 0} (old : RunningSeat S) (input : SeatInput) (plan : Planned) → IsPreparedFor old (record { input = input; plan = plan })
    → (node : NodeState) × (old.node.node ≡ Some node) × CanCommit node plan
can_take old input plan prepared = (prepared.planned.up.node, prepared.planned.up.up, prepared.planned.can)

pub ready_done : {S : Type 0} (old : RunningSeat S) (node : StoredNodeState S) (input : SeatInput) (plan : Planned) (sends : List Message)
    → IsPreparedFor old (record { input = input; plan = plan })
    → ((views : Views) (i : Input) → IsPlaced old.node → IsPlannedFor old.node views i plan → IsDoneFor old.node node views i plan) → sends ≡ sent_by plan → Done old node input sends
ready_done old node input plan sends prepared does same =
    done_of old node input plan sends (record { views = prepared.views; led = prepared.led }) (does prepared.views (input_of input) prepared.led.placed prepared.planned) same

pub ready_broken : {S : Type 0} (old : RunningSeat S) (node : StoredNodeState S) (input : SeatInput) (plan : Planned) → IsPreparedFor old (record { input = input; plan = plan })
    → ((views : Views) (i : Input) → IsPlaced old.node → IsPlannedFor old.node views i plan → IsBrokenOff old.node node views i plan) → Broken old node input
ready_broken old node input plan prepared breaks =
    broken_of old node input plan (record { views = prepared.views; led = prepared.led }) (breaks prepared.views (input_of input) prepared.led.placed prepared.planned)

-- what is entered of it
abbrev pub EnteredDone : (before after : Journaled) → SeatInput → List Message → Receipt → (old new : List OwnEntry) → (me count : ℕ) → Type 0
EnteredDone before after input sends receipt old new me count =
    HasEntry before (done_step me input (length before.trace.sent) count) sends false after
    × EntersOwn before (done_step me input (length before.trace.sent) count) sends false after
    × TellsEntry before (event_at me input) (given_for input (length before.trace.sent) count) receipt
    × (new ≡ old ++ done_entry me input (length before.trace.sent) sends ∷ [])

pub entered_done : (before after : Journaled) (input : SeatInput) (sends : List Message) (receipt : Receipt) (old new : List OwnEntry) (me mine count : ℕ) → me ≡ mine → count ≡ length sends
    → EnteredDone before after input sends receipt old new me count → EnteredDone before after input sends receipt old new mine (length sends)
entered_done before after input sends receipt old new me mine count is counted entered =
    subst (λ (k : ℕ). EnteredDone before after input sends receipt old new mine k) counted
    (subst (λ (m : ℕ). EnteredDone before after input sends receipt old new m count) is entered)

pub may_enter_done : {S : Type 0} (old : RunningSeat S) (node : StoredNodeState S) (before : Journaled) (input : SeatInput) (sends : List Message) (me count : ℕ) → me ≡ old.node.me → count ≡ length sends
    → Agrees old before → IsSentIn before.trace.sent input → Done old node input sends → MayEnter before (done_step me input (length before.trace.sent) count) sends false
may_enter_done old node before input sends me count is counted agrees sent done =
    subst (λ (k : ℕ). MayEnter before (done_step me input (length before.trace.sent) k) sends false) (sym counted)
    (subst (λ (m : ℕ). MayEnter before (done_step m input (length before.trace.sent) (length sends)) sends false) (sym is)
    (IsUp done.views, IsUp done.plan.after, next_of_done old node before input sends agrees sent done))

abbrev pub EnteredCut : (before after : Journaled) → SeatInput → (old new : List OwnEntry) → ℕ → Type 0
EnteredCut before after input old new me =
    (cut : Event) × IsCutAt me input cut × (new ≡ old ++ cut_entry cut input ∷ []) × HasEntry before (cut_step cut) [] false after
    × EntersOwn before (cut_step cut) [] false after

pub may_enter_cut : {S : Type 0} (old : RunningSeat S) (node : StoredNodeState S) (before : Journaled) (input : SeatInput) (me : ℕ) → me ≡ old.node.me → Agrees old before → IsSentIn before.trace.sent input
    → Broken old node input → (cut : Event) × IsCutAt me input cut × MayEnter before (cut_step cut) [] false
may_enter_cut old node before input me is agrees sent broken =
    let there = cut_there old.node.config old.node.me broken.views input broken.last broken.keeps in
    subst (λ (m : ℕ). (cut : Event) × IsCutAt m input cut × MayEnter before (cut_step cut) [] false) (sym is) (
      there.0,
      there.1,
      (
        IsUp broken.views,
        following.IsDown broken.views.records (Some broken.last),
        next_of_cut old node before input there.0 agrees sent there.1 broken,
      ),
    )

-- ---- a restart that is ready

abbrev pub EnteredRestart : (before after : Journaled) → Bool → Receipt → (old new : List OwnEntry) → ℕ → Type 0
EnteredRestart before after was receipt old new me =
    HasEntry before (restart_step me) [] was after × EntersOwn before (restart_step me) [] was after
    × TellsEntry before (event.Restart me) results.Done receipt × (new ≡ old ++ restart_entry me was ∷ [])

-- ---- a node that stands as before

-- what it was led to, it is led to
pub led_still : {S : Type 0} (old : RunningSeat S) (node : StoredNodeState S) (stood : UpOrDown) → node.me ≡ old.node.me → node.config ≡ old.node.config → IsPlaced node → StandsSo node stood
    → IsLedTo old stood → IsLedTo (record { config = old.config; start = old.start; node = node; own = old.own; keeps = old.keeps; known = old.known }) stood
led_still old node stood me config placed stands led = record {
  config_is = config ∙ led.config_is;
  placed = placed;
  led = led.led;
  stands = stands;
}

-- it stands so still, where its node planned something
pub planned_so : {S : Type 0} (old new : StoredNodeState S) (stood : UpOrDown) → StandsStill old new → StandsSo old stood → StandsSo new stood
planned_so old new (IsUp views) still stands = still.stands (IsUp views) stands
planned_so old new (following.IsDown records due) still stands = record {
  down = still.down stands.down;
  kept = still.records_are ∙ stands.kept;
  doubt = subst (λ (d : Option Record). (d ≡ None) ⊎ (d ≡ due)) (sym still.doubted_is) stands.doubt;
}

-- or where it was not opened again
pub unchanged_so : {S : Type 0} (old new : StoredNodeState S) (stood : UpOrDown) → NodeUnchanged old new → StandsSo old stood → StandsSo new stood
unchanged_so old new (IsUp views) same stands = same.stands (IsUp views) stands
unchanged_so old new (following.IsDown records due) same stands = record {
  down = same.node_is ∙ stands.down;
  kept = same.records_are ∙ stands.kept;
  doubt = subst (λ (d : Option Record). (d ≡ None) ⊎ (d ≡ due)) (sym same.doubted_is) stands.doubt;
}

-- ---- an answer that is ready to be served

-- the uploads that a node's tables hold
uploads_of : {S : Type 0} (state : StoredNodeState S) (views : Views) → StandsUp state views → (uploads : List Upload) × HasUploads state.config.members views.learner_calls uploads
uploads_of state views up = (
  up.has.taken.uploads,
  subst (λ (c : AgreementConfig). HasUploads c.members views.learner_calls up.has.taken.uploads) up.config_is
      (record { values = up.has.values; prefix = up.has.prefix; are = up.has.taken.are }),
)

-- an answer to a ticket sends nothing
sends_none_get : (uploads : List Upload) (table : List ℕ) (version : ℕ) (given : HistoryResult) → GetGives uploads table version given → 0 ≡ count_of given
sends_none_get uploads table version given (inl answers) = sym (ap count_of answers.2)
sends_none_get uploads table version given (inr none) = sym (ap count_of none.1)

served_at : {S : Type 0} (seat : RunningSeat S) (before : Journaled) (asked : Query) (answer : EventResult) (was : WasUp seat) → Agrees seat before → (uploads : List Upload)
    → HasUploads seat.node.config.members was.views.learner_calls uploads → AnswersQuery uploads asked answer
    → MayEnter before (record { event = asked_at seat.node.me asked; result = answer }) [] false
served_at seat before (query.Get ticket) answer was agrees uploads of answers = (
  IsUp was.views,
  IsUp was.views,
  next_at before seat.node.me (record { event = event.Get seat.node.me ticket; result = answer }) [] false (IsUp was.views) (IsUp was.views) refl
      (member_in seat before (IsUp was.views) was.led agrees) (led_in seat before (IsUp was.views) was.led agrees)
      (uploads, subst (λ (c : AgreementConfig). HasUploads c.members was.views.learner_calls uploads) (config_in seat before (IsUp was.views) was.led agrees) of, inl answers, refl) refl
      (sends_none_get uploads ticket.table ticket.version (result_of answer) answers),
)
served_at seat before (query.Outcome upload) answer was agrees uploads of answers = (
  IsUp was.views,
  IsUp was.views,
  next_at before seat.node.me (record { event = event.Outcome seat.node.me upload; result = answer }) [] false (IsUp was.views) (IsUp was.views) refl
      (member_in seat before (IsUp was.views) was.led agrees) (led_in seat before (IsUp was.views) was.led agrees)
      (uploads, subst (λ (c : AgreementConfig). HasUploads c.members was.views.learner_calls uploads) (config_in seat before (IsUp was.views) was.led agrees) of, answers, refl) refl
      (sym (ap count_of answers.2)),
)

pub next_served : {S : Type 0} (seat : RunningSeat S) (before : Journaled) (asked : Query) (answer : EventResult) → IsLed seat → Agrees seat before
    → IsFoundBy seat (record { query = asked; answer = answer }) → MayEnter before (record { event = asked_at seat.node.me asked; result = answer }) [] false
next_served seat before asked answer led agrees found =
    let was = was_up seat led found.up in
    let has = uploads_of seat.node was.views was.led.stands in
    served_at seat before asked answer was agrees has.0 has.1 (found.answers was.views has.0 was.led.stands has.1)

-- and some tables answer so
pub found_in : {S : Type 0} (seat : RunningSeat S) (asked : Query) (answer : EventResult) → IsLed seat → IsFoundBy seat (record { query = asked; answer = answer })
    → (uploads : List Upload) × AnswersQuery uploads asked answer
found_in seat asked answer led found =
    let was = was_up seat led found.up in
    let has = uploads_of seat.node was.views was.led.stands in (has.0, found.answers was.views has.0 was.led.stands has.1)
