-- What a seat is led to by its own entries, before and behind a step that it enters.
use Rattle.std.proofs.Common.{◌≡◌, ◌⊎◌, inl, inr, ℕ, ◌<◌, Bool, true, false, Option, None, Some, List, [], ◌∷◌, ◌++◌, length, refl, sym, ap, subst, ◌∙◌}
use Rattle.journal.specs.parts.ballots.specs.declared.message.Message.{Message}
use Rattle.journal.specs.parts.ballots.specs.declared.record.Record.{Record}
use Rattle.journal.specs.parts.agreement_rules.specs.Views.{AgreementConfig, Views, started_with}
use Rattle.journal.specs.parts.agreement_rules.specs.Due.{Plan, Plans}
use Rattle.journal.specs.parts.histories.specs.Event.{node_of}
use Rattle.journal.specs.parts.histories.specs.Due.{IsDue, InputKeeps}
use Rattle.journal.specs.parts.histories.specs.Following.{UpOrDown, IsUp, with_due, recovered_in}
use Rattle.journal.specs.parts.histories.specs.Following as following
use Rattle.journal.specs.parts.histories.specs.Owning.{OwnEntry, concerns, entry_of, own, OwnReaches}
use Rattle.node_core.specs.declared.plan.Planned.{Planned}
use Rattle.node_core.specs.Plans.{sent_by}
use Rattle.journal.specs.parts.node_events.specs.declared.event.Event.{Event}
use Rattle.journal.specs.parts.node_events.specs.Told.{event_of}
use Rattle.stored_nodes.specs.State.{StoredNodeState, IsPlaced, StandsUp}
use Rattle.stored_nodes.specs.Parts.{IsDoneFor, IsBrokenOff}
use Rattle.journal.specs.parts.traces.specs.declared.step.Step.{Step}
use Rattle.journal.specs.parts.traces.specs.declared.config.Config.{Config as RunConfig}
use Rattle.journal.specs.parts.traces.specs.Told.{config_of, step_of, steps_of}
use Rattle.journal.specs.Journaled.{seats_in, Journaled, HasEntry, TellsSame, IsNext, EntersOwn, own_in}
use Rattle.seats.specs.declared.input.SeatInput.{SeatInput}
use Rattle.seats.specs.declared.input.SeatInput.TheVariants.{Put}
use Rattle.seats.specs.Inputs.{input_of, IsCutAt, IsSentIn}
use Rattle.seats.specs.Entries.{done_step, done_entry, cut_step, cut_entry, restart_step, restart_entry}
use Rattle.seats.specs.State.{RunningSeat, StandsSo, IsLedTo, IsLed, HasOwn, Agrees}
use Rattle.seats.specs.Steps.{IsDown, OthersAgree}
use Rattle.seats.proofs.Joining.{mine_grow, others_stay, node_at, concerns_done, put_sends_none, next_done, done_is_own, cut_node, concerns_cut, next_cut, cut_is_own, concerns_restart, next_restart}

-- ---- a seat and its journal

pub member_in : {S : Type 0} (seat : RunningSeat S) (journal : Journaled) (stood : UpOrDown) → IsLedTo seat stood → Agrees seat journal → seat.node.me < journal.trace.config.members
member_in seat journal stood led agrees =
    subst (λ (c : RunConfig). seat.node.me < c.members) (sym agrees.0) (subst (λ (c : AgreementConfig). seat.node.me < c.members) led.config_is led.placed.member)

pub config_in : {S : Type 0} (seat : RunningSeat S) (journal : Journaled) (stood : UpOrDown) → IsLedTo seat stood → Agrees seat journal → seat.node.config ≡ config_of journal.trace.config
config_in seat journal stood led agrees = led.config_is ∙ ap config_of (sym agrees.0)

pub led_in : {S : Type 0} (seat : RunningSeat S) (journal : Journaled) (stood : UpOrDown) → IsLedTo seat stood → Agrees seat journal
    → OwnReaches (config_of journal.trace.config) (seats_in journal.start seat.node.me) (own_in seat.node.me journal) stood
led_in seat journal stood led agrees =
    subst (λ (c : RunConfig). OwnReaches (config_of c) (seats_in journal.start seat.node.me) (own_in seat.node.me journal) stood) (sym agrees.0)
    (subst (λ (mine : List OwnEntry). OwnReaches (config_of seat.config) (seats_in journal.start seat.node.me) mine stood) (sym agrees.1)
    (subst (λ (begun : UpOrDown). OwnReaches (config_of seat.config) begun seat.own stood) (sym agrees.2) led.led))

-- a journal that tells the same has the same own entries
pub same_own : (before after : Journaled) (node : ℕ) → TellsSame before after → own_in node after ≡ own_in node before
same_own before after node same =
    subst (λ (ms : List Message). own node ms (steps_of after.trace.steps) after.recovered ≡ own_in node before) (sym same.trace.sent_is)
    (subst (λ (ss : List Step). own node before.trace.sent (steps_of ss) after.recovered ≡ own_in node before) (sym same.trace.steps_are)
    (subst (λ (rs : List Bool). own node before.trace.sent (steps_of before.trace.steps) rs ≡ own_in node before) (sym same.recovered_is) refl))

pub still_agrees : (config : RunConfig) (node : ℕ) (start : UpOrDown) (mine : List OwnEntry) (before after : Journaled) → TellsSame before after → HasOwn config node start mine before
    → HasOwn config node start mine after
still_agrees config node start mine before after same has =
    (same.trace.config_is ∙ has.0, same_own before after node same ∙ has.1, ap (λ (begun : List UpOrDown). seats_in begun node) same.start_is ∙ has.2)

-- others keep what they agree on, where a step of this node is entered
pub others_agree : (before after : Journaled) (me : ℕ) (step : Step) (more : List Message) (was : Bool) → node_of (event_of step.event) ≡ me → EntersOwn before step more was after
    → HasEntry before step more was after → OthersAgree me before after
others_agree before after me step more was of enters entry config other start mine differs member has = (
  entry.trace.config_is ∙ has.0,
  others_stay before after me other step more was mine enters of differs (subst (λ (c : RunConfig). other < c.members) (sym has.0) member) has.1,
  ap (λ (begun : List UpOrDown). seats_in begun other) entry.start_is ∙ has.2,
)

-- ---- a node that is up

pub record WasUp {S : Type 0} (old : RunningSeat S) : Type 0 where
  pub views : Views
  pub led : IsLedTo old (IsUp views)

pub was_up : {S : Type 0} (old : RunningSeat S) → IsLed old → (IsDown old → ⊥) → WasUp old
was_up old (IsUp views, led) up = record { views = views; led = led }
was_up old (following.IsDown records due, led) up = absurd (up led.stands.down)

-- ---- a step that is entered

-- the seat behind it: its node is this, and it has one entry more
pub record HasMore {S : Type 0} (old new : RunningSeat S) (node : StoredNodeState S) (entry : OwnEntry) : Type 0 where
  pub config_is : new.config ≡ old.config
  pub start_is : new.start ≡ old.start
  pub node_is : new.node ≡ node
  pub own_is : new.own ≡ old.own ++ entry ∷ []

-- what the step leaves the seat
pub record Leaves {S : Type 0} (new : RunningSeat S) (after : Journaled) (left : UpOrDown) : Type 0 where
  pub led : IsLedTo new left
  pub agrees : Agrees new after

-- the seat behind a step of its node that is no query
pub leaves : {S : Type 0} (old new : RunningSeat S) (node : StoredNodeState S) (before after : Journaled) (step : Step) (more : List Message) (was : Bool) (entry : OwnEntry) (stood left : UpOrDown)
    → HasMore old new node entry → Agrees old before → IsLedTo old stood → node_of (event_of step.event) ≡ old.node.me → concerns old.node.me (event_of step.event) ≡ true
    → entry_of after.trace.sent (step_of step) was ≡ entry → IsNext before step more was stood left → EntersOwn before step more was after → HasEntry before step more was after
    → node.me ≡ old.node.me → node.config ≡ old.node.config → IsPlaced node → StandsSo node left → Leaves new after left
leaves {S = S} old new node before after step more was entry stood left has agrees led of mine one next enters entered me_is config_is placed stands =
    let me = old.node.me in
    let grown : own_in me after ≡ new.own = mine_grow before after me step more was old.own entry enters (member_in old before stood led agrees) agrees.1 mine one ∙ sym has.own_is in
    let config : after.trace.config ≡ new.config = entered.trace.config_is ∙ (agrees.0 ∙ sym has.config_is) in
    let new_me : new.node.me ≡ me = ap (λ (s : StoredNodeState S). s.me) has.node_is ∙ me_is in
    let reaches : OwnReaches (config_of before.trace.config) (seats_in before.start me) (own_in me after) left =
    subst (λ (m : ℕ). OwnReaches (config_of before.trace.config) (seats_in before.start m) (own_in m after) left) of (enters.leaves stood left next) in
    record {
      led = record {
        config_is = ap (λ (s : StoredNodeState S). s.config) has.node_is ∙ (config_is ∙ (led.config_is ∙ ap config_of (sym has.config_is)));
        placed = subst (λ (s : StoredNodeState S). IsPlaced s) (sym has.node_is) placed;
        led =
            subst (λ (begun : UpOrDown). OwnReaches (config_of new.config) begun new.own left) (agrees.2 ∙ sym has.start_is)
            (subst (λ (es : List OwnEntry). OwnReaches (config_of new.config) (seats_in before.start me) es left) grown
            (subst (λ (c : RunConfig). OwnReaches (config_of c) (seats_in before.start me) (own_in me after) left) (agrees.0 ∙ sym has.config_is) reaches));
        stands = subst (λ (s : StoredNodeState S). StandsSo s left) (sym has.node_is) stands;
      };
      agrees = (
        config,
        subst (λ (m : ℕ). own_in m after ≡ new.own) (sym new_me) grown,
        ap (seats_in after.start) new_me ∙ (ap (λ (begun : List UpOrDown). seats_in begun me) entered.start_is ∙ (agrees.2 ∙ sym has.start_is)),
      );
    }

-- ---- an input that is done

due_in : {S : Type 0} (seat : RunningSeat S) (journal : Journaled) (stood : UpOrDown) (views : Views) (input : SeatInput) (plan : Plan) → IsLedTo seat stood → Agrees seat journal
    → IsDue seat.node.config seat.node.me views (input_of input) (Plans plan) → IsDue (config_of journal.trace.config) seat.node.me views (input_of input) (Plans plan)
due_in seat journal stood views input plan led agrees due =
    subst (λ (c : AgreementConfig). IsDue c seat.node.me views (input_of input) (Plans plan)) (config_in seat journal stood led agrees) due

keeps_in : {S : Type 0} (seat : RunningSeat S) (journal : Journaled) (stood : UpOrDown) (views : Views) (input : SeatInput) (last : Record) → IsLedTo seat stood → Agrees seat journal
    → InputKeeps seat.node.config seat.node.me views (input_of input) (Some last) → InputKeeps (config_of journal.trace.config) seat.node.me views (input_of input) (Some last)
keeps_in seat journal stood views input last led agrees keeps =
    subst (λ (c : AgreementConfig). InputKeeps c seat.node.me views (input_of input) (Some last)) (config_in seat journal stood led agrees) keeps

-- the node did what is due, and these messages go out
pub record Done {S : Type 0} (old : RunningSeat S) (node : StoredNodeState S) (input : SeatInput) (sends : List Message) : Type 0 where
  pub views : Views
  pub led : IsLedTo old (IsUp views)
  pub plan : Plan
  pub due : IsDue old.node.config old.node.me views (input_of input) (Plans plan)
  pub sends_are : plan.sends ≡ sends
  pub stands : StandsUp node plan.after
  pub placed : IsPlaced node
  pub me_is : node.me ≡ old.node.me
  pub config_is : node.config ≡ old.node.config

pub done_of : {S : Type 0} (old : RunningSeat S) (node : StoredNodeState S) (input : SeatInput) (planned : Planned) (sends : List Message) → (was : WasUp old)
    → IsDoneFor old.node node was.views (input_of input) planned → sends ≡ sent_by planned → Done old node input sends
done_of old node input planned sends was done same = record {
  views = was.views;
  led = was.led;
  plan = done.plan;
  due = done.due;
  sends_are = done.sends ∙ sym same;
  stands = done.stands;
  placed = done.placed;
  me_is = done.me_is;
  config_is = done.config_is;
}

pub next_of_done : {S : Type 0} (old : RunningSeat S) (node : StoredNodeState S) (before : Journaled) (input : SeatInput) (sends : List Message) → Agrees old before → IsSentIn before.trace.sent input
    → (done : Done old node input sends)
    → IsNext before (done_step old.node.me input (length before.trace.sent) (length sends)) sends false (IsUp done.views) (IsUp done.plan.after)
next_of_done old node before input sends agrees sent done =
    let me = old.node.me in
    subst (λ (ms : List Message). IsNext before (done_step me input (length before.trace.sent) (length ms)) ms false (IsUp done.views) (IsUp done.plan.after)) done.sends_are
    (next_done before me input done.views done.plan (member_in old before (IsUp done.views) done.led agrees) (led_in old before (IsUp done.views) done.led agrees)
    (due_in old before (IsUp done.views) done.views input done.plan done.led agrees done.due) sent)

pub put_none : {S : Type 0} (old : RunningSeat S) (node : StoredNodeState S) (input : SeatInput) (sends : List Message) → Done old node input sends → (text : List ℕ) → input ≡ Put text → sends ≡ []
put_none old node input sends done text is =
    sym done.sends_are
    ∙ put_sends_none old.node.config old.node.me done.views text done.plan
    (subst (λ (i : SeatInput). IsDue old.node.config old.node.me done.views (input_of i) (Plans done.plan)) is done.due)

pub leaves_done : {S : Type 0} (old new : RunningSeat S) (node : StoredNodeState S) (before after : Journaled) (input : SeatInput) (sends : List Message) → Agrees old before → IsSentIn before.trace.sent input
    → (done : Done old node input sends) → HasMore old new node (done_entry old.node.me input (length before.trace.sent) sends)
    → HasEntry before (done_step old.node.me input (length before.trace.sent) (length sends)) sends false after
    → EntersOwn before (done_step old.node.me input (length before.trace.sent) (length sends)) sends false after → Leaves new after (IsUp done.plan.after)
leaves_done old new node before after input sends agrees sent done has entered enters =
    let me = old.node.me in
    let step = done_step me input (length before.trace.sent) (length sends) in
    leaves old new node before after step sends false (done_entry me input (length before.trace.sent) sends) (IsUp done.views) (IsUp done.plan.after)
    has agrees done.led (node_at me input) (concerns_done me input)
    (subst (λ (ms : List Message). entry_of ms (step_of step) false ≡ done_entry me input (length before.trace.sent) sends) (sym entered.trace.sent_is)
    (done_is_own before.trace.sent me input sends (put_none old node input sends done) sent))
    (next_of_done old node before input sends agrees sent done) enters entered done.me_is done.config_is done.placed done.stands

-- ---- a node that goes down in the midst

pub record Broken {S : Type 0} (old : RunningSeat S) (node : StoredNodeState S) (input : SeatInput) : Type 0 where
  pub views : Views
  pub led : IsLedTo old (IsUp views)
  pub last : Record
  pub keeps : InputKeeps old.node.config old.node.me views (input_of input) (Some last)
  pub down : node.node ≡ None
  pub kept : node.records ≡ views.records
  pub doubt : (node.doubted ≡ None) ⊎ (node.doubted ≡ Some last)
  pub placed : IsPlaced node
  pub me_is : node.me ≡ old.node.me
  pub config_is : node.config ≡ old.node.config

pub broken_of : {S : Type 0} (old : RunningSeat S) (node : StoredNodeState S) (input : SeatInput) (planned : Planned) → (was : WasUp old)
    → IsBrokenOff old.node node was.views (input_of input) planned → Broken old node input
broken_of old node input planned was broken = record {
  views = was.views;
  led = was.led;
  last = broken.last;
  keeps = broken.keeps;
  down = broken.down;
  kept = broken.kept;
  doubt = broken.doubt;
  placed = broken.placed;
  me_is = broken.me_is;
  config_is = broken.config_is;
}

pub next_of_cut : {S : Type 0} (old : RunningSeat S) (node : StoredNodeState S) (before : Journaled) (input : SeatInput) (cut : Event) → Agrees old before → IsSentIn before.trace.sent input
    → IsCutAt old.node.me input cut → (broken : Broken old node input)
    → IsNext before (cut_step cut) [] false (IsUp broken.views) (following.IsDown broken.views.records (Some broken.last))
next_of_cut old node before input cut agrees sent is broken =
    next_cut before old.node.me input cut broken.views broken.last is (member_in old before (IsUp broken.views) broken.led agrees) (led_in old before (IsUp broken.views) broken.led agrees)
    (keeps_in old before (IsUp broken.views) broken.views input broken.last broken.led agrees broken.keeps) sent

pub leaves_cut : {S : Type 0} (old new : RunningSeat S) (node : StoredNodeState S) (before after : Journaled) (input : SeatInput) (cut : Event) → Agrees old before → IsSentIn before.trace.sent input
    → IsCutAt old.node.me input cut → (broken : Broken old node input) → HasMore old new node (cut_entry cut input) → HasEntry before (cut_step cut) [] false after
    → EntersOwn before (cut_step cut) [] false after → Leaves new after (following.IsDown broken.views.records (Some broken.last))
leaves_cut old new node before after input cut agrees sent is broken has entered enters =
    leaves old new node before after (cut_step cut) [] false (cut_entry cut input) (IsUp broken.views) (following.IsDown broken.views.records (Some broken.last))
    has agrees broken.led (cut_node old.node.me input cut is) (concerns_cut old.node.me input cut is)
    (subst (λ (ms : List Message). entry_of ms (step_of (cut_step cut)) false ≡ cut_entry cut input) (sym entered.trace.sent_is) (cut_is_own before.trace.sent old.node.me input cut is sent))
    (next_of_cut old node before input cut agrees sent is broken) enters entered broken.me_is broken.config_is broken.placed
    (record { down = broken.down; kept = broken.kept; doubt = broken.doubt })

-- ---- a restart

with_none : (was : Bool) (records : List Record) → with_due was records None ≡ records
with_none was records = refl

not_recovered : (records : List Record) (due : Option Record) → with_due false records due ≡ records
not_recovered records None = refl
not_recovered records (Some due) = refl

down_recovered : (kept records : List Record) (doubted due : Option Record) (was : Bool) → kept ≡ records → (doubted ≡ None) ⊎ (doubted ≡ due) → (doubted ≡ None → was ≡ false)
    → with_due was kept doubted ≡ with_due was records due
down_recovered kept records doubted due was same (inl none_doubted) none =
    ap (λ (d : Option Record). with_due was kept d) none_doubted
    ∙ (same ∙ sym (ap (λ (b : Bool). with_due b records due) (none none_doubted) ∙ not_recovered records due))
down_recovered kept records doubted due was same (inr is) none =
    ap (λ (d : Option Record). with_due was kept d) is ∙ ap (λ (rs : List Record). with_due was rs due) same

-- the records that it has back are those that it has by its own entries
pub recovered_are : {S : Type 0} (old : StoredNodeState S) (stood : UpOrDown) (was : Bool) → StandsSo old stood → (old.doubted ≡ None → was ≡ false)
    → with_due was old.records old.doubted ≡ recovered_in was stood
recovered_are old (IsUp views) was stands none =
    ap (λ (d : Option Record). with_due was old.records d) stands.certain ∙ (with_none was old.records ∙ stands.kept)
recovered_are old (following.IsDown records due) was stands none = down_recovered old.records records old.doubted due was stands.kept stands.doubt none

pub leaves_restart : {S : Type 0} (old new : RunningSeat S) (node : StoredNodeState S) (before after : Journaled) (was : Bool) (stood : UpOrDown) → Agrees old before → IsLedTo old stood
    → StandsUp node (started_with (with_due was old.node.records old.node.doubted)) → (old.node.doubted ≡ None → was ≡ false) → IsPlaced node → node.me ≡ old.node.me → node.config ≡ old.node.config
    → HasMore old new node (restart_entry old.node.me was) → HasEntry before (restart_step old.node.me) [] was after
    → EntersOwn before (restart_step old.node.me) [] was after → Leaves new after (IsUp (started_with (recovered_in was stood)))
leaves_restart old new node before after was stood agrees led stands none placed me_is config_is has entered enters =
    leaves old new node before after (restart_step old.node.me) [] was (restart_entry old.node.me was) stood (IsUp (started_with (recovered_in was stood)))
    has agrees led refl (concerns_restart old.node.me) refl
    (next_restart before old.node.me stood was (member_in old before stood led agrees) (led_in old before stood led agrees)) enters entered me_is config_is placed
    (subst (λ (rs : List Record). StandsUp node (started_with rs)) (recovered_are old.node stood was led.stands none) stands)
