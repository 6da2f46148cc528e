-- What the calls with the journal give, from what they entered.
use Rattle.std.proofs.Common.{◌≡◌, ◌⊎◌, ℕ, Bool, false, None, Some, Ok, Err, List, [], length, sym, ap, subst, ◌∙◌}
use Rattle.journal.specs.parts.ballots.specs.declared.message.Message.{Message}
use Rattle.stable_records.specs.declared.fault.StoreFault.{StoreFault}
use Rattle.journal.specs.parts.agreement_rules.specs.Views.{started_with}
use Rattle.journal.specs.parts.histories.specs.Following.{UpOrDown, with_due}
use Rattle.journal.specs.parts.node_events.specs.declared.event.Event.{Event}
use Rattle.journal.specs.parts.node_events.specs.declared.event.Event.TheVariants as event
use Rattle.journal.specs.parts.node_events.specs.declared.event_result.EventResult.{EventResult}
use Rattle.journal.specs.parts.node_events.specs.declared.event_result.EventResult.TheVariants as results
use Rattle.stored_nodes.specs.State.{StoredNodeState, IsPlaced, StandsUp}
use Rattle.journal.specs.declared.receipt.Receipt.{Receipt}
use Rattle.journal.specs.Journaled.{Journaled, HasEntry, EntersOwn}
use Rattle.seats.specs.declared.input.Prepared.{Prepared}
use Rattle.seats.specs.declared.fault.SeatFault.TheVariants as fault
use Rattle.seats.specs.Inputs.{event_at, given_for, IsCutAt, IsHeldIn}
use Rattle.seats.specs.Entries.{done_step, done_entry, cut_step, cut_entry, restart_step, restart_entry}
use Rattle.seats.specs.State.{RunningSeat, IsLedTo}
use Rattle.seats.specs.Steps.{IsOpen, TellsEntry, TakeGives, RestartGives}
use Rattle.seats.proofs.Held.{held_sent}
use Rattle.seats.proofs.Leading.{HasMore, Done, Broken, leaves_done, leaves_cut, leaves_restart}

answered : (receipt : Receipt) (number : ℕ) (e : Event) (given : EventResult) → receipt ≡ record { number = number; event = e; answer = given } → receipt.answer ≡ given
answered receipt number e given is = ap (λ (r : Receipt). r.answer) is

pub take_gives : {S : Type 0} (old new : RunningSeat S) (node : StoredNodeState S) (before after : Journaled) (prepared : Prepared) (sends : List Message) (receipt : Receipt) → IsOpen old before
    → IsHeldIn before prepared.input → (done : Done old node prepared.input sends) → HasMore old new node (done_entry old.node.me prepared.input (length before.trace.sent) sends)
    → HasEntry before (done_step old.node.me prepared.input (length before.trace.sent) (length sends)) sends false after
    → EntersOwn before (done_step old.node.me prepared.input (length before.trace.sent) (length sends)) sends false after
    → TellsEntry before (event_at old.node.me prepared.input) (given_for prepared.input (length before.trace.sent) (length sends)) receipt
    → new.known ≡ after.log → TakeGives old new before after prepared (Ok receipt)
take_gives {S = S} old new node before after prepared sends receipt may held done has entered enters told knows =
    let me = old.node.me in
    let given = given_for prepared.input (length before.trace.sent) (length sends) in
    let answer : receipt.answer ≡ given = answered receipt (length before.trace.steps) (event_at me prepared.input) given told in
    let left = leaves_done old new node before after prepared.input sends may.0.0 (held_sent before prepared.input held) done has entered enters in (
      may,
      held,
      record {
        views = done.views;
        led = done.led;
        plan = done.plan;
        due = done.due;
        stands = subst (λ (s : StoredNodeState S). StandsUp s done.plan.after) (sym has.node_is) done.stands;
        entry =
            subst (λ (g : EventResult). HasEntry before (record { event = event_at me prepared.input; result = g }) done.plan.sends false after) (sym answer)
            (subst (λ (ms : List Message). HasEntry before (record { event = event_at me prepared.input; result = given }) ms false after) (sym done.sends_are) entered);
        answer_is = answer ∙ ap (λ (ms : List Message). given_for prepared.input (length before.trace.sent) (length ms)) (sym done.sends_are);
        told = told ∙ ap (λ (g : EventResult). record { number = length before.trace.steps; event = event_at me prepared.input; answer = g }) (sym answer);
        agrees = left.agrees;
        knows = knows;
      },
    )

pub cut_gives : {S : Type 0} (old new : RunningSeat S) (node : StoredNodeState S) (before after : Journaled) (prepared : Prepared) (cut : Event) (why : StoreFault) → IsOpen old before
    → IsHeldIn before prepared.input → IsCutAt old.node.me prepared.input cut → (broken : Broken old node prepared.input) → HasMore old new node (cut_entry cut prepared.input)
    → HasEntry before (cut_step cut) [] false after → EntersOwn before (cut_step cut) [] false after → new.known ≡ after.log
    → TakeGives old new before after prepared (Err (fault.Store why))
cut_gives {S = S} old new node before after prepared cut why may held is broken has entered enters knows =
    let left = leaves_cut old new node before after prepared.input cut may.0.0 (held_sent before prepared.input held) is broken has entered enters in (
      may,
      held,
      record {
        views = broken.views;
        led = broken.led;
        last = broken.last;
        keeps = broken.keeps;
        down = ap (λ (s : StoredNodeState S). s.node) has.node_is ∙ broken.down;
        unkept = ap (λ (s : StoredNodeState S). s.records) has.node_is ∙ (broken.kept ∙ sym broken.led.stands.kept);
        doubt = subst (λ (s : StoredNodeState S). (s.doubted ≡ None) ⊎ (s.doubted ≡ Some broken.last)) (sym has.node_is) broken.doubt;
        cut = cut;
        is_cut = is;
        entry = entered;
        agrees = left.agrees;
        knows = knows;
      },
    )

pub restart_gives : {S : Type 0} (old new : RunningSeat S) (node : StoredNodeState S) (before after : Journaled) (was : Bool) (stood : UpOrDown) (receipt : Receipt) → IsOpen old before → IsLedTo old stood
    → StandsUp node (started_with (with_due was old.node.records old.node.doubted)) → (old.node.doubted ≡ None → was ≡ false) → IsPlaced node → node.me ≡ old.node.me → node.config ≡ old.node.config
    → HasMore old new node (restart_entry old.node.me was) → HasEntry before (restart_step old.node.me) [] was after → EntersOwn before (restart_step old.node.me) [] was after
    → TellsEntry before (event.Restart old.node.me) results.Done receipt → new.known ≡ after.log
    → RestartGives old new before after (Ok receipt)
restart_gives {S = S} old new node before after was stood receipt may led stands none placed me_is config_is has entered enters told knows =
    let left = leaves_restart old new node before after was stood may.0.0 led stands none placed me_is config_is has entered enters in (
      may,
      record {
        recovered = was;
        none = none;
        stands = subst (λ (s : StoredNodeState S). StandsUp s (started_with (with_due was old.node.records old.node.doubted))) (sym has.node_is) stands;
        entry = entered;
        told = told;
        agrees = left.agrees;
        knows = knows;
      },
    )
