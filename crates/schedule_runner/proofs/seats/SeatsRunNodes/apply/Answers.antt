use Rattle.std.proofs.Common.{◌≡◌, ℕ, ◌≤◌, length, refl, sym, subst, slice_get, slice_set, Some}
use Rattle.histories.specs.Event.{node_of}
use Rattle.node_events.specs.declared.event_result.EventResult.TheVariants.{Refused}
use Rattle.node_events.specs.declared.event_result.Reason.TheVariants.{OutOfRange}
use Rattle.traces.specs.Told.{event_of}
use Rattle.traces.specs.Applying.{Answers}
use Rattle.schedule_runner.specs.Seated.{AreSeated}
use Rattle.schedule_runner.proofs.Seating.{IsChangedAt, changed_at, was_there, one_applies, none_applies}
use Rattle.schedule_runner.proofs.seats.SeatsRunNodes.apply.Goals as goal

pub returns-in-Some : goal.returns-in-Some
returns-in-Some c = λ config seats are.
    let states = c.args.self.now.seats.items in
    let within = c.in-Some.ensures.item.3.0 in
    subst (λ (n : ℕ). Answers (AreSeated (slice_set states n c.apply_to.new.seat) config) config seats c.args.sent.now.items c.apply_to.new.sent.items c.args.event.now c.apply_to.result) (sym c.node.ensures)
    (one_applies c.a_member_steps_alone.ensures config seats states (slice_set states (node_of (event_of c.args.event.now)) c.apply_to.new.seat) c.in-Some.seat.now c.apply_to.new.seat
    c.args.sent.now.items c.apply_to.new.sent.items c.args.event.now are
    (subst (λ (n : ℕ). slice_get states n ≡ Some c.in-Some.seat.now) c.node.ensures (was_there states c.node.result c.in-Some.seat.now within c.in-Some.ensures.value))
    (subst (λ (n : ℕ). IsChangedAt states (slice_set states n c.apply_to.new.seat) n c.apply_to.new.seat) c.node.ensures (changed_at states c.node.result c.apply_to.new.seat within))
    c.apply_to.result c.apply_to.ensures)

pub returns-in-None : goal.returns-in-None
returns-in-None c = λ config seats are.
    none_applies config seats c.args.self.now.seats.items c.args.sent.now.items c.args.event.now (Refused OutOfRange) are
    (subst (λ (n : ℕ). n ≤ node_of (event_of c.args.event.now)) are.one_each (subst (λ (n : ℕ). length c.args.self.now.seats.items ≤ n) c.node.ensures c.in-None.ensures.item.3)) refl
