use Rattle.std.proofs.Common.{◌≡◌, ℕ, List, false, sym, ap, subst, ◌∙◌}
use Rattle.journal.specs.parts.ballots.specs.declared.message.Message.{Message}
use Rattle.journal.specs.parts.node_events.specs.declared.event.Event.{Event}
use Rattle.journal.specs.parts.node_events.specs.declared.event_result.EventResult.{EventResult}
use Rattle.journal.specs.declared.receipt.Receipt.{Receipt}
use Rattle.journal.specs.parts.traces.specs.declared.step.Step.{Step}
use Rattle.journal.specs.Journaled.{Journaled, MayEnter}
use Rattle.seats.specs.State.{RunningSeat}
use Rattle.seats.specs.Steps.{IsOpen, IsFoundBy, AnswersQuery, asked_at}
use Rattle.seats.proofs.Ready.{next_served, found_in}
use Rattle.seats.proofs.Moving.{open_as}
use Rattle.seats.specs.contracts.seat.Seat.{the_view}
use Rattle.seats.proofs.seat.Seat.serve.Goals as goal

pub enter-requires-clause-follows : goal.enter-requires-clause-follows
enter-requires-clause-follows g c =
    let view : RunningSeat g.row.S.Denot = the_view g.row.S g.row.J g.row.M g.S.Stable g.J.Beginning g.J.Naming g.M.Retention c.self.inside in
    let mid : Journaled = c.made_ready.new.journal in
    let may : IsOpen view c.args.journal.now = subst (λ (s : RunningSeat g.row.S.Denot). IsOpen s c.args.journal.now) (sym c.self.view_is) c.in_ok-is_open.ensures in
    let open_mid = open_as view c.args.journal.now mid c.made_ready.ensures.journal may in
    let found : IsFoundBy view c.args.found = subst (λ (s : RunningSeat g.row.S.Denot). IsFoundBy s c.args.found) (sym c.self.view_is) c.requires in
    let event : c.event_for-event.result ≡ asked_at view.node.me c.args.found.query = c.event_for-event.ensures ∙ ap (λ (m : ℕ). asked_at m c.args.found.query) c.self.invariant.0 in
    let step : c.in-Ok.step ≡ record { event = asked_at view.node.me c.args.found.query; result = c.args.found.answer } =
    c.in-Ok.ensures.step ∙ ap (λ (e : Event). record { event = e; result = c.args.found.answer }) event in
    subst (λ (s : Step). MayEnter mid s c.new.result.items false) (sym step)
    (subst (λ (ms : List Message). MayEnter mid (record { event = asked_at view.node.me c.args.found.query; result = c.args.found.answer }) ms false) (sym c.new.ensures.items)
    (next_served view mid c.args.found.query c.args.found.answer c.self.invariant.1 open_mid.0.0 found))

pub returns-in-Ok-clause-answers : goal.returns-in-Ok-clause-answers
returns-in-Ok-clause-answers g c =
    let view : RunningSeat g.row.S.Denot = the_view g.row.S g.row.J g.row.M g.S.Stable g.J.Beginning g.J.Naming g.M.Retention c.self.inside in
    let found : IsFoundBy view c.args.found = subst (λ (s : RunningSeat g.row.S.Denot). IsFoundBy s c.args.found) (sym c.self.view_is) c.requires in
    let made = found_in view c.args.found.query c.args.found.answer c.self.invariant.1 found in (
      made.0,
      subst (λ (a : EventResult). AnswersQuery made.0 c.args.found.query a) (sym (ap (λ (r : Receipt). r.answer) c.in-Ok.ensures.told)) made.1,
    )
