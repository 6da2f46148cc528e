use Rattle.std.proofs.Common.{ap, subst, ◌≡◌, ◌∙◌, ℕ, List}
use Rattle.histories.specs.Event.{node_of}
use Rattle.histories.specs.Event as events
use Rattle.node_events.specs.declared.event.Event.{Event}
use Rattle.node_events.specs.Told.{event_of, result_of}
use Rattle.ballots.specs.declared.message.Message.{Message}
use Rattle.stored_nodes.specs.Steps.{UpApplies}
use Rattle.stored_nodes.proofs.Applying.{tick_answers}
use Rattle.stored_nodes.proofs.Arms.{as_mine, as_my_answer, up_restarts}
use Rattle.stored_nodes.proofs.stored_node.StoredNode.apply_up.Goals as goal

pub returns-in-Put-clause-gives : goal.returns-in-Put-clause-gives
returns-in-Put-clause-gives g c = λ mine.
    as_my_answer c.args.self.now c.put.new.self c.args.sent.now.items c.put.new.sent.items c.put.result (event_of c.args.event.now) (events.Put c.args.self.now.me c.in-Put.upload)
    (ap event_of c.in-Put.is ∙ ap (λ n. events.Put n c.in-Put.upload) (subst (λ (e : Event). node_of (event_of e) ≡ c.args.self.now.me) c.in-Put.is mine))
    c.put.ensures.gives

pub returns-in-Tick-clause-gives : goal.returns-in-Tick-clause-gives
returns-in-Tick-clause-gives g c = λ mine.
    as_my_answer c.args.self.now c.step.new.self c.args.sent.now.items c.step.new.sent.items c.step.result (event_of c.args.event.now) (events.Tick c.args.self.now.me c.in-Tick.left)
    (ap event_of c.in-Tick.is ∙ ap (λ n. events.Tick n c.in-Tick.left) (subst (λ (e : Event). node_of (event_of e) ≡ c.args.self.now.me) c.in-Tick.is mine))
    (tick_answers c.args.self.now c.step.new.self c.args.sent.now.items c.step.new.sent.items c.in-Tick.left c.step.result c.step.ensures.gives)

pub returns-in-Deliver-clause-gives : goal.returns-in-Deliver-clause-gives
returns-in-Deliver-clause-gives g c = λ mine.
    as_my_answer c.args.self.now c.deliver.new.self c.args.sent.now.items c.deliver.new.sent.items c.deliver.result (event_of c.args.event.now) (events.Deliver c.args.self.now.me c.in-Deliver.number)
    (ap event_of c.in-Deliver.is ∙ ap (λ n. events.Deliver n c.in-Deliver.number) (subst (λ (e : Event). node_of (event_of e) ≡ c.args.self.now.me) c.in-Deliver.is mine))
    c.deliver.ensures.gives

pub returns-in-TickCut-clause-gives : goal.returns-in-TickCut-clause-gives
returns-in-TickCut-clause-gives g c = λ mine.
    as_mine c.args.self.now c.cut_tick.new.self c.args.sent.now.items c.args.sent.now.items (result_of c.cut_tick.result) (event_of c.args.event.now) (events.TickCut c.args.self.now.me c.in-TickCut.left)
    (ap event_of c.in-TickCut.is ∙ ap (λ n. events.TickCut n c.in-TickCut.left) (subst (λ (e : Event). node_of (event_of e) ≡ c.args.self.now.me) c.in-TickCut.is mine))
    (λ views placed up. c.cut_tick.ensures c.args.sent.now.items views placed up)

pub returns-in-DeliverCut-clause-gives : goal.returns-in-DeliverCut-clause-gives
returns-in-DeliverCut-clause-gives g c = λ mine.
    as_mine c.args.self.now c.cut_delivery.new.self c.args.sent.now.items c.args.sent.now.items (result_of c.cut_delivery.result) (event_of c.args.event.now) (events.DeliverCut c.args.self.now.me c.in-DeliverCut.number)
    (ap event_of c.in-DeliverCut.is ∙ ap (λ n. events.DeliverCut n c.in-DeliverCut.number) (subst (λ (e : Event). node_of (event_of e) ≡ c.args.self.now.me) c.in-DeliverCut.is mine))
    (λ views placed up. subst (λ (ms : List Message). UpApplies c.args.self.now c.cut_delivery.new.self ms ms (events.DeliverCut c.args.self.now.me c.in-DeliverCut.number) (result_of c.cut_delivery.result)) c.as_slice.ensures.value c.cut_delivery.ensures views placed up)

pub returns-in-Restart-clause-gives : goal.returns-in-Restart-clause-gives
returns-in-Restart-clause-gives g c = λ mine.
    as_my_answer c.args.self.now c.restart.new.self c.args.sent.now.items c.args.sent.now.items c.restart.result (event_of c.args.event.now) (events.Restart c.args.self.now.me)
    (ap event_of c.in-Restart.is ∙ ap (λ n. events.Restart n) (subst (λ (e : Event). node_of (event_of e) ≡ c.args.self.now.me) c.in-Restart.is mine))
    (up_restarts c.args.self.now c.restart.new.self c.args.sent.now.items c.restart.result c.restart.ensures.gives)

pub returns-in-Get-clause-gives : goal.returns-in-Get-clause-gives
returns-in-Get-clause-gives g c = λ mine.
    as_mine c.args.self.now c.args.self.now c.args.sent.now.items c.args.sent.now.items (result_of c.get.result) (event_of c.args.event.now) (events.Get c.args.self.now.me c.in-Get.ticket.table c.in-Get.ticket.version)
    (ap event_of c.in-Get.is ∙ ap (λ n. events.Get n c.in-Get.ticket.table c.in-Get.ticket.version) (subst (λ (e : Event). node_of (event_of e) ≡ c.args.self.now.me) c.in-Get.is mine))
    (λ views placed up. c.get.ensures c.args.sent.now.items views placed up)

pub returns-in-Info-clause-gives : goal.returns-in-Info-clause-gives
returns-in-Info-clause-gives g c = λ mine.
    as_mine c.args.self.now c.args.self.now c.args.sent.now.items c.args.sent.now.items (result_of c.info.result) (event_of c.args.event.now) (events.Info c.args.self.now.me c.in-Info.table)
    (ap event_of c.in-Info.is ∙ ap (λ n. events.Info n c.in-Info.table) (subst (λ (e : Event). node_of (event_of e) ≡ c.args.self.now.me) c.in-Info.is mine))
    (λ views placed up. subst (λ (table : List ℕ). UpApplies c.args.self.now c.args.self.now c.args.sent.now.items c.args.sent.now.items (events.Info c.args.self.now.me table) (result_of c.info.result)) c.as_str.ensures (c.info.ensures c.args.sent.now.items) views placed up)

pub returns-in-Outcome-clause-gives : goal.returns-in-Outcome-clause-gives
returns-in-Outcome-clause-gives g c = λ mine.
    as_mine c.args.self.now c.args.self.now c.args.sent.now.items c.args.sent.now.items (result_of c.outcome.result) (event_of c.args.event.now) (events.Outcome c.args.self.now.me c.in-Outcome.upload)
    (ap event_of c.in-Outcome.is ∙ ap (λ n. events.Outcome n c.in-Outcome.upload) (subst (λ (e : Event). node_of (event_of e) ≡ c.args.self.now.me) c.in-Outcome.is mine))
    (λ views placed up. c.outcome.ensures c.args.sent.now.items views placed up)
