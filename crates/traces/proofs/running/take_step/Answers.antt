use Rattle.std.proofs.Common.{List, [], ◌∷◌, ◌++◌, refl, ap, subst, ◌∙◌}
use Rattle.ballots.specs.declared.message.Message.{Message}
use Rattle.histories.specs.Following.{at_first}
use Rattle.node_events.specs.declared.event.Event.{Event}
use Rattle.traces.specs.declared.step.Step.{Step}
use Rattle.traces.specs.Told.{config_of}
use Rattle.traces.specs.Traced.{Traced}
use Rattle.traces.specs.Applying.{HasCome}
use Rattle.traces.proofs.Coming.{come_more, kept_come}
use Rattle.traces.specs.contracts.trace.Trace.{the_view}
use Rattle.traces.proofs.running.take_step.Goals as goal

pub returns-in-Ok-clause-come : goal.returns-in-Ok-clause-come
returns-in-Ok-clause-come g c =
    let old : Traced = the_view c.trace.inside in
    let next : Traced = the_view (record { config = c.trace.inside.config; sent = c.apply.new.sent; steps = c.put_step.new.steps }) in
    let step : Step = record { event = c.in_ok-event.event; result = c.in-Ok.result } in
    subst (λ (t : Traced). (events : List Event) → HasCome (g.N.RunNodes.have c.args.nodes.now (config_of t.config)) t events
    → HasCome (g.N.RunNodes.have c.apply.new.self (config_of t.config)) next (events ++ c.args.event.now ∷ [])) c.trace.view_is
    (λ events come.
    let New = g.N.RunNodes.have c.apply.new.self (config_of old.config) in
    subst (λ (e : Event). HasCome New next (events ++ e ∷ [])) c.in_ok-event.ensures
    (come_more (λ config. c.one_step_more_reaches.ensures config at_first) (g.N.RunNodes.have c.args.nodes.now (config_of old.config)) New old next c.apply.new.sent.items events step
    (c.in-Ok.ensures (config_of old.config)) come
    (record { config_is = refl; sent_is = refl; steps_are = c.put_step.ensures ∙ ap (λ (l : List Step). l ++ step ∷ []) c.in_ok-reserve.ensures.items })))

pub returns-in-Err-clause-kept : goal.returns-in-Err-clause-kept
returns-in-Err-clause-kept g c = λ events come.
    kept_come _ _ _ events (λ seats have. (c.in-Err.ensures (config_of c.args.trace.now.config) seats have).0) come
