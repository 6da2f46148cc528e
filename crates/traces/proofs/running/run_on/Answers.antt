use Rattle.std.proofs.Common.{List, [], ◌∷◌, ◌++◌, take, sym, ap, subst, ◌∙◌}
use Rattle.std.proofs.lemmas.List.{take_more, take_all}
use Rattle.histories.specs.Following.{at_first}
use Rattle.node_events.specs.declared.event.Event.{Event}
use Rattle.traces.specs.declared.config.Config.{Config}
use Rattle.traces.specs.Told.{config_of}
use Rattle.traces.specs.Traced.{Traced}
use Rattle.traces.specs.Applying.{HasCome}
use Rattle.traces.proofs.Coming.{any_err, at_start, come_to_end}
use Rattle.traces.proofs.running.run_on.Goals as goal

pub loop-event-init : goal.loop-event-init
loop-event-init g c =
    let Have = g.N.RunNodes.have c.args.nodes.now (config_of c.args.config) in (
      c.new-trace.ensures.config_is,
      at_start (λ config. c.nothing_reaches_the_start.ensures config at_first) Have c.args.config c.new-trace.result c.new-trace.ensures c.requires,
    )

pub loop-event-preserved : goal.loop-event-preserved
loop-event-preserved g c =
    let events = c.args.events.now in
    let i = c.loop-event.event-index in
    let event = c.event-item.result in
    let old = c.loop-event.trace in
    let new = c.take_step.new.trace in
    let come : HasCome (g.N.RunNodes.have c.take_step.new.nodes (config_of c.args.config)) new (take i events ++ event ∷ []) =
    subst (λ (config : Config). HasCome (g.N.RunNodes.have c.loop-event.nodes (config_of config)) old (take i events)
    → HasCome (g.N.RunNodes.have c.take_step.new.nodes (config_of config)) new (take i events ++ event ∷ []))
    c.loop-event.invariant.0 (c.in_ok-take_step.ensures.come (take i events)) c.loop-event.invariant.1 in (
      c.in_ok-take_step.ensures.config ∙ c.loop-event.invariant.0,
      subst (λ (l : List Event). HasCome (g.N.RunNodes.have c.take_step.new.nodes (config_of c.args.config)) new l)
          (ap (λ (e : Event). take i events ++ e ∷ []) c.event-item.is ∙ sym (take_more events i event c.loop-event-test.true)) come,
    )

pub returns-in_err-take_step-clause-begun : goal.returns-in_err-take_step-clause-begun
returns-in_err-take_step-clause-begun g c =
    let Have = g.N.RunNodes.have c.take_step.new.nodes in
    let old = c.loop-event.trace in
    let events = take c.loop-event.event-index c.args.events.now in
    any_err _ c.from_residual.result (record {
      count = c.loop-event.event-index;
      trace = old;
      config_is = c.loop-event.invariant.0;
      come = subst (λ (config : Config). HasCome (g.N.RunNodes.have c.loop-event.nodes (config_of config)) old events → HasCome (Have (config_of config)) old events)
          c.loop-event.invariant.0 (c.in_err-take_step.ensures.kept events) c.loop-event.invariant.1;
    })

pub returns-clause-run : goal.returns-clause-run
returns-clause-run g c =
    let Have = g.N.RunNodes.have c.loop-event.nodes (config_of c.args.config) in
    come_to_end c.replicas_agree.ensures.lawful c.replicas_agree.ensures.safe Have c.args.config c.loop-event.trace c.args.events.now c.loop-event.invariant.0
    (subst (λ (l : List Event). HasCome Have c.loop-event.trace l) (take_all c.loop-event.event-index c.args.events.now c.loop-event-test.false) c.loop-event.invariant.1)

pub returns-clause-nodes : goal.returns-clause-nodes
returns-clause-nodes g c =
    let Have = g.N.RunNodes.have c.loop-event.nodes (config_of c.args.config) in
    subst (λ (l : List Event). HasCome Have c.loop-event.trace l) (take_all c.loop-event.event-index c.args.events.now c.loop-event-test.false) c.loop-event.invariant.1
