use Rattle.std.proofs.Common.{◌≡◌, take}
use Rattle.traces.specs.Told.{config_of}
use Rattle.traces.specs.Applying.{HasCome}
use Rattle.traces.proofs.running.run_on.Given as goal

abbrev pub invariant-loop-event : goal.invariant-loop-event
invariant-loop-event g l =
    (l.trace.config ≡ l.fn.config)
    × HasCome (g.N.RunNodes.have l.nodes (config_of l.fn.config)) l.trace (take l.event-index l.events)
