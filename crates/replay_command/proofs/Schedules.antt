-- A file that is refused as a schedule means none.
use Rattle.std.proofs.Common.{◌≡◌, ℕ, List, sym, ◌∙◌}
use Rattle.node_events.specs.declared.event.Event.{Event}
use Rattle.traces.specs.declared.config.Config.{Config}
use Rattle.run_files.specs.declared.fault.ScheduleFault.{ScheduleFault}
use Rattle.run_files.specs.declared.fault.ScheduleFault.TheVariants.{BadSchedule, OutOfMemory}
use Rattle.run_files.specs.ScheduleFile.{MeansSchedule, MeansNothing}

-- a file of which this is told means none
pub means_nothing : (file : List ℕ) (fault : ScheduleFault) → fault ≡ BadSchedule → ((config : Config) (events : List Event) → MeansSchedule file config events → fault ≡ OutOfMemory) → MeansNothing file
means_nothing file fault is only config events h = let e = sym is ∙ only config events h in absurd cc
