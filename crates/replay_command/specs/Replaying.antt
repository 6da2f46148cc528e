-- What a replay of a file gives.
use Rattle.std.specs.Prelude.{◌≡◌, ℕ, ◌⊎◌, List, Option, Result, Ok, Err, IsUtf8}
use Rattle.std.specs.Io.KnownBytes.{Keeps, Appends}
use Rattle.grpc_frames.specs.FrameFaults.{IsBeginning}
use Rattle.node_events.specs.declared.event.Event.{Event}
use Rattle.traces.specs.declared.config.Config.{Config}
use Rattle.traces.specs.Traced.{Traced}
use Rattle.traces.specs.Runs.{IsRunOf}
use Rattle.replay_command.specs.declared.fault.ReplayFault.{ReplayFault}
use Rattle.replay_command.specs.declared.fault.ReplayFault.TheVariants.{BadSchedule, OutOfMemory, Io}
use Rattle.replay_command.specs.Lines.{lines_of}
use Rattle.run_files.specs.ScheduleFile.{MeansSchedule, MeansNothing}

-- the file tells a schedule, and this is a run of its events by nodes that keep to their rules
pub record PlaysAs (file : List ℕ) (trace : Traced) : Type 0 where
  pub config : Config
  pub events : List Event
  pub means : MeansSchedule file config events
  pub run : IsRunOf config events trace

-- such a run was told to its end: the lines of its steps went out
pub record TellsAll (file : List ℕ) (old new : Option (List ℕ)) : Type 0 where
  pub trace : Traced
  pub plays : PlaysAs file trace
  pub out : Appends old new (lines_of trace.steps)

-- a beginning of the lines of such a run went out
pub record TellsInPart (file : List ℕ) (old new : Option (List ℕ)) : Type 0 where
  pub trace : Traced
  pub plays : PlaysAs file trace
  pub written : List ℕ
  pub beginning : IsBeginning written (lines_of trace.steps)
  pub out : Appends old new written

-- a fault that comes while the lines of a run are told
abbrev pub IsOfTelling : ReplayFault → Type 0
IsOfTelling fault = (fault ≡ OutOfMemory) ⊎ (fault ≡ Io)

-- What a replay of the file adds to what its writer holds, by how it ends: nothing where the file means no schedule, and
-- where memory is refused before there is a run.
abbrev pub Replays : List ℕ → Result (Unit {0}) ReplayFault → Option (List ℕ) → Option (List ℕ) → Type 0
Replays file (Ok done) old new = TellsAll file old new
Replays file (Err BadSchedule) old new = MeansNothing file × Keeps old new
Replays file (Err OutOfMemory) old new = IsUtf8 file × (Keeps old new ⊎ TellsInPart file old new)
Replays file (Err Io) old new = TellsInPart file old new

-- a replay that ends with status 1: there is a fault
pub record ReplayFails (file : List ℕ) (old new : Option (List ℕ)) : Type 0 where
  pub fault : ReplayFault
  pub replays : Replays file (Err fault) old new
