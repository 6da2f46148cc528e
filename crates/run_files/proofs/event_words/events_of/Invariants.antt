use Rattle.std.proofs.Common.{map, take}
use Rattle.std.specs.List.{AllZip}
use Rattle.serde_json.specs.View.{view}
use Rattle.run_files.specs.ScheduleFile.{TellsEvent}
use Rattle.run_files.proofs.event_words.events_of.Given as goal

abbrev pub invariant-loop-place : goal.invariant-loop-place
invariant-loop-place l = AllZip (TellsEvent l.fn.uploads) (map view (take l.place l.fn.values)) l.events.items
