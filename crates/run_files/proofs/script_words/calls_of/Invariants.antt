use Rattle.std.proofs.Common.{map, take}
use Rattle.std.specs.List.{AllZip}
use Rattle.serde_json.specs.View.{view}
use Rattle.run_files.specs.ScriptFile.{TellsCall}
use Rattle.run_files.proofs.script_words.calls_of.Given as goal

abbrev pub invariant-loop-place : goal.invariant-loop-place
invariant-loop-place l = AllZip (TellsCall l.fn.nodes) (map view (take l.place l.fn.values)) l.calls.items
