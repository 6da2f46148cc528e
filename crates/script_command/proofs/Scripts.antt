-- A file that is refused as a script means none.
use Rattle.std.proofs.Common.{◌≡◌, ℕ, List, sym, ◌∙◌}
use Rattle.run_files.specs.declared.fault.ScriptFault.{ScriptFault}
use Rattle.run_files.specs.declared.fault.ScriptFault.TheVariants.{BadScript, OutOfMemory}
use Rattle.run_files.specs.declared.script.ClusterSize.{ClusterSize}
use Rattle.run_files.specs.declared.script.ScriptCall.{ScriptCall}
use Rattle.run_files.specs.ScriptFile.{MeansScript}
use Rattle.script_command.specs.Playing.{MeansNoScript}

-- a file of which this is told means none
pub means_nothing : (file : List ℕ) (fault : ScriptFault) → fault ≡ BadScript
    → ((nodes : ClusterSize) (calls : List ScriptCall) → MeansScript file nodes calls → fault ≡ OutOfMemory) → MeansNoScript file
means_nothing file fault is only nodes calls means = let e = sym is ∙ only nodes calls means in absurd cc
