use Rattle.run_files.proofs.Scripts.{one_script}
use Rattle.run_files.proofs.laws.scripts_are_one.Goals as goal

pub returns : goal.returns
returns c = one_script
