use Rattle.std.proofs.Common.{map}
use Rattle.serde_json.specs.View.{view}
use Rattle.run_files.specs.declared.fault.ValueFault.TheVariants.{OutOfMemory}
use Rattle.run_files.proofs.Reading.{told_on}
use Rattle.run_files.proofs.Scripts.{call_said}
use Rattle.run_files.proofs.script_words.call_of.Goals as goal

pub returns-in_err-asked-clause-refused : goal.returns-in_err-asked-clause-refused
returns-in_err-asked-clause-refused c = λ call told.
    let said = call_said c.args.nodes (view c.args.value.now) c.in-Some.said.word.now c.in-Some.said.node (map view c.in-Some.said.rest.now) call c.in-Some.ensures.read told in
    told_on c.from_residual.result c.in_err-asked.field-0.0 OutOfMemory c.from_residual.ensures.1 (c.in_err-asked.ensures.refused call.asked said.1)
