use Rattle.std.proofs.Common.{rules, ◌≡◌}
use Rattle.std.specs.Prelude.{codes}
use Rattle.serde_json.specs.View.{view}
use Rattle.run_files.specs.declared.fault.ValueFault.TheVariants.{OutOfMemory}
use Rattle.run_files.proofs.Reading.{told_on}
use Rattle.run_files.proofs.Scripts.{put_said}
use Rattle.run_files.proofs.script_words.asked_of_one.Goals as goal

pub returns-in_err-upload_of-in-put-clause-refused : goal.returns-in_err-upload_of-in-put-clause-refused
returns-in_err-upload_of-in-put-clause-refused c = λ asked says.
    let word : c.args.word.now ≡ codes "put" = search rules in
    let said = put_said c.args.word.now (view c.args.value.now) asked word says in
    told_on c.from_residual.result c.in_err-upload_of-in-put.field-0.0 OutOfMemory c.from_residual.ensures.1 (c.in_err-upload_of-in-put.ensures.refused said.0 said.1)
