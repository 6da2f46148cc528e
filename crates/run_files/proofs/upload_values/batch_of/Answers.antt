use Rattle.serde_json.specs.View.{view}
use Rattle.run_files.specs.declared.fault.ValueFault.TheVariants.{OutOfMemory}
use Rattle.run_files.proofs.Reading.{told_on}
use Rattle.run_files.proofs.UploadValues.{cells_told}
use Rattle.run_files.proofs.upload_values.batch_of.Goals as goal

pub returns-in_err-cells-in-Some-clause-refused : goal.returns-in_err-cells-in-Some-clause-refused
returns-in_err-cells-in-Some-clause-refused c = λ rows told.
    told_on c.from_residual.result c.in_err-cells-in-Some.field-0.0 OutOfMemory c.from_residual.ensures.1
    (c.in_err-cells-in-Some.ensures.refused told.bytes (cells_told (view c.args.value.now) c.in-Some.values.now.items c.deref.result.now rows c.deref.ensures.value c.in-Some.ensures told))
