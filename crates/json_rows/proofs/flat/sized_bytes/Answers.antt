use Rattle.json_rows.specs.declared.fault.CellFault.TheVariants.{OutOfMemory}
use Rattle.json_rows.proofs.Zipped.{told_on}
use Rattle.json_rows.proofs.flat.sized_bytes.Goals as goal

pub returns-in_err-bytes-clause-refused : goal.returns-in_err-bytes-clause-refused
returns-in_err-bytes-clause-refused c = λ bytes told sized.
    told_on c.from_residual.result c.in_err-bytes.field-0.0 OutOfMemory c.from_residual.ensures.1 (c.in_err-bytes.ensures.refused bytes told)
