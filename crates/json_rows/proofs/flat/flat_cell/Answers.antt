use Rattle.std.proofs.Common.{subst}
use Rattle.serde_json.specs.View.{view}
use Rattle.json_rows.specs.declared.form.Form.{Form}
use Rattle.json_rows.specs.declared.fault.CellFault.TheVariants.{OutOfMemory}
use Rattle.json_rows.specs.Cells.{TellsFlat}
use Rattle.json_rows.proofs.Zipped.{told_on}
use Rattle.json_rows.proofs.flat.flat_cell.Goals as goal

pub returns-in_err-whole_bytes-in-Whole-clause-refused : goal.returns-in_err-whole_bytes-in-Whole-clause-refused
returns-in_err-whole_bytes-in-Whole-clause-refused c = λ cell told.
    let here = subst (λ (form : Form). TellsFlat form (view c.args.value.now) cell) c.in-Whole.is told in
    told_on c.from_residual.result c.in_err-whole_bytes-in-Whole.field-0.0 OutOfMemory c.from_residual.ensures.1
    (c.in_err-whole_bytes-in-Whole.ensures.refused here.0 here.1)

pub returns-in_err-single_bytes-in-Single-clause-refused : goal.returns-in_err-single_bytes-in-Single-clause-refused
returns-in_err-single_bytes-in-Single-clause-refused c = λ cell told.
    let here = subst (λ (form : Form). TellsFlat form (view c.args.value.now) cell) c.in-Single.is told in
    told_on c.from_residual-in_err-single_bytes-in-Single.result c.in_err-single_bytes-in-Single.field-0.0 OutOfMemory c.from_residual-in_err-single_bytes-in-Single.ensures.1
    (c.in_err-single_bytes-in-Single.ensures.refused here.0 here.1)

pub returns-in_err-double_bytes-in-Double-clause-refused : goal.returns-in_err-double_bytes-in-Double-clause-refused
returns-in_err-double_bytes-in-Double-clause-refused c = λ cell told.
    let here = subst (λ (form : Form). TellsFlat form (view c.args.value.now) cell) c.in-Double.is told in
    told_on c.from_residual-in_err-double_bytes-in-Double.result c.in_err-double_bytes-in-Double.field-0.0 OutOfMemory c.from_residual-in_err-double_bytes-in-Double.ensures.1
    (c.in_err-double_bytes-in-Double.ensures.refused here.0 here.1)

pub returns-in_err-hex_bytes-in-Bytes-clause-refused : goal.returns-in_err-hex_bytes-in-Bytes-clause-refused
returns-in_err-hex_bytes-in-Bytes-clause-refused c = λ cell told.
    let here = subst (λ (form : Form). TellsFlat form (view c.args.value.now) cell) c.in-Bytes.is told in
    told_on c.from_residual-in_err-hex_bytes-in-Bytes.result c.in_err-hex_bytes-in-Bytes.field-0.0 OutOfMemory c.from_residual-in_err-hex_bytes-in-Bytes.ensures.1
    (c.in_err-hex_bytes-in-Bytes.ensures.refused here.0 here.1)
