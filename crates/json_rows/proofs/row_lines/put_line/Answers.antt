use Rattle.std.proofs.Common.{subst}
use Rattle.json_rows.specs.Lines.{IsOfCell}
use Rattle.json_rows.proofs.Zipped.{holds_on}
use Rattle.json_rows.proofs.row_lines.put_line.Goals as goal

pub returns-in_err-line-clause-told : goal.returns-in_err-line-clause-told
returns-in_err-line-clause-told c = λ d told.
    holds_on (λ fault. IsOfCell fault → ⊥) c.from_residual.result c.in_err-line.field-0.0 c.from_residual.ensures.1
    (λ of_cell. subst IsOfCell (c.in_err-line.ensures.refused d told) of_cell)
