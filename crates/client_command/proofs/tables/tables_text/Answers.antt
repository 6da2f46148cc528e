use Rattle.std.proofs.Common.{string_bytes, ◌++◌, ◌∙◌, ap, List, ℕ}
use Rattle.std.proofs.lemmas.Result.{err_from_is_err_and}
use Rattle.client_command.proofs.Joined.{line_follows, text_ends}
use Rattle.client_command.proofs.tables.tables_text.Goals as goal

pub returns-in_err-line : goal.returns-in_err-line
returns-in_err-line c =
    let p = err_from_is_err_and c.from_residual.result c.from_residual.ensures.1 in
    rw (p.1, p.2)
    (text_ends c.args.infos.now c.loop-info.info-index c.info-item.result c.loop-info-test.true c.info-item.is c.in_err-line.field-0.0 c.in_err-line.ensures)

pub loop-info-preserved : goal.loop-info-preserved
loop-info-preserved c =
    line_follows c.args.infos.now c.loop-info.info-index c.info-item.result c.loop-info-test.true c.info-item.is (string_bytes c.loop-info.text) (string_bytes c.in_ok-line.line)
    (string_bytes c.in_ok-text.text) c.loop-info.invariant c.in_ok-line.ensures
    (c.in_ok-text.ensures.more ∙ ap (λ (l : List ℕ). string_bytes c.loop-info.text ++ l) c.as_str.ensures.value)
