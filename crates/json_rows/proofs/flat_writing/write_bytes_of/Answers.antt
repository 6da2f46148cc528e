use Rattle.std.proofs.Common.{List, ℕ, sym, ap, subst}
use Rattle.std.specs.Prelude.{Some}
use Rattle.std.proofs.lemmas.Option.{same_Some}
use Rattle.batch_types.specs.Cells.{Cell, bytes_cell}
use Rattle.batch_columns.specs.Looks.{bytes_seen}
use Rattle.json_rows.specs.declared.form.Form.{Form}
use Rattle.json_rows.specs.Numbers.{TellsWhole, TellsSingle, TellsDouble}
use Rattle.json_rows.specs.Cells.{TellsFlat}
use Rattle.json_rows.proofs.flat_writing.write_bytes_of.Goals as goal

pub returns-in-Whole-clause-refused : goal.returns-in-Whole-clause-refused
returns-in-Whole-clause-refused c = λ d told.
    let bytes = c.args.bytes.now in
    let here = subst (λ (form : Form). TellsFlat form d (bytes_cell bytes)) c.in-Whole.is told in
    let same = same_Some bytes here.0 (ap (λ (cell : Cell). bytes_seen (Some cell)) here.2) in
    c.write_whole.ensures.refused d (subst (λ (b : List ℕ). TellsWhole c.in-Whole.width c.in-Whole.is_signed d b) (sym same) here.1)

pub returns-in-Single-clause-refused : goal.returns-in-Single-clause-refused
returns-in-Single-clause-refused c = λ d told.
    let bytes = c.args.bytes.now in
    let here = subst (λ (form : Form). TellsFlat form d (bytes_cell bytes)) c.in-Single.is told in
    let same = same_Some bytes here.0 (ap (λ (cell : Cell). bytes_seen (Some cell)) here.2) in
    c.write_single.ensures.refused d (subst (λ (b : List ℕ). TellsSingle d b) (sym same) here.1)

pub returns-in-Double-clause-refused : goal.returns-in-Double-clause-refused
returns-in-Double-clause-refused c = λ d told.
    let bytes = c.args.bytes.now in
    let here = subst (λ (form : Form). TellsFlat form d (bytes_cell bytes)) c.in-Double.is told in
    let same = same_Some bytes here.0 (ap (λ (cell : Cell). bytes_seen (Some cell)) here.2) in
    c.write_double.ensures.refused d (subst (λ (b : List ℕ). TellsDouble d b) (sym same) here.1)
