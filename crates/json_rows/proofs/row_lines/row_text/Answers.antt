use Rattle.std.proofs.Common.{◌≡◌, ◌∙◌, sym, ap, subst, suc, map, arith, ℕ, List, [], ◌++◌}
use Rattle.json.specs.Print.{print}
use Rattle.json.specs.Token.{Token}
use Rattle.serde_json.specs.Data.{Data}
use Rattle.header_types.specs.Limits.{forest_depth}
use Rattle.json_rows.specs.Cells.{TellsFields, forest_in}
use Rattle.json_rows.specs.Lines.{TellsLine, cell_at}
use Rattle.json_rows.specs.Written.{WritesValue}
use Rattle.json_rows.specs.declared.fault.JsonFault.TheVariants.{OutOfMemory}
use Rattle.json_rows.proofs.Texts.{read_back}
use Rattle.json_rows.proofs.Zipped.{told_on}
use Rattle.json_rows.proofs.row_lines.row_text.Goals as goal

pub returns : goal.returns
returns c =
    let forest = forest_in c.args.fields.now in
    let ts = c.write_row.new.out.tokens in
    let Told = λ (d : Data). TellsFields forest d (map (cell_at c.args.row) c.args.columns.now) in
    let levels = suc (forest_depth forest) in
    let w : WritesValue Told levels [] ts = subst (λ (old : List Token). WritesValue Told levels old ts) c.new-out.ensures.tokens c.in_ok-write_row.ensures.written in
    let line : c.into_inner.result.items ≡ print ts =
    c.into_inner.ensures.items ∙ ap (λ (l : List ℕ). l ++ print ts) (c.in_ok-write_row.ensures.before ∙ c.new-out.ensures.before ∙ c.new.ensures.items) in
    let read = read_back Told levels ts (print ts) w c.into_inner.ensures.reads_back (omega (arith, c.requires.shallow)) in
    record {
      written = (
        w.reads.value,
        subst (λ (l : List ℕ). TellsLine l w.reads.value) (sym line) (record { is_text = c.into_inner.ensures.utf8; value = read }),
        w.reads.told,
      );
      refused = λ d told. tt;
      kind = tt;
    }

pub returns-in_err-write_row-clause-refused : goal.returns-in_err-write_row-clause-refused
returns-in_err-write_row-clause-refused c = λ d told.
    told_on c.from_residual.result c.in_err-write_row.field-0.0 OutOfMemory c.from_residual.ensures.1 (c.in_err-write_row.ensures.refused d told)
