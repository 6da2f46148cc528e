use Rattle.std.proofs.Common.{◌++◌, List, ℕ, sym, subst, take, arith}
use Rattle.std.specs.Io.KnownBytes.{Appends}
use Rattle.records_command.specs.Lines.{line_of, lines_of}
use Rattle.records_command.proofs.Telling.{appends_both, lines_more, begins_behind, on_err}
use Rattle.records_command.proofs.showing.write_lines.Goals as goal

pub returns-in_err-write_line-clause-part : goal.returns-in_err-write_line-clause-part
returns-in_err-write_line-clause-part g c =
    let part = c.in_err-write_line.ensures.part in
    on_err c.from_residual.result (
      lines_of (take c.loop-number.number c.args.records.now) ++ part.0,
      begins_behind c.args.records.now c.loop-number.number c.index-records-number.result part.0 (omega arith) c.index-records-number.is part.1,
      appends_both (g.W.Write.contents c.args.w.now) (g.W.Write.contents c.loop-number.w) (g.W.Write.contents c.write_line.new.w) (lines_of (take c.loop-number.number c.args.records.now)) part.0 c.loop-number.invariant part.2,
    )

pub loop-number-preserved : goal.loop-number-preserved
loop-number-preserved g c =
    subst (λ (l : List ℕ). Appends (g.W.Write.contents c.args.w.now) (g.W.Write.contents c.write_line.new.w) l)
    (sym (lines_more c.args.records.now c.loop-number.number c.index-records-number.result (omega arith) c.index-records-number.is))
    (appends_both (g.W.Write.contents c.args.w.now) (g.W.Write.contents c.loop-number.w) (g.W.Write.contents c.write_line.new.w) (lines_of (take c.loop-number.number c.args.records.now)) (line_of c.loop-number.number c.index-records-number.result) c.loop-number.invariant c.in_ok-write_line.ensures.all)
