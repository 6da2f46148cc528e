use Rattle.std.proofs.Common.{sym, ◌∙◌, refl}
use Rattle.audit_command.proofs.Telling.{whole_line}
use Rattle.audit_command.proofs.judging.write_flushed.Goals as goal

pub returns-then-is_err-2-clause-part : goal.returns-then-is_err-2-clause-part
returns-then-is_err-2-clause-part g c =
    whole_line c.put.result (g.W.Write.contents c.args.w.now) (g.W.Write.contents c.put.new.w) (g.W.Write.contents c.flush.new.self) c.args.text.now c.args.text.now
    (sym c.is_err.ensures.value ∙ c.if-is_err.false) refl c.put.ensures.written c.flush.ensures.bytes
