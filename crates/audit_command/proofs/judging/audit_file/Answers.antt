use Rattle.std.proofs.Common.{rules}
use Rattle.lawful_histories.specs.Recorded.{members_of, sent_of}
use Rattle.audit_command.proofs.TraceReading.{means_nothing, judged}
use Rattle.audit_command.proofs.Telling.{told_in_part}
use Rattle.audit_command.proofs.judging.audit_file.Goals as goal

pub returns-in-Err-BadTrace-clause-judged : goal.returns-in-Err-BadTrace-clause-judged
returns-in-Err-BadTrace-clause-judged g c = means_nothing c.args.file.now c.in-Err-BadTrace.field-0 _ c.in-Err-BadTrace.field-0-is c.in-Err-BadTrace.ensures.only

pub returns-clause-judged : goal.returns-clause-judged
returns-clause-judged g c = judged c.in_ok-is_lawful.is_lawful c.args.file.now (members_of c.in-Ok.trace) (sent_of c.in-Ok.trace) c.in-Ok.ensures.read c.in_ok-is_lawful.ensures.judged

pub returns-in-Err-BadTrace-clause-told : goal.returns-in-Err-BadTrace-clause-told
returns-in-Err-BadTrace-clause-told g c = search rules steps 300000

pub returns-in-Err-OutOfMemory-clause-judged : goal.returns-in-Err-OutOfMemory-clause-judged
returns-in-Err-OutOfMemory-clause-judged g c = search rules steps 300000

pub returns-in-Err-OutOfMemory-clause-told : goal.returns-in-Err-OutOfMemory-clause-told
returns-in-Err-OutOfMemory-clause-told g c = search rules steps 300000

pub returns-in_err-tell-clause-told : goal.returns-in_err-tell-clause-told
returns-in_err-tell-clause-told g c =
    told_in_part c.in_ok-is_lawful.is_lawful c.args.file.now (g.W.Write.contents c.args.w.now) (g.W.Write.contents c.tell.new.w) c.from_residual-in_err-tell.result c.in_err-tell.field-0.0
    (judged c.in_ok-is_lawful.is_lawful c.args.file.now (members_of c.in-Ok.trace) (sent_of c.in-Ok.trace) c.in-Ok.ensures.read c.in_ok-is_lawful.ensures.judged)
    c.in_err-tell.ensures.part c.in_err-tell.ensures.io c.from_residual-in_err-tell.ensures.1

pub returns-clause-told : goal.returns-clause-told
returns-clause-told g c = search rules steps 300000
