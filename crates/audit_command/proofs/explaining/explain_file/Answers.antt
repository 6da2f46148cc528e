use Rattle.std.proofs.Common.{rules}
use Rattle.audit_command.proofs.TraceReading.{means_nothing}
use Rattle.audit_command.proofs.Flawed.{told_flaw}
use Rattle.audit_command.proofs.explaining.explain_file.Goals as goal

pub returns-in-Err-BadTrace : goal.returns-in-Err-BadTrace
returns-in-Err-BadTrace g c = (
  means_nothing c.args.file.now c.in-Err-BadTrace.field-0 c.in-Err-BadTrace.flaw c.in-Err-BadTrace.field-0-is c.in-Err-BadTrace.ensures.only,
  told_flaw c.args.file.now c.in-Err-BadTrace.field-0 c.in-Err-BadTrace.flaw _ c.in-Err-BadTrace.field-0-is c.in-Err-BadTrace.flaw-is c.in-Err-BadTrace.ensures.flaw,
  search rules,
)
