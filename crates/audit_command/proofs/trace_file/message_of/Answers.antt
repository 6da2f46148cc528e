use Rattle.std.proofs.Common.{sym}
use Rattle.audit_command.proofs.TraceReading.{text_means}
use Rattle.audit_command.proofs.trace_file.message_of.Goals as goal

pub returns-in-Some-clause-only : goal.returns-in-Some-clause-only
returns-in-Some-clause-only c = λ m h. c.message_of_digits.ensures.only m (text_means _ _ m (sym c.in-Some.ensures) h)
