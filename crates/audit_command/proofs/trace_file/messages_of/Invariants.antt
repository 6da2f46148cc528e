use Rattle.audit_command.proofs.TraceReading.{ReadSoFar}
use Rattle.audit_command.proofs.trace_file.messages_of.Given as goal

abbrev pub invariant-loop-place : goal.invariant-loop-place
invariant-loop-place l = ReadSoFar l.items l.place l.sent.items
