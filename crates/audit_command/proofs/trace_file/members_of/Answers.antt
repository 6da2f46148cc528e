use Rattle.std.proofs.Common.{rules}
use Rattle.audit_command.proofs.trace_file.members_of.Goals as goal

pub returns-in_default-clause-read : goal.returns-in_default-clause-read
returns-in_default-clause-read c = search rules steps 300000

pub returns-in_default-clause-only : goal.returns-in_default-clause-only
returns-in_default-clause-only c = search rules steps 300000

pub returns-then-count-from-clause-read : goal.returns-then-count-from-clause-read
returns-then-count-from-clause-read c = search rules steps 300000

pub returns-then-count-from-clause-only : goal.returns-then-count-from-clause-only
returns-then-count-from-clause-only c = search rules steps 300000

pub returns-in-Some-new-clause-read : goal.returns-in-Some-new-clause-read
returns-in-Some-new-clause-read c = search rules steps 300000

pub returns-in-Some-new-clause-only : goal.returns-in-Some-new-clause-only
returns-in-Some-new-clause-only c = search rules steps 300000

pub returns-in-None-clause-read : goal.returns-in-None-clause-read
returns-in-None-clause-read c = search rules steps 300000

pub returns-in-None-clause-only : goal.returns-in-None-clause-only
returns-in-None-clause-only c = search rules steps 300000
