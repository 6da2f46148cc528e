use Rattle.audit_command.proofs.Verdicts.{one_verdict}
use Rattle.audit_command.proofs.laws.verdicts_are_one.Goals as goal

pub returns : goal.returns
returns c = one_verdict c.beginnings_are_lawful.ensures.beginnings c.first_breaches_are_one.ensures
