use Rattle.agreement_rules.proofs.Restorable.{restores, highest_round}
use Rattle.agreement_rules.proofs.laws.records_leave_a_standing.Goals as goal

pub returns-clause-standing : goal.returns-clause-standing
returns-clause-standing c = restores c.restored_is_one.ensures.fresh c.applied_is_restored.ensures

pub returns-clause-round : goal.returns-clause-round
returns-clause-round c = highest_round
