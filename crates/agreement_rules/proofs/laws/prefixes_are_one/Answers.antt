use Rattle.agreement_rules.proofs.Prefixes.{one_prefix, one_free_slot}
use Rattle.agreement_rules.proofs.laws.prefixes_are_one.Goals as goal

pub returns-clause-prefix : goal.returns-clause-prefix
returns-clause-prefix c = one_prefix c.learned_is_one.ensures.learned

pub returns-clause-free_slot : goal.returns-clause-free_slot
returns-clause-free_slot c = one_free_slot
