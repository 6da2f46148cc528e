use Rattle.agreement_rules.proofs.FreeSlots.{some_prefix, some_free_slot}
use Rattle.agreement_rules.proofs.laws.prefixes_and_free_slots_exist.Goals as goal

pub returns-clause-prefix : goal.returns-clause-prefix
returns-clause-prefix c = λ members calls none.
    some_prefix c.learned_is_decided_or_chosen.ensures.only members calls (λ found. none found.0 found.1)

pub returns-clause-free_slot : goal.returns-clause-free_slot
returns-clause-free_slot c = λ members calls count none.
    some_free_slot c.learned_is_decided_or_chosen.ensures.only members calls count (λ found. none found.0 found.1)
