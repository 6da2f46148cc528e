use Rattle.agreement_rules.proofs.Restorable.{restores}
use Rattle.agreement_rules.proofs.SomethingDue.{Restores, some_due, some_plan, some_record, some_message_record, some_tick_record}
use Rattle.agreement_rules.proofs.laws.something_is_due.Goals as goal

restored : (c : goal.After-learned_is_decided_or_chosen) → Restores
restored c = restores c.restored_is_one.ensures.fresh c.applied_is_restored.ensures

pub returns-clause-tick : goal.returns-clause-tick
returns-clause-tick c = λ config me views left free none. some_due c.learned_is_decided_or_chosen.ensures.only config me views free left none

pub returns-clause-body : goal.returns-clause-body
returns-clause-body c = λ config me views sender slot said none.
    some_plan c.learned_is_decided_or_chosen.ensures.only (restored c) config me views sender slot said none

pub returns-clause-body_record : goal.returns-clause-body_record
returns-clause-body_record c = some_record (restored c)

pub returns-clause-message_record : goal.returns-clause-message_record
returns-clause-message_record c = some_message_record (restored c)

pub returns-clause-tick_record : goal.returns-clause-tick_record
returns-clause-tick_record c = λ config me views left free none. some_tick_record c.learned_is_decided_or_chosen.ensures.only config me views free left none
