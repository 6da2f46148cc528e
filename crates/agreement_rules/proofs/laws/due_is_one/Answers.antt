use Rattle.proposer.specs.Call.{Promises}
use Rattle.agreement_rules.proofs.OneDue.{Laws, one_of_tick, one_of_body, one_record_of_body, one_record_of_message, one_record_of_tick}
use Rattle.agreement_rules.proofs.laws.due_is_one.Goals as goal

laws : (c : goal.After-answers_are_one-2) → Laws
laws c = record {
  learned = c.learned_is_one.ensures.learned;
  promises = c.restored_is_one.ensures.promises;
  acceptances = c.restored_is_one.ensures.acceptances;
  round = c.restored_is_one.ensures.round;
  prepare = c.answers_are_one.ensures.prepare;
  accept = c.answers_are_one.ensures.accept;
  answers = λ members calls promise. c.answers_are_one-2.ensures.answers members calls (Promises promise);
}

pub returns-clause-tick : goal.returns-clause-tick
returns-clause-tick c = one_of_tick (laws c)

pub returns-clause-body : goal.returns-clause-body
returns-clause-body c = one_of_body (laws c)

pub returns-clause-body_record : goal.returns-clause-body_record
returns-clause-body_record c = one_record_of_body (laws c)

pub returns-clause-message_record : goal.returns-clause-message_record
returns-clause-message_record c = one_record_of_message (laws c)

pub returns-clause-tick_record : goal.returns-clause-tick_record
returns-clause-tick_record c = one_record_of_tick (laws c)
