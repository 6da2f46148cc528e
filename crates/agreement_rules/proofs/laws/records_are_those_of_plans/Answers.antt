use Rattle.proposer.specs.Call.{Promises}
use Rattle.agreement_rules.proofs.OneDue.{Laws}
use Rattle.agreement_rules.proofs.Kept.{body_keeps, body_record_is, message_keeps, message_record_is, no_record_of_others, tick_keeps, tick_record_is, no_record_of_refused}
use Rattle.agreement_rules.proofs.laws.records_are_those_of_plans.Goals as goal

laws : (c : goal.After-answers_are_one-2) → Laws
laws c = record {
  learned = c.learned_is_one.ensures.learned;
  promises = c.restored_is_one.ensures.promises;
  acceptances = c.restored_is_one.ensures.acceptances;
  round = c.restored_is_one.ensures.round;
  prepare = c.answers_are_one.ensures.prepare;
  accept = c.answers_are_one.ensures.accept;
  answers = λ members calls promise. c.answers_are_one-2.ensures.answers members calls (Promises promise);
}

pub returns-clause-body : goal.returns-clause-body
returns-clause-body c = body_record_is (laws c)

pub returns-clause-body_keeps : goal.returns-clause-body_keeps
returns-clause-body_keeps c = body_keeps

pub returns-clause-message : goal.returns-clause-message
returns-clause-message c = message_record_is (laws c)

pub returns-clause-message_keeps : goal.returns-clause-message_keeps
returns-clause-message_keeps c = message_keeps (laws c)

pub returns-clause-not_taken : goal.returns-clause-not_taken
returns-clause-not_taken c = λ config views m kept not keeps. no_record_of_others (laws c) config 0 views m kept not keeps

pub returns-clause-tick : goal.returns-clause-tick
returns-clause-tick c = tick_record_is (laws c)

pub returns-clause-tick_keeps : goal.returns-clause-tick_keeps
returns-clause-tick_keeps c = tick_keeps (laws c)

pub returns-clause-refused : goal.returns-clause-refused
returns-clause-refused c = no_record_of_refused (laws c)
