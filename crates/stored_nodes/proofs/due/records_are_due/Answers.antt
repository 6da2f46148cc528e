use Rattle.stored_nodes.proofs.Keeping.{plan_keeps, refusal_keeps, taken_has}
use Rattle.stored_nodes.proofs.due.records_are_due.Goals as goal

pub returns-clause-planned : goal.returns-clause-planned
returns-clause-planned c = plan_keeps c.records_are_those_of_plans.ensures.body_keeps

pub returns-clause-refused : goal.returns-clause-refused
returns-clause-refused c = refusal_keeps

pub returns-clause-taken : goal.returns-clause-taken
returns-clause-taken c = taken_has c.something_is_due.ensures.body_record
