use Rattle.proposer.proofs.Attempts.{attempts_alike, rounds_alike, state_is_open, attempts_are_one}
use Rattle.proposer.proofs.Turns.{state_is_refused}
use Rattle.proposer.proofs.laws.states_answer_alike.Goals as goal

pub returns-clause-attempts : goal.returns-clause-attempts
returns-clause-attempts c = attempts_alike

pub returns-clause-rounds : goal.returns-clause-rounds
returns-clause-rounds c = rounds_alike

pub returns-clause-is_open : goal.returns-clause-is_open
returns-clause-is_open c = state_is_open

pub returns-clause-open_is_one : goal.returns-clause-open_is_one
returns-clause-open_is_one c = attempts_are_one

pub returns-clause-refused : goal.returns-clause-refused
returns-clause-refused c = state_is_refused
