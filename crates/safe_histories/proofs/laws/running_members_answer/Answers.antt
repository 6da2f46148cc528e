use Rattle.safe_histories.proofs.Promised.{get_tells, info_tells, outcome_tells}
use Rattle.safe_histories.proofs.laws.running_members_answer.Goals as goal

pub returns-clause-get : goal.returns-clause-get
returns-clause-get c = λ history place node version table given safe within runs is. get_tells history safe place node within runs version table given is

pub returns-clause-info : goal.returns-clause-info
returns-clause-info c = λ history place node table given safe within runs is. info_tells history safe place node within runs table given is

pub returns-clause-outcome : goal.returns-clause-outcome
returns-clause-outcome c = λ history place node text given safe within runs is. outcome_tells history safe place node within runs text given is
