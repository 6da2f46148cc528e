use Rattle.proposer.proofs.Highest.{chooses_one}
use Rattle.proposer.proofs.Members.{chooses_highest, reports_are_told}
use Rattle.proposer.proofs.laws.choices_are_one.Goals as goal

pub returns-clause-one : goal.returns-clause-one
returns-clause-one c = chooses_one

pub returns-clause-highest : goal.returns-clause-highest
returns-clause-highest c = chooses_highest

pub returns-clause-reports : goal.returns-clause-reports
returns-clause-reports c = reports_are_told
