use Rattle.std.proofs.Common.{refl}
use Rattle.agreement_rules.proofs.Starting.{free_at_first, none_open_at_first}
use Rattle.agreement_rules.proofs.laws.a_start_has_its_records_alone.Goals as goal

pub returns-clause-records : goal.returns-clause-records
returns-clause-records c = λ records. refl

pub returns-clause-nothing_else : goal.returns-clause-nothing_else
returns-clause-nothing_else c = λ records. (refl, refl)

pub returns-clause-free : goal.returns-clause-free
returns-clause-free c = λ records members slot value. free_at_first members slot value

pub returns-clause-none_open : goal.returns-clause-none_open
returns-clause-none_open c = λ records begun since. none_open_at_first begun since
