use Rattle.std.proofs.Common.{refl}
use Rattle.proposer.specs.Call.{Promises, PromisesFrom}
use Rattle.proposer.proofs.Majority.{majority_now, none_before, none_without, majority_further}
use Rattle.proposer.proofs.laws.majorities_come_with_accepts.Goals as goal

pub returns-clause-now : goal.returns-clause-now
returns-clause-now c = majority_now

pub returns-clause-not_before : goal.returns-clause-not_before
returns-clause-not_before c = none_before

pub returns-clause-no_other : goal.returns-clause-no_other
returns-clause-no_other c = λ members calls promise. none_without members calls (Promises promise) refl

pub returns-clause-no_other_from : goal.returns-clause-no_other_from
returns-clause-no_other_from c = λ members calls promise. none_without members calls (PromisesFrom promise) refl

pub returns-clause-further : goal.returns-clause-further
returns-clause-further c = majority_further
