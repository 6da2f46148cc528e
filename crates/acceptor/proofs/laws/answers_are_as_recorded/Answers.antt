use Rattle.acceptor.proofs.Restoring.{restored_as_before}
use Rattle.acceptor.proofs.Running.{promise_restored, promise_from_restored, grant_restored, run_restored}
use Rattle.acceptor.proofs.laws.answers_are_as_recorded.Goals as goal

pub returns-clause-promised : goal.returns-clause-promised
returns-clause-promised c = λ records old new slot ballot report is promised. promise_restored records old new slot ballot is promised.0 promised.2

pub returns-clause-promised_from : goal.returns-clause-promised_from
returns-clause-promised_from c = λ records old new first ballot reports is promised. promise_from_restored records old new first ballot is promised.0 promised.2

pub returns-clause-granted : goal.returns-clause-granted
returns-clause-granted c = λ records old new slot proposal is granted. grant_restored records old new slot proposal is granted.0 granted.1

pub returns-clause-prepare_refused : goal.returns-clause-prepare_refused
returns-clause-prepare_refused c = λ records old new slot ballot promised is refused. restored_as_before records old new refused.2 is

pub returns-clause-accept_refused : goal.returns-clause-accept_refused
returns-clause-accept_refused c = λ records old new slot proposal promised is refused. restored_as_before records old new refused.2 is

pub returns-clause-prepare_from_refused : goal.returns-clause-prepare_from_refused
returns-clause-prepare_from_refused c = λ records old new first ballot promised is refuses. restored_as_before records old new refuses.same is

pub returns-clause-run : goal.returns-clause-run
returns-clause-run c = λ records old new turns is runs. run_restored records old turns new is runs
