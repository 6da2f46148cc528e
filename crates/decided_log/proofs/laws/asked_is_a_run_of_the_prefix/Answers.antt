use Rattle.decided_log.proofs.Asking.{count_asked, each_asked}
use Rattle.decided_log.proofs.laws.asked_is_a_run_of_the_prefix.Goals as goal

pub returns-clause-count : goal.returns-clause-count
returns-clause-count c = count_asked

pub returns-clause-each : goal.returns-clause-each
returns-clause-each c = λ node from k prefix within. each_asked node from k prefix within
