use Rattle.proposer.proofs.Opening.{opens}
use Rattle.proposer.proofs.Attempts.{goes_on, goes_on_from, goes_further_on, stays_open, own_nack_ends}
use Rattle.proposer.proofs.laws.attempts_open_and_end.Goals as goal

pub returns-clause-opens : goal.returns-clause-opens
returns-clause-opens c = opens

pub returns-clause-goes_on : goal.returns-clause-goes_on
returns-clause-goes_on c = goes_on

pub returns-clause-goes_on_from : goal.returns-clause-goes_on_from
returns-clause-goes_on_from c = goes_on_from

pub returns-clause-goes_further : goal.returns-clause-goes_further
returns-clause-goes_further c = goes_further_on

pub returns-clause-stays : goal.returns-clause-stays
returns-clause-stays c = stays_open

pub returns-clause-ends : goal.returns-clause-ends
returns-clause-ends c = own_nack_ends
