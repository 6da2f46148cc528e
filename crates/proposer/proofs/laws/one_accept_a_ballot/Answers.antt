use Rattle.proposer.proofs.Once.{ballots_rise, once, once_a_slot}
use Rattle.proposer.proofs.laws.one_accept_a_ballot.Goals as goal

pub returns-clause-rise : goal.returns-clause-rise
returns-clause-rise c = ballots_rise

pub returns-clause-once : goal.returns-clause-once
returns-clause-once c = λ me highest members calls rises before before' after after' call call' accept accept' split split' one other ballots.
    once me highest members calls rises before before' after after' call call' accept accept' split split' one other ballots

pub returns-clause-once_a_slot : goal.returns-clause-once_a_slot
returns-clause-once_a_slot c = λ me highest members calls rises before before' after after' call call' accept accept' split split' one other slots ballots.
    once_a_slot me highest members calls rises before before' after after' call call' accept accept' split split' one other slots ballots
