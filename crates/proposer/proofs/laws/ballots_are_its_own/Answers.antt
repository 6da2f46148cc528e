use Rattle.proposer.proofs.Attempts.{ballot_is_its_own}
use Rattle.proposer.proofs.laws.ballots_are_its_own.Goals as goal

pub returns : goal.returns
returns c = ballot_is_its_own
