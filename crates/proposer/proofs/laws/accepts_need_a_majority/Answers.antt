use Rattle.proposer.proofs.Attempts.{accept_has_majority}
use Rattle.proposer.proofs.laws.accepts_need_a_majority.Goals as goal

pub returns : goal.returns
returns c = accept_has_majority
