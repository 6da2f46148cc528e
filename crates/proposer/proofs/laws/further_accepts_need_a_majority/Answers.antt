use Rattle.proposer.proofs.Turns.{going_has_majority}
use Rattle.proposer.proofs.laws.further_accepts_need_a_majority.Goals as goal

pub returns : goal.returns
returns c = going_has_majority
