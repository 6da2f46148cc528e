use Rattle.agreement_rules.proofs.Replies.{promise_answered}
use Rattle.agreement_rules.proofs.laws.an_accept_completes_its_attempt.Goals as goal

pub returns : goal.returns
returns c = promise_answered c.majorities_are_of_members.ensures.majority
