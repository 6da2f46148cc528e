use Rattle.histories.proofs.Reached.{follows_with_more}
use Rattle.histories.proofs.laws.what_follows_still_follows.Goals as goal

pub returns : goal.returns
returns c = λ config sent more next old new step found follows. follows_with_more config sent more next old step found new follows
