use Rattle.std.proofs.Common.{refl}
use Rattle.learner.proofs.Learning.{learnt_at_first}
use Rattle.learner.proofs.state.State.new.Goals as goal

pub returns : goal.returns
returns c = learnt_at_first c.args.members _ refl c.new.ensures.empty c.new-2.ensures.empty
