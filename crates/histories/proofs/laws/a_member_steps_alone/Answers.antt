use Rattle.histories.proofs.Reached.{steps_alone}
use Rattle.histories.proofs.laws.a_member_steps_alone.Goals as goal

pub returns : goal.returns
returns c = steps_alone
