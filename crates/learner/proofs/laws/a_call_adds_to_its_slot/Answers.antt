use Rattle.learner.proofs.Adding.{call_adds}
use Rattle.learner.proofs.laws.a_call_adds_to_its_slot.Goals as goal

pub returns : goal.returns
returns c = call_adds
