use Rattle.run_breaches.proofs.Apart.{slots_apart}
use Rattle.run_breaches.proofs.laws.slots_are_apart.Goals as goal

pub returns : goal.returns
returns c = slots_apart
