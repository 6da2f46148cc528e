use Rattle.resumed_nodes.proofs.Told.{heard_is_one}
use Rattle.resumed_nodes.proofs.laws.what_is_heard_is_one.Goals as goal

pub returns : goal.returns
returns c = heard_is_one
