use Rattle.resumed_nodes.proofs.Members.{started_over}
use Rattle.resumed_nodes.proofs.laws.members_have_started_over.Goals as goal

pub returns : goal.returns
returns c = started_over
