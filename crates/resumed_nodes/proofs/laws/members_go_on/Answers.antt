use Rattle.resumed_nodes.proofs.Restarted.{go_on}
use Rattle.resumed_nodes.proofs.laws.members_go_on.Goals as goal

pub returns : goal.returns
returns g c = go_on c.members_have_started_over.ensures c.a_process_may_start_over.ensures
