use Rattle.resumed_histories.proofs.Starting.{starts_over}
use Rattle.resumed_histories.proofs.laws.a_cluster_starts_over.Goals as goal

pub returns : goal.returns
returns c = starts_over c.a_member_steps_alone.ensures c.one_step_more_reaches.ensures
