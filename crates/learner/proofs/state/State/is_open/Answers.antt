use Rattle.learner.proofs.Lookups.{open_where}
use Rattle.learner.proofs.state.State.is_open.Goals as goal

pub returns : goal.returns
returns c = rw (← c.self.view_is) (open_where _ c.contains_key.result c.contains_key.ensures)
