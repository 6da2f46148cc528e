use Rattle.stored_nodes.proofs.Allowing.{allowed}
use Rattle.stored_nodes.proofs.due.what_is_taken_is_allowed.Goals as goal

pub returns : goal.returns
returns c = allowed c.due_is_one.ensures
