use Rattle.acceptor.proofs.Restoring.{restored_with}
use Rattle.acceptor.proofs.laws.applied_is_restored.Goals as goal

pub returns : goal.returns
returns c = restored_with
