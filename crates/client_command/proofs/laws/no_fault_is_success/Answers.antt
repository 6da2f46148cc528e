use Rattle.client_command.proofs.Statuses.{status_is_some}
use Rattle.client_command.proofs.laws.no_fault_is_success.Goals as goal

pub returns : goal.returns
returns c = status_is_some
