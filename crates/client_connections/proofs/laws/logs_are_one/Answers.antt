use Rattle.client_connections.proofs.Opened.{log_is}
use Rattle.client_connections.proofs.laws.logs_are_one.Goals as goal

pub returns : goal.returns
returns c = log_is
