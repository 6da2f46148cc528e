use Rattle.std.proofs.Common.{rules}
use Rattle.acceptor.proofs.acceptor.Acceptor.accepted.Goals as goal

pub returns : goal.returns
returns c = search rules steps 300000
