use Rattle.std.proofs.Common.{rules}
use Rattle.acceptor.proofs.acceptor.Acceptor.promised.Goals as goal

pub returns : goal.returns
returns c = search rules steps 300000
