use Rattle.std.proofs.Common.{rules}
use Rattle.acceptor.proofs.Ranging.{highest_at_last}
use Rattle.acceptor.proofs.ranges.Ranges.highest.Goals as goal

pub returns : goal.returns
returns c = search (rules, highest_at_last) steps 300000
