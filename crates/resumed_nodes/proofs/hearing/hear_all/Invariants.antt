use Rattle.std.proofs.Common.{take}
use Rattle.resumed_nodes.proofs.Taking.{HeardSo}
use Rattle.resumed_nodes.proofs.hearing.hear_all.Given as goal

abbrev pub invariant-loop-message : goal.invariant-loop-message
invariant-loop-message g l = HeardSo l.fn.seat l.seat (take l.message-index l.told)
