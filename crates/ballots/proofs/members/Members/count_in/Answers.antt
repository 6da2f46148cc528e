use Rattle.std.proofs.Common.{arith}
use Rattle.ballots.proofs.members.Members.count_in.Goals as goal

pub overflow_add-count : goal.overflow_add-count
overflow_add-count c = grind (arith, c.loop-number.invariant.1, c.loop-number.auto.number-end, c.count-number-end.type_inv)
