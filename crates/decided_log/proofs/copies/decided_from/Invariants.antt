use Rattle.std.proofs.Common.{◌≡◌, take}
use Rattle.decided_log.specs.Asked.{decided_messages}
use Rattle.decided_log.proofs.copies.decided_from.Given as goal

abbrev pub invariant-loop-k : goal.invariant-loop-k
invariant-loop-k l = l.messages.items ≡ decided_messages l.node l.first (take l.k l.values)
