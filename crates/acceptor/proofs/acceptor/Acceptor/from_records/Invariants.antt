use Rattle.std.proofs.Common.{take}
use Rattle.acceptor.specs.AcceptorState.{standing}
use Rattle.acceptor.specs.Restored.{IsRestored}
use Rattle.acceptor.proofs.acceptor.Acceptor.from_records.Given as goal

abbrev pub invariant-loop-told : goal.invariant-loop-told
invariant-loop-told l = IsRestored (take l.told-index l.fn.records) (standing l.acceptor)
