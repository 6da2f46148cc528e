use Rattle.std.proofs.Common.{take}
use Rattle.shared_values.specs.Held.{HoldsLast}
use Rattle.shared_values.proofs.held.HeldValues.of.Given as goal

abbrev pub invariant-loop-record : goal.invariant-loop-record
invariant-loop-record l = HoldsLast l.held (take l.record-index l.records)
