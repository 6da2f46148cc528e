use Rattle.std.proofs.Common.{length}
use Rattle.disk_records.proofs.Readings.{IsReadTo}
use Rattle.disk_records.proofs.reading.read_gates.Given as goal

abbrev pub invariant-loop-after : goal.invariant-loop-after
invariant-loop-after l = IsReadTo l.file l.records.items l.rest

abbrev pub decreases-loop-after : goal.decreases-loop-after
decreases-loop-after l = length l.rest
