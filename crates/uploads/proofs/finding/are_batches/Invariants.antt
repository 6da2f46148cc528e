use Rattle.uploads.proofs.Fronts.{StillNext}
use Rattle.std.proofs.Common.{length}
use Rattle.uploads.proofs.finding.are_batches.Given as goal

abbrev pub invariant-loop-rest : goal.invariant-loop-rest
invariant-loop-rest l = StillNext l.id l.batches l.rest l.count

abbrev pub decreases-loop-rest : goal.decreases-loop-rest
decreases-loop-rest l = length l.rest
