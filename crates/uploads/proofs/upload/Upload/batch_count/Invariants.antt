use Rattle.std.proofs.Common.{length}
use Rattle.uploads.proofs.Counting.{StillLeft}
use Rattle.uploads.proofs.upload.Upload.batch_count.Given as goal

abbrev pub invariant-loop-batches : goal.invariant-loop-batches
invariant-loop-batches l = StillLeft l.self l.batches l.count

abbrev pub decreases-loop-batches : goal.decreases-loop-batches
decreases-loop-batches l = length l.batches
